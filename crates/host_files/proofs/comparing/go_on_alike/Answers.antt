use Rattle.std.proofs.Common.{rules, ◌≡◌, ◌≤◌, true, false, ◌++◌, subst}
use Rattle.host_files.specs.Compared.{HaveGiven}
use Rattle.host_files.proofs.Alike.{counted, differs, gave_both}
use Rattle.host_files.proofs.comparing.go_on_alike.Goals as goal

pub returns-then-not-branch : goal.returns-then-not-branch
returns-then-not-branch g c =
    let no : c.in_ok-is_same_piece.field-0 ≡ false = search rules in
    let before = c.loop-left.invariant in
    let one = g.R.Read.remaining c.loop-left.one in
    let one_now = g.R.Read.remaining c.is_same_piece.new.one in
    let other = g.S.Read.remaining c.loop-left.other in
    let other_now = g.S.Read.remaining c.is_same_piece.new.other in
    differs c.args.count c.min-size.result (g.R.Read.remaining c.args.one.now) one one_now (g.S.Read.remaining c.args.other.now) other other_now before.0 before.2 before.3
    (subst (λ same. HaveGiven same c.min-size.result one one_now other other_now) no c.in_ok-is_same_piece.ensures)

pub loop-left-preserved : goal.loop-left-preserved
loop-left-preserved g c =
    let yes : c.in_ok-is_same_piece.field-0 ≡ true = search rules in
    let few : c.min-size.result ≤ c.loop-left.left = search rules in
    let before = c.loop-left.invariant in
    let one = g.R.Read.remaining c.loop-left.one in
    let one_now = g.R.Read.remaining c.is_same_piece.new.one in
    let other = g.S.Read.remaining c.loop-left.other in
    let other_now = g.S.Read.remaining c.is_same_piece.new.other in
    let given = subst (λ same. HaveGiven same c.min-size.result one one_now other other_now) yes c.in_ok-is_same_piece.ensures in (
      before.0 ++ given.0,
      counted before.0 given.0 c.loop-left.left c.min-size.result c.args.count before.1 given.1 few,
      gave_both (g.R.Read.remaining c.args.one.now) one one_now before.0 given.0 before.2 given.2,
      gave_both (g.S.Read.remaining c.args.other.now) other other_now before.0 given.0 before.3 given.3,
    )
