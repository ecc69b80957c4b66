use Rattle.std.proofs.Common.{ℕ, List, ap, sym, ◌∙◌}
use Rattle.std.specs.List.{list_any}
use Rattle.file_lists.specs.Owners.{paths_of}
use Rattle.unpack_commit.specs.Takeover.{is_at}
use Rattle.unpack_commit.proofs.Filtering.{kept_more, left_out}
use Rattle.unpack_commit.proofs.takeover.losers.Goals as goal
use Rattle.unpack_commit.proofs.takeover.losers.Goals.{then-branch+in_ok-copy+in_ok-push, else-branch}

pub loop-name-preserved : goal.loop-name-preserved
loop-name-preserved c =
    let i = c.loop-name.name-index in
    let name = c.name-item.result in
    let entries = c.args.diversions.now.ways in
    let places = c.args.taken.now in
    let lists = c.args.lists.now.lists in
    let told = c.in_ok-has_one.ensures ∙ ap (list_any (is_at entries places name)) c.list_of.ensures in
    elim c.if-branch.branch [
      | then-branch+in_ok-copy+in_ok-push w ↦
          kept_more (λ (n : List ℕ). list_any (is_at entries places n) (paths_of lists n)) c.args.yields.now i name c.loop-name-test.true c.name-item.is (sym told ∙ w.if-branch.true)
          c.loop-name.names c.if-branch.names w.in_ok-copy.field-0 c.loop-name.invariant w.in_ok-copy.ensures (w.names-is ∙ w.in_ok-push.ensures.ok)
      | else-branch w ↦
          left_out (λ (n : List ℕ). list_any (is_at entries places n) (paths_of lists n)) c.args.yields.now i name c.loop-name-test.true c.name-item.is (sym told ∙ w.if-branch.false) c.loop-name.names c.if-branch.names c.loop-name.invariant w.names-is
    ]
