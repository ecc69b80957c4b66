use Rattle.std.proofs.Common.{sym, ◌∙◌}
use Rattle.dpkg_session.specs.Refusals.{is_away}
use Rattle.dpkg_session.proofs.First.{found_here, none_more}
use Rattle.dpkg_session.proofs.refusal.first_away.Goals as goal

pub returns-then-branch : goal.returns-then-branch
returns-then-branch c =
    found_here (is_away c.args.diversions.now.ways c.args.name.now) c.args.paths.now c.loop-path.path-index c.path-item.result c.loop-path-test.true c.path-item.is c.loop-path.invariant
    (sym c.in_ok-is_away.ensures ∙ c.if-branch.true)

pub loop-path-preserved : goal.loop-path-preserved
loop-path-preserved c =
    none_more (is_away c.args.diversions.now.ways c.args.name.now) c.args.paths.now c.loop-path.path-index c.path-item.result c.loop-path-test.true c.path-item.is c.loop-path.invariant
    (sym c.in_ok-is_away.ensures ∙ c.if-branch.false)
