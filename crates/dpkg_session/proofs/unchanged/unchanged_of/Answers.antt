use Rattle.std.proofs.Common.{[], ℕ, List, length, subst, sym, ap, ◌≤◌, arith}
use Rattle.std.proofs.lemmas.List.{length-map, take_all}
use Rattle.unit_reports.specs.Units.{touched_at}
use Rattle.dpkg_session.specs.Touched.{AreUnchanged}
use Rattle.dpkg_session.proofs.Touching.{unchanged_none}
use Rattle.dpkg_session.proofs.Alike.{copy_more}
use Rattle.dpkg_session.proofs.unchanged.unchanged_of.Goals as goal

pub loop-copy-init : goal.loop-copy-init
loop-copy-init c = λ before packages copied. subst (AreUnchanged before c.args.database.now.records []) (sym c.new-names.ensures) (unchanged_none before c.args.database.now.records)

pub loop-copy-preserved : goal.loop-copy-preserved
loop-copy-preserved c = λ before packages copied.
    copy_more before c.args.database.now.records packages c.loop-copy.names c.push_if.new.names c.args.copies.now c.loop-copy.copy-index c.copy-item.result c.in_ok-same.same c.loop-copy-test.true c.copy-item.is copied c.in_ok-same.ensures c.in_ok-push_if.ensures (c.loop-copy.invariant before packages copied)

pub returns : goal.returns
returns c = λ before packages copied.
    let end : length packages ≤ c.loop-copy.copy-index = omega (arith, c.loop-copy-test.false, ap length copied, length-map packages (touched_at before)) in
    subst (λ (ps : List (List ℕ)). AreUnchanged before c.args.database.now.records ps c.loop-copy.names) (take_all c.loop-copy.copy-index packages end) (c.loop-copy.invariant before packages copied)
