use Rattle.std.proofs.Common.{ℕ, List, Option, subst, sym, rules}
use Rattle.unit_reports.specs.Units.{IsRefusedUnit}
use Rattle.unit_reports.specs.declared.refusal.Rule.{Rule}
use Rattle.configure_run.specs.Early.{HasRefused, refusal_by}
use Rattle.configure_run.proofs.early.push_refusal.Goals as goal

pub returns-in_ok-add_finished-in-Some-clause-ok : goal.returns-in_ok-add_finished-in-Some-clause-ok
returns-in_ok-add_finished-in-Some-clause-ok g c =
    subst (λ (o : Option Rule). HasRefused (refusal_by c.args.name.now o) c.args.units.now.items c.add_finished.new.units.items) (sym c.in-Some.is)
    (c.refused.result, search rules, subst (λ (n : List ℕ). IsRefusedUnit c.in-Some.rule n c.refused.result) c.in_ok-copy-in-Some.ensures c.refused.ensures)
