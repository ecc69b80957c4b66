use Rattle.std.proofs.Common.{Bool, List, map, ap, subst, ◌∙◌}
use Rattle.std.specs.Prelude.{IsTrue, ◌↔◌}
use Rattle.dependency_sets.specs.Sets.{has}
use Rattle.status_records.specs.declared.record.Record.{Record}
use Rattle.trigger_run.specs.Needs.{Lacks, satisfies}
use Rattle.trigger_run.proofs.Lacking.{lacking_by}
use Rattle.trigger_run.proofs.needs.is_lacking.Goals as goal

pub returns : goal.returns
returns c =
    lacking_by c.args.database.now.records c.args.name.now c.args.packages.now c.requires c.in_ok-found.found
    (subst (λ (l : List Bool). IsTrue c.in_ok-found.found ↔ Lacks c.args.packages.now (has l) c.args.name.now) (c.as_slice.ensures.value ∙ c.in_ok-set.ensures ∙ ap (λ (rs : List Record). map satisfies rs) c.records.ensures) c.in_ok-found.ensures)
