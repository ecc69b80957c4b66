use Rattle.std.proofs.Common.{[], ◌∷◌, ◌++◌, List, ap, ◌∙◌}
use Rattle.status_records.specs.Standings.{configured}
use Rattle.status_records.specs.declared.record.Record.{Record}
use Rattle.unit_stages.specs.declared.part.Part.{Part}
use Rattle.unit_stages.specs.declared.part.Part.TheVariants.{Note}
use Rattle.trigger_engine.proofs.stages.last_parts.Goals as goal

pub returns : goal.returns
returns c =
    c.in_ok-push.ensures.items ∙ ap (λ (l : List Part). l ++ Note c.in_ok-configured.field-0 ∷ []) c.new-parts.ensures.items
    ∙ ap (λ (x : Record). Note x ∷ []) (c.in_ok-configured.ensures ∙ ap configured c.in_ok-half.ensures)
