use Rattle.std.proofs.Common.{List, [], ◌∷◌, ◌++◌, ap, ◌∙◌}
use Rattle.unit_stages.specs.declared.stage.Stage.{Stage}
use Rattle.trigger_engine.proofs.stages.stages_of.Goals as goal

pub returns : goal.returns
returns c =
    let first : Stage = record { parts = c.in_ok-first_parts.field-0; row = c.in_ok-triggered_row.field-0; restore = c.new.result } in
    let second : Stage = record { parts = c.in_ok-last_parts.field-0; row = c.in_ok-quiet_row.field-0; restore = c.new-2.result } in
    record {
      first = first;
      second = second;
      are = c.in_ok-push-2.ensures.items ∙ ap (λ (l : List Stage). l ++ second ∷ []) (c.in_ok-push.ensures.items ∙ ap (λ (l : List Stage). l ++ first ∷ []) c.new-stages.ensures.items);
      notes = c.in_ok-first_parts.ensures;
      row = c.in_ok-triggered_row.ensures;
      no_restore = c.new.ensures.items;
      installs = c.in_ok-last_parts.ensures;
      no_call = c.in_ok-quiet_row.ensures;
      no_restore_either = c.new-2.ensures.items;
    }
