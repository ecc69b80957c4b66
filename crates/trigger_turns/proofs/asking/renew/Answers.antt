use Rattle.std.proofs.Common.{◌∙◌}
use Rattle.trigger_chains.specs.Steps.{new_steps}
use Rattle.trigger_chains.specs.Wishes.{with_wishes}
use Rattle.unit_reports.specs.Held.{held_by}
use Rattle.trigger_turns.specs.Turns.{pending_steps}
use Rattle.trigger_turns.proofs.Steps.{held_same}
use Rattle.trigger_turns.proofs.asking.renew.Goals as goal

pub returns-in-Ok-wish_for_new-clause-emptied : goal.returns-in-Ok-wish_for_new-clause-emptied
returns-in-Ok-wish_for_new-clause-emptied g c = record {
  empty = λ h. c.in-Ok.ensures.cleared c.requires h;
  any_moment = c.clear_triggers.ensures.any_moment c.requires;
  silent = c.clear_triggers.ensures.silent c.requires;
  no_fault = c.in-Ok.ensures.counts c.requires;
}

pub returns-in-Ok-wish_for_new-clause-wished : goal.returns-in-Ok-wish_for_new-clause-wished
returns-in-Ok-wish_for_new-clause-wished g c =
    c.in-Ok-wish_for_new.ensures ∙ (λ i. with_wishes c.args.chain.now c.args.wishes.now.items (new_steps c.args.before.now (pending_steps (c.in-Ok.ensures.held i).database.records)))

pub returns-in-Ok-wish_for_new-clause-held : goal.returns-in-Ok-wish_for_new-clause-held
returns-in-Ok-wish_for_new-clause-held g c = held_same held_by _ _ _ _ c.in-Ok.ensures.held c.in-Ok.ensures.diversions

pub returns-in-Err-wish_for_new-clause-held : goal.returns-in-Err-wish_for_new-clause-held
returns-in-Err-wish_for_new-clause-held g c = held_same held_by _ _ _ _ c.in-Ok.ensures.held c.in-Ok.ensures.diversions

pub returns-in-Err-clause-held : goal.returns-in-Err-clause-held
returns-in-Err-clause-held g c = held_same held_by _ _ _ _ c.in-Err.ensures.held c.in-Err.ensures.diversions
