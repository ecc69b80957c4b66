use Rattle.std.proofs.Common.{List, refl, subst}
use Rattle.trigger_chains.specs.declared.wishes.Wish.{Wish}
use Rattle.host_core.specs.declared.fault.HostFault.TheVariants.{NoMemory}
use Rattle.unit_reports.specs.Held.{held_by}
use Rattle.trigger_turns.specs.Turns.{HasTurned}
use Rattle.trigger_turns.proofs.Turned.{turned_none}
use Rattle.trigger_turns.proofs.Steps.{turns_none}
use Rattle.trigger_turns.proofs.Abandoned.{cut_off}
use Rattle.trigger_turns.proofs.turns.process_in_turns.Goals as goal

pub returns-in-Ok-clause-turned : goal.returns-in-Ok-clause-turned
returns-in-Ok-clause-turned g c = λ order is.
    let old = c.args.session.now in
    let new = c.process_wishes.new.session in
    subst (λ (wishes : List Wish). HasTurned wishes c.args.takes c.process_wishes.result (held_by old.administration old.diversions) (held_by new.administration new.diversions) (g.H.Host.state old.host) (g.H.Host.state new.host)) (c.in-Ok.ensures order is) c.process_wishes.ensures.turned

pub returns-in-Err-clause-turned : goal.returns-in-Err-clause-turned
returns-in-Err-clause-turned g c = λ order is. turned_none _ _ c.unbegun.result _ _ _ c.new.ensures.items refl c.unbegun.ensures

pub returns-in-Err-clause-watched : goal.returns-in-Err-clause-watched
returns-in-Err-clause-watched g c = turns_none _ _ _ c.new.ensures.items

pub returns-in-Err-clause-abandoned : goal.returns-in-Err-clause-abandoned
returns-in-Err-clause-abandoned g c = cut_off _ NoMemory c.unbegun.result c.unbegun.ensures
