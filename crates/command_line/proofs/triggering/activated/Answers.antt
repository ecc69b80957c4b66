use Rattle.std.proofs.Common.{◌≡◌, ◌∙◌, List, map, subst}
use Rattle.std.specs.Prelude.{IfOk}
use Rattle.host_core.specs.Looks.{Looks}
use Rattle.dpkg_session.specs.Activated.{change_by}
use Rattle.trigger_watch.specs.Activations.{activations_of}
use Rattle.trigger_watch.specs.declared.touching.Touch.{Touch}
use Rattle.unit_reports.specs.Held.{held_by}
use Rattle.trigger_turns.proofs.Steps.{held_same}
use Rattle.command_line.proofs.Behind.{looks_none}
use Rattle.command_line.proofs.triggering.activated.Goals as goal

pub returns-in-Ok-clause-looks : goal.returns-in-Ok-clause-looks
returns-in-Ok-clause-looks g c = λ touches is.
    let session = c.args.session.now in
    let same : c.in-Ok.touches.items ≡ touches = subst (λ touched. IfOk touched (λ copies. copies.items ≡ touches)) c.in-Ok.is is in
    subst (λ (ns : List Touch). Looks c.activations.result (λ changes w. changes.items ≡ map change_by (activations_of w session.administration.database.records session.administration.lists.lists c.args.by_files c.args.watch.now ns)) (g.H.Host.state session.host) (g.H.Host.state c.activations.new.self.host))
    (c.as_slice.ensures.value ∙ same) (c.activations.ensures.looks c.requires)

pub returns-in-Ok-clause-held : goal.returns-in-Ok-clause-held
returns-in-Ok-clause-held g c = held_same held_by _ _ _ _ c.activations.ensures.held c.activations.ensures.diversions

pub returns-in-Err-clause-looks : goal.returns-in-Err-clause-looks
returns-in-Err-clause-looks g c = λ touches is. looks_none _ _
