use Rattle.std.proofs.Common.{arith, subst, sym}
use Rattle.host_core.specs.Host.{State}
use Rattle.host_core.specs.World.{World}
use Rattle.host_core.proofs.Moments.{reads_then}
use Rattle.host_overlay.specs.Overlays.{begun_state, overlay_state}
use Rattle.foretold_changes.specs.Told.{IsLookedOver}
use Rattle.foretold_changes.proofs.Few.{more_faults}
use Rattle.foretold_changes.proofs.looking.look_over.Goals as goal

pub returns-in-Ok-clause-told : goal.returns-in-Ok-clause-told
returns-in-Ok-clause-told g c = λ h.
    let mid = c.read_indexed.new.host in
    let over = c.in-Ok.over in
    subst (λ (s : State). IsLookedOver s.world (overlay_state c.args.host.now).world over) (sym c.look_behind.ensures.through.begun)
    (subst (λ (w : World). IsLookedOver (begun_state mid).world w over) c.read_indexed.ensures.reads.world (c.in-Ok.ensures.told h))

pub returns-in-Ok-clause-few : goal.returns-in-Ok-clause-few
returns-in-Ok-clause-few g c = (let more = more_faults (overlay_state c.args.host.now) (overlay_state c.read_indexed.new.host) c.read_indexed.ensures.reads in let few = c.in-Ok.ensures.few in omega (arith, more, few))

pub returns-in-Ok-clause-reads : goal.returns-in-Ok-clause-reads
returns-in-Ok-clause-reads g c = reads_then _ _ _ c.read_indexed.ensures.reads c.look_behind.ensures.reads

pub returns-in-Err-clause-reads : goal.returns-in-Err-clause-reads
returns-in-Err-clause-reads g c = reads_then _ _ _ c.read_indexed.ensures.reads c.look_behind.ensures.reads
