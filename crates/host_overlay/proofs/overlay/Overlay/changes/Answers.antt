use Rattle.host_overlay.specs.Layers.{changed_in}
use Rattle.host_overlay.specs.Overlays.{TellsChanges}
use Rattle.host_overlay.specs.Standings.{AreTold}
use Rattle.host_overlay.proofs.Differing.{tells_changes, if_ok_so}
use Rattle.host_overlay.proofs.overlay.Overlay.changes.Goals as goal

pub returns : goal.returns
returns g c = if_ok_so c.told.result (λ told. AreTold (changed_in c.args.self.now.layer) told.items) (λ told. TellsChanges c.args.self.now told.items)
    (λ told all. tells_changes c.args.self.now told.items all) c.told.ensures
