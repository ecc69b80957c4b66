use Rattle.std.proofs.Common.{◌≡◌, false, subst}
use Rattle.std.specs.Prelude.{OnOk}
use Rattle.host_core.specs.Paths.{Path}
use Rattle.host_core.specs.Unsynced.{unsynced}
use Rattle.host_overlay.specs.Overlays.{overlay_state}
use Rattle.host_overlay.proofs.Synced.{link_tells}
use Rattle.host_overlay.proofs.overlay.OverlayHost.make_link.Goals as goal

pub returns-clause-synced : goal.returns-clause-synced
returns-clause-synced g c =
    subst (λ (p : Path). OnOk c.make_step.result (unsynced (overlay_state c.make_step.new.self).events p ≡ false)) c.in_ok-copy.ensures
    (link_tells c.make_step.result c.in_ok-copy.field-0 c.in_ok-copy-2.field-0 (overlay_state c.args.self.now) (overlay_state c.make_step.new.self) c.make_step.ensures.does)
