use Rattle.host_overlay.specs.Overlays.{overlay_state}
use Rattle.host_overlay.proofs.Synced.{all_sync_tells}
use Rattle.host_overlay.proofs.overlay.OverlayHost.sync_written.Goals as goal

pub returns-clause-synced : goal.returns-clause-synced
returns-clause-synced g c = all_sync_tells c.make_step.result (overlay_state c.args.self.now) (overlay_state c.make_step.new.self) c.make_step.ensures.does
