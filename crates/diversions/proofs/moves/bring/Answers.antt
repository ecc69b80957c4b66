use Rattle.std.proofs.Common.{refl}
use Rattle.host_core.proofs.Moments.{since_sync_root}
use Rattle.diversions.proofs.Turning.{begun_by}
use Rattle.diversions.proofs.moves.bring.Goals as goal

pub returns-clause-any_moment : goal.returns-clause-any_moment
returns-clause-any_moment g c = since_sync_root _ c.sync_root.result _ _ c.sync_root.ensures.does (λ h. refl)

pub returns-clause-brought : goal.returns-clause-brought
returns-clause-brought g c = λ is. begun_by c.sync_root.result _ _ c.sync_root.ensures.does
