-- What is decided of the conffiles of a record, by the digests recorded and shipped and the files that are there (Policy 10.7.3).
use Rattle.std.specs.Prelude.{◌≡◌, List, map}
use Rattle.std.specs.List.{AllZip}
use Rattle.diversions.specs.Ways.{Ways}
use Rattle.host_core.specs.Paths.{Path}
use Rattle.host_core.specs.World.{World}
use Rattle.conffiles.specs.Settling.{files_at, IsDecided}
use Rattle.conffiles.specs.declared.decisions.ConfPolicy.{ConfPolicy}
use Rattle.conffiles.specs.declared.entries.Settled.{Settled}
use Rattle.status_records.specs.Conffiles.{recorded_digest}
use Rattle.status_records.specs.declared.record.Record.{Record}
use Rattle.configure_engine.specs.Waiting.{pending_digest, place_of, settling_paths}

-- This is decided of a conffile, for its place: by the digest recorded of its path, that of the file at the place in this world, and
-- the shipped one.
pub record IsDecidedOf (r : Record) (policy : ConfPolicy) (ways : Ways) (w : World) (path : Path) (e : Settled) : Type 0 where
  pub place : e.path ≡ place_of ways path
  pub decided : IsDecided (recorded_digest r.conffiles path) (pending_digest r.pending path) policy (files_at w e.path) e.decision

abbrev pub decided_paths : List Settled → List Path
decided_paths list = map (λ e. e.path) list

-- of each conffile that is to be settled, in path order
abbrev pub AreDecided : Record → ConfPolicy → Ways → World → List Settled → Type 0
AreDecided r policy ways w list = AllZip (IsDecidedOf r policy ways w) (settling_paths ways r) list
