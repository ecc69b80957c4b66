-- Who is told the units of a command as they are finished, and when.
use Rattle.std.specs.Prelude.{◌≡◌, List, [], ◌∷◌, ◌++◌}
use Rattle.host_core.specs.Host.{State}
use Rattle.host_core.specs.Loss.{IsAnswered}
use Rattle.undo_rows.specs.Transcript.{TellsAll}
use Rattle.undo_rows.specs.declared.rows.Called.{Called}
use Rattle.unit_reports.specs.declared.report.Unit.{Unit as AUnit}

-- These units were told, one after another, behind others that made the calls `so_far` since the state `s`: each when the host
-- had made the calls of those before it and its own and no other, and all that had been done was on the disk.
abbrev pub IsToldBehind : {W : Type 0} → (W → AUnit → State → W → Type 0) → State → List Called → W → List AUnit → W → Type 0
IsToldBehind tells s so_far old [] new = new ≡ old
IsToldBehind {W} tells s so_far old (u ∷ us) new =
    (mid : W) × (at : State) × tells old u at mid × TellsAll s at [] (so_far ++ u.calls.items) × IsAnswered s at × IsToldBehind tells s (so_far ++ u.calls.items) mid us new

-- these were the first since that state
abbrev pub IsTold : {W : Type 0} → (W → AUnit → State → W → Type 0) → State → W → List AUnit → W → Type 0
IsTold tells s old us new = IsToldBehind tells s [] old us new

-- units came to those that are finished since that state, and each of them was told
pub record AddsTold {W : Type 0} (tells : W → AUnit → State → W → Type 0) (s : State) (units_old units_new : List AUnit) (old new : W) : Type 0 where
  pub more : List AUnit
  pub grown : units_new ≡ units_old ++ more
  pub told : IsTold tells s old more new
