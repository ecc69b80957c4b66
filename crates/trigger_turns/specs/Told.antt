-- That units were told, each as it was finished.
use Rattle.std.specs.Prelude.{◌≡◌, ◌++◌, List, []}
use Rattle.host_core.specs.Host.{State}
use Rattle.unit_reports.specs.Watching.{IsTold}
use Rattle.unit_reports.specs.declared.report.Unit.{Unit as AUnit}

-- these units were told one after another, each as it was finished since some state of the host
abbrev pub AreTold : {W : Type 0} → (W → AUnit → State → W → Type 0) → W → List AUnit → W → Type 0
AreTold tells old us new = (s : State) × IsTold tells s old us new

-- the same of the units of turns, turn after turn
pub data AreToldInTurns {W : Type 0} (tells : W → AUnit → State → W → Type 0) (old : W) : List AUnit → W → Type 0 where
  nothing : AreToldInTurns tells old [] old
  then : (us others : List AUnit) (mid new : W) → AreToldInTurns tells old us mid → AreTold tells mid others new → AreToldInTurns tells old (us ++ others) new

-- units came to others, and they were told so
pub record HaveBeenTold {W : Type 0} (tells : W → AUnit → State → W → Type 0) (units_old units_new : List AUnit) (old new : W) : Type 0 where
  pub more : List AUnit
  pub grown : units_new ≡ units_old ++ more
  pub told : AreToldInTurns tells old more new
