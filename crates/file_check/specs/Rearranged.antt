-- What is left of the works of a package, and of the world where a step fault was found.
use Rattle.std.specs.Prelude.{◌≡◌, List, map}
use Rattle.std.specs.List.Sorted.{IsPermutation}
use Rattle.host_core.specs.World.{World}
use Rattle.undo_rows.specs.declared.fall.StepFault.{StepFault}
use Rattle.package_files.specs.declared.work.Work.{Work}
use Rattle.file_check.specs.Clashes.{Owning}
use Rattle.file_check.specs.Ready.{unseen}
use Rattle.file_check.specs.Sound.{IsFirstFault}

-- the same works in some order, whatever was seen of them
abbrev pub IsRearranged : List Work → List Work → Type 0
IsRearranged old new = IsPermutation (map unseen old) (map unseen new)

-- nothing was written, and this is the first step fault
abbrev pub IsStopped : Owning → List Work → World → World → StepFault → Type 0
IsStopped o works old new fault = (new ≡ old) × IsFirstFault o works old fault
