-- That a change of the diversions loses nothing where the disk keeps no order between two directories.
use Rattle.std.specs.Prelude.{◌≡◌, ◌⊎◌, ◌||◌, Bool, List}
use Rattle.std.specs.Str.{bytes_eq}
use Rattle.host_core.specs.Paths.{Path}
use Rattle.host_core.specs.World.{World}
use Rattle.host_core.specs.Host.{State, denials}
use Rattle.administration.specs.Places.{diversions_path, temporary}
use Rattle.scattered_losses.specs.Turns.{GoByTurns}
use Rattle.diversions.specs.Changes.{doubled_if, moved_if}
use Rattle.diversions.specs.Lines.{HasDiversions}
use Rattle.diversions.specs.declared.entry.Diversion.{Diversion}

-- a name of the node that is moved, or of the file
abbrev pub is_change_name : Path → Path → Path → Bool
is_change_name from to q = bytes_eq q from || (bytes_eq q to || (bytes_eq q diversions_path || bytes_eq q (temporary diversions_path)))

-- where no step was declined the names of one directory alone change between two barriers, whichever names are looked at
abbrev pub GoesByTurns : State → State → Type 0
GoesByTurns old new = denials new ≡ denials old → (area : Path → Bool) → GoByTurns area old new

-- What a loss of power leaves of a change: the node stands whole at its old name, at both or at the new one, with the table of
-- before; or at the new one, with these entries.
abbrev pub IsLeftWhole : Bool → Path → Path → List Diversion → World → World → Type 0
IsLeftWhole moves from to entries old left = ((left from ≡ old from) × ((left to ≡ old to) ⊎ (left to ≡ doubled_if moves from to old to)) × (left diversions_path ≡ old diversions_path))
    ⊎ ((left from ≡ moved_if moves from to old from) × (left to ≡ moved_if moves from to old to) × ((left diversions_path ≡ old diversions_path) ⊎ HasDiversions left entries))
