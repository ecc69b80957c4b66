-- An administration that is open.
use Rattle.std.specs.Prelude.{◌≡◌, false, List}
use Rattle.diversions.specs.Ways.{Ways}
use Rattle.file_lists.specs.Owners.{places_in}
use Rattle.held_administration.specs.declared.held.Administration.{Administration}

-- records and lists can be written, and its places are those of the lists, with these diversions
pub record IsOpen (ways : Ways) (a : Administration) : Type 0 where
  pub noting : a.database.closed ≡ false
  pub listing : a.lists.closed ≡ false
  pub kept : a.places ≡ places_in ways a.lists.lists

-- records and lists can be written; nothing is said of its places, which grow and shrink while a unit runs
pub record CanWrite (a : Administration) : Type 0 where
  pub noting : a.database.closed ≡ false
  pub listing : a.lists.closed ≡ false
