-- The status file is written whole, and then the notes go, the smallest number first.
use Rattle.std.specs.Prelude.{◌≡◌, ◌≢◌, ◌⊎◌, ◌<◌, ◌≤◌, ℕ, Some, None}
use Rattle.host_core.specs.World.{World}
use Rattle.host_core.specs.Paths.{Path}
use Rattle.host_core.specs.declared.node.Node.{Node}
use Rattle.administration.specs.Files.{NoDirectory}
use Rattle.administration.specs.Places.{status_path, temporary}
use Rattle.status_db.specs.Notes.{limit, note_path}

-- the path is that of no note
abbrev pub IsNoNote : Path → Type 0
IsNoNote q = (n : ℕ) → n < limit → q ≢ note_path n

-- the notes below a number are gone, the others are as before
pub record HasTaken (number : ℕ) (old now : World) : Type 0 where
  pub gone : (n : ℕ) → n < number → now (note_path n) ≡ None
  pub stays : (n : ℕ) → number ≤ n → now (note_path n) ≡ old (note_path n)

-- and all that is no note is as before
pub record IsTaken (number : ℕ) (old now : World) : Type 0 where
  pub taken : HasTaken number old now
  pub rest : (q : Path) → IsNoNote q → now q ≡ old q

-- at each moment of taking notes away: a front of them is gone
abbrev pub IsTakingNotes : World → World → Type 0
IsTakingNotes old now = (number : ℕ) × IsTaken number old now

-- all that is neither a note, the status file nor its temporary name is as before
abbrev pub KeepsBesideRecords : World → World → Type 0
KeepsBesideRecords old now = (q : Path) → q ≢ status_path → q ≢ temporary status_path → IsNoNote q → now q ≡ old q

-- at each moment: the old status file with all notes, or the new one, and a front of the notes is gone
pub record IsReplacingNotes (status : Node) (old now : World) : Type 0 where
  pub number : ℕ
  pub taken : HasTaken number old now
  pub file : ((now status_path ≡ old status_path) × (number ≡ 0)) ⊎ (now status_path ≡ Some status)
  pub spare : NoDirectory (now (temporary status_path))
  pub rest : KeepsBesideRecords old now

-- the status file is the new one, and the notes below a number are gone
pub record HasReplacedNotes (status : Node) (count : ℕ) (old new : World) : Type 0 where
  pub file : new status_path ≡ Some status
  pub taken : HasTaken count old new
  pub spare : NoDirectory (new (temporary status_path))
  pub rest : KeepsBesideRecords old new
