-- What writing the journal leaves, in the end and at each moment.
use Rattle.std.specs.Prelude.{◌≡◌, ◌≢◌, ◌⊎◌, ℕ, List, [], Option, Some, None}
use Rattle.administration.specs.Files.{NoDirectory}
use Rattle.administration.specs.Places.{temporary}
use Rattle.host_core.specs.Nodes.{own_access}
use Rattle.host_core.specs.Paths.{Path}
use Rattle.host_core.specs.World.{World, IsDirectory, IsLoose}
use Rattle.host_core.specs.declared.node.Node.{Node}
use Rattle.host_core.specs.declared.node.Node.TheVariants.{File}
use Rattle.status_records.specs.declared.record.Record.{Record}
use Rattle.trigger_journal.specs.Ahead.{names_ahead, text_ahead}
use Rattle.trigger_journal.specs.Places.{journal_path, triggers_directory}
use Rattle.trigger_journal.specs.Requests.{text_at}

-- a file with this text
abbrev pub journal_file : List ℕ → Node
journal_file text = File text (own_access 0o644)

-- all but the journal, its temporary name and its directory is as before
abbrev pub KeepsBesideJournal : World → World → Type 0
KeepsBesideJournal old new = (q : Path) → q ≢ triggers_directory → q ≢ journal_path → q ≢ temporary journal_path → new q ≡ old q

-- no journal can be written: no directory can stand at its place, or one stands where it should, or where it is written aside
abbrev pub IsBlocked : World → Type 0
IsBlocked w = IsLoose (w triggers_directory) ⊎ (IsDirectory (w journal_path) ⊎ IsDirectory (w (temporary journal_path)))

-- the journal has this text, and nothing else is another than before
pub record HasText (text : List ℕ) (old new : World) : Type 0 where
  pub stands : text_at (new journal_path) ≡ text
  pub rest : KeepsBesideJournal old new

-- nothing was written, since something is in the way
pub record IsUnwritten (old new : World) : Type 0 where
  pub blocked : IsBlocked old
  pub journal : new journal_path ≡ old journal_path
  pub rest : KeepsBesideJournal old new

-- at each moment the journal is as before, or the whole file of this text; its directory may be there, which was missing
pub record IsWriting (text : List ℕ) (old now : World) : Type 0 where
  pub journal : (now journal_path ≡ old journal_path) ⊎ (now journal_path ≡ Some (journal_file text))
  pub directory : (now triggers_directory ≡ old triggers_directory) ⊎ ((old triggers_directory ≡ None) × IsDirectory (now triggers_directory))
  pub rest : KeepsBesideJournal old now

-- a line of ours stands for each trigger in which a package of these records is interested, beside what stood there
abbrev pub IsAhead : List Record → World → World → Type 0
IsAhead records old new = HasText (text_ahead (names_ahead old records) (text_at (old journal_path))) old new

-- at each moment of writing it
abbrev pub IsWritingAhead : List Record → World → World → Type 0
IsWritingAhead records old now = IsWriting (text_ahead (names_ahead old records) (text_at (old journal_path))) old now

-- the journal asks for nothing any more
abbrev pub IsCleared : World → World → Type 0
IsCleared old new = HasText [] old new

abbrev pub IsClearing : World → World → Type 0
IsClearing old now = IsWriting [] old now
