-- What adding a diversion and taking it away leave, in the end and at each moment.
use Rattle.std.specs.Prelude.{◌≡◌, ◌≢◌, ◌⊎◌, Bool, true, false, cond, List, [], ◌∷◌, ◌++◌, Some, None, Result, Ok, Err, MatchBool, IsTrue}
use Rattle.host_core.specs.Paths.{Path}
use Rattle.host_core.specs.World.{World, moved, put, SyncRoot, IsDirectory, IsLoose, HasParent}
use Rattle.host_core.specs.Events.{Event, Did}
use Rattle.host_core.specs.Host.{State, AllFailed}
use Rattle.host_core.specs.declared.node.Node.{Node}
use Rattle.aliases.specs.Aliases.{resolved}
use Rattle.administration.specs.Files.{NoDirectory, KeepsBesideFile, IsReplacing}
use Rattle.administration.specs.Places.{home_path, diversions_path, temporary}
use Rattle.diversions.specs.Entries.{without}
use Rattle.diversions.specs.Lines.{HasDiversions}
use Rattle.diversions.specs.Refusals.{has_same}
use Rattle.diversions.specs.Sights.{brings_first, sight_of, moves_node, moves_back}
use Rattle.diversions.specs.Ways.{Ways, truename}
use Rattle.diversions.specs.Writing.{table_file}
use Rattle.diversions.specs.declared.entry.Owner.{Owner}
use Rattle.diversions.specs.declared.entry.Diversion.{Diversion}
use Rattle.diversions.specs.declared.refusal.Answer.{Answer}
use Rattle.diversions.specs.declared.refusal.Answer.TheVariants.{Done, Refused}
use Rattle.diversions.specs.declared.refusal.Seen.{Seen}

abbrev pub diversion_of : Path → Path → Owner → Diversion
diversion_of path target owner = record { path = path; target = target; owner = owner }

-- what an answer Done has
abbrev pub OnDone : {E : Type 0} → Result Answer E → Type 0 → Type 0
OnDone (Ok Done) P = P
OnDone (Ok (Refused refusal)) P = Unit {0}
OnDone (Err e) P = Unit {0}

-- what a call that answers Done leaves
abbrev pub LeavesDone : {E : Type 0} → Result Answer E → (World → World → Type 0) → State → State → Type 0
LeavesDone result P old new = IsTrue new.honest → OnDone result (P old.world new.world)

-- what a refusal has
abbrev pub OnRefused : {E : Type 0} → Result Answer E → Type 0 → Type 0
OnRefused (Ok Done) P = Unit {0}
OnRefused (Ok (Refused refusal)) P = P
OnRefused (Err e) P = Unit {0}

-- the file can be replaced: its directory is there, and no directory in its place or at its temporary name
pub record IsTableReady (w : World) : Type 0 where
  pub home : IsDirectory (w home_path)
  pub target : NoDirectory (w diversions_path)
  pub spare : NoDirectory (w (temporary diversions_path))

-- what a move needs: a file or link, at its target nothing or the same node, and a directory above
pub record CanMove (twice : Bool) (from to : Path) (w : World) : Type 0 where
  pub other : from ≢ to
  pub there : IsLoose (w from)
  pub target : w to ≡ cond twice (w from) None
  pub above : HasParent w to

-- each path is as in a world
abbrev pub IsSame : World → World → Type 0
IsSame w now = (q : Path) → now q ≡ w q

-- a node has a second name, or nothing is done
abbrev pub doubled_if : Bool → Path → Path → World → World
doubled_if false from to w = w
doubled_if true from to w = put w to (w from)

-- a node is moved, or nothing is
abbrev pub moved_if : Bool → Path → Path → World → World
moved_if false from to w = w
moved_if true from to w = moved w from to

-- what moving a node leaves at each moment: nothing is done, or it has both names, or the new one alone
abbrev pub IsMoving : Bool → Path → Path → World → World → Type 0
IsMoving moves from to old now = (now ≡ old) ⊎ ((now ≡ doubled_if moves from to old) ⊎ IsSame (moved_if moves from to old) now)

-- a node stands whole at one of the two names or at both, and nothing else has changed
pub record IsMovedWhole (from to : Path) (old new : World) : Type 0 where
  pub whole : ((new from ≡ old from) × ((new to ≡ old to) ⊎ (new to ≡ old from))) ⊎ ((new from ≡ None) × (new to ≡ old from))
  pub rest : (q : Path) → q ≢ from → q ≢ to → new q ≡ old q

-- at each moment: nothing is done, or the node has both names, or it is moved and a file takes the table's place
abbrev pub IsCarrying : Node → Bool → Path → Path → World → World → Type 0
IsCarrying node moves from to old now = (now ≡ old) ⊎ ((now ≡ doubled_if moves from to old) ⊎ IsReplacing diversions_path node (moved_if moves from to old) now)

-- the file has these entries, and nothing else has changed
pub record IsRecorded (entries : List Diversion) (old new : World) : Type 0 where
  pub table : HasDiversions new entries
  pub file : new diversions_path ≡ Some (table_file entries)
  pub ready : IsTableReady new
  pub rest : KeepsBesideFile diversions_path old new

-- at a moment behind the move: the table of before, or these entries; the node is where it is moved, and nothing else has changed
pub record IsRecording (entries : List Diversion) (moves : World → World) (old now : World) : Type 0 where
  pub table : (now diversions_path ≡ old diversions_path) ⊎ HasDiversions now entries
  pub ready : IsTableReady now
  pub rest : KeepsBesideFile diversions_path (moves old) now

-- at each moment: nothing is done, or the node has both names, or it is moved and the table being written
abbrev pub IsUnderWay : (World → World) → (World → World) → List Diversion → World → World → Type 0
IsUnderWay doubles moves entries old now = (now ≡ old) ⊎ (((now ≡ doubles old) × IsTableReady now) ⊎ IsRecording entries moves old now)

-- all that stands under the root was brought to the disk before any other step was made
abbrev pub BeginsOnDisk : State → State → Type 0
BeginsOnDisk old new = (fs rest : List Event) × AllFailed fs × (new.events ≡ old.events ++ (fs ++ Did SyncRoot ∷ rest))

-- so it is where a stopped command may have put the node where it is to be
abbrev pub IsBroughtFirst : Bool → Bool → Path → Path → State → State → Type 0
IsBroughtFirst rename listed from to old new = IsTrue new.honest → brings_first rename listed (sight_of rename old.world from to) ≡ true → BeginsOnDisk old new

-- adding

-- the packaged files with the node of one place at another, where it is moved
abbrev pub set_aside : Path → Path → Bool → Seen → World → World
set_aside from to rename seen w = moved_if (moves_node rename seen.listed (sight_of rename w from to)) from to w

-- the same with the node at both
abbrev pub set_aside_twice : Path → Path → Bool → Seen → World → World
set_aside_twice from to rename seen w = doubled_if (moves_node rename seen.listed (sight_of rename w from to)) from to w

-- from the place of a diverted path to that of its target
abbrev pub diverted : Ways → Diversion → Bool → Seen → World → World
diverted ways d = set_aside (resolved ways.aliases d.path) (resolved ways.aliases d.target)

abbrev pub diverted_twice : Ways → Diversion → Bool → Seen → World → World
diverted_twice ways d = set_aside_twice (resolved ways.aliases d.path) (resolved ways.aliases d.target)

-- a table with an entry more at its end, unless it has it
abbrev pub with_entry : List Diversion → Diversion → List Diversion
with_entry entries d = cond (has_same entries d) entries (entries ++ d ∷ [])

-- nothing where the table has it; else the node is moved and the table written
abbrev pub HasAdded : Ways → Diversion → Bool → Seen → World → World → Type 0
HasAdded ways d rename seen old new =
    MatchBool (has_same ways.entries d) (new ≡ old) (IsRecorded (ways.entries ++ d ∷ []) (diverted ways d rename seen old) new)

abbrev pub IsAdding : Ways → Diversion → Bool → Seen → World → World → Type 0
IsAdding ways d rename seen old now =
    IsUnderWay (diverted_twice ways d rename seen) (diverted ways d rename seen) (ways.entries ++ d ∷ []) old now

-- taking away

-- the packaged files with the node of a target's place back at that of its path, where it is moved
abbrev pub restored : Path → Path → Bool → World → World
restored path target rename w = moved_if (moves_back rename w target path) target path w

-- the same with the node at both
abbrev pub restored_twice : Path → Path → Bool → World → World
restored_twice path target rename w = doubled_if (moves_back rename w target path) target path w

-- by the table in which the diversion still stands
abbrev pub undiverted : Ways → Path → Bool → World → World
undiverted ways path = restored (resolved ways.aliases path) (truename ways path)

abbrev pub undiverted_twice : Ways → Path → Bool → World → World
undiverted_twice ways path = restored_twice (resolved ways.aliases path) (truename ways path)

abbrev pub HasRemoved : Ways → Path → Bool → World → World → Type 0
HasRemoved ways path rename old new = IsRecorded (without path ways.entries) (undiverted ways path rename old) new

abbrev pub IsRemoving : Ways → Path → Bool → World → World → Type 0
IsRemoving ways path rename old now =
    IsUnderWay (undiverted_twice ways path rename) (undiverted ways path rename) (without path ways.entries) old now
