-- What the calls of a real directory and their answers say of it.
use Rattle.std.specs.Prelude.{◌≡◌, ◌⊎◌, Bool, false, ◌&&◌, IsTrue, List, [], ◌∷◌, ◌++◌, Option, Some, None}
use Rattle.std.specs.Str.{bytes_eq}
use Rattle.std.proofs.lemmas.Bool.{false≢true}
use Rattle.host_core.specs.World.{World, Change, Avoids, Step, Write, Move, Take, MakeDir, RemoveDir, HardLink, MakeLink, Sync, Barrier, SyncAll, SyncRoot, Lower, after, kind_of, undo_of, place_of, IsPart, is_kept}
use Rattle.host_core.specs.Events.{Event, Did, Finished, Cut, Failed, Denied, follow_all}
use Rattle.host_core.specs.Unsynced.{KeepsSettled}
use Rattle.host_core.specs.Host.{State, ran_of}
use Rattle.host_core.specs.Tree.{IsTree, IsListing}
use Rattle.host_files.specs.declared.record.Asked.{Asked}
use Rattle.host_files.specs.declared.record.Asked.TheVariants as asked
use Rattle.host_files.specs.declared.record.Noted.{Noted}
use Rattle.host_files.specs.declared.record.Noted.TheVariants.{Looked, Seen, Listed, Compared, Done, Undone, Declined, Ended, Broke, Missed}

-- What no call tells: it is supposed.
pub record Model : Type 0 where
  -- what the directory held as it was opened
  pub start : World
  -- what was done of a step of which Device was told, or that was declined, after these calls
  pub left : List Noted → Option Step
  -- what a script changed that was called after these calls
  pub change : List Noted → Change
  -- whether the answers so far are those of such a directory
  pub agrees : List Noted → Bool

abbrev pub step_of : Asked → Step
step_of (asked.Write p n) = Write p n
step_of (asked.Move a b) = Move a b
step_of (asked.Take p) = Take p
step_of (asked.MakeDir p m) = MakeDir p m
step_of (asked.RemoveDir p) = RemoveDir p
step_of (asked.HardLink a b) = HardLink a b
step_of (asked.MakeLink p t) = MakeLink p t
step_of (asked.Sync p) = Sync p
step_of asked.Barrier = Barrier
step_of asked.SyncAll = SyncAll
step_of asked.SyncRoot = SyncRoot
step_of (asked.Lower p) = Lower p

abbrev pub failing : Option Step → List Event
failing None = Failed ∷ []
failing (Some t) = Did t ∷ Failed ∷ []

-- nothing was done of a step that was declined, or a part, which was taken away
abbrev pub declining : Asked → Option Step → List Event
declining a None = Denied (place_of (step_of a)) ∷ []
declining a (Some t) = Did t ∷ Did (undo_of (step_of a)) ∷ Denied (place_of (step_of a)) ∷ []

-- what happened in a call, after these calls
abbrev pub events_of : Model → List Noted → Noted → List Event
events_of m earlier (Looked p n) = []
events_of m earlier (Seen p k) = []
events_of m earlier (Listed p l) = []
events_of m earlier (Compared one other same) = []
events_of m earlier (Done a) = Did (step_of a) ∷ []
events_of m earlier (Undone a) = failing (m.left earlier)
events_of m earlier (Declined a) = declining a (m.left earlier)
events_of m earlier (Ended c k o) = Finished (ran_of c o (m.change earlier)) ∷ []
events_of m earlier (Broke c k) = Cut c (m.change earlier) ∷ Failed ∷ []
events_of m earlier Missed = Failed ∷ []

abbrev pub go_on : Bool → List Event → State → State
go_on agrees es s = record { honest = agrees && s.honest; world = follow_all es s.world; events = s.events ++ es }

-- the state after these calls, the newest of which comes first
abbrev pub replay : Model → List Noted → State
replay m [] = record { honest = m.agrees []; world = m.start; events = [] }
replay m (n ∷ earlier) = go_on (m.agrees (n ∷ earlier)) (events_of m earlier n) (replay m earlier)

abbrev pub IsLeftOf : Step → Option Step → Type 0
IsLeftOf s None = Unit {0}
IsLeftOf s (Some t) = (t ≡ s) ⊎ IsPart s t

-- what there was of a step that was declined is a part of it, and taking that away gives back this world
abbrev pub IsTakenBack : Step → World → Option Step → Type 0
IsTakenBack s w None = Unit {0}
IsTakenBack s w (Some t) = IsPart s t × (after (undo_of s) (after t w) ≡ w)

-- the answer is that of a directory which holds this
abbrev pub Answers : Model → List Noted → World → Noted → Type 0
Answers m earlier w (Looked p n) = n ≡ w p
Answers m earlier w (Seen p k) = k ≡ kind_of (w p)
Answers m earlier w (Listed p l) = IsListing w p l.names l.bad
Answers m earlier w (Compared one other same) = same ≡ bytes_eq one other
Answers m earlier w (Done a) = Unit {0}
Answers m earlier w (Undone a) = IsLeftOf (step_of a) (m.left earlier)
Answers m earlier w (Declined a) = IsTakenBack (step_of a) w (m.left earlier)
Answers m earlier w (Ended c k o) = Avoids (is_kept k) (m.change earlier)
Answers m earlier w (Broke c k) = Avoids (is_kept k) (m.change earlier)
Answers m earlier w Missed = Unit {0}

-- where it says that the answers agree they do, and the directory is a tree
pub record IsSound (m : Model) : Type 0 where
  pub answers : (n : Noted) (earlier : List Noted) → IsTrue (replay m (n ∷ earlier)).honest → Answers m earlier (replay m earlier).world n
  pub tree : (notes : List Noted) → IsTrue (replay m notes).honest → IsTree (replay m notes).world

-- what is owed for a call after these events: a file is written at a temporary name, and synced before it gets another
abbrev pub IsOwed : List Event → Noted → Type 0
IsOwed events (Looked p n) = Unit {0}
IsOwed events (Seen p k) = Unit {0}
IsOwed events (Listed p l) = Unit {0}
IsOwed events (Compared one other same) = Unit {0}
IsOwed events (Done a) = KeepsSettled events (step_of a)
IsOwed events (Undone a) = KeepsSettled events (step_of a)
IsOwed events (Declined a) = KeepsSettled events (step_of a)
IsOwed events (Ended c k o) = Unit {0}
IsOwed events (Broke c k) = Unit {0}
IsOwed events Missed = Unit {0}

-- of which nothing is said
abbrev pub unknown : Model
unknown = record { start = λ path. None; left = λ notes. None; change = λ notes. []; agrees = λ notes. false }

unknown_lies : (notes : List Noted) → IsTrue (replay unknown notes).honest → ⊥
unknown_lies [] h = false≢true h
unknown_lies (n ∷ earlier) h = false≢true h

-- what is to hold where the host is honest
pub unknown_needs : {P : Type 0} (notes : List Noted) → IsTrue (replay unknown notes).honest → P
unknown_needs notes h = absurd (unknown_lies notes h)

pub unknown_sound : IsSound unknown
unknown_sound = record { answers = λ n earlier h. absurd (unknown_lies (n ∷ earlier) h); tree = λ notes h. absurd (unknown_lies notes h) }
