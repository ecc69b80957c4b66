-- Packages that conflict with one that was unpacked are removed behind its commit, one after another, each from its files on (Policy
-- 6.6, 7.4). The prerm of each was called before; one whose postrm fails stays half-installed, and the rest goes on.
use Rattle.std.specs.Prelude.{◌≡◌, ℕ, Bool, true, false, IsTrue, List, [], ◌∷◌, ◌++◌, Option, Some, None}
use Rattle.std.specs.List.{AllByRecursion}
use Rattle.host_core.specs.Paths.{Path}
use Rattle.host_core.specs.World.{World}
use Rattle.host_core.specs.Events.{Event, scripts_of}
use Rattle.host_core.specs.Host.{Silent, State}
use Rattle.host_core.specs.declared.call.Call.{Call}
use Rattle.diversions.specs.Ways.{Ways}
use Rattle.removal_engine.specs.Units.{HasCalled, HasEnded, HasRemoved, IsAmidUnit, IsRemovable, given}
use Rattle.removal_engine.specs.declared.extent.Extent.TheVariants.{InFavour}
use Rattle.status_db.specs.Recorded.{Recorded}
use Rattle.status_records.specs.declared.record.Record.{Record}
use Rattle.status_records.specs.declared.words.State.{State as PackageState}
use Rattle.status_records.specs.declared.words.State.TheVariants.{NotInstalled, ConfigFiles, HalfInstalled, Unpacked, HalfConfigured, Installed}
use Rattle.unit_stages.specs.Aside.{IsAside}
use Rattle.held_administration.specs.Order.{IsInOrder}
use Rattle.unit_stages.specs.Holding.{Holding}
use Rattle.unit_stages.specs.Running.{IsOpenable}
use Rattle.undo_rows.specs.declared.rows.Called.{Called}

-- Something of a package in this state can be removed in favour of another: if it was installed, its prerm was called.
abbrev pub begins_in_favour : PackageState → Bool
begins_in_favour NotInstalled = false
begins_in_favour ConfigFiles = false
begins_in_favour HalfInstalled = true
begins_in_favour Unpacked = true
begins_in_favour HalfConfigured = true
begins_in_favour Installed = false

-- so it is of the package with this record
abbrev pub can_be_removed : Option Record → Bool
can_be_removed None = false
can_be_removed (Some r) = begins_in_favour r.state

-- the first call that failed
abbrev pub first_failed : Option Call → Option Call → Option Call
first_failed None other = other
first_failed (Some call) other = Some call

-- the administration is in order, with these records and lists
pub record IsInOrderWith (h : Holding) (w : World) : Type 0 where
  pub recorded : Recorded
  pub are : recorded.records ≡ h.records
  pub order : IsInOrder recorded h.lists w

-- the next opening finds some records
abbrev pub CanBeOpened : World → Type 0
CanBeOpened w = (table : List Record) × IsOpenable table w

module _ (ways : Ways) where
  -- One of them, as its record is then: it is removed from its files on, or passed over where nothing of it can be.
  pub data IsRemovedOrGone (name : List ℕ) (failed : Option Call) (before after : Holding) (s t : State) (told now : List Called) : Type 0 where
    removed : HasRemoved (given InFavour name ways before) failed after s t told now → HasEnded InFavour name failed before.records after.records
        → (IsTrue t.honest → IsInOrderWith after t.world) → IsRemovedOrGone name failed before after s t told now
    passed : (IsRemovable InFavour before.records name → ⊥) → failed ≡ None → after ≡ before → t ≡ s → now ≡ told → IsRemovedOrGone name failed before after s t told now

  -- all of them, in this order
  abbrev pub HaveBeenRemoved : List (List ℕ) → Option Call → Holding → Holding → State → State → List Called → List Called → Type 0
  HaveBeenRemoved [] failed before after s t told now = (failed ≡ None) × (after ≡ before) × (t ≡ s) × (now ≡ told)
  HaveBeenRemoved (name ∷ names) failed before after s t told now =
      (own rest : Option Call) × (mid : Holding) × (m : State) × (between : List Called) × (failed ≡ first_failed own rest)
      × IsRemovedOrGone name own before mid s m told between × HaveBeenRemoved names rest mid after m t between now

  -- the next one is under way
  abbrev pub IsAmidNext : List (List ℕ) → Holding → World → List Event → World → Type 0
  IsAmidNext [] h old so_far now = (now ≡ old) × (scripts_of so_far ≡ [])
  IsAmidNext (name ∷ names) h old so_far now = IsAmidUnit (given InFavour name ways h) old so_far now

  -- At each moment some are removed, and the next is under way; the next opening finds records.
  pub record IsAmidRemovals (names : List (List ℕ)) (before : Holding) (s : State) (so_far : List Event) (now : World) : Type 0 where
    pub done : List (List ℕ)
    pub left : List (List ℕ)
    pub are : names ≡ done ++ left
    pub failed : Option Call
    pub mid : Holding
    pub m : State
    pub told : List Called
    pub between : List Called
    pub honest : IsTrue m.honest
    pub removed : HaveBeenRemoved done failed before mid s m told between
    pub front : List Event
    pub rest : List Event
    pub split : so_far ≡ front ++ rest
    pub events : m.events ≡ s.events ++ front
    pub next : IsAmidNext left mid m.world rest now
    pub opens : CanBeOpened now

  -- the calls of the next one: none where no one is left, or the first of those that it may make
  abbrev pub HasCalledNext : List (List ℕ) → Holding → State → State → List Called → List Called → Type 0
  HasCalledNext [] h s t told now = Silent s t × (now ≡ told)
  HasCalledNext (name ∷ names) h s t told now = HasCalled (given InFavour name ways h) s t told now

  -- The calls, whatever the answer: all of some, and the first of those of the next.
  pub record HaveCalled (names : List (List ℕ)) (before : Holding) (s t : State) (told now : List Called) : Type 0 where
    pub done : List (List ℕ)
    pub left : List (List ℕ)
    pub are : names ≡ done ++ left
    pub failed : Option Call
    pub mid : Holding
    pub m : State
    pub between : List Called
    pub removed : HaveBeenRemoved done failed before mid s m told between
    pub called : HasCalledNext left mid m t between now

-- a place that is aside of each of these packages
abbrev pub IsAsideOfAll : List Path → Path → Type 0
IsAsideOfAll names q = AllByRecursion (λ name. IsAside name q) names
