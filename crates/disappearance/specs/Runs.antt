-- The packages that an unpack leaves nothing of, one after another (Policy 6.6).
use Rattle.std.specs.Prelude.{◌≡◌, ℕ, IsTrue, List, [], ◌∷◌, ◌++◌, Contains, Option, Some, None}
use Rattle.std.specs.List.{AllByRecursion}
use Rattle.host_core.specs.Paths.{Path}
use Rattle.host_core.specs.Events.{Event, scripts_of}
use Rattle.host_core.specs.Host.{Silent, State}
use Rattle.host_core.specs.World.{World}
use Rattle.host_core.specs.declared.call.Call.{Call}
use Rattle.diversions.specs.Ways.{Ways}
use Rattle.status_records.specs.Records.{record_in}
use Rattle.status_records.specs.declared.record.Record.{Record}
use Rattle.unit_stages.specs.Aside.{IsAside}
use Rattle.unit_stages.specs.Holding.{Holding}
use Rattle.undo_rows.specs.declared.rows.Called.{Called}
use Rattle.disappearance.specs.Units.{CanBeOpened, HasCalledOne, IsAmidOne, IsDecided}
use Rattle.disappearance.specs.declared.losing.Losing.{Losing}

-- the first call that failed
abbrev pub first_failed : Option Call → Option Call → Option Call
first_failed None other = other
first_failed (Some call) other = Some call

-- those that disappeared have no record any more; all others have that of before
pub record AreLeft (names : List (List ℕ)) (before after : List Record) : Type 0 where
  pub gone : (q : List ℕ) → Contains names q → record_in after q ≡ None
  pub others : (q : List ℕ) → (Contains names q → ⊥) → record_in after q ≡ record_in before q

-- a place that is aside of each of these packages
abbrev pub IsAsideOfAll : List Losing → Path → Type 0
IsAsideOfAll losing q = AllByRecursion (λ l. IsAside l.name q) losing

module _ (incoming version : List ℕ) (ways : Ways) where
  -- one is decided, and then this
  pub record IsDecidedAnd (l : Losing) (rest : List (List ℕ) → Option Call → Holding → State → List Called → Type 0) (names : List (List ℕ)) (failed : Option Call) (before : Holding) (s : State) (told : List Called) : Type 0 where
    pub own : List (List ℕ)
    pub more : List (List ℕ)
    pub are : names ≡ own ++ more
    pub first : Option Call
    pub next : Option Call
    pub failed_is : failed ≡ first_failed first next
    pub mid : Holding
    pub m : State
    pub between : List Called
    pub decided : IsDecided incoming version ways l own first before mid s m told between
    pub further : rest more next mid m between

  -- each of these in this order, by what those before it left: the names of those that disappeared, and the first call that failed
  abbrev pub HaveDisappeared : List Losing → List (List ℕ) → Option Call → Holding → Holding → State → State → List Called → List Called → Type 0
  HaveDisappeared [] names failed before after s t told now = (names ≡ []) × (failed ≡ None) × (after ≡ before) × (t ≡ s) × (now ≡ told)
  HaveDisappeared (l ∷ ls) names failed before after s t told now =
      IsDecidedAnd l (λ more next mid m between. HaveDisappeared ls more next mid after m t between now) names failed before s told

  -- nothing more is done, or the next is under way
  abbrev pub IsAmidNext : List Losing → Holding → State → List Event → World → Type 0
  IsAmidNext [] h s so_far now = (now ≡ s.world) × (scripts_of so_far ≡ [])
  IsAmidNext (l ∷ ls) h s so_far now = IsAmidOne incoming version ways l h s so_far now

  -- At each moment: some are done, and the next is under way; the next opening finds records.
  pub record IsAmidDisappearances (losing : List Losing) (before : Holding) (s : State) (so_far : List Event) (now : World) : Type 0 where
    pub done : List Losing
    pub left : List Losing
    pub are : losing ≡ done ++ left
    pub names : List (List ℕ)
    pub failed : Option Call
    pub mid : Holding
    pub m : State
    pub told : List Called
    pub between : List Called
    pub disappeared : HaveDisappeared done names failed before mid s m told between
    pub honest : IsTrue m.honest
    pub front : List Event
    pub rest : List Event
    pub split : so_far ≡ front ++ rest
    pub events : m.events ≡ s.events ++ front
    pub next : IsAmidNext left mid m rest now
    pub opens : CanBeOpened now

  -- the calls of the next, or none
  abbrev pub HasCalledNext : List Losing → Holding → State → State → List Called → List Called → Type 0
  HasCalledNext [] h s t told now = Silent s t × (now ≡ told)
  HasCalledNext (l ∷ ls) h s t told now = HasCalledOne incoming version ways l h s t told now

  -- the calls, whatever the answer: all of some, and the first of those of the next
  pub record HaveCalled (losing : List Losing) (before : Holding) (s t : State) (told now : List Called) : Type 0 where
    pub done : List Losing
    pub left : List Losing
    pub are : losing ≡ done ++ left
    pub names : List (List ℕ)
    pub failed : Option Call
    pub mid : Holding
    pub m : State
    pub between : List Called
    pub disappeared : HaveDisappeared done names failed before mid s m told between
    pub called : HasCalledNext left mid m t between now
