-- What an unpack displaces once it is committed: first those packages disappear of which nothing is left, and then those that
-- conflict with it are removed (Policy 6.6, 7.4, 7.6.1).
use Rattle.std.specs.Prelude.{◌≡◌, ◌⊎◌, ◌&&◌, ℕ, nat_eq, Bool, IsTrue, List, [], ◌∷◌, ◌++◌, Option, length}
use Rattle.conflict_removal.specs.Removals.{HaveBeenRemoved, HaveCalled as HaveCalledRemoving, IsAmidRemovals, first_failed}
use Rattle.disappearance.specs.Runs.{HaveCalled as HaveCalledDisappearing, HaveDisappeared, IsAmidDisappearances}
use Rattle.disappearance.specs.declared.losing.Losing.{Losing}
use Rattle.diversions.specs.Ways.{Ways}
use Rattle.host_core.specs.Events.{Did, Event, scripts_of}
use Rattle.host_core.specs.Host.{Happens, Silent, State}
use Rattle.host_core.specs.World.{World, Barrier}
use Rattle.host_core.specs.declared.call.Call.{Call}
use Rattle.unit_stages.specs.Holding.{Holding}
use Rattle.undo_rows.specs.declared.rows.Called.{Called}

-- there is no package to displace
abbrev pub is_nothing : List Losing → List (List ℕ) → Bool
is_nothing losing names = nat_eq (length losing) 0 && nat_eq (length names) 0

-- all of it is brought to the disk, where there was any package to displace
abbrev pub IsBroughtToDisk : List Losing → List (List ℕ) → State → State → Type 0
IsBroughtToDisk [] [] s t = t ≡ s
IsBroughtToDisk [] (name ∷ names) s t = Happens (Did Barrier ∷ []) s t
IsBroughtToDisk (one ∷ more) names s t = Happens (Did Barrier ∷ []) s t

-- All conflicting packages were removed that weren't gone already, and their names are told behind those of others.
pub record HaveBeenRemovedBehind (ways : Ways) (conflicting : List (List ℕ)) (gone : List (List ℕ)) (lost : Option Call) (names : List (List ℕ)) (failed : Option Call) (before after : Holding) (s t : State) (told now : List Called) : Type 0 where
  pub later : Option Call
  pub removed : HaveBeenRemoved ways conflicting later before after s t told now
  pub names_are : names ≡ gone ++ conflicting
  pub first : failed ≡ first_failed lost later

-- of the unpack of the package of this name and version, by these diversions
module _ (incoming version : List ℕ) (ways : Ways) where
  -- Those of which nothing is left disappeared, and then all conflicting ones were removed that weren't gone already.
  pub record HaveGone (losing : List Losing) (conflicting names : List (List ℕ)) (failed : Option Call) (before after : Holding) (s t : State) (told now : List Called) : Type 0 where
    pub gone : List (List ℕ)
    pub lost : Option Call
    pub mid : Holding
    pub m : State
    pub between : List Called
    pub disappeared : HaveDisappeared incoming version ways losing gone lost before mid s m told between
    pub removed : HaveBeenRemovedBehind ways conflicting gone lost names failed mid after m t between now

  -- and then it was brought to the disk
  pub record HaveBeenDisplaced (losing : List Losing) (conflicting names : List (List ℕ)) (failed : Option Call) (before after : Holding) (s t : State) (told now : List Called) : Type 0 where
    pub end : State
    pub gone : HaveGone losing conflicting names failed before after s end told now
    pub disk : IsBroughtToDisk losing conflicting end t

  module _ (losing : List Losing) (conflicting : List (List ℕ)) (before : Holding) where
    -- removals are under way behind those that disappeared
    pub record IsAmidRemoving (s : State) (so_far : List Event) (now : World) : Type 0 where
      pub gone : List (List ℕ)
      pub lost : Option Call
      pub mid : Holding
      pub m : State
      pub honest : IsTrue m.honest
      pub told : List Called
      pub between : List Called
      pub disappeared : HaveDisappeared incoming version ways losing gone lost before mid s m told between
      pub front : List Event
      pub rest : List Event
      pub split : so_far ≡ front ++ rest
      pub events : m.events ≡ s.events ++ front
      pub removing : IsAmidRemovals ways conflicting mid m rest now

    abbrev pub AreGoing : State → List Event → World → Type 0
    AreGoing s so_far now = IsAmidDisappearances incoming version ways losing before s so_far now ⊎ IsAmidRemoving s so_far now

    -- at each moment of it; behind that nothing but the disk was called
    pub record IsAmidDisplacing (s : State) (so_far : List Event) (now : World) : Type 0 where
      pub front : List Event
      pub quiet : List Event
      pub split : so_far ≡ front ++ quiet
      pub silent : scripts_of quiet ≡ []
      pub amid : AreGoing s front now

    -- all calls of those that disappear, and the first of the removals
    pub record HasCalledBehind (s t : State) (told now : List Called) : Type 0 where
      pub gone : List (List ℕ)
      pub lost : Option Call
      pub mid : Holding
      pub m : State
      pub between : List Called
      pub disappeared : HaveDisappeared incoming version ways losing gone lost before mid s m told between
      pub called : HaveCalledRemoving ways conflicting mid m t between now

    abbrev pub HasCalledFirst : State → State → List Called → List Called → Type 0
    HasCalledFirst s t told now = HaveCalledDisappearing incoming version ways losing before s t told now ⊎ HasCalledBehind s t told now

    -- the calls, whatever the answer
    pub record HasCalled (s t : State) (told now : List Called) : Type 0 where
      pub m : State
      pub called : HasCalledFirst s m told now
      pub silent : Silent m t
