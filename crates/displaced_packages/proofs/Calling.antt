-- The calls for what is displaced are those of the host's own list.
use Rattle.std.proofs.Common.{◌≡◌, inl, inr, ℕ, List, [], ◌∷◌, Option, None, refl, sym, ap, ◌∙◌}
use Rattle.undo_rows.proofs.Tellings.{begun_calls, made_calls}
use Rattle.conflict_removal.specs.Removals.{HasCalledNext as HasCalledNextRemoval, HaveBeenRemoved, HaveCalled as HaveCalledRemoving, IsRemovedOrGone}
use Rattle.disappearance.specs.Runs.{HasCalledNext, HaveCalled as HaveCalledDisappearing, HaveDisappeared}
use Rattle.disappearance.specs.Units.{HasCalledOne, IsDecided}
use Rattle.disappearance.specs.declared.losing.Losing.{Losing}
use Rattle.diversions.specs.Ways.{Ways}
use Rattle.host_core.specs.Events.{calls_of}
use Rattle.host_core.specs.Host.{Silent, State, calls}
use Rattle.host_core.proofs.Scripts.{calls_of-scripts}
use Rattle.host_core.specs.declared.call.Call.{Call}
use Rattle.removal_engine.specs.Units.{Given, HasCalled as HasCalledRemoval, given}
use Rattle.removal_engine.specs.declared.extent.Extent.TheVariants.{InFavour}
use Rattle.unit_stages.proofs.RunLaws.{run_made}
use Rattle.unit_stages.specs.Calls.{AreCallsOf, MayRunStages}
use Rattle.unit_stages.specs.Holding.{Holding}
use Rattle.unit_stages.specs.Runs.{HaveRun}
use Rattle.unit_stages.specs.declared.stage.Stage.{Stage}
use Rattle.undo_rows.proofs.Makes.{tells_none, tells_then}
use Rattle.undo_rows.specs.Transcript.{TellsAll}
use Rattle.undo_rows.specs.declared.rows.Called.{Called}
use Rattle.displaced_packages.specs.Displacing.{HasCalled, HasCalledFirst}

silent_tells : (s t : State) (told now : List Called) → Silent s t → now ≡ told → TellsAll s t told now
silent_tells s t told now silent same = tells_none s t told now (sym (calls_of-scripts t.events) ∙ ap calls_of silent.scripts ∙ calls_of-scripts s.events) same

run_tells : (name : List ℕ) (ways : Ways) (stages : List Stage) (failed : Option Call) (before after : Holding) (s t : State) (told now : List Called) → HaveRun name ways stages failed before after s t told now → TellsAll s t told now
run_tells name ways stages failed before after s t told now run =
    let made = made_calls (AreCallsOf stages failed) s t told now (run_made name ways stages failed before after s t told now run) in
    (made.0, made.1, made.2.1)

removal_tells : (g : Given) (s t : State) (told now : List Called) → HasCalledRemoval g s t told now → TellsAll s t told now
removal_tells g s t told now (HasCalledRemoval.unplanned silent same) = silent_tells s t told now silent same
removal_tells g s t told now (HasCalledRemoval.planned stages plan begun) = let made = begun_calls (MayRunStages stages) s t told now begun in (made.0, made.2, made.3.1)

-- those that are removed

module _ (ways : Ways) where
  removed_tells : (name : List ℕ) (failed : Option Call) (before after : Holding) (s t : State) (told now : List Called) → IsRemovedOrGone ways name failed before after s t told now → TellsAll s t told now
  removed_tells name failed before after s t told now (IsRemovedOrGone.removed is ended order) = run_tells name ways is.stages failed before after s t told now is.run
  removed_tells name failed before after s t told now (IsRemovedOrGone.passed gone none held same silent) = tells_none s t told now (ap calls same) silent

  removals_tell : (names : List (List ℕ)) (failed : Option Call) (before after : Holding) (s t : State) (told now : List Called) → HaveBeenRemoved ways names failed before after s t told now → TellsAll s t told now
  removals_tell [] failed before after s t told now none = tells_none s t told now (ap calls none.2) none.3
  removals_tell (name ∷ names) failed before after s t told now some =
      tells_then s some.3 t told some.4 now (removed_tells name some.0 before some.2 s some.3 told some.4 some.6) (removals_tell names some.1 some.2 after some.3 t some.4 now some.7)

  next_removal_tells : (left : List (List ℕ)) (h : Holding) (s t : State) (told now : List Called) → HasCalledNextRemoval ways left h s t told now → TellsAll s t told now
  next_removal_tells [] h s t told now none = silent_tells s t told now none.0 none.1
  next_removal_tells (name ∷ left) h s t told now called = removal_tells (given InFavour name ways h) s t told now called

  removing_tells : (names : List (List ℕ)) (before : Holding) (s t : State) (told now : List Called) → HaveCalledRemoving ways names before s t told now → TellsAll s t told now
  removing_tells names before s t told now is =
      tells_then s is.m t told is.between now (removals_tell is.done is.failed before is.mid s is.m told is.between is.removed) (next_removal_tells is.left is.mid is.m t is.between now is.called)

-- those that disappear

module _ (incoming version : List ℕ) (ways : Ways) where
  decided_tells : (l : Losing) (names : List (List ℕ)) (failed : Option Call) (before after : Holding) (s t : State) (told now : List Called) → IsDecided incoming version ways l names failed before after s t told now → TellsAll s t told now
  decided_tells l names failed before after s t told now (IsDecided.disappeared named is) =
      tells_then s is.run.mid t told now now
      (run_tells l.name ways is.call failed before before s is.run.mid told now is.run.called)
      (run_tells l.name ways is.gone None before after is.run.mid t now now is.run.taken)
  decided_tells l names failed before after s t told now (IsDecided.stayed named none is) = silent_tells s t told now is.silent is.untold

  disappeared_tells : (losing : List Losing) (names : List (List ℕ)) (failed : Option Call) (before after : Holding) (s t : State) (told now : List Called) → HaveDisappeared incoming version ways losing names failed before after s t told now → TellsAll s t told now
  disappeared_tells [] names failed before after s t told now none = tells_none s t told now (ap calls none.3) none.4
  disappeared_tells (l ∷ ls) names failed before after s t told now is =
      tells_then s is.m t told is.between now
      (decided_tells l is.own is.first before is.mid s is.m told is.between is.decided)
      (disappeared_tells ls is.more is.next is.mid after is.m t is.between now is.further)

  one_tells : (l : Losing) (h : Holding) (s t : State) (told now : List Called) → HasCalledOne incoming version ways l h s t told now → TellsAll s t told now
  one_tells l h s t told now (HasCalledOne.uncalled silent same) = silent_tells s t told now silent same
  one_tells l h s t told now (HasCalledOne.called call gone goes plan begun) = let made = begun_calls (MayRunStages call) s t told now begun in (made.0, made.2, made.3.1)

  next_tells : (left : List Losing) (h : Holding) (s t : State) (told now : List Called) → HasCalledNext incoming version ways left h s t told now → TellsAll s t told now
  next_tells [] h s t told now none = silent_tells s t told now none.0 none.1
  next_tells (l ∷ ls) h s t told now called = one_tells l h s t told now called

  disappearing_tells : (losing : List Losing) (before : Holding) (s t : State) (told now : List Called) → HaveCalledDisappearing incoming version ways losing before s t told now → TellsAll s t told now
  disappearing_tells losing before s t told now is =
      tells_then s is.m t told is.between now (disappeared_tells is.done is.names is.failed before is.mid s is.m told is.between is.disappeared) (next_tells is.left is.mid is.m t is.between now is.called)

  module _ (losing : List Losing) (conflicting : List (List ℕ)) (before : Holding) where
    first_tells : (s t : State) (told now : List Called) → HasCalledFirst incoming version ways losing conflicting before s t told now → TellsAll s t told now
    first_tells s t told now (inl called) = disappearing_tells losing before s t told now called
    first_tells s t told now (inr behind) =
        tells_then s behind.m t told behind.between now
        (disappeared_tells losing behind.gone behind.lost before behind.mid s behind.m told behind.between behind.disappeared)
        (removing_tells ways conflicting behind.mid behind.m t behind.between now behind.called)

    pub displacing_tells : (s t : State) (told now : List Called) → HasCalled incoming version ways losing conflicting before s t told now → TellsAll s t told now
    displacing_tells s t told now is = tells_then s is.m t told now now (first_tells s is.m told now is.called) (silent_tells is.m t now now is.silent refl)
