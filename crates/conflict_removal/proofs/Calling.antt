-- The calls of removals are those of the host's own list.
use Rattle.std.proofs.Common.{◌≡◌, ◌++◌, ℕ, List, [], ◌∷◌, Option, sym, ap, ◌∙◌}
use Rattle.undo_rows.specs.Telling.{Begun}
use Rattle.host_core.specs.Events.{Ran, calls_of}
use Rattle.host_core.specs.Host.{Silent, State, calls}
use Rattle.host_core.proofs.Scripts.{calls_of-scripts}
use Rattle.host_core.specs.declared.call.Call.{Call}
use Rattle.diversions.specs.Ways.{Ways}
use Rattle.removal_engine.specs.Units.{Given, HasCalled, given}
use Rattle.removal_engine.specs.declared.extent.Extent.TheVariants.{InFavour}
use Rattle.unit_stages.specs.Calls.{AreCallsOf, MayRunStages}
use Rattle.unit_stages.specs.Holding.{Holding}
use Rattle.unit_stages.specs.Runs.{HaveRun}
use Rattle.unit_stages.specs.declared.stage.Stage.{Stage}
use Rattle.undo_rows.proofs.Makes.{tells_none, tells_then}
use Rattle.undo_rows.specs.Transcript.{Tells, TellsAll}
use Rattle.undo_rows.specs.declared.rows.Called.{Called}
use Rattle.conflict_removal.specs.Removals.{HasCalledNext, HaveBeenRemoved, HaveCalled, IsRemovedOrGone}

-- the laws of stages
abbrev pub StagesTell : Type 0
StagesTell =
    (name : List ℕ) (ways : Ways) (stages : List Stage) (failed : Option Call) (before after : Holding) (s t : State) (told now : List Called) → HaveRun name ways stages failed before after s t told now
    → (ts : List Ran) × (calls t ≡ calls s ++ ts) × (AreCallsOf stages failed ts × Tells ts told now)

abbrev pub StagesTellFirst : Type 0
StagesTellFirst =
    (stages : List Stage) (a b : State) (told now : List Called) → Begun (MayRunStages stages) a b told now → (ts more : List Ran) × (calls b ≡ calls a ++ ts) × (MayRunStages stages (ts ++ more) × Tells ts told now)

-- no call has ended
silent_tells : (s t : State) (told now : List Called) → Silent s t → now ≡ told → TellsAll s t told now
silent_tells s t told now silent same = tells_none s t told now (sym (calls_of-scripts t.events) ∙ ap calls_of silent.scripts ∙ calls_of-scripts s.events) same

module _ (ways : Ways) (tell : StagesTell) where
  one_tells : (name : List ℕ) (failed : Option Call) (before after : Holding) (s t : State) (told now : List Called) → IsRemovedOrGone ways name failed before after s t told now → TellsAll s t told now
  one_tells name failed before after s t told now (IsRemovedOrGone.removed is ended order) =
      let made = tell name ways is.stages failed before after s t told now is.run in
      (made.0, made.1, made.2.1)
  one_tells name failed before after s t told now (IsRemovedOrGone.passed gone none held same silent) = tells_none s t told now (ap calls same) silent

  pub removed_tells : (names : List (List ℕ)) (failed : Option Call) (before after : Holding) (s t : State) (told now : List Called) → HaveBeenRemoved ways names failed before after s t told now → TellsAll s t told now
  removed_tells [] failed before after s t told now none = tells_none s t told now (ap calls none.2) none.3
  removed_tells (name ∷ names) failed before after s t told now some =
      tells_then s some.3 t told some.4 now (one_tells name some.0 before some.2 s some.3 told some.4 some.6) (removed_tells names some.1 some.2 after some.3 t some.4 now some.7)

  module _ (first : StagesTellFirst) where
    unit_tells : (g : Given) (s t : State) (told now : List Called) → HasCalled g s t told now → TellsAll s t told now
    unit_tells g s t told now (HasCalled.unplanned silent same) = silent_tells s t told now silent same
    unit_tells g s t told now (HasCalled.planned stages plan begun) = let made = first stages s t told now begun in (made.0, made.2, made.3.1)

    next_tells : (left : List (List ℕ)) (h : Holding) (s t : State) (told now : List Called) → HasCalledNext ways left h s t told now → TellsAll s t told now
    next_tells [] h s t told now none = silent_tells s t told now none.0 none.1
    next_tells (name ∷ left) h s t told now called = unit_tells (given InFavour name ways h) s t told now called

    pub called_tells : (names : List (List ℕ)) (before : Holding) (s t : State) (told now : List Called) → HaveCalled ways names before s t told now → TellsAll s t told now
    called_tells names before s t told now is =
        tells_then s is.m t told is.between now (removed_tells is.done is.failed before is.mid s is.m told is.between is.removed) (next_tells is.left is.mid is.m t is.between now is.called)
