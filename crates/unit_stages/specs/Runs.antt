-- What a run of stages did, over the states of the host, the records and the lists.
use Rattle.std.specs.Prelude.{◌≡◌, ◌≢◌, ◌⊎◌, ℕ, Bool, true, false, IsTrue, List, [], ◌∷◌, Option, Some, None}
use Rattle.host_core.specs.Paths.{Path}
use Rattle.host_core.specs.World.{is_kept}
use Rattle.host_core.specs.Host.{State, Silent, WasDenied}
use Rattle.host_core.specs.Loss.{IsLater}
use Rattle.host_core.specs.declared.call.Call.{Call}
use Rattle.undo_rows.specs.Transcript.{Makes, Tries, UndoesRow}
use Rattle.undo_rows.specs.declared.rows.Called.{Called}
use Rattle.undo_rows.specs.declared.rows.Owner.{Owner}
use Rattle.undo_rows.specs.declared.rows.Row.{Row}
use Rattle.diversions.specs.Ways.{Ways}
use Rattle.file_lists.specs.Owners.{places_in}
use Rattle.unit_stages.specs.Parts.{HaveDone}
use Rattle.unit_stages.specs.declared.part.Part.{Part}
use Rattle.unit_stages.specs.Holding.{Holding, after_parts}
use Rattle.unit_stages.specs.declared.stage.Stage.{Stage}

-- Parts were done, without a script call. A directory whose removal was declined in between may have stayed.
pub record DoesParts (name : List ℕ) (parts : List Part) (h : Holding) (s t : State) : Type 0 where
  pub silent : Silent s t
  pub later : IsLater s t
  pub done : IsTrue t.honest → HaveDone name (WasDenied s t) parts h.records s.world t.world

-- what scripts leave alone while these lists stand
abbrev pub kept_by : Ways → Holding → Path → Bool
kept_by ways h = is_kept (places_in ways h.lists)

module _ (name : List ℕ) (ways : Ways) where
  -- Where no undo call failed, what was to be done then is done; else nothing is.
  pub data HasRestored (owners : List Owner) (restore : List Part) (before after : Holding) (s t : State) : Type 0 where
    restored : owners ≡ [] → DoesParts name restore before s t → after ≡ after_parts name restore before → HasRestored owners restore before after s t
    left : owners ≢ [] → t ≡ s → after ≡ before → HasRestored owners restore before after s t

  -- The undo of a row was called, and then this was done where it didn't fail.
  pub record HasUndone (row : Row) (restore : List Part) (before after : Holding) (s t : State) (told now : List Called) : Type 0 where
    pub owners : List Owner
    pub undone : State
    pub undo : Makes (kept_by ways before) (λ ts. UndoesRow row [] ts owners) s undone told now
    pub restored : HasRestored owners restore before after undone t

  -- The call of a row failed, and its undo was called.
  pub record HasFallen (row : Row) (restore : List Part) (failed : Option Call) (before after : Holding) (s t : State) (told now : List Called) : Type 0 where
    pub call : Call
    pub answer : failed ≡ Some call
    pub forward : row.forward ≡ Some call
    pub tried : State
    pub so_far : List Called
    pub calls : Makes (kept_by ways before) (λ ts. Tries row ts false) s tried told so_far
    pub undo : HasUndone row restore before after tried t so_far now

  -- The call of a row succeeded, or it has none; or it failed.
  pub data HasCalled (row : Row) (restore : List Part) (failed : Option Call) (before after : Holding) (s t : State) (told now : List Called) : Type 0 where
    succeeded : failed ≡ None → after ≡ before → Makes (kept_by ways before) (λ ts. Tries row ts true) s t told now → HasCalled row restore failed before after s t told now
    fell : HasFallen row restore failed before after s t told now → HasCalled row restore failed before after s t told now

  -- The parts of a stage were done, and then its call succeeded, or it has none.
  pub record HasPassed (stage : Stage) (h : Holding) (s t : State) (told now : List Called) : Type 0 where
    pub ready : State
    pub parts : DoesParts name stage.parts.items h s ready
    pub calls : Makes (kept_by ways (after_parts name stage.parts.items h)) (λ ts. Tries stage.row ts true) ready t told now

  -- The parts of a stage were done, and then its call failed.
  pub record HasFailed (stage : Stage) (failed : Option Call) (before after : Holding) (s t : State) (told now : List Called) : Type 0 where
    pub ready : State
    pub parts : DoesParts name stage.parts.items before s ready
    pub fell : HasFallen stage.row stage.restore.items failed (after_parts name stage.parts.items before) after ready t told now

  -- A stage has passed, and then this.
  pub record HasPassedAnd (stage : Stage) (rest : Holding → State → List Called → Type 0) (h : Holding) (s : State) (told : List Called) : Type 0 where
    pub mid : State
    pub more : List Called
    pub passed : HasPassed stage h s mid told more
    pub further : rest (after_parts name stage.parts.items h) mid more

  -- Stages were run, one after another, up to the one whose call failed, if one did; these records and lists are left.
  abbrev pub HaveRun : List Stage → Option Call → Holding → Holding → State → State → List Called → List Called → Type 0
  HaveRun [] failed before after s t told now = (failed ≡ None) × (after ≡ before) × (t ≡ s) × (now ≡ told)
  HaveRun (stage ∷ stages) failed before after s t told now =
      HasPassedAnd stage (λ h mid more. HaveRun stages failed h after mid t more now) before s told ⊎ HasFailed stage failed before after s t told now
