-- What a run of stages leaves as it is in the administration.
use Rattle.std.proofs.Common.{◌≡◌, ◌||◌, inl, inr, true, Bool, IsTrue, List, [], ◌∷◌, ◌++◌, Option, refl, sym, ap, subst, ◌∙◌}
use Rattle.std.specs.List.{AllByRecursion, list_any}
use Rattle.host_core.specs.Paths.{Path, is_named_by, is_own}
use Rattle.host_core.specs.World.{World, Change, Avoids, SameOn, changed, is_kept}
use Rattle.host_core.specs.Events.{Ran, changes_of, follow_all}
use Rattle.host_core.specs.Host.{State, CallsSome, WasDenied, finished}
use Rattle.host_core.proofs.Scripts.{Avoids-front, changed_kept}
use Rattle.host_core.specs.declared.call.Call.{Call}
use Rattle.diversions.specs.Ways.{Ways}
use Rattle.file_lists.specs.declared.paths.PackageList.{PackageList}
use Rattle.status_records.specs.declared.record.Record.{Record}
use Rattle.unit_stages.specs.declared.part.Part.{Part}
use Rattle.unit_stages.specs.Fitting.{AreStagesFit}
use Rattle.unit_stages.specs.Holding.{Holding, after_parts}
use Rattle.unit_stages.specs.Runs.{DoesParts, HasFailed, HasPassed, HasRestored, HaveRun, kept_by}
use Rattle.unit_stages.specs.declared.stage.Stage.{Stage}
use Rattle.undo_rows.specs.declared.rows.Called.{Called}
use Rattle.undo_rows.specs.declared.rows.Owner.{Owner}
use Rattle.dpkg_session.proofs.Keeping.{AreOwn, KeepsOthers, keeps_here, keeps_own, keeps_then, parts_keep, parts_own}

-- scripts keep what is the program's own

avoids_back : (kept : Path → Bool) (a b : Change) → Avoids kept (a ++ b) → Avoids kept b
avoids_back kept [] b all = all
avoids_back kept (e ∷ a) b all = avoids_back kept a b all.1

calls_same : (kept : Path → Bool) (ts : List Ran) (w : World) → Avoids kept (changes_of (finished ts)) → SameOn kept w (follow_all (finished ts) w)
calls_same kept [] w avoids q is = refl
calls_same kept (t ∷ ts) w avoids q is =
    calls_same kept ts (changed t.change w) (avoids_back kept t.change (changes_of (finished ts)) avoids) q is
    ∙ changed_kept kept t.change w (Avoids-front kept t.change (changes_of (finished ts)) avoids) q is

kept_own : (places : List Path) (q : Path) → is_own q ≡ true → is_kept places q ≡ true
kept_own places q own = ap (λ b. b || list_any (is_named_by q) places) own

calls_own : (places : List Path) (P : List Ran → Type 0) (s t : State) → CallsSome (is_kept places) P s t → IsTrue t.honest → SameOn is_own s.world t.world
calls_own places P s t made h q own =
    ap (λ w. w q) made.1.goes.world ∙ calls_same (is_kept places) made.0 s.world (made.1.avoids h) q (kept_own places q own)

-- the parts of a stage are of this package
pub record IsOwnStage (name : Path) (stage : Stage) : Type 0 where
  pub parts : AreOwn name stage.parts.items
  pub restore : AreOwn name stage.restore.items

abbrev pub AreOwnStages : Path → List Stage → Type 0
AreOwnStages name stages = AllByRecursion (IsOwnStage name) stages

-- stages that fit are so
pub stages_own : (name : Path) (stages : List Stage) (rs : List Record) (ls : List PackageList) → AreStagesFit name stages rs ls → AreOwnStages name stages
stages_own name [] rs ls fit = tt
stages_own name (stage ∷ stages) rs ls fit =
    (record { parts = parts_own name stage.parts.items rs ls fit.0.parts; restore = parts_own name stage.restore.items _ _ fit.0.restore }, stages_own name stages _ _ fit.1)

module _ (name : Path) (ways : Ways) where
  calls_keep : (h : Holding) (P : List Ran → Type 0) (s t : State) → CallsSome (kept_by ways h) P s t → IsTrue t.honest → KeepsOthers name s.world t.world
  calls_keep h P s t made honest = keeps_own name s.world t.world (calls_own _ P s t made honest)

  does_keep : (parts : List Part) (h : Holding) (s t : State) → AreOwn name parts → DoesParts name parts h s t → IsTrue t.honest → KeepsOthers name s.world t.world
  does_keep parts h s t fit does honest = parts_keep name (WasDenied s t) parts h.records s.world t.world fit (does.done honest)

  passed_keeps : (stage : Stage) (h : Holding) (s t : State) (told now : List Called) → IsOwnStage name stage → HasPassed name ways stage h s t told now → IsTrue t.honest → KeepsOthers name s.world t.world
  passed_keeps stage h s t told now fit passed honest =
      keeps_then name s.world passed.ready.world t.world
      (does_keep stage.parts.items h s passed.ready fit.parts passed.parts (passed.calls.1.goes.honest honest))
      (calls_keep (after_parts name stage.parts.items h) _ passed.ready t passed.calls honest)

  restored_falls : (owners : List Owner) (restore : List Part) (before after : Holding) (s t : State) → HasRestored name ways owners restore before after s t → IsTrue t.honest → IsTrue s.honest
  restored_falls owners restore before after s t (HasRestored.restored none does is) honest = does.silent.honest honest
  restored_falls owners restore before after s t (HasRestored.left some same is) honest = subst (λ (x : State). IsTrue x.honest) same honest

  restored_keeps : (owners : List Owner) (restore : List Part) (before after : Holding) (s t : State) → AreOwn name restore → HasRestored name ways owners restore before after s t
      → IsTrue t.honest → KeepsOthers name s.world t.world
  restored_keeps owners restore before after s t fit (HasRestored.restored none does is) honest = does_keep restore before s t fit does honest
  restored_keeps owners restore before after s t fit (HasRestored.left some same is) honest = subst (λ (x : State). KeepsOthers name s.world x.world) (sym same) (keeps_here name s.world)

  failed_keeps : (stage : Stage) (failed : Option Call) (before after : Holding) (s t : State) (told now : List Called) → IsOwnStage name stage → HasFailed name ways stage failed before after s t told now
      → IsTrue t.honest → KeepsOthers name s.world t.world
  failed_keeps stage failed before after s t told now fit is honest =
      let mid = after_parts name stage.parts.items before in
      let fell = is.fell in
      let back = fell.undo in
      let undone = restored_falls back.owners stage.restore.items mid after back.undone t back.restored honest in
      let tried = back.undo.1.goes.honest undone in
      let ready = fell.calls.1.goes.honest tried in
      keeps_then name s.world is.ready.world t.world (does_keep stage.parts.items before s is.ready fit.parts is.parts ready)
      (keeps_then name is.ready.world fell.tried.world t.world (calls_keep mid _ is.ready fell.tried fell.calls tried)
      (keeps_then name fell.tried.world back.undone.world t.world (calls_keep mid _ fell.tried back.undone back.undo undone)
      (restored_keeps back.owners stage.restore.items mid after back.undone t fit.restore back.restored honest)))

  -- no lie is forgotten over stages
  pub stages_fall : (stages : List Stage) (failed : Option Call) (before after : Holding) (s t : State) (told now : List Called) → HaveRun name ways stages failed before after s t told now → IsTrue t.honest → IsTrue s.honest
  stages_fall [] failed before after s t told now run h = subst (λ (x : State). IsTrue x.honest) run.2 h
  stages_fall (stage ∷ stages) failed before after s t told now (inl gone) h =
      gone.passed.parts.silent.honest (gone.passed.calls.1.goes.honest (stages_fall stages failed (after_parts name stage.parts.items before) after gone.mid t gone.more now gone.further h))
  stages_fall (stage ∷ stages) failed before after s t told now (inr is) h =
      let back = is.fell.undo in
      is.parts.silent.honest (is.fell.calls.1.goes.honest (back.undo.1.goes.honest (restored_falls back.owners stage.restore.items (after_parts name stage.parts.items before) after back.undone t back.restored h)))

  pub stages_keep : (stages : List Stage) (failed : Option Call) (before after : Holding) (s t : State) (told now : List Called) → AreOwnStages name stages
      → HaveRun name ways stages failed before after s t told now → IsTrue t.honest → KeepsOthers name s.world t.world
  stages_keep [] failed before after s t told now fit run h = subst (λ (x : State). KeepsOthers name s.world x.world) (sym run.2) (keeps_here name s.world)
  stages_keep (stage ∷ stages) failed before after s t told now fit (inl gone) h =
      let mid = after_parts name stage.parts.items before in
      let honest = stages_fall stages failed mid after gone.mid t gone.more now gone.further h in
      keeps_then name s.world gone.mid.world t.world (passed_keeps stage before s gone.mid told gone.more fit.0 gone.passed honest)
      (stages_keep stages failed mid after gone.mid t gone.more now fit.1 gone.further h)
  stages_keep (stage ∷ stages) failed before after s t told now fit (inr is) h = failed_keeps stage failed before after s t told now fit.0 is h
