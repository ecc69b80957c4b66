-- Stages of a unit, in the end and at each moment.
use Rattle.std.proofs.Common.{◌≡◌, inl, inr, IsTrue, ℕ, true, List, [], ◌∷◌, ◌++◌, Option, Contains, sym, ap, subst, ◌∙◌}
use Rattle.std.specs.List.{AllByRecursion}
use Rattle.texts.specs.PackageNames.{is_package_name}
use Rattle.host_core.specs.Events.{Event, IsDeniedIn, Ran}
use Rattle.host_core.specs.Host.{Calls, State, WasDenied, finished}
use Rattle.host_core.specs.Paths.{Path}
use Rattle.host_core.specs.World.{World}
use Rattle.host_core.specs.declared.call.Call.{Call}
use Rattle.diversions.specs.Ways.{Ways}
use Rattle.file_lists.specs.Owners.{places_in}
use Rattle.status_records.specs.declared.record.Record.{Record}
use Rattle.unit_stages.specs.declared.part.Part.{Part}
use Rattle.unit_stages.proofs.RunLaws.{follow_finished, run_later}
use Rattle.unit_stages.specs.Holding.{Holding, after_parts, after_stages}
use Rattle.unit_stages.specs.Running.{ArePast, AreRunning, IsCalling, IsInNext, IsInStage, IsNotedBy}
use Rattle.unit_stages.specs.Runs.{HasFailed, HasPassed, HasRestored, HaveRun, kept_by}
use Rattle.unit_stages.specs.declared.stage.Stage.{Stage}
use Rattle.undo_rows.specs.declared.rows.Called.{Called}
use Rattle.undo_rows.specs.declared.rows.Owner.{Owner}
use Rattle.reopening.proofs.Parts.{AreOf, AreSafeParts, IsCalm, calm_scripts, calm_still, calm_then, front_safe, parts_doing, parts_done, parts_of}

pub record IsSafeStage (name : Path) (stage : Stage) : Type 0 where
  pub parts : AreSafeParts name stage.parts.items
  pub restore : AreSafeParts name stage.restore.items

abbrev pub AreSafeStages : Path → List Stage → Type 0
AreSafeStages name stages = AllByRecursion (IsSafeStage name) stages

stages_split : (name : Path) (front back : List Stage) → AreSafeStages name (front ++ back) → AreSafeStages name front × AreSafeStages name back
stages_split name [] back safe = (tt, safe)
stages_split name (stage ∷ front) back safe = (let rest = stages_split name front back safe.1 in ((safe.0, rest.0), rest.1))

module _ (name : Path) (named : is_package_name name ≡ true) (ways : Ways) where
  -- at each moment

  past_calm : (stages : List Stage) (h : Holding) (old : World) (so_far : List Event) (now : World) → AreSafeStages name stages → ArePast name ways stages h old so_far now → IsCalm old now
  past_calm [] h old so_far now safe past = calm_still old now past.1
  past_calm (stage ∷ stages) h old so_far now safe past =
      let one = past.past in
      let g = after_parts name stage.parts.items h in
      calm_then old one.ready now (parts_done name named (IsDeniedIn one.before) stage.parts.items h.records old one.ready safe.0.parts one.done)
      (calm_then one.ready past.mid now (calm_scripts (places_in ways g.lists) one.ready one.calls past.mid one.scripts) (past_calm stages g past.mid past.more now safe.1 past.further))

  calling_calm : (restore : List Part) (h : Holding) (old : World) (so_far : List Event) (now : World) (table : List Record) → AreSafeParts name restore → IsCalling name ways restore h old so_far now table → IsCalm old now
  calling_calm restore h old so_far now table safe (IsCalling.calling scripts is) = calm_scripts (places_in ways h.lists) old so_far now scripts
  calling_calm restore h old so_far now table safe (IsCalling.restoring calls after called are scripts quiet doing noted) =
      calm_then old called now (calm_scripts (places_in ways h.lists) old calls called scripts) (parts_doing name named (IsDeniedIn after) restore h.records called now safe doing)

  stage_calm : (stage : Stage) (h : Holding) (old : World) (so_far : List Event) (now : World) (table : List Record) → IsSafeStage name stage → IsInStage name ways stage h old so_far now table → IsCalm old now
  stage_calm stage h old so_far now table safe (IsInStage.doing quiet doing noted) = parts_doing name named (IsDeniedIn so_far) stage.parts.items h.records old now safe.parts doing
  stage_calm stage h old so_far now table safe (IsInStage.behind before since ready are quiet done called) =
      calm_then old ready now (parts_done name named (IsDeniedIn before) stage.parts.items h.records old ready safe.parts done)
      (calling_calm stage.restore.items (after_parts name stage.parts.items h) ready since now table safe.restore called)

  next_calm : (back : List Stage) (h : Holding) (old : World) (so_far : List Event) (now : World) (table : List Record) → AreSafeStages name back → IsInNext name ways back h old so_far now table → IsCalm old now
  next_calm back h old so_far now table safe (IsInNext.between none same is) = calm_still old now same
  next_calm back h old so_far now table safe (IsInNext.inside stage rest is amid) = stage_calm stage h old so_far now table (subst (AreSafeStages name) is safe).0 amid

  pub running_calm : (stages : List Stage) (h : Holding) (old : World) (so_far : List Event) (now : World) → AreSafeStages name stages → AreRunning name ways stages h old so_far now → IsCalm old now
  running_calm stages h old so_far now safe running =
      let both = stages_split name running.front running.back (subst (AreSafeStages name) running.are safe) in
      calm_then old running.reached now (past_calm running.front h old running.before running.reached both.0 running.past)
      (next_calm running.back (after_stages name running.front h) running.reached running.since now running.table both.1 running.next)

  -- and the records then

  module _ (names : List (List ℕ)) (has : Contains names name) where
    after_of : (stages : List Stage) (h : Holding) → AreSafeStages name stages → AreOf names h.records → AreOf names (after_stages name stages h).records
    after_of [] h safe all = all
    after_of (stage ∷ stages) h safe all = after_of stages (after_parts name stage.parts.items h) safe.1 (parts_of names name has stage.parts.items h.records safe.0.parts all)

    noted_of : (parts : List Part) (rs table : List Record) → AreSafeParts name parts → AreOf names rs → IsNotedBy name parts rs table → AreOf names table
    noted_of parts rs table safe all noted =
        subst (AreOf names) (sym noted.table_is) (parts_of names name has noted.front rs (front_safe name named parts noted.front noted.back noted.are safe) all)

    calling_of : (restore : List Part) (h : Holding) (old : World) (so_far : List Event) (now : World) (table : List Record) → AreSafeParts name restore → AreOf names h.records → IsCalling name ways restore h old so_far now table → AreOf names table
    calling_of restore h old so_far now table safe all (IsCalling.calling scripts is) = subst (AreOf names) (sym is) all
    calling_of restore h old so_far now table safe all (IsCalling.restoring calls after called are scripts quiet doing noted) = noted_of restore h.records table safe all noted

    stage_of : (stage : Stage) (h : Holding) (old : World) (so_far : List Event) (now : World) (table : List Record) → IsSafeStage name stage → AreOf names h.records → IsInStage name ways stage h old so_far now table → AreOf names table
    stage_of stage h old so_far now table safe all (IsInStage.doing quiet doing noted) = noted_of stage.parts.items h.records table safe.parts all noted
    stage_of stage h old so_far now table safe all (IsInStage.behind before since ready are quiet done called) =
        calling_of stage.restore.items (after_parts name stage.parts.items h) ready since now table safe.restore (parts_of names name has stage.parts.items h.records safe.parts all) called

    next_of : (back : List Stage) (h : Holding) (old : World) (so_far : List Event) (now : World) (table : List Record) → AreSafeStages name back → AreOf names h.records → IsInNext name ways back h old so_far now table → AreOf names table
    next_of back h old so_far now table safe all (IsInNext.between none same is) = subst (AreOf names) (sym is) all
    next_of back h old so_far now table safe all (IsInNext.inside stage rest is amid) = stage_of stage h old so_far now table (subst (AreSafeStages name) is safe).0 all amid

    pub running_of : (stages : List Stage) (h : Holding) (old : World) (so_far : List Event) (now : World) → AreSafeStages name stages → AreOf names h.records → (running : AreRunning name ways stages h old so_far now) → AreOf names running.table
    running_of stages h old so_far now safe all running =
        let both = stages_split name running.front running.back (subst (AreSafeStages name) running.are safe) in
        next_of running.back (after_stages name running.front h) running.reached running.since now running.table both.1 (after_of running.front h both.0 all) running.next

  -- in the end

  calls_calm : (h : Holding) (ts : List Ran) (a b : State) → Calls (kept_by ways h) ts a b → IsTrue b.honest → IsCalm a.world b.world
  calls_calm h ts a b made honest =
      calm_scripts (places_in ways h.lists) a.world (finished ts) b.world (record { world = made.goes.world ∙ follow_finished ts a.world; avoids = made.avoids honest })

  restored_falls : (owners : List Owner) (restore : List Part) (before after : Holding) (s t : State) → HasRestored name ways owners restore before after s t → IsTrue t.honest → IsTrue s.honest
  restored_falls owners restore before after s t (HasRestored.restored none does is) honest = does.silent.honest honest
  restored_falls owners restore before after s t (HasRestored.left some same is) honest = subst (λ (x : State). IsTrue x.honest) same honest

  restored_calm : (owners : List Owner) (restore : List Part) (before after : Holding) (s t : State) → AreSafeParts name restore → HasRestored name ways owners restore before after s t → IsTrue t.honest → IsCalm s.world t.world
  restored_calm owners restore before after s t safe (HasRestored.restored none does is) honest = parts_done name named (WasDenied s t) restore before.records s.world t.world safe (does.done honest)
  restored_calm owners restore before after s t safe (HasRestored.left some same is) honest = calm_still s.world t.world (ap (λ (x : State). x.world) same)

  passed_calm : (stage : Stage) (h : Holding) (s t : State) (told now : List Called) → IsSafeStage name stage → HasPassed name ways stage h s t told now → IsTrue t.honest → IsCalm s.world t.world
  passed_calm stage h s t told now safe passed honest =
      let made = passed.calls.1 in
      calm_then s.world passed.ready.world t.world (parts_done name named (WasDenied s passed.ready) stage.parts.items h.records s.world passed.ready.world safe.parts (passed.parts.done (made.goes.honest honest)))
      (calls_calm (after_parts name stage.parts.items h) passed.calls.0 passed.ready t made honest)

  failed_calm : (stage : Stage) (failed : Option Call) (before after : Holding) (s t : State) (told now : List Called) → IsSafeStage name stage → HasFailed name ways stage failed before after s t told now → IsTrue t.honest → IsCalm s.world t.world
  failed_calm stage failed before after s t told now safe is honest =
      let g = after_parts name stage.parts.items before in
      let fell = is.fell in
      let back = fell.undo in
      let undone = restored_falls back.owners stage.restore.items g after back.undone t back.restored honest in
      let tried = back.undo.1.goes.honest undone in
      let ready = fell.calls.1.goes.honest tried in
      calm_then s.world is.ready.world t.world (parts_done name named (WasDenied s is.ready) stage.parts.items before.records s.world is.ready.world safe.parts (is.parts.done ready))
      (calm_then is.ready.world fell.tried.world t.world (calls_calm g fell.calls.0 is.ready fell.tried fell.calls.1 tried)
      (calm_then fell.tried.world back.undone.world t.world (calls_calm g back.undo.0 fell.tried back.undone back.undo.1 undone)
      (restored_calm back.owners stage.restore.items g after back.undone t safe.restore back.restored honest)))

  pub run_calm : (stages : List Stage) (failed : Option Call) (before after : Holding) (s t : State) (told now : List Called) → AreSafeStages name stages → HaveRun name ways stages failed before after s t told now → IsTrue t.honest → IsCalm s.world t.world
  run_calm [] failed before after s t told now safe run honest = calm_still s.world t.world (ap (λ (x : State). x.world) run.2)
  run_calm (stage ∷ stages) failed before after s t told now safe (inl gone) honest =
      let mid = after_parts name stage.parts.items before in
      calm_then s.world gone.mid.world t.world (passed_calm stage before s gone.mid told gone.more safe.0 gone.passed ((run_later name ways stages failed mid after gone.mid t gone.more now gone.further).honest honest))
      (run_calm stages failed mid after gone.mid t gone.more now safe.1 gone.further honest)
  run_calm (stage ∷ stages) failed before after s t told now safe (inr is) honest = failed_calm stage failed before after s t told now safe.0 is honest

  pub run_falls : (stages : List Stage) (failed : Option Call) (before after : Holding) (s t : State) (told now : List Called) → HaveRun name ways stages failed before after s t told now → IsTrue t.honest → IsTrue s.honest
  run_falls stages failed before after s t told now run honest = (run_later name ways stages failed before after s t told now run).honest honest

  module _ (names : List (List ℕ)) (has : Contains names name) where
    restored_of : (owners : List Owner) (restore : List Part) (before after : Holding) (s t : State) → AreSafeParts name restore → HasRestored name ways owners restore before after s t → AreOf names before.records → AreOf names after.records
    restored_of owners restore before after s t safe (HasRestored.restored none does is) all = subst (λ (h : Holding). AreOf names h.records) (sym is) (parts_of names name has restore before.records safe all)
    restored_of owners restore before after s t safe (HasRestored.left some same is) all = subst (λ (h : Holding). AreOf names h.records) (sym is) all

    pub run_of : (stages : List Stage) (failed : Option Call) (before after : Holding) (s t : State) (told now : List Called) → AreSafeStages name stages → HaveRun name ways stages failed before after s t told now → AreOf names before.records → AreOf names after.records
    run_of [] failed before after s t told now safe run all = subst (λ (h : Holding). AreOf names h.records) (sym run.1) all
    run_of (stage ∷ stages) failed before after s t told now safe (inl gone) all =
        run_of stages failed (after_parts name stage.parts.items before) after gone.mid t gone.more now safe.1 gone.further (parts_of names name has stage.parts.items before.records safe.0.parts all)
    run_of (stage ∷ stages) failed before after s t told now safe (inr is) all =
        let back = is.fell.undo in
        restored_of back.owners stage.restore.items (after_parts name stage.parts.items before) after back.undone t safe.0.restore back.restored (parts_of names name has stage.parts.items before.records safe.0.parts all)
