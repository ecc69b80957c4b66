-- What stages leave alone: the places of the administration that are none of the records' and none of the package's own.
use Rattle.std.proofs.Common.{◌≡◌, inl, inr, IsTrue, ℕ, Bool, true, List, [], ◌∷◌, ◌++◌, Option, ap, subst, ◌∙◌}
use Rattle.host_core.specs.Paths.{Path, is_own}
use Rattle.host_core.specs.World.{World}
use Rattle.host_core.specs.Events.{Event, IsDeniedIn, Ran, changes_of}
use Rattle.host_core.specs.Host.{State, Calls, OnlyScripts, WasDenied, finished}
use Rattle.host_core.proofs.Scripts.{changed_kept, only_kept}
use Rattle.host_core.specs.declared.call.Call.{Call}
use Rattle.undo_rows.specs.declared.rows.Called.{Called}
use Rattle.undo_rows.specs.declared.rows.Owner.{Owner}
use Rattle.undo_rows.specs.declared.rows.Row.{Row}
use Rattle.diversions.specs.Ways.{Ways}
use Rattle.file_lists.specs.Owners.{places_in}
use Rattle.status_records.specs.declared.record.Record.{Record}
use Rattle.unit_stages.specs.Aside.{IsAside}
use Rattle.unit_stages.specs.PartFitting.{AreFit}
use Rattle.unit_stages.specs.declared.part.Part.{Part}
use Rattle.unit_stages.specs.Fitting.{AreStagesFit, IsStageFit}
use Rattle.unit_stages.specs.Holding.{Holding, after_parts, after_stages}
use Rattle.unit_stages.specs.Running.{ArePast, AreRunning, IsCalling, IsInNext, IsInStage}
use Rattle.unit_stages.specs.Runs.{HasFallen, HasPassed, HasRestored, HasUndone, HaveRun, kept_by}
use Rattle.unit_stages.specs.declared.stage.Stage.{Stage}
use Rattle.unit_stages.proofs.Keeping.{kept_own}
use Rattle.unit_stages.proofs.PartKeeping.{parts_keep, parts_keep_amid}
use Rattle.unit_stages.proofs.RunLaws.{follow_finished, run_later, undone_later}
use Rattle.unit_stages.proofs.RunMoments.{stage_fits}

calls_aside : (kept : Path → Bool) (ts : List Ran) (a b : State) (q : Path) → Calls kept ts a b → IsTrue b.honest → kept q ≡ true → b.world q ≡ a.world q
calls_aside kept ts a b q made honest is = ap (λ (w : World). w q) (made.goes.world ∙ follow_finished ts a.world) ∙ changed_kept kept (changes_of (finished ts)) a.world (made.avoids honest) q is

module _ (name : List ℕ) (q : Path) (own : is_own q ≡ true) (aside : IsAside name q) (ways : Ways) where
  kept_at : (h : Holding) → kept_by ways h q ≡ true
  kept_at h = kept_own (places_in ways h.lists) q own

  passed_aside : (stage : Stage) (h : Holding) (s t : State) (told now : List Called) → HasPassed name ways stage h s t told now → IsStageFit name stage h.records h.lists → IsTrue t.honest → t.world q ≡ s.world q
  passed_aside stage h s t told now passed fit honest =
      let made = passed.calls.1 in
      calls_aside (kept_by ways (after_parts name stage.parts.items h)) passed.calls.0 passed.ready t q made honest (kept_at (after_parts name stage.parts.items h))
      ∙ parts_keep name q aside (WasDenied s passed.ready) stage.parts.items h.records h.lists s.world passed.ready.world fit.parts (passed.parts.done (made.goes.honest honest))

  restored_aside : (owners : List Owner) (restore : List Part) (before after : Holding) (s t : State) → HasRestored name ways owners restore before after s t → AreFit name restore before.records before.lists → IsTrue t.honest → t.world q ≡ s.world q
  restored_aside owners restore before after s t (HasRestored.restored none does is) fit honest = parts_keep name q aside (WasDenied s t) restore before.records before.lists s.world t.world fit (does.done honest)
  restored_aside owners restore before after s t (HasRestored.left some same is) fit honest = ap (λ (x : State). x.world q) same

  restored_falls : (owners : List Owner) (restore : List Part) (before after : Holding) (s t : State) → HasRestored name ways owners restore before after s t → IsTrue t.honest → IsTrue s.honest
  restored_falls owners restore before after s t (HasRestored.restored none does is) honest = does.silent.honest honest
  restored_falls owners restore before after s t (HasRestored.left some same is) honest = subst (λ (x : State). IsTrue x.honest) same honest

  undone_aside : (row : Row) (restore : List Part) (before after : Holding) (s t : State) (told now : List Called) → HasUndone name ways row restore before after s t told now → AreFit name restore before.records before.lists → IsTrue t.honest → t.world q ≡ s.world q
  undone_aside row restore before after s t told now undone fit honest =
      restored_aside undone.owners restore before after undone.undone t undone.restored fit honest
      ∙ calls_aside (kept_by ways before) undone.undo.0 s undone.undone q undone.undo.1 (restored_falls undone.owners restore before after undone.undone t undone.restored honest) (kept_at before)

  fallen_aside : (row : Row) (restore : List Part) (failed : Option Call) (before after : Holding) (s t : State) (told now : List Called) → HasFallen name ways row restore failed before after s t told now
      → AreFit name restore before.records before.lists → IsTrue t.honest → t.world q ≡ s.world q
  fallen_aside row restore failed before after s t told now fell fit honest =
      undone_aside row restore before after fell.tried t fell.so_far now fell.undo fit honest
      ∙ calls_aside (kept_by ways before) fell.calls.0 s fell.tried q fell.calls.1 ((undone_later name ways row restore before after fell.tried t fell.so_far now fell.undo).honest honest) (kept_at before)

  -- in the end
  pub run_aside : (stages : List Stage) (failed : Option Call) (before after : Holding) (s t : State) (told now : List Called) → HaveRun name ways stages failed before after s t told now
      → AreStagesFit name stages before.records before.lists → IsTrue t.honest → t.world q ≡ s.world q
  run_aside [] failed before after s t told now run fit honest = ap (λ (x : State). x.world q) run.2
  run_aside (stage ∷ stages) failed before after s t told now (inl passed) fit honest =
      let rest = after_parts name stage.parts.items before in
      run_aside stages failed rest after passed.mid t passed.more now passed.further fit.1 honest
      ∙ passed_aside stage before s passed.mid told passed.more passed.passed fit.0 ((run_later name ways stages failed rest after passed.mid t passed.more now passed.further).honest honest)
  run_aside (stage ∷ stages) failed before after s t told now (inr failing) fit honest =
      let fell = failing.fell in
      let g = after_parts name stage.parts.items before in
      let tried = (undone_later name ways stage.row stage.restore.items g after fell.tried t fell.so_far now fell.undo).honest honest in
      fallen_aside stage.row stage.restore.items failed g after failing.ready t told now fell fit.0.restore honest
      ∙ parts_keep name q aside (WasDenied s failing.ready) stage.parts.items before.records before.lists s.world failing.ready.world fit.0.parts (failing.parts.done (fell.calls.1.goes.honest tried))

  -- at each moment

  scripts_aside : (h : Holding) (old now : World) (so_far : List Event) → OnlyScripts (kept_by ways h) old so_far now → now q ≡ old q
  scripts_aside h old now so_far only = only_kept (kept_by ways h) old now so_far only q (kept_at h)

  past_aside : (stages : List Stage) (h : Holding) (old : World) (so_far : List Event) (now : World) → ArePast name ways stages h old so_far now → AreStagesFit name stages h.records h.lists → now q ≡ old q
  past_aside [] h old so_far now past fit = ap (λ (w : World). w q) past.1
  past_aside (stage ∷ stages) h old so_far now past fit =
      let one = past.past in
      past_aside stages (after_parts name stage.parts.items h) past.mid past.more now past.further fit.1
      ∙ scripts_aside (after_parts name stage.parts.items h) one.ready past.mid one.calls one.scripts
      ∙ parts_keep name q aside (IsDeniedIn one.before) stage.parts.items h.records h.lists old one.ready fit.0.parts one.done

  calling_aside : (restore : List Part) (h : Holding) (old : World) (so_far : List Event) (now : World) (table : List Record) → IsCalling name ways restore h old so_far now table → AreFit name restore h.records h.lists → now q ≡ old q
  calling_aside restore h old so_far now table (IsCalling.calling scripts is) fit = scripts_aside h old now so_far scripts
  calling_aside restore h old so_far now table (IsCalling.restoring calls after called are scripts quiet doing noted) fit =
      parts_keep_amid name q aside (IsDeniedIn after) restore h.records h.lists called now fit doing ∙ scripts_aside h old called calls scripts

  stage_aside : (stage : Stage) (h : Holding) (old : World) (so_far : List Event) (now : World) (table : List Record) → IsInStage name ways stage h old so_far now table → IsStageFit name stage h.records h.lists → now q ≡ old q
  stage_aside stage h old so_far now table (IsInStage.doing quiet doing noted) fit = parts_keep_amid name q aside (IsDeniedIn so_far) stage.parts.items h.records h.lists old now fit.parts doing
  stage_aside stage h old so_far now table (IsInStage.behind before since ready are quiet done called) fit =
      calling_aside stage.restore.items (after_parts name stage.parts.items h) ready since now table called fit.restore
      ∙ parts_keep name q aside (IsDeniedIn before) stage.parts.items h.records h.lists old ready fit.parts done

  next_aside : (front back : List Stage) (h : Holding) (old : World) (so_far : List Event) (now : World) (table : List Record) → IsInNext name ways back (after_stages name front h) old so_far now table
      → AreStagesFit name (front ++ back) h.records h.lists → now q ≡ old q
  next_aside front back h old so_far now table (IsInNext.between none same is) fit = ap (λ (w : World). w q) same
  next_aside front back h old so_far now table (IsInNext.inside stage rest is amid) fit =
      stage_aside stage (after_stages name front h) old so_far now table amid
      (stage_fits name front rest stage h (subst (λ (l : List Stage). AreStagesFit name (front ++ l) h.records h.lists) is fit))

  front_fits : (front back : List Stage) (h : Holding) → AreStagesFit name (front ++ back) h.records h.lists → AreStagesFit name front h.records h.lists
  front_fits [] back h fit = tt
  front_fits (stage ∷ front) back h fit = (fit.0, front_fits front back (after_parts name stage.parts.items h) fit.1)

  pub running_aside : (stages : List Stage) (h : Holding) (old : World) (so_far : List Event) (now : World) → AreRunning name ways stages h old so_far now → AreStagesFit name stages h.records h.lists → now q ≡ old q
  running_aside stages h old so_far now running fit =
      let parted = subst (λ (l : List Stage). AreStagesFit name l h.records h.lists) running.are fit in
      next_aside running.front running.back h running.reached running.since now running.table running.next parted
      ∙ past_aside running.front h old running.before running.reached running.past (front_fits running.front running.back h parted)
