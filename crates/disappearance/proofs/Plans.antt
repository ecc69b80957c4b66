-- The stages by which a package goes: they fit, the call leaves what is recorded and listed, and behind it nothing is called.
use Rattle.std.proofs.Common.{◌≡◌, inl, inr, IsTrue, ℕ, Bool, true, List, [], ◌∷◌, ◌++◌, Option, Some, None, is_some, map, length, drop, refl, sym, ap, subst, ◌∙◌, arith}
use Rattle.std.specs.List.{AllByRecursion}
use Rattle.std.proofs.lemmas.List.{append-nil}
use Rattle.texts.specs.PackageNames.{is_package_name}
use Rattle.administration.specs.Places.{script_path}
use Rattle.host_core.specs.declared.call.Script.TheVariants.{Postrm}
use Rattle.host_core.specs.Events.{Event, Ran, scripts_of}
use Rattle.host_core.specs.Host.{Silent, State, finished}
use Rattle.host_core.specs.World.{World}
use Rattle.host_core.specs.declared.call.Call.{Call}
use Rattle.undo_rows.specs.Transcript.{Tries, told_of}
use Rattle.undo_rows.specs.declared.rows.Called.{Called}
use Rattle.undo_rows.specs.declared.rows.Owner.{Owner}
use Rattle.undo_rows.specs.declared.rows.Row.{Row}
use Rattle.undo_rows.specs.Telling.{Begun, IsCutShort}
use Rattle.diversions.specs.Ways.{Ways}
use Rattle.file_lists.specs.Owners.{AreListPaths}
use Rattle.removal_engine.proofs.Deeds.{ArePlannedFit, IsStillStage, all_same_records, deeds_records, stages_fit, stages_settleable}
use Rattle.removal_engine.proofs.Tables.{is_named, named, none_listed}
use Rattle.removal_engine.specs.Stages.{Planned, deed, gone_stage, planned, stage_of}
use Rattle.status_records.specs.Records.{drop_record, record_in}
use Rattle.status_records.specs.declared.record.Record.{Record}
use Rattle.unit_stages.specs.declared.part.Part.{Part}
use Rattle.unit_stages.proofs.RunLaws.{run_left, run_made}
use Rattle.unit_stages.specs.Calls.{AreCallsOf, MayRunStages}
use Rattle.unit_stages.specs.Fitting.{AreStagesFit, AreStagesSettleable}
use Rattle.unit_stages.specs.Holding.{Holding, after_parts, after_stages}
use Rattle.unit_stages.specs.Runs.{HasRestored, HaveRun}
use Rattle.unit_stages.specs.declared.stage.Stage.{Stage}
use Rattle.disappearance.specs.Stages.{IsPlan, disappear_row}

-- one stage is planned

abbrev first_of : Planned → List Planned → Planned
first_of d [] = d
first_of d (p ∷ ps) = p

no_stage : (ss : List Stage) → map planned ss ≡ [] → ss ≡ []
no_stage [] e = refl
no_stage (s ∷ ss) e = absurd (omega (arith, ap length e))

no_part : (parts : List Part) → map deed parts ≡ [] → parts ≡ []
no_part [] e = refl
no_part (part ∷ parts) e = absurd (omega (arith, ap length e))

pub nothing_planned : (p : Planned) → ◌≡◌ {A = List Planned} [] (p ∷ []) → ⊥
nothing_planned p e = omega (arith, ap length e)

module _ (s : Stage) (rest : List Stage) (p : Planned) (are : map planned (s ∷ rest) ≡ p ∷ []) where
  one_is : planned s ≡ p
  one_is = ap (first_of p) are

  one_alone : rest ≡ []
  one_alone = no_stage rest (ap (drop 1) are)

-- they fit

pub call_fits : (name : List ℕ) (call : List Stage) (row : Row) (h : Holding) → map planned call ≡ stage_of [] row ∷ [] → AreStagesFit name call h.records h.lists
call_fits name call row h are = stages_fit name call h.records h.lists (subst (λ (ps : List Planned). ArePlannedFit name ps h.records h.lists) (sym are) ((tt, tt), tt))

no_paths : AreListPaths []
no_paths = record { order = tt; room = tt }

pub gone_fits : (name : List ℕ) (gone : List Stage) (r : Record) (h : Holding) → map planned gone ≡ gone_stage r ∷ [] → is_some (record_in h.records name) ≡ true → AreStagesFit name gone h.records h.lists
gone_fits name gone r h are known = stages_fit name gone h.records h.lists (subst (λ (ps : List Planned). ArePlannedFit name ps h.records h.lists) (sym are)
    (((tt, (record { listable = no_paths; known = known }, (none_listed name h.lists, (none_listed name h.lists, tt)))), tt), tt))

pub call_settleable : (call : List Stage) (row : Row) (w : World) → map planned call ≡ stage_of [] row ∷ [] → AreStagesSettleable call w
call_settleable call row w are = stages_settleable call w (subst (AllByRecursion IsStillStage) (sym are) ((tt, tt), tt))

pub gone_settleable : (gone : List Stage) (r : Record) (w : World) → map planned gone ≡ gone_stage r ∷ [] → AreStagesSettleable gone w
gone_settleable gone r w are = stages_settleable gone w (subst (AllByRecursion IsStillStage) (sym are) (((tt, (tt, (tt, (tt, tt)))), tt), tt))

-- the stages of a record are those of its package
module _ (incoming version name : List ℕ) (h : Holding) (w : World) (honest : Bool) (r : Record) (found : record_in h.records name ≡ Some r) (stored : Bool) (call gone : List Stage) where
  own : r.name ≡ name
  own = is_named h.records name r found

  pub plan_is : (IsTrue honest → stored ≡ is_some (w (script_path r.name Postrm))) → map planned call ≡ stage_of [] (disappear_row r.name incoming version stored) ∷ [] → map planned gone ≡ gone_stage r ∷ []
      → IsPlan incoming version name h w honest call gone
  plan_is seen calls goes = record {
    stored = stored;
    seen = λ t. seen t ∙ ap (λ (n : List ℕ). is_some (w (script_path n Postrm))) own;
    stages = record {
      entry = r;
      found = found;
      calls = calls_own;
      goes = goes;
      named = ap is_package_name (sym own) ∙ named r;
      call_fits = call_fits name call (disappear_row name incoming version stored) h calls_own;
      gone_fits = gone_fits name gone r h goes (ap is_some found);
    };
  }
    where
      calls_own : map planned call ≡ stage_of [] (disappear_row name incoming version stored) ∷ []
      calls_own = calls ∙ ap (λ (n : List ℕ). stage_of [] (disappear_row n incoming version stored) ∷ []) own

-- the call leaves all as it was

none_after : (name : List ℕ) (parts : List Part) (h : Holding) → parts ≡ [] → after_parts name parts h ≡ h
none_after name parts h none = ap (λ (ps : List Part). after_parts name ps h) none

restored_same : (name : List ℕ) (ways : Ways) (owners : List Owner) (restore : List Part) (before after : Holding) (s t : State) → restore ≡ [] → HasRestored name ways owners restore before after s t → after ≡ before
restored_same name ways owners restore before after s t none (HasRestored.restored unfailed does is) = is ∙ none_after name restore before none
restored_same name ways owners restore before after s t none (HasRestored.left some same is) = is

run_none : (name : List ℕ) (ways : Ways) (rest : List Stage) (failed : Option Call) (before after : Holding) (s t : State) (told now : List Called) → rest ≡ [] → HaveRun name ways rest failed before after s t told now → after ≡ before
run_none name ways rest failed before after s t told now none run = (subst (λ (ss : List Stage). HaveRun name ways ss failed before after s t told now) none run).1

module _ (name : List ℕ) (ways : Ways) (row : Row) where
  pub call_same : (call : List Stage) (failed : Option Call) (before after : Holding) (s t : State) (told now : List Called) → map planned call ≡ stage_of [] row ∷ [] → HaveRun name ways call failed before after s t told now → after ≡ before
  call_same [] failed before after s t told now are run = absurd (nothing_planned (stage_of [] row) are)
  call_same (stage ∷ rest) failed before after s t told now are (inl passed) =
      let nothing = no_part stage.parts.items (ap (λ (p : Planned). p.parts) (one_is stage rest (stage_of [] row) are)) in
      run_none name ways rest failed (after_parts name stage.parts.items before) after passed.mid t passed.more now (one_alone stage rest (stage_of [] row) are) passed.further
      ∙ none_after name stage.parts.items before nothing
  call_same (stage ∷ rest) failed before after s t told now are (inr failing) =
      let is = one_is stage rest (stage_of [] row) are in
      let nothing = no_part stage.parts.items (ap (λ (p : Planned). p.parts) is) in
      let unrestored = no_part stage.restore.items (ap (λ (p : Planned). p.restore) is) in
      let undo = failing.fell.undo in
      restored_same name ways undo.owners stage.restore.items (after_parts name stage.parts.items before) after undo.undone t unrestored undo.restored
      ∙ none_after name stage.parts.items before nothing

-- behind the call nothing is called

none_some : (call : Call) → None ≡ Some call → ⊥
none_some call e = cc

tries_none : (row : Row) (ts : List Ran) (ok : Bool) → row.forward ≡ None → Tries row ts ok → ts ≡ []
tries_none row ts ok quiet (Tries.absent none) = refl
tries_none row ts ok quiet (Tries.done t is succeeds) = absurd (none_some t.call (sym quiet ∙ is))
tries_none row ts ok quiet (Tries.failed t is fails none) = absurd (none_some t.call (sym quiet ∙ is))
tries_none row ts ok quiet (Tries.fell_back t u same is fails falls ends) = absurd (none_some t.call (sym quiet ∙ is))

pub quiet_calls : (gone : List Stage) (r : Record) (failed : Option Call) (ts : List Ran) → map planned gone ≡ gone_stage r ∷ [] → AreCallsOf gone failed ts → (failed ≡ None) × (ts ≡ [])
quiet_calls [] r failed ts are calls = calls
quiet_calls (stage ∷ rest) r failed ts are (inl passed) =
    let quiet = ap (λ (p : Planned). p.row.forward) (one_is stage rest (gone_stage r) are) in
    let more = subst (λ (ss : List Stage). AreCallsOf ss failed passed.more) (one_alone stage rest (gone_stage r) are) passed.rest in
    (more.0, passed.are ∙ ap (λ (l : List Ran). l ++ passed.more) (tries_none stage.row passed.own true quiet passed.tries) ∙ more.1)
quiet_calls (stage ∷ rest) r failed ts are (inr fails) =
    let quiet = ap (λ (p : Planned). p.row.forward) (one_is stage rest (gone_stage r) are) in
    absurd (none_some fails.call (sym quiet ∙ fails.forward))

module _ (name : List ℕ) (ways : Ways) (gone : List Stage) (r : Record) (are : map planned gone ≡ gone_stage r ∷ []) where
  pub gone_untold : (failed : Option Call) (before after : Holding) (s t : State) (told now : List Called) → HaveRun name ways gone failed before after s t told now → (failed ≡ None) × (now ≡ told)
  gone_untold failed before after s t told now run =
      let made = run_made name ways gone failed before after s t told now run in
      let quiet = quiet_calls gone r failed made.ts are made.has in
      (quiet.0, made.tells ∙ ap (λ (ts : List Ran). told ++ map told_of ts) quiet.1 ∙ append-nil told)

  -- and it doesn't fail
  pub gone_taken : (failed : Option Call) (before after : Holding) (s t : State) (told now : List Called) → HaveRun name ways gone failed before after s t told now → HaveRun name ways gone None before after s t now now
  gone_taken failed before after s t told now run =
      let quiet = gone_untold failed before after s t told now run in
      subst (λ (x : List Called). HaveRun name ways gone None before after s t x now) (sym quiet.1) (subst (λ (o : Option Call). HaveRun name ways gone o before after s t told now) quiet.0 run)

  gone_after : (ss : List Stage) (before : Holding) → map planned ss ≡ gone_stage r ∷ [] → (after_stages name ss before).records ≡ drop_record name before.records
  gone_after [] before is = absurd (nothing_planned (gone_stage r) is)
  gone_after (stage ∷ rest) before is =
      ap (λ (ss : List Stage). (after_stages name ss (after_parts name stage.parts.items before)).records) (one_alone stage rest (gone_stage r) is)
      ∙ all_same_records name stage.parts.items before.records
      ∙ ap (λ (p : Planned). deeds_records name p.parts before.records) (one_is stage rest (gone_stage r) is)

  -- and the record is gone
  pub gone_records : (before after : Holding) (s t : State) (told now : List Called) → HaveRun name ways gone None before after s t told now → after.records ≡ drop_record name before.records
  gone_records before after s t told now run =
      ap (λ (h : Holding). h.records) (run_left name ways gone None before after s t told now run) ∙ gone_after gone before are

  no_next : (more : List Ran) (cut : List Event) → more ≡ [] → IsCutShort more cut → cut ≡ []
  no_next more cut none (inl is) = is
  no_next more cut none (inr is) = absurd (omega (arith, ap length (sym none ∙ is.2.2)))

  front_none : (ts more : List Ran) → ts ++ more ≡ [] → (ts ≡ []) × (more ≡ [])
  front_none [] more e = (refl, e)
  front_none (t ∷ ts) more e = absurd (omega (arith, ap length e))

  pub gone_begun : (s t : State) (told now : List Called) → Begun (MayRunStages gone) s t told now → Silent s t × (now ≡ told)
  gone_begun s t told now begun =
      let quiet = quiet_calls gone r begun.first_of.0 (begun.ts ++ begun.more) are begun.first_of.1 in
      let none = front_none begun.ts begun.more quiet.1 in
      let uncut = no_next begun.more begun.cut none.1 begun.cut_short in (
        record {
          honest = begun.honest;
          scripts = begun.scripts ∙ ap (λ (ts : List Ran). scripts_of s.events ++ (finished ts ++ begun.cut)) none.0 ∙ ap (λ (l : List Event). scripts_of s.events ++ l) uncut ∙ append-nil (scripts_of s.events);
        },
        begun.tells ∙ ap (λ (ts : List Ran). told ++ map told_of ts) none.0 ∙ append-nil told,
      )
