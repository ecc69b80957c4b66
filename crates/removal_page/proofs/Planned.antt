-- Stages that are planned are steps.
use Rattle.std.proofs.Common.{◌≡◌, ℕ, List, [], ◌∷◌, Option, Some, None, map, refl, sym, ap, subst, ◌∙◌}
use Rattle.host_core.specs.declared.call.Call.{Call}
use Rattle.status_records.specs.declared.record.Record.{Record}
use Rattle.status_records.specs.Records.{record_in}
use Rattle.unit_stages.specs.Parts.{part_records, parts_records}
use Rattle.unit_stages.specs.declared.part.Part.{Part}
use Rattle.unit_stages.specs.declared.part.Part.TheVariants.{Note, Forget, Settle, Remove, RemoveDirectories, Clear, List as Listing, DropList, DropMembers}
use Rattle.unit_stages.specs.declared.stage.Stage.{Stage}
use Rattle.removal_engine.specs.Ends.{left_by, left_by_all}
use Rattle.removal_engine.specs.Stages.{Deed, Planned, deed, planned}
use Rattle.removal_engine.proofs.EndRecords.{AreOwn, IsOwn}
use Rattle.removal_engine.proofs.Tables.{drop_own, put_own}
use Rattle.removal_page.proofs.Steps.{Calls, FitAll, Fits, Quiet, Step}

part_leaves : (name : List ℕ) (part : Part) (rs : List Record) → IsOwn name (deed part) → record_in (part_records name part rs) name ≡ left_by (deed part) (record_in rs name)
part_leaves name (Note r) rs own = put_own r rs name own
part_leaves name Forget rs own = drop_own name rs
part_leaves name (Settle settled) rs own = refl
part_leaves name (Remove leaving) rs own = refl
part_leaves name (RemoveDirectories leaving) rs own = refl
part_leaves name (Clear names) rs own = refl
part_leaves name (Listing paths) rs own = refl
part_leaves name DropList rs own = refl
part_leaves name (DropMembers keep_postrm) rs own = refl

-- the package's record after parts
leaves : (name : List ℕ) (parts : List Part) (rs : List Record) → AreOwn name (map deed parts) → record_in (parts_records name parts rs) name ≡ left_by_all (map deed parts) (record_in rs name)
leaves name [] rs own = refl
leaves name (part ∷ parts) rs own = leaves name parts (part_records name part rs) own.1 ∙ ap (left_by_all (map deed parts)) (part_leaves name part rs own.0)

module _ (name : List ℕ) where
  pub data IsStep : Step → Planned → Type 0 where
    quiet : (p : Planned) (left : Option Record) → p.row.forward ≡ None → AreOwn name p.parts → ((o : Option Record) → left_by_all p.parts o ≡ left) → IsStep (Quiet left) p
    calls : (p : Planned) (call : Call) (undo : Option Call) (left restored : Option Record) → p.row.forward ≡ Some call → p.row.fallback ≡ None → p.row.undo ≡ undo
        → AreOwn name p.parts → ((o : Option Record) → left_by_all p.parts o ≡ left) → AreOwn name p.restore → (left_by_all p.restore left ≡ restored) → IsStep (Calls call undo left restored) p

  abbrev pub AreSteps : List Step → List Planned → Type 0
  AreSteps [] [] = Unit {0}
  AreSteps [] (p ∷ ps) = ⊥
  AreSteps (s ∷ ss) [] = ⊥
  AreSteps (s ∷ ss) (p ∷ ps) = IsStep s p × AreSteps ss ps

  leaves_so : (parts : List Part) (deeds : List Deed) (left : Option Record) → map deed parts ≡ deeds → AreOwn name deeds → ((o : Option Record) → left_by_all deeds o ≡ left) → (rs : List Record) → record_in (parts_records name parts rs) name ≡ left
  leaves_so parts deeds left same own so rs =
      leaves name parts rs (subst (AreOwn name) (sym same) own) ∙ ap (λ ds. left_by_all ds (record_in rs name)) same ∙ so (record_in rs name)

  fit : (step : Step) (p : Planned) → IsStep step p → (stage : Stage) → planned stage ≡ p → Fits name step stage
  fit step p (IsStep.quiet q left none own so) stage is =
      Fits.quiet stage left (ap (λ x. x.row.forward) is ∙ none) (leaves_so stage.parts.items p.parts left (ap (λ x. x.parts) is) own so)
  fit step p (IsStep.calls q call undo left restored forward alone back own so own_restore restores) stage is =
      Fits.calls stage call undo left restored (ap (λ x. x.row.forward) is ∙ forward) (ap (λ x. x.row.fallback) is ∙ alone) (ap (λ x. x.row.undo) is ∙ back)
      (leaves_so stage.parts.items p.parts left (ap (λ x. x.parts) is) own so)
      (λ rs.
      leaves name stage.restore.items (parts_records name stage.parts.items rs) (subst (AreOwn name) (sym (ap (λ x. x.restore) is)) own_restore)
      ∙ ap (λ ds. left_by_all ds (record_in (parts_records name stage.parts.items rs) name)) (ap (λ x. x.restore) is)
      ∙ ap (left_by_all p.restore) (leaves_so stage.parts.items p.parts left (ap (λ x. x.parts) is) own so rs) ∙ restores)

  pub fit_all : (steps : List Step) (ps : List Planned) → AreSteps steps ps → (stages : List Stage) → map planned stages ≡ ps → FitAll name steps stages
  fit_all [] [] are [] is = tt
  fit_all [] [] are (s ∷ ss) is = cc
  fit_all [] (p ∷ ps) are stages is = absurd are
  fit_all (x ∷ xs) [] are stages is = absurd are
  fit_all (x ∷ xs) (p ∷ ps) are [] is = cc
  fit_all (x ∷ xs) (p ∷ ps) are (s ∷ ss) is =
      let first : planned s ≡ p = cc in
      let later : map planned ss ≡ ps = cc in
      (fit x p are.0 s first, fit_all xs ps are.1 ss later)
