-- The stages of configuring: they fit, their conffiles can be settled, and what they leave.
use Rattle.std.proofs.Common.{◌≡◌, inl, inr, ℕ, Bool, List, [], ◌∷◌, Option, Some, None, is_some, refl, sym, ap, subst, ◌∙◌}
use Rattle.std.specs.List.{All}
use Rattle.host_core.specs.Paths.{Path}
use Rattle.host_core.specs.World.{World}
use Rattle.host_core.specs.Host.{State}
use Rattle.host_core.specs.declared.call.Call.{Call}
use Rattle.conffiles.specs.Settling.{CanSettle}
use Rattle.conffiles.specs.declared.entries.Settled.{Settled}
use Rattle.diversions.specs.Ways.{Ways}
use Rattle.file_lists.specs.Owners.{AreLists, paths_of}
use Rattle.file_lists.specs.declared.paths.PackageList.{PackageList}
use Rattle.status_records.specs.Records.{put_record, record_in}
use Rattle.status_records.specs.Standings.{configured}
use Rattle.status_records.specs.declared.record.Record.{Record}
use Rattle.undo_rows.specs.declared.rows.Called.{Called}
use Rattle.undo_rows.specs.declared.rows.Owner.{Owner}
use Rattle.undo_rows.specs.declared.rows.Row.{Row}
use Rattle.unit_stages.specs.PartFitting.{AreFit, HaveNoSettle}
use Rattle.unit_stages.specs.Parts.{parts_lists, parts_records}
use Rattle.unit_stages.specs.declared.part.Part.{Part}
use Rattle.unit_stages.specs.Fitting.{AreStagesFit, AreStagesSettleable}
use Rattle.unit_stages.specs.Holding.{Holding, after_parts}
use Rattle.unit_stages.specs.Runs.{HasRestored, HaveRun}
use Rattle.unit_stages.specs.declared.stage.Stage.{Stage}
use Rattle.configure_engine.specs.Decided.{decided_paths}
use Rattle.configure_engine.specs.Settled.{settled}
use Rattle.configure_engine.specs.Stages.{AreConfigureStages}
use Rattle.configure_engine.specs.Units.{HasEnded}
use Rattle.configure_engine.specs.Waiting.{settling_places}
use Rattle.configure_engine.proofs.Fits.{IsHalf, first_fit, first_records, first_settleable}
use Rattle.configure_engine.proofs.PlacesOnce.{AreOnce, settling_once}
use Rattle.configure_engine.proofs.Tables.{put_other, put_own}

module _ (r : Record) (name : List ℕ) (own : r.name ≡ name) (ways : Ways) (decisions : List Settled) (paths : decided_paths decisions ≡ settling_places ways r) (stored : Bool) (stages : List Stage) where
  module _ (rs : List Record) (ls : List PackageList) (found : record_in rs name ≡ Some r) (are : AreLists ls) (is : AreConfigureStages r (paths_of ls name) decisions stored stages) where
    second_fit : (now : List Record) (now_lists : List PackageList) → IsHalf r name own rs now → AreFit name is.second.parts.items now now_lists
    second_fit now now_lists after = subst (λ (ps : List Part). AreFit name ps now now_lists) (sym is.installs) (record { own = own; stands = refl; known = ap is_some after.is }, tt)

    pub stages_fit : AreStagesFit name stages rs ls
    stages_fit =
        let now = parts_records name is.first.parts.items rs in
        let now_lists = parts_lists name is.first.parts.items ls in
        let later = parts_records name is.second.parts.items now in
        let later_lists = parts_lists name is.second.parts.items now_lists in
        subst (λ (ss : List Stage). AreStagesFit name ss rs ls) (sym is.are) (
          record {
            parts = first_fit r name own rs ls found are decisions is.first.parts.items (subst AreOnce (sym paths) (settling_once ways r)) is.parts;
            restore = subst (λ (ps : List Part). AreFit name ps now now_lists) (sym is.no_restore) tt;
          },
          (
            record {
              parts = second_fit now now_lists (first_records r name own ways (paths_of ls name) decisions is.first.parts.items rs paths is.parts);
              restore = subst (λ (ps : List Part). AreFit name ps later later_lists) (sym is.no_restore_either) tt;
            },
            tt,
          ),
        )

  module _ (listed : List Path) (is : AreConfigureStages r listed decisions stored stages) where
    pub stages_settleable : (w : World) → All (λ x. CanSettle x w) (settling_places ways r) → AreStagesSettleable stages w
    stages_settleable w can =
        subst (λ (ss : List Stage). AreStagesSettleable ss w) (sym is.are) (
          first_settleable r name own w listed decisions is.first.parts.items is.parts (subst (All (λ (x : Path). CanSettle x w)) (sym paths) can),
          subst HaveNoSettle (sym is.no_restore) tt,
          (record { parts = subst HaveNoSettle (sym is.installs) (refl, tt); restore = subst HaveNoSettle (sym is.no_restore_either) tt }, tt),
        )

    -- in the end

    module _ (before : Holding) (found : record_in before.records name ≡ Some r) where
      after_first : IsHalf r name own before.records (parts_records name is.first.parts.items before.records)
      after_first = first_records r name own ways listed decisions is.first.parts.items before.records paths is.parts

      left_half : (after : Holding) (call : Call) → after.records ≡ parts_records name is.first.parts.items before.records → HasEnded name (Some call) before.records after.records
      left_half after call same = record {
        entry = r;
        found = found;
        own = ap (λ (rs : List Record). record_in rs name) same ∙ after_first.is;
        others = λ q other. ap (λ (rs : List Record). record_in rs q) same ∙ after_first.others q other;
      }

      left_installed : (after : Holding) → after.records ≡ parts_records name is.second.parts.items (parts_records name is.first.parts.items before.records) → HasEnded name None before.records after.records
      left_installed after same =
          let mid = parts_records name is.first.parts.items before.records in
          let noted : after.records ≡ put_record (configured (settled r)) mid = same ∙ ap (λ (ps : List Part). parts_records name ps mid) is.installs in
          record {
            entry = r;
            found = found;
            own = ap (λ (rs : List Record). record_in rs name) noted ∙ put_own (configured (settled r)) mid name own;
            others = λ q other. ap (λ (rs : List Record). record_in rs q) noted ∙ put_other (configured (settled r)) mid name q own other ∙ after_first.others q other;
          }

      restored_none : (owners : List Owner) (restore : List Part) (h after : Holding) (s t : State) → restore ≡ [] → HasRestored name ways owners restore h after s t → after.records ≡ h.records
      restored_none owners restore h after s t none (HasRestored.restored all does same) = ap (λ (x : Holding). x.records) same ∙ ap (λ (ps : List Part). parts_records name ps h.records) none
      restored_none owners restore h after s t none (HasRestored.left some stays same) = ap (λ (x : Holding). x.records) same

      quiet_calls : (call : Call) → is.second.row.forward ≡ Some call → ⊥
      quiet_calls call forward = no_call (sym (ap (λ (row : Row). row.forward) is.no_call) ∙ forward)
        where
          no_call : None ≡ Some call → ⊥
          no_call e = cc

      ended_by : (failed : Option Call) (after : Holding) (s t : State) (told now : List Called) → HaveRun name ways (is.first ∷ is.second ∷ []) failed before after s t told now → HasEnded name failed before.records after.records
      ended_by failed after s t told now (inl passed) = elim passed.further [
        | inl last ↦ subst (λ (o : Option Call). HasEnded name o before.records after.records) (sym last.further.0) (left_installed after (ap (λ (x : Holding). x.records) last.further.1))
        | inr fell ↦ absurd (quiet_calls fell.fell.call fell.fell.forward)
      ]
      ended_by failed after s t told now (inr fell) =
          subst (λ (o : Option Call). HasEnded name o before.records after.records) (sym fell.fell.answer)
          (left_half after fell.fell.call (restored_none fell.fell.undo.owners is.first.restore.items (after_parts name is.first.parts.items before) after fell.fell.undo.undone t is.no_restore fell.fell.undo.restored))

      pub has_ended : (failed : Option Call) (after : Holding) (s t : State) (told now : List Called) → HaveRun name ways stages failed before after s t told now → HasEnded name failed before.records after.records
      has_ended failed after s t told now run = ended_by failed after s t told now (subst (λ (ss : List Stage). HaveRun name ways ss failed before after s t told now) is.are run)
