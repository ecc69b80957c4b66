-- The stages of processing triggers: they fit, they settle nothing, and what they leave.
use Rattle.std.proofs.Common.{◌≡◌, inl, inr, ℕ, Bool, true, List, [], ◌∷◌, Option, Some, None, is_some, refl, sym, ap, subst, ◌∙◌}
use Rattle.host_core.specs.World.{World}
use Rattle.host_core.specs.Host.{State}
use Rattle.host_core.specs.declared.call.Call.{Call}
use Rattle.diversions.specs.Ways.{Ways}
use Rattle.file_lists.specs.declared.paths.PackageList.{PackageList}
use Rattle.status_records.specs.Records.{put_record, record_in}
use Rattle.status_records.specs.Standings.{configured}
use Rattle.status_records.specs.declared.record.Record.{Record}
use Rattle.undo_rows.specs.declared.rows.Called.{Called}
use Rattle.undo_rows.specs.declared.rows.Owner.{Owner}
use Rattle.undo_rows.specs.declared.rows.Row.{Row}
use Rattle.unit_stages.specs.PartFitting.{AreFit, AreSettleable, HaveNoSettle}
use Rattle.unit_stages.specs.Parts.{parts_lists, parts_records}
use Rattle.unit_stages.specs.declared.part.Part.{Part}
use Rattle.unit_stages.specs.Fitting.{AreStagesFit, AreStagesSettleable}
use Rattle.unit_stages.specs.Holding.{Holding, after_parts}
use Rattle.unit_stages.specs.Runs.{HasRestored, HaveRun}
use Rattle.unit_stages.specs.declared.stage.Stage.{Stage}
use Rattle.trigger_engine.specs.Stages.{AreTriggerStages, half}
use Rattle.trigger_engine.specs.Units.{HasEnded}
use Rattle.trigger_engine.proofs.Tables.{put_other, put_own}

module _ (r : Record) (name : List ℕ) (own : r.name ≡ name) (stored : Bool) (stages : List Stage) (is : AreTriggerStages r stored stages) where
  -- the records behind the first stage
  after_first : (rs : List Record) → parts_records name is.first.parts.items rs ≡ put_record (half r) rs
  after_first rs = ap (λ (ps : List Part). parts_records name ps rs) is.notes

  module _ (rs : List Record) (ls : List PackageList) (found : record_in rs name ≡ Some r) where
    still_known : is_some (record_in (parts_records name is.first.parts.items rs) name) ≡ true
    still_known = ap (λ (now : List Record). is_some (record_in now name)) (after_first rs) ∙ ap is_some (put_own (half r) rs name own)

    pub stages_fit : AreStagesFit name stages rs ls
    stages_fit =
        let now = parts_records name is.first.parts.items rs in
        let now_lists = parts_lists name is.first.parts.items ls in
        let later = parts_records name is.second.parts.items now in
        let later_lists = parts_lists name is.second.parts.items now_lists in
        subst (λ (ss : List Stage). AreStagesFit name ss rs ls) (sym is.are) (
          record {
            parts = subst (λ (ps : List Part). AreFit name ps rs ls) (sym is.notes) (record { own = own; stands = refl; known = ap is_some found }, tt);
            restore = subst (λ (ps : List Part). AreFit name ps now now_lists) (sym is.no_restore) tt;
          },
          (
            record {
              parts = subst (λ (ps : List Part). AreFit name ps now now_lists) (sym is.installs) (record { own = own; stands = refl; known = still_known }, tt);
              restore = subst (λ (ps : List Part). AreFit name ps later later_lists) (sym is.no_restore_either) tt;
            },
            tt,
          ),
        )

  pub stages_settleable : (w : World) → AreStagesSettleable stages w
  stages_settleable w =
      subst (λ (ss : List Stage). AreStagesSettleable ss w) (sym is.are) (
        subst (λ (ps : List Part). AreSettleable ps w) (sym is.notes) tt,
        subst HaveNoSettle (sym is.no_restore) tt,
        (record { parts = subst HaveNoSettle (sym is.installs) (refl, tt); restore = subst HaveNoSettle (sym is.no_restore_either) tt }, tt),
      )

  -- in the end

  module _ (ways : Ways) (before : Holding) (found : record_in before.records name ≡ Some r) where
    left_half : (after : Holding) (call : Call) → after.records ≡ parts_records name is.first.parts.items before.records → HasEnded name (Some call) before.records after.records
    left_half after call same =
        let noted : after.records ≡ put_record (half r) before.records = same ∙ after_first before.records in
        record {
          entry = r;
          found = found;
          own = ap (λ (rs : List Record). record_in rs name) noted ∙ put_own (half r) before.records name own;
          others = λ q other. ap (λ (rs : List Record). record_in rs q) noted ∙ put_other (half r) before.records name q own other;
        }

    left_installed : (after : Holding) → after.records ≡ parts_records name is.second.parts.items (parts_records name is.first.parts.items before.records) → HasEnded name None before.records after.records
    left_installed after same =
        let mid = put_record (half r) before.records in
        let noted : after.records ≡ put_record (configured (half r)) mid =
        same ∙ ap (λ (ps : List Part). parts_records name ps (parts_records name is.first.parts.items before.records)) is.installs ∙ ap (λ (rs : List Record). put_record (configured (half r)) rs) (after_first before.records) in
        record {
          entry = r;
          found = found;
          own = ap (λ (rs : List Record). record_in rs name) noted ∙ put_own (configured (half r)) mid name own;
          others = λ q other. ap (λ (rs : List Record). record_in rs q) noted ∙ put_other (configured (half r)) mid name q own other ∙ put_other (half r) before.records name q own other;
        }

    restored_none : (owners : List Owner) (restore : List Part) (h after : Holding) (s t : State) → restore ≡ [] → HasRestored name ways owners restore h after s t → after.records ≡ h.records
    restored_none owners restore h after s t none (HasRestored.restored all does same) = ap (λ (x : Holding). x.records) same ∙ ap (λ (ps : List Part). parts_records name ps h.records) none
    restored_none owners restore h after s t none (HasRestored.left some stays same) = ap (λ (x : Holding). x.records) same

    quiet_calls : (call : Call) → is.second.row.forward ≡ Some call → ⊥
    quiet_calls call forward = no_call (sym (ap (λ (row : Row). row.forward) is.no_call) ∙ forward)
      where
        no_call : None ≡ Some call → ⊥
        no_call e = cc

    ended_by : (failed : Option Call) (after : Holding) (s t : State) (told now : List Called) → HaveRun name ways (is.first ∷ is.second ∷ []) failed before after s t told now → HasEnded name failed before.records after.records
    ended_by failed after s t told now (inl passed) = elim passed.further [
      | inl last ↦ subst (λ (o : Option Call). HasEnded name o before.records after.records) (sym last.further.0) (left_installed after (ap (λ (x : Holding). x.records) last.further.1))
      | inr fell ↦ absurd (quiet_calls fell.fell.call fell.fell.forward)
    ]
    ended_by failed after s t told now (inr fell) =
        subst (λ (o : Option Call). HasEnded name o before.records after.records) (sym fell.fell.answer)
        (left_half after fell.fell.call (restored_none fell.fell.undo.owners is.first.restore.items (after_parts name is.first.parts.items before) after fell.fell.undo.undone t is.no_restore fell.fell.undo.restored))

    pub has_ended : (failed : Option Call) (after : Holding) (s t : State) (told now : List Called) → HaveRun name ways stages failed before after s t told now → HasEnded name failed before.records after.records
    has_ended failed after s t told now run = ended_by failed after s t told now (subst (λ (ss : List Stage). HaveRun name ways ss failed before after s t told now) is.are run)
