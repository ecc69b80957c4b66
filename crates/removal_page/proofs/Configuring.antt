-- Configuring is on the page.
use Rattle.std.proofs.Common.{◌≡◌, inl, inr, ℕ, true, List, [], ◌∷◌, ◌++◌, Some, None, refl, sym, ap, subst, ◌∙◌}
use Rattle.host_core.specs.Paths.{Path}
use Rattle.conffiles.specs.declared.entries.Settled.{Settled}
use Rattle.status_records.specs.Records.{record_in}
use Rattle.status_records.specs.Standings.{configured}
use Rattle.status_records.specs.declared.record.Record.{Record}
use Rattle.diversions.specs.Ways.{Ways}
use Rattle.unit_stages.specs.Parts.{part_records, parts_records}
use Rattle.unit_stages.specs.declared.part.Part.{Part}
use Rattle.unit_stages.specs.declared.part.Part.TheVariants.{Note}
use Rattle.unit_stages.specs.declared.stage.Stage.{Stage}
use Rattle.configure_engine.specs.Decided.{decided_paths}
use Rattle.configure_engine.specs.Settled.{settled}
use Rattle.configure_engine.specs.Stages.{AreConfigureStages, AreFirstParts, half, list_parts}
use Rattle.configure_engine.specs.Waiting.{going_paths, settling_places}
use Rattle.configure_engine.proofs.NothingSettled.{settled_same}
use Rattle.removal_engine.proofs.Tables.{put_own}
use Rattle.removal_page.specs.Lines.{IsPage}
use Rattle.removal_page.specs.Page
use Rattle.removal_page.specs.Page.{Configuring}
use Rattle.removal_page.proofs.Pages.{In, is_page, read, successes}
use Rattle.removal_page.proofs.Steps.{Calls, FitAll, Fits, Quiet, Step}

-- what is noted last is the record
last_note : (name : List ℕ) (r : Record) → r.name ≡ name → (parts : List Part) (rs : List Record) → record_in (parts_records name (parts ++ Note r ∷ []) rs) name ≡ Some r
last_note name r own [] rs = put_own r rs name own
last_note name r own (part ∷ parts) rs = last_note name r own parts (part_records name part rs)

module _ (r : Record) (listed : List Path) (ways : Ways) (decisions : List Settled) (paths : decided_paths decisions ≡ settling_places ways r) where
  -- the record while postinst runs
  before_call : (decided : List Settled) → decided_paths decided ≡ settling_places ways r → (parts : List Part) → AreFirstParts r listed decided parts → (rs : List Record) → record_in (parts_records r.name parts rs) r.name ≡ Some (half (settled r))
  before_call [] none parts are rs =
      ap (λ (ps : List Part). record_in (parts_records r.name ps rs) r.name) are ∙ put_own (half r) rs r.name refl ∙ ap (λ (x : Record). Some (half x)) (sym (settled_same ways r (sym none)))
  before_call (e ∷ es) some parts are rs =
      ap (λ (ps : List Part). record_in (parts_records r.name ps rs) r.name) are.2
      ∙ last_note r.name (half (settled r)) refl (list_parts (going_paths r) listed) (part_records r.name are.0 (part_records r.name (Note (half r)) rs))

  abbrev postinst_step : Step
  postinst_step = Calls (Page.postinst_configure r) None (Some (half (settled r))) (Some (half (settled r)))

  abbrev installed_step : Step
  installed_step = Quiet (Some (configured (settled r)))

  module _ (stages : List Stage) (are : AreConfigureStages r listed decisions true stages) where
    fit : FitAll r.name (postinst_step ∷ installed_step ∷ []) stages
    fit = subst (FitAll r.name (postinst_step ∷ installed_step ∷ [])) (sym are.are) (
      Fits.calls are.first _ None _ _ (ap (λ x. x.forward) are.row) (ap (λ x. x.fallback) are.row) (ap (λ x. x.undo) are.row)
          (before_call decisions paths are.first.parts.items are.parts)
          (λ rs. ap (λ (ps : List Part). record_in (parts_records r.name ps (parts_records r.name are.first.parts.items rs)) r.name) are.no_restore ∙ before_call decisions paths are.first.parts.items are.parts rs),
      (
        Fits.quiet are.second _ (ap (λ x. x.forward) are.no_call)
            (λ rs. ap (λ (ps : List Part). record_in (parts_records r.name ps rs) r.name) are.installs ∙ put_own (configured (settled r)) rs r.name refl),
        tt,
      ),
    )

    abbrev all_lines : List Configuring
    all_lines = Configuring.PostinstFails ∷ Configuring.Succeeds ∷ []

    pub whole : IsPage (Page.configuring r) r.name ways stages
    whole = is_page (Page.configuring r) r.name ways stages (postinst_step ∷ installed_step ∷ []) all_lines fit (λ o. refl) all back
      where
        all : (l : Configuring) → In (Page.configuring r) l all_lines
        all Configuring.PostinstFails = inl refl
        all Configuring.Succeeds = inr (inl refl)

        back : (l : Configuring) → read (Page.configuring r) all_lines (successes (Page.configuring r l)) ≡ Some l
        back Configuring.PostinstFails = refl
        back Configuring.Succeeds = refl
