-- Removals and purges are on the page.
use Rattle.std.proofs.Common.{◌≡◌, ◌≢◌, inl, inr, Bool, true, false, List, [], ◌∷◌, Some, None, map, refl, ap, ◌∙◌}
use Rattle.host_core.specs.Paths.{Path}
use Rattle.status_records.specs.declared.record.Record.{Record}
use Rattle.status_records.specs.declared.words.State.{State}
use Rattle.status_records.specs.declared.words.State.TheVariants as state
use Rattle.unpack_rows.specs.Kinds.{has_prerm}
use Rattle.diversions.specs.Ways.{Ways}
use Rattle.file_lists.specs.Owners.{paths_of}
use Rattle.file_lists.specs.declared.paths.PackageList.{PackageList}
use Rattle.unit_stages.specs.declared.stage.Stage.{Stage}
use Rattle.removal_engine.specs.Records.{config_files, half_configured, purged, without_files}
use Rattle.removal_engine.specs.Stages.{files_stage, files_stages, last_stage, left_stage, planned, prerm_stage, purge_stage, purge_stages, removal_stages, stages_from}
use Rattle.removal_engine.specs.declared.extent.Extent.TheVariants as extent
use Rattle.removal_page.specs.Lines.{IsPage}
use Rattle.removal_page.specs.Page
use Rattle.removal_page.specs.Page.{Purge, PurgeOfConffiles, PurgeOfFiles, Removal, RemovalOfFiles, all_stored}
use Rattle.removal_page.proofs.Pages.{In, is_page, read, successes}
use Rattle.removal_page.proofs.Planned.{IsStep, fit_all}
use Rattle.removal_page.proofs.Steps.{Calls, Quiet, Step}

module _ (ways : Ways) (lists : List PackageList) (r : Record) (to_come : List Path) where
  -- the stages, by the state in which the package is found

  pub with_prerm : (purge : Bool) → has_prerm r.state ≡ true → stages_from ways lists r.state r all_stored purge to_come ≡ prerm_stage r all_stored ∷ files_stages ways lists r all_stored purge to_come
  with_prerm purge is = by r.state is
    where
      by : (s : State) → has_prerm s ≡ true → stages_from ways lists s r all_stored purge to_come ≡ prerm_stage r all_stored ∷ files_stages ways lists r all_stored purge to_come
      by state.NotInstalled none = cc
      by state.ConfigFiles none = cc
      by state.HalfInstalled none = cc
      by state.Unpacked none = cc
      by state.HalfConfigured called = refl
      by state.Installed called = refl

  pub without_prerm : (purge : Bool) → has_prerm r.state ≡ false → r.state ≢ state.ConfigFiles → stages_from ways lists r.state r all_stored purge to_come ≡ files_stages ways lists r all_stored purge to_come
  without_prerm purge is files = by r.state is files
    where
      by : (s : State) → has_prerm s ≡ false → s ≢ state.ConfigFiles → stages_from ways lists s r all_stored purge to_come ≡ files_stages ways lists r all_stored purge to_come
      by state.NotInstalled none files = refl
      by state.ConfigFiles none files = absurd (files refl)
      by state.HalfInstalled none files = refl
      by state.Unpacked none files = refl
      by state.HalfConfigured none files = cc
      by state.Installed none files = cc

  pub of_conffiles : r.state ≡ state.ConfigFiles → stages_from ways lists r.state r all_stored true to_come ≡ purge_stages ways lists r all_stored (paths_of lists r.name)
  of_conffiles is = ap (λ s. stages_from ways lists s r all_stored true to_come) is

  -- the steps

  abbrev prerm_step : Step
  prerm_step = Calls (Page.prerm_remove r) (Some (Page.postinst_abort_remove r)) (Some (half_configured r)) (Some r)

  abbrev postrm_step : Step
  postrm_step = Calls (Page.postrm_remove r) None (Some (without_files r)) (Some (without_files r))

  abbrev left_step : Step
  left_step = Quiet (Some (config_files r))

  abbrev purge_step : Record → Step
  purge_step c = Calls (Page.postrm_purge r) None (Some (purged c)) (Some (purged c))

  prerm_is : IsStep r.name prerm_step (prerm_stage r all_stored)
  prerm_is = IsStep.calls _ _ _ _ _ refl refl refl (refl, tt) (λ o. refl) (refl, tt) refl

  postrm_is : IsStep r.name postrm_step (files_stage ways lists r all_stored to_come)
  postrm_is = IsStep.calls _ _ _ _ _ refl refl refl (refl, (tt, (tt, (tt, (tt, (refl, tt)))))) (λ o. refl) tt refl

  left_is : IsStep r.name left_step (left_stage r)
  left_is = IsStep.quiet _ _ refl (tt, (refl, tt)) (λ o. refl)

  purge_is : IsStep r.name (purge_step (config_files r)) (purge_stage ways lists (config_files r) all_stored)
  purge_is = IsStep.calls _ _ _ _ _ refl refl refl (refl, (tt, tt)) (λ o. refl) tt refl

  purge_alone_is : IsStep r.name (purge_step r) (purge_stage ways lists r all_stored)
  purge_alone_is = IsStep.calls _ _ _ _ _ refl refl refl (refl, (tt, tt)) (λ o. refl) tt refl

  last_is : (c : Record) (listed : List Path) → IsStep r.name (Quiet None) (last_stage ways lists c listed)
  last_is c listed = IsStep.quiet _ _ refl (tt, (tt, (tt, (tt, (tt, tt))))) (λ o. refl)

  module _ (stages : List Stage) where
    abbrev removed_steps : List Step
    removed_steps = prerm_step ∷ postrm_step ∷ left_step ∷ []

    abbrev removed_lines : List Removal
    removed_lines = Removal.PrermFails ∷ Removal.PrermFailsThenPostinst ∷ Removal.PostrmFails ∷ Removal.Succeeds ∷ []

    pub removed : has_prerm r.state ≡ true → map planned stages ≡ removal_stages ways lists extent.Remove r all_stored to_come → IsPage (Page.removal r) r.name ways stages
    removed prerm are =
        is_page (Page.removal r) r.name ways stages removed_steps removed_lines
        (fit_all r.name removed_steps (prerm_stage r all_stored ∷ files_stages ways lists r all_stored false to_come) (prerm_is, (postrm_is, (left_is, tt))) stages (are ∙ with_prerm false prerm)) (λ o. refl) all back
      where
        all : (l : Removal) → In (Page.removal r) l removed_lines
        all Removal.PrermFails = inl refl
        all Removal.PrermFailsThenPostinst = inr (inl refl)
        all Removal.PostrmFails = inr (inr (inl refl))
        all Removal.Succeeds = inr (inr (inr (inl refl)))

        back : (l : Removal) → read (Page.removal r) removed_lines (successes (Page.removal r l)) ≡ Some l
        back Removal.PrermFails = refl
        back Removal.PrermFailsThenPostinst = refl
        back Removal.PostrmFails = refl
        back Removal.Succeeds = refl

    abbrev removed_unconfigured_steps : List Step
    removed_unconfigured_steps = postrm_step ∷ left_step ∷ []

    abbrev removed_unconfigured_lines : List RemovalOfFiles
    removed_unconfigured_lines = RemovalOfFiles.PostrmFails ∷ RemovalOfFiles.Succeeds ∷ []

    pub removed_unconfigured : has_prerm r.state ≡ false → r.state ≢ state.ConfigFiles → map planned stages ≡ removal_stages ways lists extent.Remove r all_stored to_come → IsPage (Page.removal_of_files r) r.name ways stages
    removed_unconfigured none files are =
        is_page (Page.removal_of_files r) r.name ways stages removed_unconfigured_steps removed_unconfigured_lines
        (fit_all r.name removed_unconfigured_steps (files_stages ways lists r all_stored false to_come) (postrm_is, (left_is, tt)) stages (are ∙ without_prerm false none files)) (λ o. refl) all back
      where
        all : (l : RemovalOfFiles) → In (Page.removal_of_files r) l removed_unconfigured_lines
        all RemovalOfFiles.PostrmFails = inl refl
        all RemovalOfFiles.Succeeds = inr (inl refl)

        back : (l : RemovalOfFiles) → read (Page.removal_of_files r) removed_unconfigured_lines (successes (Page.removal_of_files r l)) ≡ Some l
        back RemovalOfFiles.PostrmFails = refl
        back RemovalOfFiles.Succeeds = refl

    abbrev removed_in_favour_steps : List Step
    removed_in_favour_steps = postrm_step ∷ left_step ∷ []

    abbrev removed_in_favour_lines : List RemovalOfFiles
    removed_in_favour_lines = RemovalOfFiles.PostrmFails ∷ RemovalOfFiles.Succeeds ∷ []

    pub removed_in_favour : map planned stages ≡ removal_stages ways lists extent.InFavour r all_stored to_come → IsPage (Page.removal_of_files r) r.name ways stages
    removed_in_favour are =
        is_page (Page.removal_of_files r) r.name ways stages removed_in_favour_steps removed_in_favour_lines
        (fit_all r.name removed_in_favour_steps (files_stages ways lists r all_stored false to_come) (postrm_is, (left_is, tt)) stages (are)) (λ o. refl) all back
      where
        all : (l : RemovalOfFiles) → In (Page.removal_of_files r) l removed_in_favour_lines
        all RemovalOfFiles.PostrmFails = inl refl
        all RemovalOfFiles.Succeeds = inr (inl refl)

        back : (l : RemovalOfFiles) → read (Page.removal_of_files r) removed_in_favour_lines (successes (Page.removal_of_files r l)) ≡ Some l
        back RemovalOfFiles.PostrmFails = refl
        back RemovalOfFiles.Succeeds = refl

    abbrev purged_configured_steps : List Step
    purged_configured_steps = prerm_step ∷ postrm_step ∷ left_step ∷ purge_step (config_files r) ∷ Quiet None ∷ []

    abbrev purged_configured_lines : List Purge
    purged_configured_lines = Purge.PrermFails ∷ Purge.PrermFailsThenPostinst ∷ Purge.PostrmFails ∷ Purge.PurgeFails ∷ Purge.Succeeds ∷ []

    pub purged_configured : has_prerm r.state ≡ true → map planned stages ≡ removal_stages ways lists extent.Purge r all_stored to_come → IsPage (Page.purge r) r.name ways stages
    purged_configured prerm are =
        is_page (Page.purge r) r.name ways stages purged_configured_steps purged_configured_lines
        (fit_all r.name purged_configured_steps (prerm_stage r all_stored ∷ files_stages ways lists r all_stored true to_come) (prerm_is, (postrm_is, (left_is, (purge_is, (last_is (config_files r) to_come, tt))))) stages (are ∙ with_prerm true prerm)) (λ o. refl) all back
      where
        all : (l : Purge) → In (Page.purge r) l purged_configured_lines
        all Purge.PrermFails = inl refl
        all Purge.PrermFailsThenPostinst = inr (inl refl)
        all Purge.PostrmFails = inr (inr (inl refl))
        all Purge.PurgeFails = inr (inr (inr (inl refl)))
        all Purge.Succeeds = inr (inr (inr (inr (inl refl))))

        back : (l : Purge) → read (Page.purge r) purged_configured_lines (successes (Page.purge r l)) ≡ Some l
        back Purge.PrermFails = refl
        back Purge.PrermFailsThenPostinst = refl
        back Purge.PostrmFails = refl
        back Purge.PurgeFails = refl
        back Purge.Succeeds = refl

    abbrev purged_unconfigured_steps : List Step
    purged_unconfigured_steps = postrm_step ∷ left_step ∷ purge_step (config_files r) ∷ Quiet None ∷ []

    abbrev purged_unconfigured_lines : List PurgeOfFiles
    purged_unconfigured_lines = PurgeOfFiles.PostrmFails ∷ PurgeOfFiles.PurgeFails ∷ PurgeOfFiles.Succeeds ∷ []

    pub purged_unconfigured : has_prerm r.state ≡ false → r.state ≢ state.ConfigFiles → map planned stages ≡ removal_stages ways lists extent.Purge r all_stored to_come → IsPage (Page.purge_of_files r) r.name ways stages
    purged_unconfigured none files are =
        is_page (Page.purge_of_files r) r.name ways stages purged_unconfigured_steps purged_unconfigured_lines
        (fit_all r.name purged_unconfigured_steps (files_stages ways lists r all_stored true to_come) (postrm_is, (left_is, (purge_is, (last_is (config_files r) to_come, tt)))) stages (are ∙ without_prerm true none files)) (λ o. refl) all back
      where
        all : (l : PurgeOfFiles) → In (Page.purge_of_files r) l purged_unconfigured_lines
        all PurgeOfFiles.PostrmFails = inl refl
        all PurgeOfFiles.PurgeFails = inr (inl refl)
        all PurgeOfFiles.Succeeds = inr (inr (inl refl))

        back : (l : PurgeOfFiles) → read (Page.purge_of_files r) purged_unconfigured_lines (successes (Page.purge_of_files r l)) ≡ Some l
        back PurgeOfFiles.PostrmFails = refl
        back PurgeOfFiles.PurgeFails = refl
        back PurgeOfFiles.Succeeds = refl

    abbrev purged_removed_steps : List Step
    purged_removed_steps = purge_step r ∷ Quiet None ∷ []

    abbrev purged_removed_lines : List PurgeOfConffiles
    purged_removed_lines = PurgeOfConffiles.PurgeFails ∷ PurgeOfConffiles.Succeeds ∷ []

    pub purged_removed : r.state ≡ state.ConfigFiles → map planned stages ≡ removal_stages ways lists extent.Purge r all_stored to_come → IsPage (Page.purge_of_conffiles r) r.name ways stages
    purged_removed gone are =
        is_page (Page.purge_of_conffiles r) r.name ways stages purged_removed_steps purged_removed_lines
        (fit_all r.name purged_removed_steps (purge_stages ways lists r all_stored (paths_of lists r.name)) (purge_alone_is, (last_is r (paths_of lists r.name), tt)) stages (are ∙ of_conffiles gone)) (λ o. refl) all back
      where
        all : (l : PurgeOfConffiles) → In (Page.purge_of_conffiles r) l purged_removed_lines
        all PurgeOfConffiles.PurgeFails = inl refl
        all PurgeOfConffiles.Succeeds = inr (inl refl)

        back : (l : PurgeOfConffiles) → read (Page.purge_of_conffiles r) purged_removed_lines (successes (Page.purge_of_conffiles r l)) ≡ Some l
        back PurgeOfConffiles.PurgeFails = refl
        back PurgeOfConffiles.Succeeds = refl
