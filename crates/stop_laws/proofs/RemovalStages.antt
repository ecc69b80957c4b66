-- The stages of a removal and of a purge: each of their deeds.
use Rattle.std.proofs.Common.{◌≡◌, ◌≢◌, Bool, true, false, cond, List, [], ◌∷◌, refl, sym}
use Rattle.std.proofs.lemmas.Bool.{true≢false}
use Rattle.host_core.specs.Paths.{Path}
use Rattle.diversions.specs.Ways.{Ways}
use Rattle.file_lists.specs.Owners.{paths_of}
use Rattle.file_lists.specs.declared.paths.PackageList.{PackageList}
use Rattle.status_records.specs.declared.record.Record.{Record}
use Rattle.status_records.specs.declared.words.State.{State}
use Rattle.status_records.specs.declared.words.State.TheVariants as state
use Rattle.removal_engine.specs.Extents.{BeginsFrom}
use Rattle.removal_engine.specs.Lists.{leaving_directories, leaving_files}
use Rattle.removal_engine.specs.Names.{cleared_names, purged_names, waiting_names}
use Rattle.removal_engine.specs.Records.{config_files, goes_at_once, half_configured, losing_files, purged, without_files}
use Rattle.removal_engine.specs.Stages.{Deed, files_stage, files_stages, gone_stage, last_stage, left_stage, purge_stage, purge_stages, removal_stages, stages_from}
use Rattle.removal_engine.specs.declared.extent.Extent.{Extent}
use Rattle.removal_engine.specs.declared.extent.Extent.TheVariants.{Remove, Purge, InFavour}
use Rattle.removal_engine.specs.declared.scripts.Stored.{Stored}
use Rattle.stop_laws.proofs.Moments.{All, AllIn}

module _ (P : Deed → Type 0) (ways : Ways) (lists : List PackageList) (r : Record) (stored : Stored) (to_come : List Path) where
  -- P holds of the deeds of a purge from this record and list
  pub record OfPurge (c : Record) (listed : List Path) : Type 0 where
    pub noted : P (Deed.Notes (purged c))
    pub names : P (Deed.Clears (purged_names ways lists c))
    pub directories : P (Deed.RemovesDirectories (leaving_directories ways lists c listed))

  -- of those around the call of the prerm
  pub record OfPrerm : Type 0 where
    pub half : P (Deed.Notes (half_configured r))
    pub before : P (Deed.Notes r)

  -- of those with the files
  pub record OfFiles : Type 0 where
    pub losing : P (Deed.Notes (losing_files r))
    pub waiting : P (Deed.Clears (waiting_names ways r.name r.pending))
    pub files : P (Deed.Removes (leaving_files ways lists r to_come))
    pub names : P (Deed.Clears (cleared_names ways lists r))
    pub listed : P (Deed.Lists to_come)
    pub lost : P (Deed.Notes (without_files r))

  -- and of those behind them
  pub record OfEnds : Type 0 where
    pub left : P (Deed.Notes (config_files r))
    pub members : (keep_postrm : Bool) → P (Deed.DropsMembers keep_postrm)
    pub bare : P (Deed.Lists [])
    pub unlisted : P Deed.DropsList
    pub forgotten : P Deed.Forgets

  module _ (ends : OfEnds) where
    pub purge_stage_all : (c : Record) (listed : List Path) → OfPurge c listed → All P (purge_stage ways lists c stored).parts
    purge_stage_all c listed of = (of.noted, (of.names, tt))

    pub last_stage_all : (c : Record) (listed : List Path) → OfPurge c listed → All P (last_stage ways lists c listed).parts
    last_stage_all c listed of = (of.directories, (ends.bare, (ends.unlisted, (ends.members false, (ends.forgotten, tt)))))

    pub purges_all : (c : Record) (listed : List Path) → OfPurge c listed → AllIn P (purge_stages ways lists c stored listed)
    purges_all c listed of = ((purge_stage_all c listed of, tt), ((last_stage_all c listed of, tt), tt))

    pub gone_all : All P (gone_stage r).parts
    gone_all = (ends.members false, (ends.bare, (ends.unlisted, (ends.forgotten, tt))))

    pub left_all : All P (left_stage r).parts
    left_all = (ends.members true, (ends.left, tt))

    behind_all : (purge : Bool) → (purge ≡ true → OfPurge (config_files r) to_come) → AllIn P (cond purge (purge_stages ways lists (config_files r) stored to_come) [])
    behind_all true of = purges_all (config_files r) to_come (of refl)
    behind_all false of = tt

    pub ends_all : (at_once purge : Bool) → (purge ≡ true → OfPurge (config_files r) to_come) → AllIn P (cond at_once (gone_stage r ∷ []) (left_stage r ∷ cond purge (purge_stages ways lists (config_files r) stored to_come) []))
    ends_all true purge of = ((gone_all, tt), tt)
    ends_all false purge of = ((left_all, tt), behind_all purge of)

    module _ (files : OfFiles) where
      pub files_stage_all : All P (files_stage ways lists r stored to_come).parts
      files_stage_all = (files.losing, (files.waiting, (files.files, (files.names, (files.listed, (files.lost, tt))))))

      pub files_all : (purge : Bool) → (purge ≡ true → OfPurge (config_files r) to_come) → AllIn P (files_stages ways lists r stored purge to_come)
      files_all purge of = ((files_stage_all, tt), ends_all (goes_at_once r stored) purge of)

      from_all : OfPrerm → (s : State) → r.state ≡ s → (purge : Bool) → (purge ≡ true → OfPurge (config_files r) to_come) → (r.state ≡ state.ConfigFiles → OfPurge r (paths_of lists r.name)) → AllIn P (stages_from ways lists s r stored purge to_come)
      from_all prerm state.NotInstalled is purge of found = files_all purge of
      from_all prerm state.ConfigFiles is purge of found = purges_all r (paths_of lists r.name) (found is)
      from_all prerm state.HalfInstalled is purge of found = files_all purge of
      from_all prerm state.Unpacked is purge of found = files_all purge of
      from_all prerm state.HalfConfigured is purge of found = (((prerm.half, tt), (prerm.before, tt)), files_all purge of)
      from_all prerm state.Installed is purge of found = (((prerm.half, tt), (prerm.before, tt)), files_all purge of)

      never : {X : Type 0} → false ≡ true → X
      never e = absurd (true≢false (sym e))

      -- of each deed of a unit that may begin
      pub removal_all : (extent : Extent) → BeginsFrom extent r.state → (extent ≢ InFavour → OfPrerm) → (extent ≡ Purge → OfPurge (config_files r) to_come) → (extent ≡ Purge → r.state ≡ state.ConfigFiles → OfPurge r (paths_of lists r.name))
          → AllIn P (removal_stages ways lists extent r stored to_come)
      removal_all Remove begins prerm left found = from_all (prerm (λ e. cc)) r.state refl false (λ e. never e) (λ is. absurd (begins is))
      removal_all Purge begins prerm left found = from_all (prerm (λ e. cc)) r.state refl true (λ e. left refl) (found refl)
      removal_all InFavour begins prerm left found = files_all false (λ e. never e)
