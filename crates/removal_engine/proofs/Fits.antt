-- The stages of a removal and a purge fit.
use Rattle.std.proofs.Common.{◌≡◌, ℕ, Bool, true, false, cond, List, [], ◌∷◌, Some, is_some, refl, ap}
use Rattle.std.specs.List.{AllByRecursion}
use Rattle.host_core.specs.Paths.{Path}
use Rattle.diversions.specs.Ways.{Ways}
use Rattle.file_lists.specs.Owners.{AreListPaths, paths_of}
use Rattle.file_lists.specs.Writing.{with_list}
use Rattle.file_lists.specs.declared.paths.PackageList.{PackageList}
use Rattle.status_records.specs.Records.{put_record, record_in}
use Rattle.status_records.specs.Words.{is_not_installed}
use Rattle.status_records.specs.declared.record.Record.{Record}
use Rattle.status_records.specs.declared.words.State.{State}
use Rattle.status_records.specs.declared.words.State.TheVariants as state
use Rattle.removal_engine.specs.Lists.{IsToCome}
use Rattle.removal_engine.specs.declared.extent.Extent.{Extent}
use Rattle.removal_engine.specs.declared.extent.Extent.TheVariants.{Remove, Purge, InFavour}
use Rattle.removal_engine.specs.Records.{config_files, entry_paths, goes_at_once, half_configured, losing_files, purged, without_files}
use Rattle.removal_engine.specs.Stages.{Planned, files_stage, files_stages, gone_stage, last_stage, left_stage, prerm_stage, purge_stage, purge_stages, removal_stages, stages_from}
use Rattle.removal_engine.specs.declared.scripts.Stored.{Stored}
use Rattle.removal_engine.proofs.Deeds.{ArePlannedFit, IsPlannedFit, IsStillStage}
use Rattle.removal_engine.proofs.Elsewhere.{cleared_elsewhere, purged_elsewhere, waiting_elsewhere}
use Rattle.removal_engine.proofs.Sparing.{leaving_spares}
use Rattle.removal_engine.proofs.Tables.{known_put, none_listed}

no_paths : AreListPaths []
no_paths = record { order = tt; room = tt }

module _ (ways : Ways) (lists : List PackageList) (name : List ℕ) (stored : Stored) where
  -- of a record that stands and is of the package
  module _ (r : Record) (own : r.name ≡ name) where
    files_fit : (to_come : List Path) → AreListPaths to_come → (rs : List Record) (ls : List PackageList) → is_some (record_in rs name) ≡ true → IsPlannedFit name (files_stage ways lists r stored to_come) rs ls
    files_fit to_come paths rs ls known = (
      (
        record { own = own; stands = refl; known = known },
        (
          waiting_elsewhere ways r.name r.pending,
          (
            leaving_spares ways lists r.name to_come (entry_paths r.conffiles) (paths_of lists r.name),
            (
              cleared_elsewhere ways lists r,
              (
                record { listable = paths; known = known_put (losing_files r) rs name own },
                (record { own = own; stands = refl; known = known_put (losing_files r) rs name own }, tt),
              ),
            ),
          ),
        ),
      ),
      tt,
    )

    gone_fit : (rs : List Record) (ls : List PackageList) → is_some (record_in rs name) ≡ true → IsPlannedFit name (gone_stage r) rs ls
    gone_fit rs ls known = ((tt, (record { listable = no_paths; known = known }, (none_listed name ls, (none_listed name ls, tt)))), tt)

    left_fit : (rs : List Record) (ls : List PackageList) → is_some (record_in rs name) ≡ true → IsPlannedFit name (left_stage r) rs ls
    left_fit rs ls known = ((tt, (record { own = own; stands = refl; known = known }, tt)), tt)

    last_fit : (listed : List Path) (rs : List Record) (ls : List PackageList) → is_some (record_in rs name) ≡ true → IsPlannedFit name (last_stage ways lists r listed) rs ls
    last_fit listed rs ls known = (
      (
        leaving_spares ways lists r.name [] (entry_paths r.conffiles) listed,
        (record { listable = no_paths; known = known }, (none_listed name ls, (tt, (none_listed name ls, tt)))),
      ),
      tt,
    )

    purge_fit : is_not_installed r.state ≡ false → (rs : List Record) (ls : List PackageList) → is_some (record_in rs name) ≡ true → IsPlannedFit name (purge_stage ways lists r stored) rs ls
    purge_fit stands rs ls known = ((record { own = own; stands = stands; known = known }, (purged_elsewhere ways lists r, tt)), tt)

    purges_fit : is_not_installed r.state ≡ false → (listed : List Path) (rs : List Record) (ls : List PackageList) → is_some (record_in rs name) ≡ true → ArePlannedFit name (purge_stages ways lists r stored listed) rs ls
    purges_fit stands listed rs ls known = (purge_fit stands rs ls known, (last_fit listed (put_record (purged r) rs) ls (known_put (purged r) rs name own), tt))

  module _ (r : Record) (own : r.name ≡ name) (to_come : List Path) (comes : IsToCome r stored to_come) where
    behind_left : (purge : Bool) (rs : List Record) (ls : List PackageList) → ArePlannedFit name (cond purge (purge_stages ways lists (config_files r) stored to_come) []) (put_record (config_files r) rs) ls
    behind_left true rs ls = purges_fit (config_files r) own refl to_come (put_record (config_files r) rs) ls (known_put (config_files r) rs name own)
    behind_left false rs ls = tt

    ends_fit : (at_once purge : Bool) (rs : List Record) (ls : List PackageList) → is_some (record_in rs name) ≡ true
        → ArePlannedFit name (cond at_once (gone_stage r ∷ []) (left_stage r ∷ cond purge (purge_stages ways lists (config_files r) stored to_come) [])) rs ls
    ends_fit true purge rs ls known = (gone_fit r own rs ls known, tt)
    ends_fit false purge rs ls known = (left_fit r own rs ls known, behind_left purge rs ls)

    all_files_fit : (purge : Bool) (rs : List Record) (ls : List PackageList) → is_some (record_in rs name) ≡ true → ArePlannedFit name (files_stages ways lists r stored purge to_come) rs ls
    all_files_fit purge rs ls known = (
      files_fit r own to_come comes.are_paths rs ls known,
      ends_fit (goes_at_once r stored) purge (put_record (without_files r) (put_record (losing_files r) rs)) (with_list name to_come ls) (known_put (without_files r) (put_record (losing_files r) rs) name own),
    )

    prerm_fit : is_not_installed r.state ≡ false → (rs : List Record) (ls : List PackageList) → is_some (record_in rs name) ≡ true → IsPlannedFit name (prerm_stage r stored) rs ls
    prerm_fit stands rs ls known =
        ((record { own = own; stands = refl; known = known }, tt), (record { own = own; stands = stands; known = known_put (half_configured r) rs name own }, tt))

    from_fit : (s : State) → r.state ≡ s → (purge : Bool) (rs : List Record) (ls : List PackageList) → is_some (record_in rs name) ≡ true → ArePlannedFit name (stages_from ways lists s r stored purge to_come) rs ls
    from_fit state.NotInstalled is purge rs ls known = all_files_fit purge rs ls known
    from_fit state.ConfigFiles is purge rs ls known = purges_fit r own (ap is_not_installed is) (paths_of lists r.name) rs ls known
    from_fit state.HalfInstalled is purge rs ls known = all_files_fit purge rs ls known
    from_fit state.Unpacked is purge rs ls known = all_files_fit purge rs ls known
    from_fit state.HalfConfigured is purge rs ls known =
        (prerm_fit (ap is_not_installed is) rs ls known, all_files_fit purge (put_record (half_configured r) rs) ls (known_put (half_configured r) rs name own))
    from_fit state.Installed is purge rs ls known =
        (prerm_fit (ap is_not_installed is) rs ls known, all_files_fit purge (put_record (half_configured r) rs) ls (known_put (half_configured r) rs name own))

    pub removal_fit : (extent : Extent) (rs : List Record) (ls : List PackageList) → record_in rs name ≡ Some r → ArePlannedFit name (removal_stages ways lists extent r stored to_come) rs ls
    removal_fit Remove rs ls found = from_fit r.state refl false rs ls (ap is_some found)
    removal_fit Purge rs ls found = from_fit r.state refl true rs ls (ap is_some found)
    removal_fit InFavour rs ls found = all_files_fit false rs ls (ap is_some found)

  -- none settles conffiles
  module _ (r : Record) (to_come : List Path) where
    abbrev AllStill : List Planned → Type 0
    AllStill ps = AllByRecursion IsStillStage ps

    purges_still : (c : Record) (listed : List Path) → AllStill (purge_stages ways lists c stored listed)
    purges_still c listed = (((tt, (tt, tt)), tt), (((tt, (tt, (tt, (tt, (tt, tt))))), tt), tt))

    behind_still : (purge : Bool) → AllStill (cond purge (purge_stages ways lists (config_files r) stored to_come) [])
    behind_still true = purges_still (config_files r) to_come
    behind_still false = tt

    ends_still : (at_once purge : Bool) → AllStill (cond at_once (gone_stage r ∷ []) (left_stage r ∷ cond purge (purge_stages ways lists (config_files r) stored to_come) []))
    ends_still true purge = (((tt, (tt, (tt, (tt, tt)))), tt), tt)
    ends_still false purge = (((tt, (tt, tt)), tt), behind_still purge)

    files_still : (purge : Bool) → AllStill (files_stages ways lists r stored purge to_come)
    files_still purge = (((tt, (tt, (tt, (tt, (tt, (tt, tt)))))), tt), ends_still (goes_at_once r stored) purge)

    from_still : (s : State) (purge : Bool) → AllStill (stages_from ways lists s r stored purge to_come)
    from_still state.NotInstalled purge = files_still purge
    from_still state.ConfigFiles purge = purges_still r (paths_of lists r.name)
    from_still state.HalfInstalled purge = files_still purge
    from_still state.Unpacked purge = files_still purge
    from_still state.HalfConfigured purge = (((tt, tt), (tt, tt)), files_still purge)
    from_still state.Installed purge = (((tt, tt), (tt, tt)), files_still purge)

    pub removal_still : (extent : Extent) → AllStill (removal_stages ways lists extent r stored to_come)
    removal_still Remove = from_still r.state false
    removal_still Purge = from_still r.state true
    removal_still InFavour = files_still false

    -- there is a first one
    some_from : (s : State) (purge : Bool) → (p : Planned) × (ps : List Planned) × (stages_from ways lists s r stored purge to_come ≡ p ∷ ps)
    some_from state.NotInstalled purge = (_, _, refl)
    some_from state.ConfigFiles purge = (_, _, refl)
    some_from state.HalfInstalled purge = (_, _, refl)
    some_from state.Unpacked purge = (_, _, refl)
    some_from state.HalfConfigured purge = (_, _, refl)
    some_from state.Installed purge = (_, _, refl)

    pub some_stage : (extent : Extent) → (p : Planned) × (ps : List Planned) × (removal_stages ways lists extent r stored to_come ≡ p ∷ ps)
    some_stage Remove = some_from r.state false
    some_stage Purge = some_from r.state true
    some_stage InFavour = (_, _, refl)
