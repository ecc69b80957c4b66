-- The stages of a removal and of a purge (Policy 6.8).
use Rattle.std.specs.Prelude.{Bool, true, false, cond, List, [], ◌∷◌, map}
use Rattle.host_core.specs.Paths.{Path}
use Rattle.diversions.specs.Ways.{Ways}
use Rattle.conffiles.specs.declared.entries.Settled.{Settled}
use Rattle.file_lists.specs.Owners.{paths_of}
use Rattle.file_lists.specs.declared.paths.PackageList.{PackageList}
use Rattle.file_removal.specs.declared.leaving.Leaving.{Leaving}
use Rattle.status_records.specs.declared.record.Record.{Record}
use Rattle.status_records.specs.declared.words.State.{State}
use Rattle.status_records.specs.declared.words.State.TheVariants as state
use Rattle.unit_stages.specs.declared.part.Part.{Part}
use Rattle.unit_stages.specs.declared.part.Part.TheVariants.{Note, Forget, Settle, Remove, RemoveDirectories, Clear, List as Listing, DropList, DropMembers}
use Rattle.unit_stages.specs.declared.stage.Stage.{Stage}
use Rattle.undo_rows.specs.declared.rows.Row.{Row}
use Rattle.removal_engine.specs.declared.extent.Extent.{Extent}
use Rattle.removal_engine.specs.declared.extent.Extent.TheVariants as extent
use Rattle.removal_engine.specs.declared.scripts.Stored.{Stored}
use Rattle.removal_engine.specs.Lists.{leaving_directories, leaving_files}
use Rattle.removal_engine.specs.Names.{cleared_names, purged_names, waiting_names}
use Rattle.removal_engine.specs.Records.{config_files, goes_at_once, half_configured, losing_files, purged, without_files}
use Rattle.removal_engine.specs.Scripts.{postrm_row, prerm_row, purge_row, quiet_row}

-- what a part does
pub data Deed : Type 0 where
  Notes : (r : Record) → Deed
  Forgets : Deed
  Settles : (conffiles : List Settled) → Deed
  Removes : (leaving : List Leaving) → Deed
  RemovesDirectories : (leaving : List Leaving) → Deed
  Clears : (names : List Path) → Deed
  Lists : (paths : List Path) → Deed
  DropsList : Deed
  DropsMembers : (keep_postrm : Bool) → Deed

abbrev pub deed : Part → Deed
deed (Note r) = Notes r
deed Forget = Forgets
deed (Settle conffiles) = Settles conffiles.items
deed (Remove leaving) = Removes leaving.items
deed (RemoveDirectories leaving) = RemovesDirectories leaving.items
deed (Clear names) = Clears names.items
deed (Listing paths) = Lists paths
deed DropList = DropsList
deed (DropMembers keep_postrm) = DropsMembers keep_postrm

-- what a stage does, what it calls then, and what it does where that fails and its undo doesn't
pub record Planned : Type 0 where
  pub parts : List Deed
  pub row : Row
  pub restore : List Deed

abbrev pub planned : Stage → Planned
planned s = record { parts = map deed s.parts.items; row = s.row; restore = map deed s.restore.items }

abbrev pub stage_of : List Deed → Row → Planned
stage_of parts row = record { parts = parts; row = row; restore = [] }

-- prerm `remove` is called of a half-configured package; where postinst `abort-remove` undoes that, it is again what it was
abbrev pub prerm_stage : Record → Stored → Planned
prerm_stage r stored = record { parts = Notes (half_configured r) ∷ []; row = prerm_row r.name stored; restore = Notes r ∷ [] }

-- of a package of which nothing is left all that the administration has of it goes
abbrev pub gone_stage : Record → Planned
gone_stage r = stage_of (DropsMembers false ∷ Lists [] ∷ DropsList ∷ Forgets ∷ []) (quiet_row r.name)

-- else its conffiles and its postrm are
abbrev pub left_stage : Record → Planned
left_stage r = stage_of (DropsMembers true ∷ Notes (config_files r) ∷ []) (quiet_row r.name)

module _ (ways : Ways) (lists : List PackageList) where
  -- what waits to be settled goes, then its files, and then postrm `remove` is called
  abbrev pub files_stage : Record → Stored → (to_come : List Path) → Planned
  files_stage r stored to_come = stage_of
      (
      Notes (losing_files r) ∷ Clears (waiting_names ways r.name r.pending) ∷ Removes (leaving_files ways lists r to_come)
      ∷ Clears (cleared_names ways lists r) ∷ Lists to_come ∷ Notes (without_files r) ∷ []
      )
      (postrm_row r.name stored)

  -- its conffiles go, and then postrm `purge` is called
  abbrev pub purge_stage : Record → Stored → Planned
  purge_stage r stored = stage_of (Notes (purged r) ∷ Clears (purged_names ways lists r) ∷ []) (purge_row r.name stored)

  -- the directories that it lists go, and all that the administration has of it
  abbrev pub last_stage : Record → (listed : List Path) → Planned
  last_stage r listed = stage_of (RemovesDirectories (leaving_directories ways lists r listed) ∷ Lists [] ∷ DropsList ∷ DropsMembers false ∷ Forgets ∷ []) (quiet_row r.name)

  -- a purge of a package that is removed
  abbrev pub purge_stages : Record → Stored → (listed : List Path) → List Planned
  purge_stages r stored listed = purge_stage r stored ∷ last_stage r listed ∷ []

  -- what follows the files
  abbrev pub end_stages : Record → Stored → Bool → (to_come : List Path) → List Planned
  end_stages r stored purge to_come =
      cond (goes_at_once r stored) (gone_stage r ∷ []) (left_stage r ∷ cond purge (purge_stages (config_files r) stored to_come) [])

  abbrev pub files_stages : Record → Stored → Bool → (to_come : List Path) → List Planned
  files_stages r stored purge to_come = files_stage r stored to_come ∷ end_stages r stored purge to_come

  -- by the state in which the package is found: a prerm is called of one whose postinst was called since it was unpacked
  abbrev pub stages_from : State → Record → Stored → Bool → (to_come : List Path) → List Planned
  stages_from state.NotInstalled r stored purge to_come = files_stages r stored purge to_come
  stages_from state.ConfigFiles r stored purge to_come = purge_stages r stored (paths_of lists r.name)
  stages_from state.HalfInstalled r stored purge to_come = files_stages r stored purge to_come
  stages_from state.Unpacked r stored purge to_come = files_stages r stored purge to_come
  stages_from state.HalfConfigured r stored purge to_come = prerm_stage r stored ∷ files_stages r stored purge to_come
  stages_from state.Installed r stored purge to_come = prerm_stage r stored ∷ files_stages r stored purge to_come

  -- of a package that is removed in favour of one that is unpacked the prerm was called before (Policy 6.6, step 13)
  abbrev pub removal_stages : Extent → Record → Stored → (to_come : List Path) → List Planned
  removal_stages extent.Remove r stored to_come = stages_from r.state r stored false to_come
  removal_stages extent.Purge r stored to_come = stages_from r.state r stored true to_come
  removal_stages extent.InFavour r stored to_come = files_stages r stored false to_come
