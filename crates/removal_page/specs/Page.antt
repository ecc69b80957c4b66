-- Policy 6.7 and 6.8 on one page: what is called of a package that is configured, removed or purged, in order, and how it ends. Each
-- script is there, and was stored with the package.
use Rattle.std.specs.Prelude.{ℕ, true, List, [], ◌∷◌, Option, Some, None, codes}
use Rattle.host_core.specs.declared.call.Call.{Call}
use Rattle.host_core.specs.declared.call.Side.TheVariants.{Old}
use Rattle.host_core.specs.declared.call.Script.{Script}
use Rattle.host_core.specs.declared.call.Script.TheVariants as script
use Rattle.administration.specs.Places.{script_path}
use Rattle.status_records.specs.Configured.{last_configured}
use Rattle.status_records.specs.Standings.{configured}
use Rattle.status_records.specs.declared.record.Record.{Record}
use Rattle.policy_page.specs.Answers.{fails, works}
use Rattle.configure_engine.specs.Settled.{settled}
use Rattle.configure_engine.specs.Stages.{half, last_text}
use Rattle.removal_engine.specs.Records.{config_files, half_configured, purged, without_files}
use Rattle.removal_engine.specs.declared.scripts.Stored.{Stored}
use Rattle.removal_page.specs.Lines.{End, Line, ◌⇒◌}

-- all three scripts that a removal calls
abbrev pub all_stored : Stored
all_stored = record { prerm = true; postinst = true; postrm = true }

-- A package is configured.
pub data Configuring : Type 0 where
  Succeeds : Configuring
  PostinstFails : Configuring

-- One that is installed or half-configured is removed.
pub data Removal : Type 0 where
  Succeeds : Removal
  PrermFails : Removal
  PrermFailsThenPostinst : Removal
  PostrmFails : Removal

-- One that isn't configured is removed, or one in favour of which another is, whose prerm was called before.
pub data RemovalOfFiles : Type 0 where
  Succeeds : RemovalOfFiles
  PostrmFails : RemovalOfFiles

-- One that is installed or half-configured is purged.
pub data Purge : Type 0 where
  Succeeds : Purge
  PrermFails : Purge
  PrermFailsThenPostinst : Purge
  PostrmFails : Purge
  PurgeFails : Purge

-- One that isn't configured is purged.
pub data PurgeOfFiles : Type 0 where
  Succeeds : PurgeOfFiles
  PostrmFails : PurgeOfFiles
  PurgeFails : PurgeOfFiles

-- One that is removed is purged.
pub data PurgeOfConffiles : Type 0 where
  Succeeds : PurgeOfConffiles
  PurgeFails : PurgeOfConffiles

-- no call fails
abbrev pub done : Option Record → End
done left = record { failed = None; left = left }

-- it fails for this call
abbrev pub failed : Call → Record → End
failed call left = record { failed = Some call; left = Some left }

module _ (r : Record) where
  -- the calls, as Policy writes them

  abbrev pub of_old : Script → List (List ℕ) → Call
  of_old s args = record { side = Old; «package» = r.name; script = s; at = script_path r.name s; args = args }

  -- with the version configured last, or nothing
  abbrev pub postinst_configure : Call
  postinst_configure = of_old script.Postinst (codes "configure" ∷ last_text (last_configured r) ∷ [])

  abbrev pub prerm_remove : Call
  prerm_remove = of_old script.Prerm (codes "remove" ∷ [])

  abbrev pub postinst_abort_remove : Call
  postinst_abort_remove = of_old script.Postinst (codes "abort-remove" ∷ [])

  abbrev pub postrm_remove : Call
  postrm_remove = of_old script.Postrm (codes "remove" ∷ [])

  abbrev pub postrm_purge : Call
  postrm_purge = of_old script.Postrm (codes "purge" ∷ [])

  -- its conffiles are settled before the call
  abbrev pub configuring : Configuring → Line
  configuring Configuring.Succeeds =
      works postinst_configure ∷ []
      ⇒ done (Some (configured (settled r)))
  configuring Configuring.PostinstFails =
      fails postinst_configure ∷ []
      ⇒ failed postinst_configure (half (settled r))

  -- where postrm fails the files are gone, and it is half-installed
  abbrev pub removal : Removal → Line
  removal Removal.Succeeds =
      works prerm_remove ∷ works postrm_remove ∷ []
      ⇒ done (Some (config_files r))
  removal Removal.PrermFails =
      fails prerm_remove ∷ works postinst_abort_remove ∷ []
      ⇒ failed prerm_remove r
  removal Removal.PrermFailsThenPostinst =
      fails prerm_remove ∷ fails postinst_abort_remove ∷ []
      ⇒ failed prerm_remove (half_configured r)
  removal Removal.PostrmFails =
      works prerm_remove ∷ fails postrm_remove ∷ []
      ⇒ failed postrm_remove (without_files r)

  abbrev pub removal_of_files : RemovalOfFiles → Line
  removal_of_files RemovalOfFiles.Succeeds =
      works postrm_remove ∷ []
      ⇒ done (Some (config_files r))
  removal_of_files RemovalOfFiles.PostrmFails =
      fails postrm_remove ∷ []
      ⇒ failed postrm_remove (without_files r)

  -- where postrm `purge` fails the conffiles are gone, and it is config-files
  abbrev pub purge : Purge → Line
  purge Purge.Succeeds =
      works prerm_remove ∷ works postrm_remove ∷ works postrm_purge ∷ []
      ⇒ done None
  purge Purge.PrermFails =
      fails prerm_remove ∷ works postinst_abort_remove ∷ []
      ⇒ failed prerm_remove r
  purge Purge.PrermFailsThenPostinst =
      fails prerm_remove ∷ fails postinst_abort_remove ∷ []
      ⇒ failed prerm_remove (half_configured r)
  purge Purge.PostrmFails =
      works prerm_remove ∷ fails postrm_remove ∷ []
      ⇒ failed postrm_remove (without_files r)
  purge Purge.PurgeFails =
      works prerm_remove ∷ works postrm_remove ∷ fails postrm_purge ∷ []
      ⇒ failed postrm_purge (purged (config_files r))

  abbrev pub purge_of_files : PurgeOfFiles → Line
  purge_of_files PurgeOfFiles.Succeeds =
      works postrm_remove ∷ works postrm_purge ∷ []
      ⇒ done None
  purge_of_files PurgeOfFiles.PostrmFails =
      fails postrm_remove ∷ []
      ⇒ failed postrm_remove (without_files r)
  purge_of_files PurgeOfFiles.PurgeFails =
      works postrm_remove ∷ fails postrm_purge ∷ []
      ⇒ failed postrm_purge (purged (config_files r))

  abbrev pub purge_of_conffiles : PurgeOfConffiles → Line
  purge_of_conffiles PurgeOfConffiles.Succeeds =
      works postrm_purge ∷ []
      ⇒ done None
  purge_of_conffiles PurgeOfConffiles.PurgeFails =
      fails postrm_purge ∷ []
      ⇒ failed postrm_purge (purged r)
