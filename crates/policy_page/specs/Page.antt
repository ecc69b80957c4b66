-- Policy 6.6 on one page: what is called, in order, where a call fails, and how the package ends. Each script is there, and no other
-- package is concerned.
use Rattle.std.specs.Prelude.{ℕ, List, [], ◌∷◌, ◌++◌, Option, Some, None, codes}
use Rattle.host_core.specs.declared.call.Call.{Call}
use Rattle.host_core.specs.declared.call.Side.TheVariants.{Old, New}
use Rattle.host_core.specs.declared.call.Script.{Script}
use Rattle.host_core.specs.declared.call.Script.TheVariants as script
use Rattle.administration.specs.Places.{script_path, tmp_script_path}
use Rattle.undo_rows.specs.declared.fall.Fall.{Fall}
use Rattle.undo_rows.specs.declared.fall.StepFault.{StepFault}
use Rattle.undo_rows.specs.declared.rows.Owner.TheVariants.{Package as OfPackage}
use Rattle.undo_rows.specs.Transcripts.{Committed, Unwound}
use Rattle.status_records.specs.declared.record.Record.{Record}
use Rattle.status_records.specs.declared.words.State.{State}
use Rattle.status_records.specs.declared.words.State.TheVariants as state
use Rattle.unpack_rows.specs.Kinds.{own_of, state_of}
use Rattle.unpack_rows.specs.Notes.{half_configured, half_installed, unpacked}
use Rattle.unpack_rows.specs.Stages.{Stage, Unwritten, Wrote, Restored, failed_at}
use Rattle.policy_page.specs.Answers.{Answer, Way, fails, goes, works}
use Rattle.policy_page.specs.Lines.{End, Line, ◌⇒◌}

-- The upgrade of a package that is installed or half-configured: what fails, and which undo call fails then.
pub data Upgrade : Type 0 where
  Succeeds : (prerm postrm : Way) → Upgrade
  PrermFails : Upgrade
  PrermFailsThenPostinst : Upgrade
  PreinstFails : (prerm : Way) → Upgrade
  PreinstFailsThenPostrm : (prerm : Way) → Upgrade
  PreinstFailsThenPostinst : (prerm : Way) → Upgrade
  FilesFail : (prerm : Way) (fault : StepFault) → Upgrade
  FilesFailThenPostrm : (prerm : Way) (fault : StepFault) → Upgrade
  FilesFailThenPostinst : (prerm : Way) (fault : StepFault) → Upgrade
  PostrmFails : (prerm : Way) → Upgrade
  PostrmFailsThenPreinst : (prerm : Way) → Upgrade
  PostrmFailsThenPostrm : (prerm : Way) → Upgrade
  PostrmFailsThenPostinst : (prerm : Way) → Upgrade

-- That of a package that is unpacked or half-installed: its prerm isn't called, and so its postinst isn't either.
pub data Unconfigured : Type 0 where
  Succeeds : (postrm : Way) → Unconfigured
  PreinstFails : Unconfigured
  PreinstFailsThenPostrm : Unconfigured
  FilesFail : (fault : StepFault) → Unconfigured
  FilesFailThenPostrm : (fault : StepFault) → Unconfigured
  PostrmFails : Unconfigured
  PostrmFailsThenPreinst : Unconfigured
  PostrmFailsThenPostrm : Unconfigured

-- The install of a package that isn't there, or of which conffiles alone are.
pub data Install : Type 0 where
  Succeeds : Install
  PreinstFails : Install
  PreinstFailsThenPostrm : Install
  FilesFail : (fault : StepFault) → Install
  FilesFailThenPostrm : (fault : StepFault) → Install

-- the row of this number failed, counted from 0
abbrev pub row : ℕ → Fall
row n = record { row = n; fault = None }

-- it is that of the files, which couldn't be written for this
abbrev pub files_row : ℕ → StepFault → Fall
files_row n fault = record { row = n; fault = Some fault }

-- how it leaves them: as they were before it, or put back where a step was declined
abbrev files_after : StepFault → Stage
files_after fault = failed_at (Some fault)

module _ (start : Option Record) (incoming : Record) where
  abbrev own : Record
  own = own_of start incoming

  abbrev old : List ℕ
  old = own.version

  abbrev new : List ℕ
  new = incoming.version

  -- the calls, as Policy writes them

  abbrev pub of_old : Script → List (List ℕ) → Call
  of_old s args = record { side = Old; «package» = own.name; script = s; at = script_path own.name s; args = args }

  abbrev pub of_new : Script → List (List ℕ) → Call
  of_new s args = record { side = New; «package» = own.name; script = s; at = tmp_script_path s; args = args }

  abbrev pub old_prerm_upgrade : Call
  old_prerm_upgrade = of_old script.Prerm (codes "upgrade" ∷ new ∷ [])

  abbrev pub new_prerm_failed_upgrade : Call
  new_prerm_failed_upgrade = of_new script.Prerm (codes "failed-upgrade" ∷ old ∷ new ∷ [])

  abbrev pub new_preinst_upgrade : Call
  new_preinst_upgrade = of_new script.Preinst (codes "upgrade" ∷ old ∷ new ∷ [])

  abbrev pub old_postrm_upgrade : Call
  old_postrm_upgrade = of_old script.Postrm (codes "upgrade" ∷ new ∷ [])

  abbrev pub new_postrm_failed_upgrade : Call
  new_postrm_failed_upgrade = of_new script.Postrm (codes "failed-upgrade" ∷ old ∷ new ∷ [])

  abbrev pub old_preinst_abort_upgrade : Call
  old_preinst_abort_upgrade = of_old script.Preinst (codes "abort-upgrade" ∷ new ∷ [])

  abbrev pub new_postrm_abort_upgrade : Call
  new_postrm_abort_upgrade = of_new script.Postrm (codes "abort-upgrade" ∷ old ∷ new ∷ [])

  abbrev pub old_postinst_abort_upgrade : Call
  old_postinst_abort_upgrade = of_old script.Postinst (codes "abort-upgrade" ∷ new ∷ [])

  -- where conffiles are left both versions are passed
  abbrev pub passed : State → List (List ℕ)
  passed state.NotInstalled = []
  passed _ = old ∷ new ∷ []

  abbrev pub new_preinst_install : Call
  new_preinst_install = of_new script.Preinst (codes "install" ∷ passed (state_of start))

  abbrev pub new_postrm_abort_install : Call
  new_postrm_abort_install = of_new script.Postrm (codes "abort-install" ∷ passed (state_of start))

  abbrev pub prerm_goes : Way → List Answer
  prerm_goes way = goes old_prerm_upgrade new_prerm_failed_upgrade way

  abbrev pub postrm_goes : Way → List Answer
  postrm_goes way = goes old_postrm_upgrade new_postrm_failed_upgrade way

  -- the unpack goes on; until its last note the package is half-installed
  abbrev goes_on : End
  goes_on = record { ended = Committed; files = Wrote; left = Some (half_installed own) }

  -- this row fails, and all is undone
  abbrev undone : Fall → Stage → End
  undone fall files = record { ended = Unwound fall []; files = files; left = start }

  -- and then the undo of this row; of this package nothing more is called
  abbrev undo_fails : Fall → Stage → ℕ → Record → End
  undo_fails fall files at left = record {
    ended = Unwound fall (record { row = at; owner = OfPackage own.name } ∷ []);
    files = files;
    left = Some left;
  }

  -- the rows: 0 prerm, 1 preinst, 2 files, 3 postrm
  abbrev pub upgrade : Upgrade → Line
  upgrade (Upgrade.Succeeds prerm postrm) =
      prerm_goes prerm ++ works new_preinst_upgrade ∷ postrm_goes postrm
      ⇒ goes_on
  upgrade Upgrade.PrermFails =
      fails old_prerm_upgrade ∷ fails new_prerm_failed_upgrade ∷ works old_postinst_abort_upgrade ∷ []
      ⇒ undone (row 0) Unwritten
  upgrade Upgrade.PrermFailsThenPostinst =
      fails old_prerm_upgrade ∷ fails new_prerm_failed_upgrade ∷ fails old_postinst_abort_upgrade ∷ []
      ⇒ undo_fails (row 0) Unwritten 0 (half_configured own)
  upgrade (Upgrade.PreinstFails prerm) =
      prerm_goes prerm ++ fails new_preinst_upgrade ∷ works new_postrm_abort_upgrade ∷ works old_postinst_abort_upgrade ∷ []
      ⇒ undone (row 1) Unwritten
  upgrade (Upgrade.PreinstFailsThenPostrm prerm) =
      prerm_goes prerm ++ fails new_preinst_upgrade ∷ fails new_postrm_abort_upgrade ∷ []
      ⇒ undo_fails (row 1) Unwritten 1 (half_installed own)
  upgrade (Upgrade.PreinstFailsThenPostinst prerm) =
      prerm_goes prerm ++ fails new_preinst_upgrade ∷ works new_postrm_abort_upgrade ∷ fails old_postinst_abort_upgrade ∷ []
      ⇒ undo_fails (row 1) Unwritten 0 (unpacked own)
  upgrade (Upgrade.FilesFail prerm fault) =
      prerm_goes prerm ++ works new_preinst_upgrade ∷ works new_postrm_abort_upgrade ∷ works old_postinst_abort_upgrade ∷ []
      ⇒ undone (files_row 2 fault) (files_after fault)
  upgrade (Upgrade.FilesFailThenPostrm prerm fault) =
      prerm_goes prerm ++ works new_preinst_upgrade ∷ fails new_postrm_abort_upgrade ∷ []
      ⇒ undo_fails (files_row 2 fault) (files_after fault) 1 (half_installed own)
  upgrade (Upgrade.FilesFailThenPostinst prerm fault) =
      prerm_goes prerm ++ works new_preinst_upgrade ∷ works new_postrm_abort_upgrade ∷ fails old_postinst_abort_upgrade ∷ []
      ⇒ undo_fails (files_row 2 fault) (files_after fault) 0 (unpacked own)
  upgrade (Upgrade.PostrmFails prerm) =
      prerm_goes prerm ++ works new_preinst_upgrade ∷ fails old_postrm_upgrade ∷ fails new_postrm_failed_upgrade
      ∷ works old_preinst_abort_upgrade ∷ works new_postrm_abort_upgrade ∷ works old_postinst_abort_upgrade ∷ []
      ⇒ undone (row 3) Restored
  upgrade (Upgrade.PostrmFailsThenPreinst prerm) =
      prerm_goes prerm ++ works new_preinst_upgrade ∷ fails old_postrm_upgrade ∷ fails new_postrm_failed_upgrade
      ∷ fails old_preinst_abort_upgrade ∷ []
      ⇒ undo_fails (row 3) Restored 3 (half_installed own)
  upgrade (Upgrade.PostrmFailsThenPostrm prerm) =
      prerm_goes prerm ++ works new_preinst_upgrade ∷ fails old_postrm_upgrade ∷ fails new_postrm_failed_upgrade
      ∷ works old_preinst_abort_upgrade ∷ fails new_postrm_abort_upgrade ∷ []
      ⇒ undo_fails (row 3) Restored 1 (half_installed own)
  upgrade (Upgrade.PostrmFailsThenPostinst prerm) =
      prerm_goes prerm ++ works new_preinst_upgrade ∷ fails old_postrm_upgrade ∷ fails new_postrm_failed_upgrade
      ∷ works old_preinst_abort_upgrade ∷ works new_postrm_abort_upgrade ∷ fails old_postinst_abort_upgrade ∷ []
      ⇒ undo_fails (row 3) Restored 0 (unpacked own)

  -- the rows: 0 preinst, 1 files, 2 postrm
  abbrev pub upgrade_unconfigured : Unconfigured → Line
  upgrade_unconfigured (Unconfigured.Succeeds postrm) =
      works new_preinst_upgrade ∷ postrm_goes postrm
      ⇒ goes_on
  upgrade_unconfigured Unconfigured.PreinstFails =
      fails new_preinst_upgrade ∷ works new_postrm_abort_upgrade ∷ []
      ⇒ undone (row 0) Unwritten
  upgrade_unconfigured Unconfigured.PreinstFailsThenPostrm =
      fails new_preinst_upgrade ∷ fails new_postrm_abort_upgrade ∷ []
      ⇒ undo_fails (row 0) Unwritten 0 (half_installed own)
  upgrade_unconfigured (Unconfigured.FilesFail fault) =
      works new_preinst_upgrade ∷ works new_postrm_abort_upgrade ∷ []
      ⇒ undone (files_row 1 fault) (files_after fault)
  upgrade_unconfigured (Unconfigured.FilesFailThenPostrm fault) =
      works new_preinst_upgrade ∷ fails new_postrm_abort_upgrade ∷ []
      ⇒ undo_fails (files_row 1 fault) (files_after fault) 0 (half_installed own)
  upgrade_unconfigured Unconfigured.PostrmFails =
      works new_preinst_upgrade ∷ fails old_postrm_upgrade ∷ fails new_postrm_failed_upgrade
      ∷ works old_preinst_abort_upgrade ∷ works new_postrm_abort_upgrade ∷ []
      ⇒ undone (row 2) Restored
  upgrade_unconfigured Unconfigured.PostrmFailsThenPreinst =
      works new_preinst_upgrade ∷ fails old_postrm_upgrade ∷ fails new_postrm_failed_upgrade
      ∷ fails old_preinst_abort_upgrade ∷ []
      ⇒ undo_fails (row 2) Restored 2 (half_installed own)
  upgrade_unconfigured Unconfigured.PostrmFailsThenPostrm =
      works new_preinst_upgrade ∷ fails old_postrm_upgrade ∷ fails new_postrm_failed_upgrade
      ∷ works old_preinst_abort_upgrade ∷ fails new_postrm_abort_upgrade ∷ []
      ⇒ undo_fails (row 2) Restored 0 (half_installed own)

  -- the rows: 0 preinst, 1 files
  abbrev pub install : Install → Line
  install Install.Succeeds =
      works new_preinst_install ∷ []
      ⇒ goes_on
  install Install.PreinstFails =
      fails new_preinst_install ∷ works new_postrm_abort_install ∷ []
      ⇒ undone (row 0) Unwritten
  install Install.PreinstFailsThenPostrm =
      fails new_preinst_install ∷ fails new_postrm_abort_install ∷ []
      ⇒ undo_fails (row 0) Unwritten 0 (half_installed own)
  install (Install.FilesFail fault) =
      works new_preinst_install ∷ works new_postrm_abort_install ∷ []
      ⇒ undone (files_row 1 fault) (files_after fault)
  install (Install.FilesFailThenPostrm fault) =
      works new_preinst_install ∷ fails new_postrm_abort_install ∷ []
      ⇒ undo_fails (files_row 1 fault) (files_after fault) 0 (half_installed own)
