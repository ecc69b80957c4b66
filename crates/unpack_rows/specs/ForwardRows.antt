-- The forward rows of an unpack (Policy 6.6): what is called, what is called where that fails, and what undoes it.
use Rattle.std.specs.Prelude.{◌≡◌, ℕ, ◌<◌, Bool, cond, List, [], ◌∷◌, ◌++◌, Option, Some, None, codes, get_or, length, map}
use Rattle.host_core.specs.declared.call.Call.{Call}
use Rattle.host_core.specs.declared.call.Side.TheVariants.{Old, New}
use Rattle.host_core.specs.declared.call.Script.{Script}
use Rattle.host_core.specs.declared.call.Script.TheVariants as script
use Rattle.administration.specs.Places.{script_path, tmp_script_path}
use Rattle.undo_rows.specs.declared.rows.Row.{Row}
use Rattle.undo_rows.specs.declared.rows.Owner.TheVariants.{Package as OfPackage, Files as OfFiles}
use Rattle.status_records.specs.declared.record.Record.{Record}
use Rattle.status_records.specs.declared.words.State.{State}
use Rattle.status_records.specs.declared.words.State.TheVariants as state
use Rattle.unpack_rows.specs.declared.kinds.RowKind.{RowKind}
use Rattle.unpack_rows.specs.declared.rows.Present.{Present}
use Rattle.unpack_rows.specs.declared.rows.OtherPackage.{OtherPackage}
use Rattle.unpack_rows.specs.Kinds.{state_of, own_of, has_prerm, is_upgrade, owner_of}

-- which of a package's scripts are there
abbrev pub is_present : Present → Script → Bool
is_present p script.Preinst = p.preinst
is_present p script.Postinst = p.postinst
is_present p script.Prerm = p.prerm
is_present p script.Postrm = p.postrm

-- a script of the old version, which is stored; where it isn't there it isn't called
abbrev pub old_call : List ℕ → Present → Script → List (List ℕ) → Option Call
old_call name stored s args =
    cond (is_present stored s)
    (Some (record { side = Old; «package» = name; script = s; at = script_path name s; args = args }))
    None

-- a script of the incoming tree, from where it lies while the unit runs; where it isn't there it isn't called
abbrev pub new_call : List ℕ → Present → Script → List (List ℕ) → Option Call
new_call name tree s args =
    cond (is_present tree s)
    (Some (record { side = New; «package» = name; script = s; at = tmp_script_path s; args = args }))
    None

-- the files have no call
abbrev pub files_row : Row
files_row = record { owner = OfFiles; forward = None; fallback = None; undo = None }

-- of the package of this name, with its old and new version, the stored scripts and those of the tree
module _ (name old new : List ℕ) (stored tree : Present) where
  -- old prerm `upgrade NEW`, else new prerm `failed-upgrade OLD NEW`; undone by old postinst `abort-upgrade NEW`
  abbrev pub prerm_row : Row
  prerm_row = record {
    owner = OfPackage name;
    forward = old_call name stored script.Prerm (codes "upgrade" ∷ new ∷ []);
    fallback = new_call name tree script.Prerm (codes "failed-upgrade" ∷ old ∷ new ∷ []);
    undo = old_call name stored script.Postinst (codes "abort-upgrade" ∷ new ∷ []);
  }

  -- of an upgrade: new preinst `upgrade OLD NEW`; undone by new postrm `abort-upgrade OLD NEW`
  abbrev pub upgrade_row : Row
  upgrade_row = record {
    owner = OfPackage name;
    forward = new_call name tree script.Preinst (codes "upgrade" ∷ old ∷ new ∷ []);
    fallback = None;
    undo = new_call name tree script.Postrm (codes "abort-upgrade" ∷ old ∷ new ∷ []);
  }

  -- where conffiles of the package stayed: new preinst `install OLD NEW`; undone by new postrm `abort-install OLD NEW`
  abbrev pub reinstall_row : Row
  reinstall_row = record {
    owner = OfPackage name;
    forward = new_call name tree script.Preinst (codes "install" ∷ old ∷ new ∷ []);
    fallback = None;
    undo = new_call name tree script.Postrm (codes "abort-install" ∷ old ∷ new ∷ []);
  }

  -- where nothing of the package was there: new preinst `install`; undone by new postrm `abort-install`
  abbrev pub install_row : Row
  install_row = record {
    owner = OfPackage name;
    forward = new_call name tree script.Preinst (codes "install" ∷ []);
    fallback = None;
    undo = new_call name tree script.Postrm (codes "abort-install" ∷ []);
  }

  -- the row of the new preinst, by the state in which the package is found
  abbrev pub preinst_row : State → Row
  preinst_row state.NotInstalled = install_row
  preinst_row state.ConfigFiles = reinstall_row
  preinst_row state.HalfInstalled = upgrade_row
  preinst_row state.Unpacked = upgrade_row
  preinst_row state.HalfConfigured = upgrade_row
  preinst_row state.Installed = upgrade_row

  -- old postrm `upgrade NEW`, else new postrm `failed-upgrade OLD NEW`; undone by old preinst `abort-upgrade NEW`
  abbrev pub postrm_row : Row
  postrm_row = record {
    owner = OfPackage name;
    forward = old_call name stored script.Postrm (codes "upgrade" ∷ new ∷ []);
    fallback = new_call name tree script.Postrm (codes "failed-upgrade" ∷ old ∷ new ∷ []);
    undo = old_call name stored script.Preinst (codes "abort-upgrade" ∷ new ∷ []);
  }

  -- the row before those of other packages
  abbrev pub first_rows : State → List Row
  first_rows start = cond (has_prerm start) (prerm_row ∷ []) []

  -- the rows behind them
  abbrev pub last_rows : State → List Row
  last_rows start = preinst_row start ∷ files_row ∷ cond (is_upgrade start) (postrm_row ∷ []) []

  -- the old prerm, the rows of other packages, the new preinst, the files, the old postrm
  abbrev pub rows_from : State → List Row → List Row
  rows_from start others = first_rows start ++ (others ++ last_rows start)

-- the rows of an unpack that finds this record of the package
abbrev pub rows_of : Option Record → Record → Present → Present → List Row → List Row
rows_of start incoming stored tree others =
    rows_from (own_of start incoming).name (own_of start incoming).version incoming.version stored tree (state_of start) others

-- the records of other packages
abbrev pub records_of : List OtherPackage → List Record
records_of others = map (λ o. o.«record») others

-- their rows
abbrev pub others_rows : List OtherPackage → List Row
others_rows others = map (λ o. o.row) others

-- each row is of the package beside it
abbrev pub AreOwn : List OtherPackage → Type 0
AreOwn [] = Unit {0}
AreOwn (o ∷ os) = (o.row.owner ≡ OfPackage o.«record».name) × AreOwn os

-- the row at this index is of the owner that its kind says
abbrev pub Fits : List ℕ → List RowKind → ℕ → Row → Type 0
Fits name kinds index row =
    (index < length kinds) × ((k : RowKind) → k ≡ get_or kinds index k → row.owner ≡ owner_of name k)
