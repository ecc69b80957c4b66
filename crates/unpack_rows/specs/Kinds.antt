-- Which rows an unpack has, by the state in which it finds the package (Policy 6.6).
use Rattle.std.specs.Prelude.{ℕ, Bool, true, false, cond, List, [], ◌∷◌, ◌++◌, Option, Some, None, map}
use Rattle.undo_rows.specs.declared.rows.Owner.{Owner}
use Rattle.undo_rows.specs.declared.rows.Owner.TheVariants.{Package as OfPackage, Files as OfFiles}
use Rattle.status_records.specs.declared.record.Record.{Record}
use Rattle.status_records.specs.declared.words.State.{State}
use Rattle.status_records.specs.declared.words.State.TheVariants as state
use Rattle.unpack_rows.specs.declared.kinds.RowKind.{RowKind}
use Rattle.unpack_rows.specs.declared.kinds.RowKind.TheVariants.{Prerm, Other, Preinst, Files, Postrm}

-- the state in which a package is; one that has no record isn't installed
abbrev pub state_of : Option Record → State
state_of None = state.NotInstalled
state_of (Some r) = r.state

-- the record that the notes change: the package's, or that of the incoming package where it had none
abbrev pub own_of : Option Record → Record → Record
own_of None incoming = incoming
own_of (Some r) incoming = r

-- the old prerm is called: the package is configured, or half so
abbrev pub has_prerm : State → Bool
has_prerm state.NotInstalled = false
has_prerm state.ConfigFiles = false
has_prerm state.HalfInstalled = false
has_prerm state.Unpacked = false
has_prerm state.HalfConfigured = true
has_prerm state.Installed = true

-- it is an upgrade: files of the package are there, and its old postrm is called
abbrev pub is_upgrade : State → Bool
is_upgrade state.NotInstalled = false
is_upgrade state.ConfigFiles = false
is_upgrade state.HalfInstalled = true
is_upgrade state.Unpacked = true
is_upgrade state.HalfConfigured = true
is_upgrade state.Installed = true

-- the row before those of other packages, where the old prerm is called
abbrev pub first_kinds : Bool → List RowKind
first_kinds prerm = cond prerm (Prerm ∷ []) []

-- the rows behind those of other packages, where it is an upgrade
abbrev pub last_kinds : Bool → List RowKind
last_kinds upgrade = Preinst ∷ Files ∷ cond upgrade (Postrm ∷ []) []

-- the old prerm, the rows of other packages, the new preinst, the files, the old postrm
abbrev pub kinds_of : Option Record → List Record → List RowKind
kinds_of start others =
    first_kinds (has_prerm (state_of start)) ++ (map (λ r. Other r) others ++ last_kinds (is_upgrade (state_of start)))

-- whose row it is, where the package is of this name
abbrev pub owner_of : List ℕ → RowKind → Owner
owner_of name Prerm = OfPackage name
owner_of name (Other r) = OfPackage r.name
owner_of name Preinst = OfPackage name
owner_of name Files = OfFiles
owner_of name Postrm = OfPackage name
