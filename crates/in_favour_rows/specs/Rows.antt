-- The rows that an unpack has for other packages (Policy 6.6, step 2): what is called of each, and what undoes it.
use Rattle.std.specs.Prelude.{◌≡◌, ℕ, Bool, cond, List, [], ◌∷◌, ◌++◌, Option, Some, None, codes, is_some, map}
use Rattle.host_core.specs.World.{World}
use Rattle.host_core.specs.declared.call.Call.{Call}
use Rattle.host_core.specs.declared.call.Side.TheVariants.{Old}
use Rattle.host_core.specs.declared.call.Script.{Script}
use Rattle.host_core.specs.declared.call.Script.TheVariants.{Postinst, Prerm}
use Rattle.administration.specs.Places.{script_path}
use Rattle.undo_rows.specs.declared.rows.Row.{Row}
use Rattle.undo_rows.specs.declared.rows.Owner.TheVariants.{Package as OfPackage}
use Rattle.status_records.specs.declared.record.Record.{Record}
use Rattle.unpack_relations.specs.declared.beside.Beside.{Beside}
use Rattle.unpack_rows.specs.declared.rows.OtherPackage.{OtherPackage}
use Rattle.in_favour_rows.specs.Entries.{entries_of}
use Rattle.in_favour_rows.specs.declared.entries.Entry.{Entry}
use Rattle.in_favour_rows.specs.declared.entries.Role.{Role}
use Rattle.in_favour_rows.specs.declared.entries.Role.TheVariants.{Broken, Dependent, Conflicting}
use Rattle.in_favour_rows.specs.declared.stored.Stored.{Stored}

-- the scripts of a package that are stored in this world
abbrev pub stored_in : World → List ℕ → Stored
stored_in w owner = record { prerm = is_some (w (script_path owner Prerm)); postinst = is_some (w (script_path owner Postinst)) }

-- a stored script; where it isn't there it isn't called
abbrev pub stored_call : Bool → List ℕ → Script → List (List ℕ) → Option Call
stored_call is owner s args =
    cond is
    (Some (record { side = Old; «package» = owner; script = s; at = script_path owner s; args = args }))
    None

-- the package's prerm with these arguments; undone by its postinst with those
abbrev pub row_with : Stored → List ℕ → List (List ℕ) → List (List ℕ) → Row
row_with stored owner forward undo = record {
  owner = OfPackage owner;
  forward = stored_call stored.prerm owner Prerm forward;
  fallback = None;
  undo = stored_call stored.postinst owner Postinst undo;
}

-- `removing OTHER OTHERVER`
abbrev pub removing_args : List ℕ → List ℕ → List (List ℕ)
removing_args other other_version = codes "removing" ∷ other ∷ other_version ∷ []

-- of the unpack of the package of this name and version
module _ (name version : List ℕ) where
  -- `in-favour PKG VER`
  abbrev pub in_favour : List (List ℕ)
  in_favour = codes "in-favour" ∷ name ∷ version ∷ []

  -- a broken package is deconfigured, and so is one that loses what it depends on, which is told what is removed; a conflicting one
  -- is removed
  abbrev pub row_of : Stored → List ℕ → Role → Row
  row_of stored owner Broken =
      row_with stored owner (codes "deconfigure" ∷ in_favour) (codes "abort-deconfigure" ∷ in_favour)
  row_of stored owner (Dependent other other_version) =
      row_with stored owner
      (codes "deconfigure" ∷ (in_favour ++ removing_args other other_version))
      (codes "abort-deconfigure" ∷ (in_favour ++ removing_args other other_version))
  row_of stored owner Conflicting =
      row_with stored owner (codes "remove" ∷ in_favour) (codes "abort-remove" ∷ in_favour)

  -- a package with its row, where these scripts are stored
  abbrev pub package_with : Stored → Entry → OtherPackage
  package_with stored e = record {
    «record» = e.«record»;
    row = row_of stored e.«record».name e.role;
  }

  -- each has the row of its role, whichever of its scripts are stored
  abbrev pub AreRowsOf : List Entry → List OtherPackage → Type 0
  AreRowsOf [] [] = Unit {0}
  AreRowsOf [] (o ∷ os) = ⊥
  AreRowsOf (e ∷ es) [] = ⊥
  AreRowsOf (e ∷ es) (o ∷ os) = ((stored : Stored) × (o ≡ package_with stored e)) × AreRowsOf es os

  -- by the scripts that are stored in this world
  abbrev pub other_package : World → Entry → OtherPackage
  other_package w e = package_with (stored_in w e.«record».name) e

  -- the packages that have a row, each with it
  abbrev pub AreRowsBeside : List Record → Beside → World → List OtherPackage → Type 0
  AreRowsBeside records beside w others = others ≡ map (other_package w) (entries_of records beside)
