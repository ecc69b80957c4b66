-- What stands in `info` under the package's name: what a name without a record left behind goes before the row of its new preinst,
-- and not before the rows of other packages.
use Rattle.std.specs.Prelude.{◌≡◌, ◌≢◌, ◌⊎◌, ◌+◌, ◌&&◌, ℕ, Bool, true, false, nat_le, List, [], Option, None, is_some, not}
use Rattle.host_core.specs.Paths.{Path}
use Rattle.host_core.specs.World.{World}
use Rattle.administration.specs.Places.{list_path}
use Rattle.undo_rows.specs.Place.{Place, Forward, Ready, Back}
use Rattle.control_members.specs.Names.{is_member_name}
use Rattle.control_members.specs.Stored.{AreStored, stored_member_path}
use Rattle.status_records.specs.declared.record.Record.{Record}
use Rattle.unpack_rows.specs.declared.kinds.RowKind.{RowKind}
use Rattle.unpack_rows.specs.declared.kinds.RowKind.TheVariants.{Prerm, Other, Preinst, Files, Postrm}

-- a path that is neither the list of a package nor one of its stored control files
pub record IsBesideOwn (name : List ℕ) (q : Path) : Type 0 where
  pub list : q ≢ list_path name
  pub members : (member : Path) → is_member_name member ≡ true → q ≢ stored_member_path name member

-- nothing is left in `info` under this name, and all else is as before
pub record IsCleared (name : List ℕ) (old new : World) : Type 0 where
  pub list : new (list_path name) ≡ None
  pub members : AreStored name [] new
  pub rest : (q : Path) → IsBesideOwn name q → new q ≡ old q

-- at each moment: what stood there, or nothing
pub record IsClearing (name : List ℕ) (old now : World) : Type 0 where
  pub list : (now (list_path name) ≡ old (list_path name)) ⊎ (now (list_path name) ≡ None)
  pub members : (member : Path) → is_member_name member ≡ true
      → (now (stored_member_path name member) ≡ old (stored_member_path name member)) ⊎ (now (stored_member_path name member) ≡ None)
  pub rest : (q : Path) → IsBesideOwn name q → now q ≡ old q

-- what is left under the name is gone, where it goes; else all is as before
abbrev pub HasCleared : (gone : Bool) → List ℕ → World → World → Type 0
HasCleared true name old new = IsCleared name old new
HasCleared false name old new = new ≡ old

-- at each moment: it is gone already; or it goes, or all is as before
abbrev pub MayClear : (gone goes : Bool) → List ℕ → World → World → Type 0
MayClear true goes name old now = IsCleared name old now
MayClear false true name old now = IsClearing name old now
MayClear false false name old now = now ≡ old

-- the rows are at that of the new preinst or behind it, where only these of other packages come before it
abbrev pub is_preinst_begun : (others : ℕ) → Place → Bool
is_preinst_begun others (Forward k) = nat_le (others + 1) k
is_preinst_begun others (Ready k) = nat_le others k
is_preinst_begun others (Back k fall failed) = nat_le others fall.row

-- by then nothing is left under the name of a package without a record; one that has a record keeps its files
abbrev pub is_gone : Option Record → (others : ℕ) → Place → Bool
is_gone found others place = not (is_some found) && is_preinst_begun others place

-- where what comes before the next call is done
abbrev pub next_ready : Place → Place
next_ready (Forward k) = Ready k
next_ready (Ready k) = Ready k
next_ready (Back k fall failed) = Back k fall failed

-- it is the row of the package's new preinst
abbrev pub is_preinst : RowKind → Bool
is_preinst Prerm = false
is_preinst (Other r) = false
is_preinst Preinst = true
is_preinst Files = false
is_preinst Postrm = false

-- what is left under the name goes before the call of this row
abbrev pub clears_before : Option Record → RowKind → Bool
clears_before found kind = not (is_some found) && is_preinst kind
