-- What the beginning of a unit leaves, and what is left under the package's name then: the records, and no directory in `info`.
use Rattle.std.proofs.Common.{◌≡◌, ◌⊎◌, inl, inr, IsTrue, Bool, true, false, List, ◌∷◌, ◌++◌, None, length, refl, sym, subst, ◌∙◌, arith}
use Rattle.texts.specs.PackageNames.{is_package_name}
use Rattle.host_core.specs.Paths.{Path}
use Rattle.host_core.specs.World.{World, IsDirectory, KeepsBut}
use Rattle.host_core.specs.Host.{State}
use Rattle.administration.specs.Files.{NoDirectory}
use Rattle.administration.specs.Places.{info_path, list_path, tmp_path, is_within}
use Rattle.administration.proofs.WholeFiles.{no_directory_at, no_directory_none}
use Rattle.undo_rows.specs.Place.{Place, Forward, Ready, Back}
use Rattle.control_members.specs.LaidOut.{AreLaidOut}
use Rattle.control_members.specs.Names.{is_member_name}
use Rattle.control_members.specs.Stored.{IsMembersReady, stored_member_path}
use Rattle.control_members.proofs.LaidOut.{laid_elsewhere}
use Rattle.file_lists.specs.Info.{AreLoose}
use Rattle.file_lists.specs.Writing.{IsListReady}
use Rattle.package_files.specs.declared.work.Work.{Work}
use Rattle.unpack_plan.specs.Planned.{Planned}
use Rattle.unpack_rows.specs.Kinds.{kinds_of}
use Rattle.unpack_rows.specs.Stages.{Stage, Unwritten, Wrote, Restored, stage_of}
use Rattle.unpack_steps.specs.At.{AreFound, AreWorksAt, At, Holding}
use Rattle.unpack_steps.specs.Clearing.{IsBesideOwn, IsCleared, IsClearing, MayClear, is_gone, next_ready}
use Rattle.unpack_steps.specs.Stays.{clear_here}
use Rattle.unpack_steps.specs.Task.{state_on}
use Rattle.unpack_engine.specs.Units.{Begins, BeginsAt, Ground, package_name, task_from}
use Rattle.unpack_engine.proofs.Begun.{may_same, own_beside, tmp_byte}
use Rattle.unpack_engine.proofs.Ready.{list_ready, members_ready}

pub gone_at : (w : World) (p q : Path) → w p ≡ None → IsDirectory (w q) → q ≡ p → ⊥
gone_at w p q none is e = no_directory_at (w p) None none no_directory_none (subst (λ x. IsDirectory (w x)) e is)

pub loose_at : (v w : World) (p q : Path) → (w p ≡ v p) ⊎ (w p ≡ None) → NoDirectory (v p) → IsDirectory (w q) → q ≡ p → ⊥
loose_at v w p q (inl same) loose is e = loose (subst IsDirectory same (subst (λ x. IsDirectory (w x)) e is))
loose_at v w p q (inr none) loose is e = gone_at w p q none is e

module _ (name : Path) (named : is_package_name name ≡ true) (v w : World) where
  clearing_beside : IsClearing name v w → AreLoose v → (q : Path) → NoDirectory (v (list_path name)) → ((member : Path) → is_member_name member ≡ true → NoDirectory (v (stored_member_path name member))) → IsDirectory (w q) → IsBesideOwn name q
  clearing_beside clearing loose q list members is = record {
    list = λ e. loose_at v w (list_path name) q clearing.list list is e;
    members = λ member m e. loose_at v w (stored_member_path name member) q (clearing.members member m) (members member m) is e;
  }

  pub cleared_clearing : IsCleared name v w → IsClearing name v w
  cleared_clearing cleared = record { list = inr cleared.list; members = λ member is. inr (cleared.members member is); rest = cleared.rest }

  pub clearing_loose : IsClearing name v w → IsListReady name v → IsMembersReady name v → AreLoose v → AreLoose w
  clearing_loose clearing list members loose entry plain is =
      let q = info_path ++ 47 ∷ entry in
      loose entry plain (subst IsDirectory (clearing.rest q (clearing_beside clearing loose q list.target members.own is)) is)

may_loose : (gone goes : Bool) (name : Path) → is_package_name name ≡ true → (v w : World) → MayClear gone goes name v w → IsListReady name v → IsMembersReady name v → AreLoose v → AreLoose w
may_loose true goes name named v w cleared list members loose = clearing_loose name named v w (cleared_clearing name named v w cleared) list members loose
may_loose false true name named v w clearing list members loose = clearing_loose name named v w clearing list members loose
may_loose false false name named v w same list members loose = subst AreLoose (sym same) loose

-- the control files are laid out
pub laid_loose : (v w : World) → KeepsBut (is_within tmp_path) v w → AreLoose v → AreLoose w
laid_loose v w keeps loose entry plain = no_directory_at (w (info_path ++ 47 ∷ entry)) (v (info_path ++ 47 ∷ entry)) (keeps (info_path ++ 47 ∷ entry) refl) (loose entry plain)

pub laid_info : (v w : World) → KeepsBut (is_within tmp_path) v w → IsDirectory (v info_path) → IsDirectory (w info_path)
laid_info v w keeps info = subst IsDirectory (sym (keeps info_path refl)) info

-- and then what is left under the name goes

module _ (g : Ground) (p : Planned) (place : Place) (old base : World) (begins : BeginsAt g p place old base) where
  pub begun_loose : is_package_name (package_name g p) ≡ true → IsDirectory (old info_path) → AreLoose old → AreLoose base
  begun_loose named info loose =
      let then = laid_loose old begins.begun begins.begins.lays loose in
      let there = laid_info old begins.begun begins.begins.lays info in
      may_loose (is_gone p.found (length p.others) place) (is_gone p.found (length p.others) (next_ready place)) (package_name g p) named begins.begun base begins.clears
      (list_ready begins.begun there then (package_name g p) named) (members_ready begins.begun there then (package_name g p) named) then

  -- beside `tmp.ci` and what is left under the name, all is as before
  pub begun_beside : (q : Path) → is_within tmp_path q ≡ false → IsBesideOwn (package_name g p) q → base q ≡ old q
  begun_beside q out beside =
      may_same (is_gone p.found (length p.others) place) (is_gone p.found (length p.others) (next_ready place)) (package_name g p) begins.begun base q begins.clears beside ∙ begins.begins.lays q out

  pub begun_laid : AreLaidOut p.members base
  begun_laid = laid_elsewhere p.members begins.begun base
      (λ q within. may_same (is_gone p.found (length p.others) place) (is_gone p.found (length p.others) (next_ready place)) (package_name g p) begins.begun base q begins.clears
      (own_beside (package_name g p) q (λ e. absurd (omega (arith, e, tmp_byte q within))))) begins.begins.laid

-- so it is at a place of the rows
pub begun_at : (g : Ground) (p : Planned) (place : Place) (old : World) (begun : State) (mid : Holding) (last : State) → Begins g p old begun.world → (at : At (task_from g p begun) mid last place) → IsTrue last.honest → BeginsAt g p place old at.base
begun_at g p place old begun mid last begins at h = record {
  begun = begun.world;
  begins = begins;
  clears = clear_here (is_gone p.found (length p.others) place) (is_gone p.found (length p.others) (next_ready place)) (package_name g p) begun.world at.base (at.cleared h);
}

-- what is said of the works doesn't go by the world in which the rows began

found_on : (g : Ground) (p : Planned) (place : Place) (begun : State) (base : World) (works : List Work) → AreFound (task_from g p begun) place works → AreFound (task_from g p (state_on begun base)) place works
found_on g p (Forward k) begun base works is = is
found_on g p (Ready k) begun base works is = is
found_on g p (Back k fall failed) begun base works is = is

stage_on : (g : Ground) (p : Planned) (place : Place) (stage : Stage) (begun : State) (base : World) (works : List Work) → AreWorksAt (task_from g p begun) place stage works → AreWorksAt (task_from g p (state_on begun base)) place stage works
stage_on g p place Unwritten begun base works are = found_on g p place begun base works are
stage_on g p place Wrote begun base works are = record { same = are.same; named = are.named; order = are.order }
stage_on g p place Restored begun base works are = record { same = are.same; named = are.named; order = are.order }

pub works_on : (g : Ground) (p : Planned) (place : Place) (begun : State) (base : World) (works : List Work)
    → AreWorksAt (task_from g p begun) place (stage_of (kinds_of p.found p.others) place) works → AreWorksAt (task_from g p (state_on begun base)) place (stage_of (kinds_of p.found p.others) place) works
works_on g p place begun base works are = stage_on g p place (stage_of (kinds_of p.found p.others) place) begun base works are
