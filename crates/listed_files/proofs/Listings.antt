-- A list and the files of works leave one another alone.
use Rattle.std.proofs.Common.{◌≡◌, inl, inr, IsTrue, List, [], ◌∷◌, Some, None, refl, sym, ap, subst, ◌∙◌, true}
use Rattle.host_core.specs.Paths.{Path, is_below_administration}
use Rattle.host_core.specs.World.{World, IsDirectory, kind_of}
use Rattle.administration.specs.Places.{info_path, list_path, temporary}
use Rattle.administration.specs.Files.{IsReplaced, KeepsBesideFile}
use Rattle.administration.proofs.WholeFiles.{no_directory_at, no_directory_file, no_directory_none}
use Rattle.file_lists.specs.Writing.{list_file, list_text, IsListReady}
use Rattle.package_files.specs.declared.work.Work.{Work}
use Rattle.package_files.specs.Files.{Each, Misses, Undone, is_written}
use Rattle.package_files.specs.Free.{IsFreeIn, IsSeen}
use Rattle.package_files.specs.Names.{HasMaker, IsHomed, IsNamed}
use Rattle.package_files.specs.Back.{CanGoBack, GoesBack}
use Rattle.package_files.proofs.WorkLists.{Agree, each_map, each_of, free_agree}
use Rattle.listed_files.proofs.Apart.{apart, info_below, list_below, spare_below}

pub all_miss : (works : List Work) (q : Path) → Each IsNamed works → is_below_administration q ≡ true → Each (λ x. Misses x q) works
all_miss works q named below = each_of IsNamed (λ x. Misses x q) (λ x is. apart x q is below) works named

-- a list was written, and the works find their names as they were
module _ (name : Path) (v w : World) (rest : KeepsBesideFile (list_path name) v w) where
  agree : (x : Work) → IsNamed x → Agree w v x
  agree x named =
      let a = apart x (list_path name) named (list_below name) in
      let b = apart x (temporary (list_path name)) named (spare_below name) in
      record {
        target = rest x.target (λ e. a.target (sym e)) (λ e. b.target (sym e));
        backup = rest x.backup (λ e. a.backup (sym e)) (λ e. b.backup (sym e));
        fresh = rest x.fresh (λ e. a.fresh (sym e)) (λ e. b.fresh (sym e));
      }

  pub free_still : (works : List Work) → Each IsNamed works → Each (IsFreeIn v) works → Each (IsFreeIn w) works
  free_still works named free = each_map IsNamed (IsFreeIn v) (IsFreeIn w) (λ x is f. free_agree w v x (agree x is) f) works named free

  pub seen_still : (works : List Work) → Each IsNamed works → Each (IsSeen v) works → Each (IsSeen w) works
  seen_still works named seen = each_map IsNamed (IsSeen v) (IsSeen w) (λ x is s. s ∙ ap kind_of (sym (agree x is).target)) works named seen

  maker_still : (ys : List Work) (front : Path) → Each IsNamed ys → HasMaker ys v front → HasMaker ys w front
  maker_still [] front named maker = absurd maker
  maker_still (y ∷ ys) front named (inl m) = inl (m.0, m.1, subst (λ t. IsTrue (is_written y.node t)) (sym (agree y named.0).target) m.2)
  maker_still (y ∷ ys) front named (inr m) = inr (maker_still ys front named.1 m)

  directory_still : (q : Path) → IsListReady name v → IsDirectory (v q) → IsDirectory (w q)
  directory_still q ready is = subst IsDirectory (sym (rest q (λ e. ready.target (subst (λ p. IsDirectory (v p)) e is)) (λ e. ready.spare (subst (λ p. IsDirectory (v p)) e is)))) is

  homed_at : (works : List Work) (x : Work) → Each IsNamed works → IsListReady name v → IsHomed works v x → IsHomed works w x
  homed_at works x named ready home = (
    home.0,
    home.1,
    home.2,
    home.3,
    elim home.4 [
      | inl is ↦ inl (directory_still home.0 ready is)
      | inr maker ↦ inr (maker_still works home.0 named maker)
    ],
  )

  pub homed_still : (works : List Work) → Each IsNamed works → IsListReady name v → Each (IsHomed works v) works → Each (IsHomed works w) works
  homed_still works named ready homed = each_of (IsHomed works v) (IsHomed works w) (λ x home. homed_at works x named ready home) works homed

-- a list that was written finds its place again
pub ready_replaced : (name : Path) (paths : List Path) (v w : World) → IsReplaced (list_path name) (list_file paths) v w → IsListReady name v → IsListReady name w
ready_replaced name paths v w replaced ready = record {
  info = directory_still name v w replaced.rest info_path ready ready.info;
  target = no_directory_at (w (list_path name)) (Some (list_file paths)) replaced.target (no_directory_file (list_file paths) (list_text paths, _, refl));
  spare = no_directory_at (w (temporary (list_path name))) None replaced.spare no_directory_none;
}

-- all below the administration's directory is as before, and a list finds its place
pub ready_still : (name : Path) (v w : World) → ((q : Path) → is_below_administration q ≡ true → w q ≡ v q) → IsListReady name v → IsListReady name w
ready_still name v w same ready = record {
  info = subst IsDirectory (sym (same info_path info_below)) ready.info;
  target = no_directory_at (w (list_path name)) (v (list_path name)) (same (list_path name) (list_below name)) ready.target;
  spare = no_directory_at (w (temporary (list_path name))) (v (temporary (list_path name))) (same (temporary (list_path name)) (spare_below name)) ready.spare;
}

pub ready_back : (name : Path) (works : List Work) (v w : World) → Each IsNamed works → CanGoBack works v → GoesBack works v w → IsListReady name v → IsListReady name w
ready_back name works v w named can back ready = ready_still name v w (λ q below. (back can.0 can.1).rest q (all_miss works q named below)) ready

pub ready_undone : (name : Path) (works : List Work) (v w : World) → Each IsNamed works → Undone works v w → IsListReady name v → IsListReady name w
ready_undone name works v w named undone ready = ready_still name v w (λ q below. undone.rest q (all_miss works q named below)) ready
