-- The first fault of works is the same whatever was seen of them.
use Rattle.std.proofs.Common.{◌≡◌, inl, inr, Bool, List, [], ◌∷◌, map, length, Option, Some, None, Result, Ok, Err, refl, ap, subst, arith}
use Rattle.std.specs.Prelude.{◌||◌, ◌&&◌, IfOk, IfSome}
use Rattle.std.specs.Str.{bytes_eq}
use Rattle.host_core.specs.Paths.{Path}
use Rattle.host_core.specs.World.{World, kind_of}
use Rattle.host_core.specs.declared.fault.HostFault.{HostFault}
use Rattle.undo_rows.specs.declared.fall.StepFault.{StepFault}
use Rattle.undo_rows.specs.declared.fall.StepFault.TheVariants.{LinkParent, NoParent, DirInWay, Clash, DiversionTarget, Declined}
use Rattle.package_files.specs.declared.work.Work.{Work}
use Rattle.file_check.specs.Clashes.{Owning}
use Rattle.file_check.specs.Index.{makes_directory, is_made, is_place, is_twice}
use Rattle.file_check.specs.Ready.{unseen, IsSameBut}
use Rattle.file_check.specs.Sound.{IsSound, IsFaultOf, IsFirstOf, IsFirstFault}
use Rattle.file_check.proofs.Readiness.{IsTold}
use Rattle.file_check.proofs.WorkLists.{head_same, tail_same}

made_unseen : (xs ys : List Work) (w : World) (q : Path) → map unseen ys ≡ map unseen xs → is_made ys w q ≡ is_made xs w q
made_unseen [] [] w q same = refl
made_unseen [] (y ∷ ys) w q same = absurd (omega (arith, ap length same))
made_unseen (x ∷ xs) [] w q same = absurd (omega (arith, ap length same))
made_unseen (x ∷ xs) (y ∷ ys) w q same =
    let head = head_same y x ys xs same in
    λ i. (bytes_eq q (head i).target && makes_directory (head i).node (kind_of (w (head i).target))) || made_unseen xs ys w q (tail_same y x ys xs same) i

place_unseen : (xs ys : List Work) (q : Path) → map unseen ys ≡ map unseen xs → is_place ys q ≡ is_place xs q
place_unseen [] [] q same = refl
place_unseen [] (y ∷ ys) q same = absurd (omega (arith, ap length same))
place_unseen (x ∷ xs) [] q same = absurd (omega (arith, ap length same))
place_unseen (x ∷ xs) (y ∷ ys) q same =
    let head = head_same y x ys xs same in
    λ i. bytes_eq q (head i).place || place_unseen xs ys q (tail_same y x ys xs same) i

twice_unseen : (xs ys : List Work) (q : Path) → map unseen ys ≡ map unseen xs → is_twice ys q ≡ is_twice xs q
twice_unseen [] [] q same = refl
twice_unseen [] (y ∷ ys) q same = absurd (omega (arith, ap length same))
twice_unseen (x ∷ xs) [] q same = absurd (omega (arith, ap length same))
twice_unseen (x ∷ xs) (y ∷ ys) q same =
    let head = head_same y x ys xs same in
    let tail = tail_same y x ys xs same in
    λ i. (bytes_eq q (head i).place && place_unseen xs ys q tail i) || twice_unseen xs ys q tail i

module _ (o : Owning) (made twice : Path → Bool) (w : World) where
  sound_to : (s : Work) → IsSound o made twice w s → IsSound o made twice w (unseen s)
  sound_to s is = record { above = is.above; way = is.way; clash = is.clash; target = is.target }

  sound_from : (s : Work) → IsSound o made twice w (unseen s) → IsSound o made twice w s
  sound_from s is = record { above = is.above; way = is.way; clash = is.clash; target = is.target }

  fault_to : (s : Work) (fault : StepFault) → IsFaultOf o made twice w s fault → IsFaultOf o made twice w (unseen s) fault
  fault_to s (LinkParent p) is = is
  fault_to s (NoParent p) is = is
  fault_to s (DirInWay p) is = is
  fault_to s (Clash p owner) is = is
  fault_to s (DiversionTarget p diverter) is = is
  fault_to s (Declined p) is = is

  fault_from : (s : Work) (fault : StepFault) → IsFaultOf o made twice w (unseen s) fault → IsFaultOf o made twice w s fault
  fault_from s (LinkParent p) is = is
  fault_from s (NoParent p) is = is
  fault_from s (DirInWay p) is = is
  fault_from s (Clash p owner) is = is
  fault_from s (DiversionTarget p diverter) is = is
  fault_from s (Declined p) is = is

  first_same : (xs ys : List Work) (fault : StepFault) → map unseen ys ≡ map unseen xs → IsFirstOf o made twice w ys fault → IsFirstOf o made twice w xs fault
  first_same [] [] fault same is = is
  first_same [] (y ∷ ys) fault same is = absurd (omega (arith, ap length same))
  first_same (x ∷ xs) [] fault same is = absurd (omega (arith, ap length same))
  first_same (x ∷ xs) (y ∷ ys) fault same (inl is) =
      inl (fault_from x fault (subst (λ (u : Work). IsFaultOf o made twice w u fault) (head_same y x ys xs same) (fault_to y fault is)))
  first_same (x ∷ xs) (y ∷ ys) fault same (inr is) =
      inr (sound_from x (subst (IsSound o made twice w) (head_same y x ys xs same) (sound_to y is.0)), first_same xs ys fault (tail_same y x ys xs same) is.1)

first_unseen : (o : Owning) (w : World) (xs ys : List Work) (fault : StepFault) → map unseen ys ≡ map unseen xs → IsFirstFault o ys w fault → IsFirstFault o xs w fault
first_unseen o w xs ys fault same is =
    first_same o (is_made xs w) (is_twice xs) w xs ys fault same
    (subst (λ (m : Path → Bool). IsFirstOf o m (is_twice xs) w ys fault) (λ i q. made_unseen xs ys w q same i)
    (subst (λ (t : Path → Bool). IsFirstOf o (is_made ys w) t w ys fault) (λ i q. twice_unseen xs ys q same i) is))

pub told_fault : (o : Owning) (w : World) (old new : List Work) (result : Result (Option StepFault) HostFault) → IsSameBut old new → IfOk result (IsTold o new w) → IfOk result (λ found. IfSome found (IsFirstFault o old w))
told_fault o w old new (Ok None) same is = tt
told_fault o w old new (Ok (Some fault)) same is = first_unseen o w old new fault same is
told_fault o w old new (Err x) same is = tt
