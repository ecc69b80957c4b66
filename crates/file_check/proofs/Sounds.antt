-- Shipped paths that are looked at one after another, and the first fault of one.
use Rattle.std.proofs.Common.{◌≡◌, inl, inr, ℕ, ◌+◌, ◌<◌, Bool, true, false, List, [], ◌∷◌, ◌++◌, length, get_or, take, drop, Option, Some, None, refl, sym, subst}
use Rattle.std.specs.Prelude.{MatchOption}
use Rattle.host_core.specs.Paths.{Path}
use Rattle.host_core.specs.World.{World}
use Rattle.undo_rows.specs.declared.fall.StepFault.{StepFault}
use Rattle.package_files.specs.declared.work.Work.{Work}
use Rattle.file_check.specs.declared.above.Above.{Above}
use Rattle.file_check.specs.declared.above.Above.TheVariants as above
use Rattle.file_check.specs.Above.{IsAbove}
use Rattle.file_check.specs.InWay.{in_way_at}
use Rattle.diversions.specs.declared.entry.Diversion.{Diversion}
use Rattle.file_check.specs.Clashes.{Owning, clash_at}
use Rattle.file_check.specs.Targets.{diversion_to}
use Rattle.file_check.specs.Index.{AllOutside}
use Rattle.file_check.specs.Sound.{IsSound, IsFaultOf, AreSound, IsFirstOf, fault_by}
use Rattle.file_check.proofs.WorkLists.{whole_is, front_is}

module _ (o : Owning) (made twice : Path → Bool) (w : World) where
  -- what is seen gives the first fault
  judged : (s : Work) (above : Above) (way : Bool) (clash : Option (List ℕ)) (diversion : Option Diversion) → IsAbove made w s.place above → way ≡ in_way_at o w s → clash ≡ clash_at o twice w s → diversion ≡ diversion_to o s
      → MatchOption (fault_by s.path above way clash diversion) (IsSound o made twice w s) (IsFaultOf o made twice w s)
  judged s above.Link way clash diversion is way_is clash_is to = (refl, is)
  judged s above.Lacking way clash diversion is way_is clash_is to = (refl, is.0, is.1)
  judged s above.Directories true clash diversion is way_is clash_is to = (refl, is, sym way_is)
  judged s above.Directories false (Some owner) diversion is way_is clash_is to = (refl, is, sym way_is, sym clash_is)
  judged s above.Directories false None (Some d) is way_is clash_is to = (refl, is, sym way_is, sym clash_is, (d, sym to, refl))
  judged s above.Directories false None None is way_is clash_is to = record { above = is; way = sym way_is; clash = sym clash_is; target = sym to }

  pub judged_by : (s : Work) (above : Above) (way : Bool) (clash : Option (List ℕ)) (found : Option StepFault) → found ≡ fault_by s.path above way clash (diversion_to o s) → IsAbove made w s.place above → way ≡ in_way_at o w s → clash ≡ clash_at o twice w s
      → MatchOption found (IsSound o made twice w s) (IsFaultOf o made twice w s)
  judged_by s above way clash found told is way_is clash_is =
      subst (λ (f : Option StepFault). MatchOption f (IsSound o made twice w s) (IsFaultOf o made twice w s)) (sym told) (judged s above way clash (diversion_to o s) is way_is clash_is refl)

  sound_more : (a : List Work) (s : Work) → AreSound o made twice w a → IsSound o made twice w s → AreSound o made twice w (a ++ s ∷ [])
  sound_more [] s all is = (is, tt)
  sound_more (t ∷ a) s all is = (all.0, sound_more a s all.1 is)

  fault_behind : (a rest : List Work) (s : Work) (fault : StepFault) → AreSound o made twice w a → IsFaultOf o made twice w s fault → IsFirstOf o made twice w (a ++ s ∷ rest) fault
  fault_behind [] rest s fault all is = inl is
  fault_behind (t ∷ a) rest s fault all is = inr (all.0, fault_behind a rest s fault all.1 is)

  module _ (works : List Work) (i : ℕ) (s : Work) (within : i < length works) (at : s ≡ get_or works i s) where
    pub sound_next : AreSound o made twice w (take i works) → IsSound o made twice w s → AreSound o made twice w (take (i + 1) works)
    sound_next all is = subst (AreSound o made twice w) (sym (front_is works i s within at)) (sound_more (take i works) s all is)

    pub fault_next : (fault : StepFault) → AreSound o made twice w (take i works) → IsFaultOf o made twice w s fault → IsFirstOf o made twice w works fault
    fault_next fault all is =
        subst (λ (l : List Work). IsFirstOf o made twice w l fault) (sym (whole_is works i s within at)) (fault_behind (take i works) (drop (i + 1) works) s fault all is)

outside_more : (set : Path → Bool) (a : List Work) (s : Work) → AllOutside set a → set s.place ≡ false → AllOutside set (a ++ s ∷ [])
outside_more set [] s all is = (is, tt)
outside_more set (t ∷ a) s all is = (all.0, outside_more set a s all.1 is)

pub outside_next : (set : Path → Bool) (works : List Work) (i : ℕ) (s : Work) → i < length works → s ≡ get_or works i s → AllOutside set (take i works) → set s.place ≡ false → AllOutside set (take (i + 1) works)
outside_next set works i s within at all is = subst (AllOutside set) (sym (front_is works i s within at)) (outside_more set (take i works) s all is)
