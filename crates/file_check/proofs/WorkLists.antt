-- What holds of each work of a list, and of works whatever was seen of them.
use Rattle.std.proofs.Common.{◌≡◌, ◌+◌, ◌<◌, ℕ, List, [], ◌∷◌, ◌++◌, map, length, get_or, take, drop, sym, ap, subst, ◌∙◌, arith}
use Rattle.std.proofs.lemmas.List.{take_more, take-append-drop}
use Rattle.std.proofs.Math.Seq.{drop-cons}
use Rattle.std.proofs.Math.Numerals.{add-one}
use Rattle.package_files.specs.declared.work.Work.{Work}
use Rattle.package_files.specs.Files.{Each}
use Rattle.package_files.specs.Names.{IsNamed}
use Rattle.file_check.specs.Ready.{unseen, IsFitting, IsSameBut}

pub each_of : (P Q : Work → Type 0) → ((x : Work) → P x → Q x) → (xs : List Work) → Each P xs → Each Q xs
each_of P Q so [] ps = tt
each_of P Q so (x ∷ xs) ps = (so x ps.0, each_of P Q so xs ps.1)

each_later : (P : Work → Type 0) (a b : List Work) → Each P (a ++ b) → Each P b
each_later P [] b all = all
each_later P (x ∷ a) b all = each_later P a b all.1

pub each_more : (P : Work → Type 0) (a : List Work) (s : Work) → Each P a → P s → Each P (a ++ s ∷ [])
each_more P [] s all is = (is, tt)
each_more P (t ∷ a) s all is = (all.0, each_more P a s all.1 is)

module _ (works : List Work) (i : ℕ) (s : Work) (within : i < length works) (at : s ≡ get_or works i s) where
  pub whole_is : works ≡ take i works ++ (s ∷ drop (i + 1) works)
  whole_is = sym (take-append-drop i works) ∙ ap (λ (l : List Work). take i works ++ l) (drop-cons works i s within ∙ (λ j. sym at j ∷ drop (sym (add-one i) j) works))

  pub front_is : take (i + 1) works ≡ take i works ++ s ∷ []
  front_is = take_more works i s within ∙ ap (λ (r : Work). take i works ++ r ∷ []) (sym at)

  pub each_at : (P : Work → Type 0) → Each P works → P s
  each_at P all = (each_later P (take i works) (s ∷ drop (i + 1) works) (subst (Each P) whole_is all)).0

-- whatever was seen

pub head_same : (x y : Work) (xs ys : List Work) → map unseen (x ∷ xs) ≡ map unseen (y ∷ ys) → unseen x ≡ unseen y
head_same x y xs ys e = ap (λ (l : List Work). get_or l 0 (unseen x)) e

pub tail_same : (x y : Work) (xs ys : List Work) → map unseen (x ∷ xs) ≡ map unseen (y ∷ ys) → map unseen xs ≡ map unseen ys
tail_same x y xs ys e = ap (drop 1) e

pub named_unseen : (x : Work) → IsNamed x → IsNamed (unseen x)
named_unseen x is = record { place = is.place; target = is.target; backup = is.backup; fresh = is.fresh }

pub named_seen : (x : Work) → IsNamed (unseen x) → IsNamed x
named_seen x is = record { place = is.place; target = is.target; backup = is.backup; fresh = is.fresh }

-- what doesn't depend on what was seen
each_unseen : (P : Work → Type 0) → ((x : Work) → P x → P (unseen x)) → ((x : Work) → P (unseen x) → P x) → (xs ys : List Work) → map unseen ys ≡ map unseen xs → Each P xs → Each P ys
each_unseen P to from [] [] same all = tt
each_unseen P to from [] (y ∷ ys) same all = absurd (omega (arith, ap length same))
each_unseen P to from (x ∷ xs) [] same all = absurd (omega (arith, ap length same))
each_unseen P to from (x ∷ xs) (y ∷ ys) same all = (from y (subst P (sym (head_same y x ys xs same)) (to x all.0)), each_unseen P to from xs ys (tail_same y x ys xs same) all.1)

pub named_still : (old new : List Work) → IsSameBut old new → Each IsNamed old → Each IsNamed new
named_still old new same all = each_unseen IsNamed named_unseen named_seen old new same all

pub fitting_still : (old new : List Work) → IsSameBut old new → Each IsFitting old → Each IsFitting new
fitting_still old new same all = each_unseen IsFitting (λ x is. is) (λ x is. is) old new same all
