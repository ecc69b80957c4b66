-- The smallest name in the way of some conffiles, conffile by conffile.
use Rattle.std.proofs.Common.{◌≡◌, ◌⊎◌, inl, inr, ◌<◌, ◌+◌, ℕ, Bool, true, false, cond, List, [], ◌∷◌, ◌++◌, Option, Some, None, Contains, length, take, get_or, refl, sym, ap, subst, ◌∙◌, arith}
use Rattle.std.specs.List.{AllByRecursion}
use Rattle.std.specs.Str.{bytes_eq}
use Rattle.std.specs.Cmp.Lexicographic.{slice_cmp}
use Rattle.std.specs.Ordering.{nat_cmp, is_lt, ordering_then}
use Rattle.std.proofs.lemmas.Bool.{true≢false, false_from_ne_true}
use Rattle.std.proofs.lemmas.Cmp.{nat_cmp_total, tied_itself}
use Rattle.std.proofs.lemmas.List.{append-nil, flat_map_more, take_more}
use Rattle.std.proofs.lemmas.List.Elements.{Contains-append_cases, Contains-append_left, Contains-append_right, Contains-push_cases}
use Rattle.std.proofs.lemmas.Slice.Eq.{bytes_eq-Decides}
use Rattle.host_core.specs.Paths.{Path}
use Rattle.host_core.specs.Suffixes.{suffix_text}
use Rattle.host_core.specs.World.{World}
use Rattle.host_core.specs.declared.suffix.Suffix.TheVariants as suffix
use Rattle.conffiles.specs.Settling.{is_other, obstacle_of, ordered_names}
use Rattle.status_records.specs.ConffilePaths.{is_before, AreInOrder}
use Rattle.status_records.proofs.PathOrder.{before_then, not_itself, behind}
use Rattle.configure_engine.specs.Obstacles.{lesser_of, names_of_all, IsObstacle, IsSmallestOther}

-- the order of bytes

not_before : (p q : Path) → is_before p q ≡ true → is_before q p ≡ false
not_before p q e = false_from_ne_true (is_before q p) (λ t. not_itself p (before_then p q p e t))

same_front : (x a b : Path) → slice_cmp nat_cmp (x ++ a) (x ++ b) ≡ slice_cmp nat_cmp a b
same_front [] a b = refl
same_front (c ∷ x) a b = ap (λ o. ordering_then o (slice_cmp nat_cmp (x ++ a) (x ++ b))) (tied_itself nat_cmp_total c) ∙ same_front x a b

beside : (x a b : Path) → is_before a b ≡ true → is_before (x ++ a) (x ++ b) ≡ true
beside x a b e = ap is_lt (same_front x a b) ∙ e

longer : (x b : Path) → is_before [] b ≡ true → is_before x (x ++ b) ≡ true
longer x b e = subst (λ (p : Path). is_before p (x ++ b) ≡ true) (append-nil x) (beside x [] b e)

-- the names of a conffile stand in it
names_in_order : (x : Path) → AreInOrder (ordered_names x)
names_in_order x = (
  (longer x (suffix_text suffix.Dist) refl, (longer x (suffix_text suffix.Inst) refl, (longer x (suffix_text suffix.New) refl, (longer x (suffix_text suffix.Old) refl, tt)))),
  (
    (beside x (suffix_text suffix.Dist) (suffix_text suffix.Inst) refl, (beside x (suffix_text suffix.Dist) (suffix_text suffix.New) refl, (beside x (suffix_text suffix.Dist) (suffix_text suffix.Old) refl, tt))),
    (
      (beside x (suffix_text suffix.Inst) (suffix_text suffix.New) refl, (beside x (suffix_text suffix.Inst) (suffix_text suffix.Old) refl, tt)),
      (
        (beside x (suffix_text suffix.New) (suffix_text suffix.Old) refl, tt),
        (tt, tt),
      ),
    ),
  ),
)

-- one of some names

none_in : (q : Path) → Contains [] q → ⊥
none_in q has = absurd (omega (arith, has.1))

first_or_later : (n : Path) (ns : List Path) (q : Path) → Contains (n ∷ ns) q → (q ≡ n) ⊎ Contains ns q
first_or_later n ns q has =
    elim (Contains-append_cases (n ∷ []) ns q has) [
      | inl one ↦ elim (Contains-push_cases [] n q one) [ inl none ↦ absurd (none_in q none) | inr e ↦ inl (sym e) ]
      | inr later ↦ inr later
    ]

all_at : (P : Path → Type 0) (ns : List Path) (q : Path) → AllByRecursion P ns → Contains ns q → P q
all_at P [] q all has = absurd (none_in q has)
all_at P (n ∷ ns) q all has = elim (first_or_later n ns q has) [ inl e ↦ subst P (sym e) all.0 | inr later ↦ all_at P ns q all.1 later ]

-- the first of names in order is the smallest

module _ (w : World) where
  passed_name : (n : Path) (ns : List Path) (o : Option Path) → is_other (w n) ≡ false → IsObstacle w ns o → IsObstacle w (n ∷ ns) o
  passed_name n ns None e rest = λ q has. elim (first_or_later n ns q has) [ inl same ↦ ap (λ (p : Path). is_other (w p)) same ∙ e | inr later ↦ rest q later ]
  passed_name n ns (Some f) e rest = record {
    among = Contains-append_right (n ∷ []) ns f rest.among;
    other = rest.other;
    least = λ q has other. elim (first_or_later n ns q has) [ inl same ↦ absurd (true≢false (sym other ∙ ap (λ (p : Path). is_other (w p)) same ∙ e)) | inr later ↦ rest.least q later other ];
  }

  found_name : (n : Path) (ns : List Path) → is_other (w n) ≡ true → AllByRecursion (λ q. is_before n q ≡ true) ns → IsSmallestOther w (n ∷ ns) n
  found_name n ns e all = record {
    among = Contains-append_left (n ∷ []) ns n (0, omega arith, refl);
    other = e;
    least = λ q has other. elim (first_or_later n ns q has) [
      | inl same ↦ false_from_ne_true (is_before q n) (λ t. not_itself n (subst (λ (p : Path). is_before p n ≡ true) same t))
      | inr later ↦ not_before n q (all_at (λ (p : Path). is_before n p ≡ true) ns q all later)
    ];
  }

  first_is_least : (names : List Path) → AreInOrder names → IsObstacle w names (obstacle_of w names)
  first_is_least [] order = λ q has. absurd (none_in q has)
  first_is_least (n ∷ ns) order = by (is_other (w n)) refl (first_is_least ns order.1)
    where
      by : (b : Bool) → is_other (w n) ≡ b → IsObstacle w ns (obstacle_of w ns) → IsObstacle w (n ∷ ns) (cond b (Some n) (obstacle_of w ns))
      by true e rest = found_name n ns e order.0
      by false e rest = passed_name n ns (obstacle_of w ns) e rest

  -- that of one conffile
  one_least : (x : Path) (o : Option Path) → o ≡ obstacle_of w (ordered_names x) → IsObstacle w (ordered_names x) o
  one_least x o is = subst (IsObstacle w (ordered_names x)) (sym is) (first_is_least (ordered_names x) (names_in_order x))

  -- of two lists

  both_passed : (xs ys : List Path) (least : Option Path) → IsObstacle w xs least → IsObstacle w ys None → IsObstacle w (xs ++ ys) least
  both_passed xs ys None before here = λ q has. elim (Contains-append_cases xs ys q has) [ inl first ↦ before q first | inr second ↦ here q second ]
  both_passed xs ys (Some l) before here = record {
    among = Contains-append_left xs ys l before.among;
    other = before.other;
    least = λ q has other. elim (Contains-append_cases xs ys q has) [ inl first ↦ before.least q first other | inr second ↦ absurd (true≢false (sym other ∙ here q second)) ];
  }

  both_found : (xs ys : List Path) (least : Option Path) (found : Path) → IsObstacle w xs least → IsSmallestOther w ys found → IsObstacle w (xs ++ ys) (lesser_of least found)
  both_found xs ys None found before here = record {
    among = Contains-append_right xs ys found here.among;
    other = here.other;
    least = λ q has other. elim (Contains-append_cases xs ys q has) [ inl first ↦ absurd (true≢false (sym other ∙ before q first)) | inr second ↦ here.least q second other ];
  }
  both_found xs ys (Some l) found before here = by (is_before found l) refl
    where
      not_less : (q : Path) → is_before found l ≡ false → is_before q found ≡ false → is_before q l ≡ true → ⊥
      not_less q e second t = at (bytes_eq l found) refl
        where
          at : (b : Bool) → bytes_eq l found ≡ b → ⊥
          at true same = true≢false (sym t ∙ ap (is_before q) ((bytes_eq-Decides l found).0 same) ∙ second)
          at false apart = true≢false (sym (before_then q l found t (behind found l e apart)) ∙ second)

      by : (b : Bool) → is_before found l ≡ b → IsObstacle w (xs ++ ys) (cond b (Some found) (Some l))
      by true e = record {
        among = Contains-append_right xs ys found here.among;
        other = here.other;
        least = λ q has other. elim (Contains-append_cases xs ys q has) [
          | inl first ↦ false_from_ne_true (is_before q found) (λ t. true≢false (sym (before_then q found l t e) ∙ before.least q first other))
          | inr second ↦ here.least q second other
        ];
      }
      by false e = record {
        among = Contains-append_left xs ys l before.among;
        other = before.other;
        least = λ q has other. elim (Contains-append_cases xs ys q has) [
          | inl first ↦ before.least q first other
          | inr second ↦ false_from_ne_true (is_before q l) (not_less q e (here.least q second other))
        ];
      }

  -- one conffile more

  more_names : (paths : List Path) (i : ℕ) (x : Path) → i < length paths → x ≡ get_or paths i x → names_of_all (take i paths) ++ ordered_names x ≡ names_of_all (take (i + 1) paths)
  more_names paths i x lt at =
      flat_map_more ordered_names [] (take i paths) x ∙ ap (λ (p : Path). names_of_all (take i paths ++ p ∷ [])) at ∙ ap names_of_all (sym (take_more paths i x lt))

  pub least_more : (paths : List Path) (i : ℕ) (x : Path) (least : Option Path) (found : Path) → i < length paths → x ≡ get_or paths i x → IsObstacle w (names_of_all (take i paths)) least → Some found ≡ obstacle_of w (ordered_names x)
      → IsObstacle w (names_of_all (take (i + 1) paths)) (lesser_of least found)
  least_more paths i x least found lt at before is =
      subst (λ (ns : List Path). IsObstacle w ns (lesser_of least found)) (more_names paths i x lt at) (both_found (names_of_all (take i paths)) (ordered_names x) least found before (one_least x (Some found) is))

  pub least_passed : (paths : List Path) (i : ℕ) (x : Path) (least : Option Path) → i < length paths → x ≡ get_or paths i x → IsObstacle w (names_of_all (take i paths)) least → None ≡ obstacle_of w (ordered_names x)
      → IsObstacle w (names_of_all (take (i + 1) paths)) least
  least_passed paths i x least lt at before is =
      subst (λ (ns : List Path). IsObstacle w ns least) (more_names paths i x lt at) (both_passed (names_of_all (take i paths)) (ordered_names x) least before (one_least x None is))

-- where a name was found one is kept
pub still_some : (least : Option Path) (found : Path) → lesser_of least found ≡ None → ⊥
still_some None found e = cc
still_some (Some l) found e = by (is_before found l) e
  where
    by : (b : Bool) → cond b (Some found) (Some l) ≡ None → ⊥
    by true e = cc
    by false e = cc
