-- Marks of the numbers that names begin with.
use Rattle.std.proofs.Common.{◌≡◌, inl, inr, ℕ, zero, suc, ◌+◌, ◌<◌, Bool, true, false, List, [], ◌∷◌, ◌++◌, take, length, get_or, Option, Some, None, Result, Ok, Err, OnOk, IfOk, refl, sym, ap, subst, ◌∙◌, arith, codes, Contains}
use Rattle.std.proofs.Math.ListN.{set}
use Rattle.std.proofs.lemmas.Bool.{cases_eq, true≢false, false≢true}
use Rattle.std.proofs.lemmas.List.{take_more, get_or-set_same, get_or-set_other}
use Rattle.std.proofs.lemmas.List.Elements.{Contains-append_cases}
use Rattle.host_core.specs.Paths.{Path}
use Rattle.host_core.specs.Tree.{IsListing}
use Rattle.host_core.specs.World.{World}
use Rattle.host_core.proofs.Nodes.{none_there}
use Rattle.administration.specs.Places.{updates_path, temporary}
use Rattle.administration.specs.Directories.{HasBadName}
use Rattle.status_db.specs.NoteReading.{AreMarked, HasMarks}
use Rattle.status_db.specs.Notes.{below_limit, digits, note_path}
use Rattle.status_db.proofs.NotePaths.{digits_free, not_odd}

pub marks_more : (marks new : List Bool) (names : List Path) (i : ℕ) (name : Path) → i < length names → name ≡ get_or names i name → HasMarks marks (take i names) → length new ≡ 10000
    → ((n : ℕ) → n < 10000 → get_or new n false ≡ false → get_or marks n false ≡ false) → ((n : ℕ) (tail : List ℕ) → n < 10000 → name ≡ digits n ++ tail → get_or new n false ≡ true) → HasMarks new (take (i + 1) names)
marks_more marks new names i name lt is before all less here = record {
  all = all;
  none = λ n tail small unmarked has. elim (Contains-append_cases (take i names) (get_or names i name ∷ []) (digits n ++ tail) (subst (λ (l : List Path). Contains l (digits n ++ tail)) (take_more names i name lt) has)) [
    | inl early ↦ before.none n tail small (less n small unmarked) early
    | inr late ↦ false≢true (sym unmarked ∙ here n tail small (is ∙ only (get_or names i name) (digits n ++ tail) late))
  ];
}
  where
    only : (x q : Path) → Contains (x ∷ []) q → x ≡ q
    only x q (zero, lt, is) = is
    only x q (suc k, lt, is) = absurd (omega (arith, lt))

-- no number is marked yet
pub marks_none : (marks : List Bool) (names : List Path) → length marks ≡ 10000 → HasMarks marks (take 0 names)
marks_none marks names all = record { all = all; none = λ n tail small unmarked has. absurd (omega (arith, has.1)) }

-- the number of a name

one_some : (n m : ℕ) → Some n ≡ Some m → n ≡ m
one_some n m e = cc e

pub set_less : (marks new : List Bool) (number : ℕ) → length marks ≡ 10000 → number < 10000 → new ≡ set marks number true → (n : ℕ) → get_or new n false ≡ false → get_or marks n false ≡ false
set_less marks new number all small put n unmarked = elim (cases_eq n number) [
  | inl e ↦ absurd (false≢true (sym unmarked ∙ ap (λ (l : List Bool). get_or l n false) put ∙ ap (λ (k : ℕ). get_or (set marks number true) k false) e ∙ get_or-set_same marks number true false (omega (arith, small, all))))
  | inr ne ↦ sym (get_or-set_other marks number n true false ne) ∙ sym (ap (λ (l : List Bool). get_or l n false) put) ∙ unmarked
]

pub set_marked : (marks new : List Bool) (number : ℕ) (o : Option ℕ) → length marks ≡ 10000 → number < 10000 → new ≡ set marks number true → o ≡ Some number → (n : ℕ) → o ≡ Some n → get_or new n false ≡ true
set_marked marks new number o all small put some n told =
    let e : n ≡ number = one_some n number (sym told ∙ some) in
    ap (λ (l : List Bool). get_or l n false) put ∙ ap (λ (k : ℕ). get_or (set marks number true) k false) e ∙ get_or-set_same marks number true false (omega (arith, small, all))

pub none_marked : (o : Option ℕ) (n : ℕ) (b : Bool) → o ≡ None → o ≡ Some n → b ≡ true
none_marked o n b none some = absurd (let e : None ≡ Some n = sym none ∙ some in cc e)

-- what isn't marked isn't there
pub all_marked : (w : World) (names : List Path) (bad : Bool) (marks : List Bool) → bad ≡ false → IsListing w updates_path names bad → HasMarks marks names → AreMarked marks w
all_marked w names bad marks good listing has = record {
  all = has.all;
  none = λ n small unmarked. (
    none_there (w (note_path n)) (λ some. elim (listing.whole (digits n ++ []) (digits_free n [] (below_limit n small) refl) some) [ inl there ↦ has.none n [] small unmarked there | inr odd ↦ true≢false (sym odd.1 ∙ good) ]),
    none_there (w (temporary (note_path n))) (λ some. elim (listing.whole (digits n ++ codes ".dpkg-inst") (digits_free n (codes ".dpkg-inst") (below_limit n small) refl) some) [ inl there ↦ has.none n (codes ".dpkg-inst") small unmarked there | inr odd ↦ true≢false (sym odd.1 ∙ good) ]),
  );
}

pub all_text : (w : World) (names : List Path) (bad : Bool) → bad ≡ false → IsListing w updates_path names bad → HasBadName w updates_path → ⊥
all_text w names bad good listing found = elim (listing.whole found.0 found.1 found.3) [ inl there ↦ not_odd found.0 (listing.text found.0 there) (listing.fits found.0 there) found.2 | inr odd ↦ true≢false (sym odd.1 ∙ good) ]

pub text_told : {T E : Type 0} (result : Result T E) (P : Type 0) → OnOk result P → IfOk result (λ x. P)
text_told (Ok x) P is = is
text_told (Err e) P is = tt
