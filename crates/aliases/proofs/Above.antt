-- The directory above a directory.
use Rattle.std.proofs.Common.{◌≡◌, ◌≢◌, inl, inr, suc, ◌<◌, ◌||◌, ℕ, Bool, true, false, cond, List, [], ◌∷◌, ◌++◌, length, get_or, take, drop, nat_eq, Option, Some, None, refl, sym, ap, ◌∙◌, arith}
use denote.Ref.{Bor}
use Rattle.std.specs.Prelude.{MatchOption}
use Rattle.std.specs.Str.Pattern.{LacksTextAt, RFindsChar}
use Rattle.std.proofs.lemmas.Bool.{eqb-true, true≢false, false≢true, or_parts, or_right, ne_eqb}
use Rattle.std.proofs.lemmas.List.{append-nil, take-append-drop}
use Rattle.std.proofs.lemmas.List.Folds.{list_any-append}
use Rattle.std.proofs.lemmas.Str.Pattern.{NoCharPasses-char, drop_at_char, IsSplitOnceResult, split_parts}
use Rattle.host_core.specs.Paths.{Path, is_path}
use Rattle.host_core.specs.Tree.{has_slash}
use Rattle.host_core.proofs.PathLaws.{front_is_path}
use Rattle.aliases.specs.Aliases.{IsOn}
use Rattle.aliases.specs.Links.{above}

-- no byte is a slash

pub free_from_places : (p : Path) → ((i : ℕ) → i < length p → get_or p i 0 ≢ 47) → has_slash p ≡ false
free_from_places [] away = refl
free_from_places (b ∷ p) away =
    ap (λ t. t || has_slash p) (ne_eqb b 47 (away 0 (omega arith))) ∙ free_from_places p (λ i lt e. away (suc i) (omega (arith, lt)) e)

-- a path that doesn't begin so isn't there or below
pub lacks_on : (place path : Path) → LacksTextAt place path 0 → IsOn place path → ⊥
lacks_on place path lacks (inl same) = lacks [] (sym (append-nil path) ∙ ap (λ (p : Path). p ++ []) (sym same))
lacks_on place path lacks (inr below) = lacks (47 ∷ below.0) below.1

-- what stands before the first slash, and behind it
pub cut_parts : (text : Path) (r : Option (Bor Path × Bor Path)) → IsSplitOnceResult 47 text r → MatchOption r (has_slash text ≡ false) (λ x. (text ≡ x.0.now ++ 47 ∷ x.1.now) × (has_slash x.0.now ≡ false))
cut_parts text r is = at r (split_parts 47 text r is (omega arith))
  where
    at : (r : Option (Bor Path × Bor Path)) → MatchOption r ((i : ℕ) → i < length text → get_or text i 0 ≢ 47) (λ x. (text ≡ x.0.now ++ 47 ∷ x.1.now) × ((i : ℕ) → i < length x.0.now → get_or x.0.now i 0 ≢ 47))
        → MatchOption r (has_slash text ≡ false) (λ x. (text ≡ x.0.now ++ 47 ∷ x.1.now) × (has_slash x.0.now ≡ false))
    at None away = free_from_places text away
    at (Some x) parts = (parts.0, free_from_places x.0.now parts.1)

-- what stands before the last slash

behind : (front name : Path) → has_slash (front ++ 47 ∷ name) ≡ true
behind front name = list_any-append (λ b. nat_eq b 47) front (47 ∷ name) ∙ or_right (has_slash front) true refl

pub front_at : (front name : Path) → has_slash name ≡ false → above (front ++ 47 ∷ name) ≡ front
front_at [] name free = ap (λ t. cond t (47 ∷ above name) []) free
front_at (b ∷ front) name free =
    ap (λ t. cond t (b ∷ above (front ++ 47 ∷ name)) []) (behind front name) ∙ ap (λ (l : Path). b ∷ l) (front_at front name free)

front_none : (p : Path) → has_slash p ≡ false → above p ≡ []
front_none [] free = refl
front_none (b ∷ p) free = ap (λ t. cond t (b ∷ above p) []) (or_parts (nat_eq b 47) (has_slash p) free).1

pub front_split : (path front : Path) (i j : ℕ) → RFindsChar 47 path (Some (i, j)) → front ≡ take i path → front ≡ above path
front_split path front i j finds is_front =
    let name = drop j path in
    let parts : path ≡ front ++ 47 ∷ name =
    sym (take-append-drop i path) ∙ ap (λ (l : List ℕ). take i path ++ l) (drop_at_char 47 path i j finds.1 (omega arith)) ∙ ap (λ (l : List ℕ). l ++ 47 ∷ drop j path) (sym is_front) in
    let free = free_from_places name (λ k lt. NoCharPasses-char 47 name k finds.0 (omega arith) lt) in
    sym (ap above parts ∙ front_at front name free)

pub front_unsplit : (path : Path) → RFindsChar 47 path None → [] ≡ above path
front_unsplit path finds = sym (front_none path (free_from_places path (λ k lt. NoCharPasses-char 47 path k finds (omega arith) lt)))

pub record Splits (p : Path) : Type 0 where
  pub name : Path
  pub is : p ≡ above p ++ 47 ∷ name
  pub free : has_slash name ≡ false

first : (a c : Bool) → a || c ≡ true → c ≡ false → a ≡ true
first true c is none = refl
first false c is none = absurd (true≢false (sym is ∙ none))

pub splits : (p : Path) → has_slash p ≡ true → Splits p
splits [] is = absurd (false≢true is)
splits (b ∷ p) is = at (λ h. splits p h) (has_slash p) refl
  where
    at : (has_slash p ≡ true → Splits p) → (t : Bool) → has_slash p ≡ t → Splits (b ∷ p)
    at later true more =
        let rest = later more in
        record {
          name = rest.name;
          is = ap (λ (l : Path). b ∷ l) rest.is ∙ ap (λ t. cond t (b ∷ above p) [] ++ 47 ∷ rest.name) (sym more);
          free = rest.free;
        }
    at later false none =
        let slash : nat_eq b 47 ≡ true = first (nat_eq b 47) (has_slash p) is none in
        record {
          name = p;
          is = ap (λ c. c ∷ p) (eqb-true b 47 slash) ∙ ap (λ t. cond t (b ∷ above p) [] ++ 47 ∷ p) (sym none);
          free = none;
        }

-- of a path

pub plain_above : (p : Path) → has_slash p ≡ false → above p ≡ []
plain_above = front_none

pub above_path : (p : Path) → is_path p ≡ true → is_path (above p) ≡ true
above_path p is = at (has_slash p) refl
  where
    at : (b : Bool) → has_slash p ≡ b → is_path (above p) ≡ true
    at true some = let parts = splits p some in front_is_path (above p) parts.name (ap is_path (sym parts.is) ∙ is)
    at false none = ap is_path (front_none p none)
