-- The directory that a path lies in.
use Rattle.std.proofs.Common.{◌≡◌, ◌≢◌, suc, ◌<◌, ◌||◌, ℕ, Bool, true, false, cond, List, [], ◌∷◌, ◌++◌, length, get_or, take, drop, nat_eq, Some, None, Contains, refl, sym, ap, ◌∙◌, arith}
use Rattle.std.specs.List.{list_any, list_all}
use Rattle.std.specs.Str.Pattern.{RFindsChar}
use Rattle.std.proofs.lemmas.Bool.{and_parts, eqb-true, true≢false, false≢true, or_parts, or_right, ne_eqb}
use Rattle.std.proofs.lemmas.Cmp.{nat_eq_equiv}
use Rattle.std.proofs.lemmas.List.{take-append-drop}
use Rattle.std.proofs.lemmas.List.Folds.{list_any-append}
use Rattle.std.proofs.lemmas.Map.Views.{list_any-from_Contains}
use Rattle.std.proofs.lemmas.Str.Pattern.{NoCharPasses-char, drop_at_char}
use Rattle.host_core.specs.Paths.{Path, is_path, is_rooted, is_ship_text, components, is_component}
use Rattle.host_core.specs.Tree.{has_slash}
use Rattle.host_core.specs.World.{World, HasParent, IsDirectory}
use Rattle.host_core.proofs.PathLaws.{front_is_path}
use Rattle.host_core.proofs.ShipNames.{ships}
use Rattle.diversions.specs.Names.{front_of}

-- no byte is a slash

free_from_places : (p : Path) → ((i : ℕ) → i < length p → get_or p i 0 ≢ 47) → has_slash p ≡ false
free_from_places [] away = refl
free_from_places (b ∷ p) away =
    ap (λ t. t || has_slash p) (ne_eqb b 47 (away 0 (omega arith))) ∙ free_from_places p (λ i lt e. away (suc i) (omega (arith, lt)) e)

none_contained : (p : Path) → has_slash p ≡ false → Contains p 47 → ⊥
none_contained p free has = true≢false (sym (list_any-from_Contains nat_eq_equiv 47 p has) ∙ turned p free)
  where
    turned : (q : Path) → has_slash q ≡ false → list_any (nat_eq 47) q ≡ false
    turned [] none = refl
    turned (b ∷ q) none =
        let parts = or_parts (nat_eq b 47) (has_slash q) none in
        ap (λ t. t || list_any (nat_eq 47) q) (ne_eqb 47 b (λ e. true≢false (sym (ap (λ (x : ℕ). nat_eq x 47) (sym e)) ∙ parts.0))) ∙ turned q parts.1

-- what stands before the last slash

behind : (front name : Path) → has_slash (front ++ 47 ∷ name) ≡ true
behind front name = list_any-append (λ b. nat_eq b 47) front (47 ∷ name) ∙ or_right (has_slash front) true refl

pub front_at : (front name : Path) → has_slash name ≡ false → front_of (front ++ 47 ∷ name) ≡ front
front_at [] name free = ap (λ t. cond t (47 ∷ front_of name) []) free
front_at (b ∷ front) name free =
    ap (λ t. cond t (b ∷ front_of (front ++ 47 ∷ name)) []) (behind front name) ∙ ap (λ (l : Path). b ∷ l) (front_at front name free)

front_none : (p : Path) → has_slash p ≡ false → front_of p ≡ []
front_none [] free = refl
front_none (b ∷ p) free = ap (λ t. cond t (b ∷ front_of p) []) (or_parts (nat_eq b 47) (has_slash p) free).1

pub front_split : (path front : Path) (i j : ℕ) → RFindsChar 47 path (Some (i, j)) → front ≡ take i path → front ≡ front_of path
front_split path front i j finds is_front =
    let name = drop j path in
    let parts : path ≡ front ++ 47 ∷ name =
    sym (take-append-drop i path) ∙ ap (λ (l : List ℕ). take i path ++ l) (drop_at_char 47 path i j finds.1 (omega arith)) ∙ ap (λ (l : List ℕ). l ++ 47 ∷ drop j path) (sym is_front) in
    let free = free_from_places name (λ k lt. NoCharPasses-char 47 name k finds.0 (omega arith) lt) in
    sym (ap front_of parts ∙ front_at front name free)

pub front_unsplit : (path : Path) → RFindsChar 47 path None → [] ≡ front_of path
front_unsplit path finds = sym (front_none path (free_from_places path (λ k lt. NoCharPasses-char 47 path k finds (omega arith) lt)))

record Splits (p : Path) : Type 0 where
  name : Path
  is : p ≡ front_of p ++ 47 ∷ name
  free : has_slash name ≡ false

first : (a c : Bool) → a || c ≡ true → c ≡ false → a ≡ true
first true c is none = refl
first false c is none = absurd (true≢false (sym is ∙ none))

splits : (p : Path) → has_slash p ≡ true → Splits p
splits [] is = absurd (false≢true is)
splits (b ∷ p) is = at (λ h. splits p h) (has_slash p) refl
  where
    at : (has_slash p ≡ true → Splits p) → (t : Bool) → has_slash p ≡ t → Splits (b ∷ p)
    at later true more =
        let rest = later more in
        record {
          name = rest.name;
          is = ap (λ (l : Path). b ∷ l) rest.is ∙ ap (λ t. cond t (b ∷ front_of p) [] ++ 47 ∷ rest.name) (sym more);
          free = rest.free;
        }
    at later false none =
        let slash : nat_eq b 47 ≡ true = first (nat_eq b 47) (has_slash p) is none in
        record {
          name = p;
          is = ap (λ c. c ∷ p) (eqb-true b 47 slash) ∙ ap (λ t. cond t (b ∷ front_of p) [] ++ 47 ∷ p) (sym none);
          free = none;
        }

-- of a shipped path

rooted_slash : (p : Path) → is_rooted p ≡ true → has_slash p ≡ true
rooted_slash [] is = absurd (false≢true is)
rooted_slash (b ∷ p) is = ap (λ t. t || has_slash p) (and_parts (nat_eq b 47) (list_all is_component (components p)) is).0

pub front_path : (p : Path) → is_ship_text p ≡ true → is_path (front_of p) ≡ true
front_path p is =
    let shipped = ships p is in
    let parts = splits p (rooted_slash p shipped.rooted) in
    front_is_path (front_of p) parts.name (ap is_path (sym parts.is) ∙ shipped.path)

pub parent_at_front : (w : World) (p : Path) → is_ship_text p ≡ true → IsDirectory (w (front_of p)) → HasParent w p
parent_at_front w p is there =
    let parts = splits p (rooted_slash p (ships p is).rooted) in
    (front_of p, parts.name, parts.is, none_contained parts.name parts.free, there)
