-- Ways with the aliases on them followed.
use Rattle.std.proofs.Common.{◌≡◌, ◌⊎◌, inl, inr, ◌||◌, ℕ, Bool, true, false, cond, List, [], ◌∷◌, ◌++◌, nat_eq, refl, sym, ap, subst, ◌∙◌, append_assoc}
use Rattle.std.specs.List.{AllByRecursion}
use Rattle.std.specs.Str.{bytes_eq}
use Rattle.std.proofs.lemmas.Bool.{eqb-true, or_parts}
use Rattle.std.proofs.lemmas.List.{append-nil}
use Rattle.host_core.specs.Paths.{Path, is_ship_text}
use Rattle.host_core.specs.Tree.{has_slash, IsBelow}
use Rattle.aliases.specs.Aliases.{Alias, is_alias, led, gone, way_from, way_to, followed, resolved, IsFree, IsFlat}

pub led_free : (aliases : List Alias) (path : Path) → is_alias aliases path ≡ false → led aliases path ≡ path
led_free [] path free = refl
led_free (a ∷ aliases) path free =
    let parts = or_parts (bytes_eq path a.place) (is_alias aliases path) free in
    ap (λ b. cond b a.target (led aliases path)) parts.0 ∙ led_free aliases path parts.1

-- ways with more bytes

pub way_more : (aliases : List Alias) (way : Path) (a b : List ℕ) → way_from aliases way (a ++ b) ≡ way_from aliases (way_from aliases way a) b
way_more aliases way [] b = refl
way_more aliases way (x ∷ a) b = way_more aliases (gone aliases way x) a b

pub way_plain : (aliases : List Alias) (way name : Path) → has_slash name ≡ false → way_from aliases way name ≡ way ++ name
way_plain aliases way [] plain = sym (append-nil way)
way_plain aliases way (x ∷ name) plain =
    let parts = or_parts (nat_eq x 47) (has_slash name) plain in
    ap (λ b. way_from aliases (cond b (led aliases way ++ 47 ∷ []) (way ++ x ∷ [])) name) parts.0 ∙ way_plain aliases (way ++ x ∷ []) name parts.1 ∙ append_assoc way (x ∷ []) name

-- a name, and the slash behind it
pub way_name : (aliases : List Alias) (way name rest : Path) → has_slash name ≡ false → way_from aliases way (name ++ 47 ∷ rest) ≡ way_from aliases (led aliases (way ++ name) ++ 47 ∷ []) rest
way_name aliases way name rest plain =
    way_more aliases way name (47 ∷ rest) ∙ ap (λ (p : Path). way_from aliases (led aliases p ++ 47 ∷ []) rest) (way_plain aliases way name plain)

-- a way on which no alias stands

pub way_free : (aliases : List Alias) (way : Path) (rest : List ℕ) → IsFree aliases (way ++ rest) → way_from aliases way rest ≡ way ++ rest
way_free aliases way [] free = sym (append-nil way)
way_free aliases way (x ∷ rest) free =
    at (way_free aliases (way ++ x ∷ []) rest (subst (IsFree aliases) (sym (append_assoc way (x ∷ []) rest)) free) ∙ append_assoc way (x ∷ []) rest) (nat_eq x 47) refl
  where
    at : way_from aliases (way ++ x ∷ []) rest ≡ way ++ x ∷ rest → (b : Bool) → nat_eq x 47 ≡ b → way_from aliases (cond b (led aliases way ++ 47 ∷ []) (way ++ x ∷ [])) rest ≡ way ++ x ∷ rest
    at onward true is =
        let slash = eqb-true x 47 is in
        ap (λ (p : Path). way_from aliases (p ++ 47 ∷ []) rest) (led_free aliases way (free way (inr (rest, ap (λ c. way ++ c ∷ rest) slash))))
        ∙ ap (λ c. way_from aliases (way ++ c ∷ []) rest) (sym slash) ∙ onward
    at onward false is = onward

pub followed_free : (aliases : List Alias) (path : Path) → IsFree aliases path → followed aliases path ≡ path
followed_free aliases path free = ap (led aliases) (way_free aliases [] path free) ∙ led_free aliases path (free path (inl refl))

cond_same : (b : Bool) (p : Path) → cond b p p ≡ p
cond_same true p = refl
cond_same false p = refl

pub resolved_free : (aliases : List Alias) (path : Path) → IsFree aliases path → resolved aliases path ≡ path
resolved_free aliases path free = ap (λ (p : Path). cond (is_ship_text p) p path) (followed_free aliases path free) ∙ cond_same (is_ship_text path) path

pub resolved_empty : (aliases : List Alias) (path : Path) → aliases ≡ [] → resolved aliases path ≡ path
resolved_empty aliases path none = ap (λ (l : List Alias). resolved l path) none ∙ resolved_free [] path (λ q on. refl)

-- where no alias stands on the way to a target

-- no alias stands above the path
abbrev IsOpen : List Alias → Path → Type 0
IsOpen aliases path = (q : Path) → IsBelow q path → is_alias aliases q ≡ false

pub led_by : (P : Path → Type 0) (aliases : List Alias) (path : Path) → AllByRecursion (λ a. P a.target) aliases → is_alias aliases path ≡ true → P (led aliases path)
led_by P [] path each is = absurd (let e : false ≡ true = is in cc)
led_by P (a ∷ aliases) path each is = at (led_by P aliases path each.1) (bytes_eq path a.place) is
  where
    at : (is_alias aliases path ≡ true → P (led aliases path)) → (b : Bool) → b || is_alias aliases path ≡ true → P (cond b a.target (led aliases path))
    at later true found = each.0
    at later false found = later found

free_by : (aliases : List Alias) (path : Path) → IsOpen aliases path → is_alias aliases path ≡ false → IsFree aliases path
free_by aliases path clear none q (inl same) = ap (is_alias aliases) same ∙ none
free_by aliases path clear none q (inr below) = clear q below

led_open : (aliases : List Alias) (path : Path) → IsFlat aliases → IsOpen aliases path → IsFree aliases (led aliases path)
led_open aliases path flat clear = at (is_alias aliases path) refl
  where
    at : (b : Bool) → is_alias aliases path ≡ b → IsFree aliases (led aliases path)
    at true is = led_by (IsFree aliases) aliases path flat is
    at false is = subst (IsFree aliases) (sym (led_free aliases path is)) (free_by aliases path clear is)

pub nothing_below : (q r : Path) → [] ≡ q ++ 47 ∷ r → ⊥
nothing_below [] r e = cc
nothing_below (y ∷ q) r e = cc

-- what is above a path with one byte more
pub above_last : (a q : Path) (b : ℕ) (r : Path) → a ++ b ∷ [] ≡ q ++ 47 ∷ r → ((q ≡ a) × (b ≡ 47)) ⊎ IsBelow q a
above_last [] [] b r e = inl (refl, cc)
above_last [] (y ∷ q) b r e = absurd (nothing_below q r (let f : b ∷ [] ≡ y ∷ (q ++ 47 ∷ r) = e in cc))
above_last (x ∷ a) [] b r e = inr (a, let f : x ∷ (a ++ b ∷ []) ≡ 47 ∷ r = e in cc)
above_last (x ∷ a) (y ∷ q) b r e = at (above_last a q b r (let f : x ∷ (a ++ b ∷ []) ≡ y ∷ (q ++ 47 ∷ r) = e in cc)) (let f : x ∷ (a ++ b ∷ []) ≡ y ∷ (q ++ 47 ∷ r) = e in cc)
  where
    at : ((q ≡ a) × (b ≡ 47)) ⊎ IsBelow q a → x ≡ y → ((y ∷ q ≡ x ∷ a) × (b ≡ 47)) ⊎ IsBelow (y ∷ q) (x ∷ a)
    at (inl both) same = let e0 = both.0 in inl (cc, both.1)
    at (inr below) same = let e0 = below.1 in inr (below.0, cc)

gone_open : (aliases : List Alias) (way : Path) (x : ℕ) → IsFlat aliases → IsOpen aliases way → IsOpen aliases (gone aliases way x)
gone_open aliases way x flat clear = at (nat_eq x 47) refl
  where
    slash : (q : Path) (r : Path) → led aliases way ++ 47 ∷ [] ≡ q ++ 47 ∷ r → is_alias aliases q ≡ false
    slash q r e = by (above_last (led aliases way) q 47 r e)
      where
        by : ((q ≡ led aliases way) × (◌≡◌ {A = ℕ} 47 47)) ⊎ IsBelow q (led aliases way) → is_alias aliases q ≡ false
        by (inl both) = led_open aliases way flat clear q (inl both.0)
        by (inr below) = led_open aliases way flat clear q (inr below)

    plain : nat_eq x 47 ≡ false → (q : Path) (r : Path) → way ++ x ∷ [] ≡ q ++ 47 ∷ r → is_alias aliases q ≡ false
    plain other q r e = by (above_last way q x r e)
      where
        by : ((q ≡ way) × (x ≡ 47)) ⊎ IsBelow q way → is_alias aliases q ≡ false
        by (inl both) = absurd (let f : nat_eq x 47 ≡ true = ap (λ c. nat_eq c 47) both.1 in let g = other in cc)
        by (inr below) = clear q below

    at : (b : Bool) → nat_eq x 47 ≡ b → IsOpen aliases (cond b (led aliases way ++ 47 ∷ []) (way ++ x ∷ []))
    at true is = λ q below. slash q below.0 below.1
    at false is = λ q below. plain is q below.0 below.1

way_open : (aliases : List Alias) (way : Path) (rest : List ℕ) → IsFlat aliases → IsOpen aliases way → IsOpen aliases (way_from aliases way rest)
way_open aliases way [] flat clear = clear
way_open aliases way (x ∷ rest) flat clear = way_open aliases (gone aliases way x) rest flat (gone_open aliases way x flat clear)

pub followed_flat : (aliases : List Alias) (path : Path) → IsFlat aliases → IsFree aliases (followed aliases path)
followed_flat aliases path flat = led_open aliases (way_to aliases path) flat (way_open aliases [] path flat (λ q below. absurd (nothing_below q below.0 below.1)))

pub resolved_twice : (aliases : List Alias) (path : Path) → IsFlat aliases → resolved aliases (resolved aliases path) ≡ resolved aliases path
resolved_twice aliases path flat = at (is_ship_text (followed aliases path)) refl
  where
    at : (b : Bool) → is_ship_text (followed aliases path) ≡ b → resolved aliases (cond b (followed aliases path) path) ≡ cond b (followed aliases path) path
    at true is = resolved_free aliases (followed aliases path) (followed_flat aliases path flat)
    at false is = ap (λ b. cond b (followed aliases path) path) is
