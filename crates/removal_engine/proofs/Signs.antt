-- A number sign in front of the last name of a path.
use Rattle.std.proofs.Common.{◌≡◌, ◌≢◌, ◌<◌, ℕ, suc, Bool, true, false, cond, [], ◌∷◌, ◌++◌, length, get_or, nat_eq, refl, sym, ap, ◌∙◌, arith}
use Rattle.std.specs.Prelude.{◌||◌}
use Rattle.std.specs.List.{list_any}
use Rattle.std.proofs.lemmas.Bool.{false_from_ne_true, eqb-true}
use Rattle.host_core.specs.Paths.{Path}
use Rattle.removal_engine.specs.Names.{signed}

has_none : (name : Path) → ((i : ℕ) → i < length name → get_or name i 0 ≢ 47) → list_any (nat_eq 47) name ≡ false
has_none [] none = refl
has_none (b ∷ name) none =
    ap (λ t. t || list_any (nat_eq 47) name) (false_from_ne_true (nat_eq 47 b) (λ e. none 0 (omega arith) (sym (eqb-true 47 b e))))
    ∙ has_none name (λ i lt. none (suc i) (omega (arith, lt)))

-- without a slash it stands in front of all
pub signed_alone : (name : Path) → ((i : ℕ) → i < length name → get_or name i 0 ≢ 47) → signed name ≡ 35 ∷ name
signed_alone [] none = refl
signed_alone (b ∷ name) none = ap (λ t. cond t (b ∷ signed name) (35 ∷ b ∷ name)) (has_none (b ∷ name) none)

has_one : (front name : Path) → list_any (nat_eq 47) (front ++ 47 ∷ name) ≡ true
has_one [] name = refl
has_one (b ∷ front) name = ap (λ t. nat_eq 47 b || t) (has_one front name) ∙ or_true (nat_eq 47 b)
  where
    or_true : (t : Bool) → t || true ≡ true
    or_true true = refl
    or_true false = refl

pub signed_behind : (front name : Path) → ((i : ℕ) → i < length name → get_or name i 0 ≢ 47) → signed (front ++ 47 ∷ name) ≡ front ++ 47 ∷ 35 ∷ name
signed_behind [] name none = ap (λ (l : Path). 47 ∷ l) (signed_alone name none)
signed_behind (b ∷ front) name none =
    ap (λ t. cond t (b ∷ signed (front ++ 47 ∷ name)) (35 ∷ b ∷ (front ++ 47 ∷ name))) (has_one (b ∷ front) name)
    ∙ ap (λ (l : Path). b ∷ l) (signed_behind front name none)
