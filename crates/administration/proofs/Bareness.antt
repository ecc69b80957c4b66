-- A directory without entries has nothing below it.
use Rattle.std.proofs.Common.{◌≡◌, ◌↔◌, inl, inr, Bool, true, false, List, [], ◌∷◌, ◌++◌, refl, sym, ap, subst, ◌∙◌, append_assoc, Contains, length, arith}
use Rattle.std.specs.Prelude.{◌==◌, IsSome}
use Rattle.std.proofs.lemmas.Bool.{eqb-true, true≢false}
use Rattle.host_core.specs.Paths.{Path}
use Rattle.host_core.specs.World.{World, IsBare}
use Rattle.host_core.specs.Tree.{has_slash, IsTree, IsListing}
use Rattle.host_core.proofs.Nodes.{directory_stands, none_there, none_stands}
use Rattle.administration.proofs.Within.{FirstName, first_name}

empty_has : (names : List Path) (name : Path) → names ≡ [] → Contains names name → ⊥
empty_has names name none has = omega (arith, has.1, ap length none)

no_names : (w : World) (path : Path) (names : List Path) → names ≡ [] → IsTree w → IsListing w path names false → IsBare w path
no_names w path names none tree listing rest = none_there (w (path ++ 47 ∷ rest)) (λ some. stands some (first_name rest)) where
  child : (name : Path) → has_slash name ≡ false → IsSome (w (path ++ 47 ∷ name)) → ⊥
  child name plain is = elim (listing.whole name plain is) [
    | inl has ↦ empty_has names name none has
    | inr odd ↦ true≢false (sym odd.1)
  ]

  stands : IsSome (w (path ++ 47 ∷ rest)) → FirstName rest → ⊥
  stands some first = elim first.ends [
    | inl e ↦ child first.name first.plain (subst (λ r. IsSome (w (path ++ 47 ∷ r))) e some)
    | inr m ↦ child first.name first.plain (directory_stands _ (tree (path ++ 47 ∷ first.name) m.0 (subst (λ r. IsSome (w r)) (ap (λ r. path ++ 47 ∷ r) m.1 ∙ sym (append_assoc path (47 ∷ first.name) (47 ∷ m.0))) some)))
  ]

some_names : (w : World) (path : Path) (name : Path) (names : List Path) (bad : Bool) → IsListing w path (name ∷ names) bad → IsBare w path → ⊥
some_names w path name names bad listing bare = none_stands _ (bare name) (listing.there name (0, omega arith, refl)).1

bad_name : (w : World) (path : Path) (names : List Path) → IsListing w path names true → IsBare w path → ⊥
bad_name w path names listing bare = let f = listing.faulty refl in none_stands _ (bare f.0) f.3

pub bare_is : (w : World) (path : Path) (names : List Path) (bad : Bool) → IsTree w → IsListing w path names bad → ((bad ≡ false) × (names ≡ [])) ↔ IsBare w path
bare_is w path [] false tree listing = (λ is. no_names w path [] refl tree listing, λ bare. (refl, refl))
bare_is w path [] true tree listing = (λ is. absurd (true≢false is.0), λ bare. absurd (bad_name w path [] listing bare))
bare_is w path (n ∷ ns) bad tree listing = (λ is. absurd (true≢false (sym (ap is_none is.1))), λ bare. absurd (some_names w path n ns bad listing bare)) where
  is_none : List Path → Bool
  is_none [] = true
  is_none (m ∷ ms) = false

pub no_items : (names : List Path) → (length names == 0) ≡ true → names ≡ []
no_items [] e = refl
no_items (n ∷ ns) e = absurd (omega (arith, eqb-true (length (n ∷ ns)) 0 e))

pub no_length : (names : List Path) → names ≡ [] → (length names == 0) ≡ true
no_length names none = ap (λ (l : List Path). length l == 0) none
