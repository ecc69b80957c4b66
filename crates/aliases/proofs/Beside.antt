-- Paths of one directory: what stands above one of them stands above each.
use Rattle.std.proofs.Common.{◌≡◌, ◌≢◌, ◌⊎◌, inl, inr, Bool, true, false, List, [], ◌∷◌, ◌++◌, refl, sym, ap, subst, ◌∙◌, append_assoc}
use Rattle.host_core.specs.Paths.{Path}
use Rattle.host_core.specs.Tree.{has_slash, IsBelow}
use Rattle.host_core.specs.World.{World}
use Rattle.aliases.specs.Aliases.{Alias}
use Rattle.aliases.specs.Links.{above}
use Rattle.aliases.specs.Reading.{IsWhole}
use Rattle.aliases.proofs.Above.{Splits, splits, front_at, plain_above}
use Rattle.aliases.proofs.Following.{nothing_below}

-- the directory above a path, or one above that
abbrev IsOver : Path → Path → Type 0
IsOver q directory = (q ≡ directory) ⊎ IsBelow q directory

below_over : (q p : Path) → IsBelow q p → IsOver q (above p)
below_over q p below = at (has_slash below.0) refl
  where
    at : (b : Bool) → has_slash below.0 ≡ b → IsOver q (above p)
    at false free = inl (sym (ap above below.1 ∙ front_at q below.0 free))
    at true some =
        let s = splits below.0 some in
        let parts : p ≡ (q ++ 47 ∷ above below.0) ++ 47 ∷ s.name = below.1 ∙ ap (λ (l : Path). q ++ 47 ∷ l) s.is ∙ sym (append_assoc q (47 ∷ above below.0) (47 ∷ s.name)) in
        inr (above below.0, ap above parts ∙ front_at (q ++ 47 ∷ above below.0) s.name s.free)

over_below : (q p : Path) → Splits p → IsOver q (above p) → IsBelow q p
over_below q p s (inl same) = (s.name, s.is ∙ ap (λ (l : Path). l ++ 47 ∷ s.name) (sym same))
over_below q p s (inr below) = (below.0 ++ 47 ∷ s.name, s.is ∙ ap (λ (l : Path). l ++ 47 ∷ s.name) below.1 ∙ append_assoc q (47 ∷ below.0) (47 ∷ s.name))

nothing_over : (q : Path) → q ≢ [] → IsOver q [] → ⊥
nothing_over q other (inl same) = other same
nothing_over q other (inr below) = nothing_below q below.0 below.1

-- whether the directories above a path are followed goes by its directory
pub whole_beside : (w : World) (aliases : List Alias) (p q : Path) → above p ≡ above q → IsWhole w p aliases → IsWhole w q aliases
whole_beside w aliases p q same whole r on = whole r (on.0, by (has_slash p) refl)
  where
    over : IsOver r (above p)
    over = subst (IsOver r) (sym same) (below_over r q on.1)

    by : (b : Bool) → has_slash p ≡ b → IsBelow r p
    by true some = over_below r p (splits p some) over
    by false none = absurd (nothing_over r on.0 (subst (IsOver r) (plain_above p none) over))

-- none stands above a path that is directly below the root
pub whole_plain : (w : World) (aliases : List Alias) (q : Path) → above q ≡ [] → IsWhole w q aliases
whole_plain w aliases q none r on = absurd (nothing_over r on.0 (subst (IsOver r) none (below_over r q on.1)))
