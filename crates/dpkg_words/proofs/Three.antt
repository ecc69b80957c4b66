-- Three words, and no others.
use Rattle.std.proofs.Common.{◌≡◌, List, [], ◌∷◌, length, refl, codes}
use Rattle.dpkg_words.specs.Options.{Text}
use Rattle.dpkg_words.specs.Translated.{compared, refusal}
use Rattle.dpkg_words.specs.declared.refusals.Why.TheVariants as why

pub not_three : (words : List Text) → (length words ≡ 3 → ⊥) → compared words ≡ refusal why.ThreeWords (codes "--compare-versions")
not_three [] other = refl
not_three (a ∷ []) other = refl
not_three (a ∷ b ∷ []) other = refl
not_three (a ∷ b ∷ c ∷ []) other = absurd (other refl)
not_three (a ∷ b ∷ c ∷ d ∷ words) other = refl
