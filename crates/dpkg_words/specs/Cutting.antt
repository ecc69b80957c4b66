-- Texts that are cut in two.
use Rattle.std.specs.Prelude.{ℕ, [], ◌∷◌, Option, Some, None, if◌then◌else◌, nat_eq, option_map}
use Rattle.dpkg_words.specs.Options.{Text}

-- what stands behind a front
abbrev pub behind : Text → Text → Option Text
behind [] text = Some text
behind (c ∷ front) [] = None
behind (c ∷ front) (d ∷ text) = if nat_eq c d then behind front text else None

-- what stands before the first of a byte, and what behind it
abbrev pub cut_at : ℕ → Text → Option (Text × Text)
cut_at mark [] = None
cut_at mark (c ∷ cs) = if nat_eq c mark then Some ([], cs) else option_map (λ parts. (c ∷ parts.0, parts.1)) (cut_at mark cs)
