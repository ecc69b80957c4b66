-- Texts that are cut at a byte.
use Rattle.std.specs.Prelude.{ℕ, ◌==◌, Bool, not, List, [], ◌∷◌, Option, Some, None, filter, if◌then◌else◌, length, nat_eq, option_map}
use Rattle.std.specs.List.{slice_split}
use Rattle.std.specs.Option.{option_or}

-- the pieces between newlines (10), blanks (32) or tabs (9)
abbrev pub between : ℕ → List ℕ → List (List ℕ)
between mark text = slice_split (λ byte. byte == mark) text

abbrev pub is_piece : List ℕ → Bool
is_piece piece = not (length piece == 0)

-- those that have a byte
abbrev pub pieces : ℕ → List ℕ → List (List ℕ)
pieces mark text = filter is_piece (between mark text)

-- what stands before the first of a byte, and what behind it
abbrev pub cut_at : ℕ → List ℕ → Option (List ℕ × List ℕ)
cut_at mark [] = None
cut_at mark (c ∷ cs) = if nat_eq c mark then Some ([], cs) else option_map (λ parts. (c ∷ parts.0, parts.1)) (cut_at mark cs)

-- what stands before the last colon, and what behind it
abbrev pub cut_at_last_colon : List ℕ → Option (List ℕ × List ℕ)
cut_at_last_colon [] = None
cut_at_last_colon (c ∷ cs) =
    option_or (option_map (λ parts. (c ∷ parts.0, parts.1)) (cut_at_last_colon cs)) (if nat_eq c 58 then Some ([], cs) else None)

abbrev pub front_or : List ℕ → Option (List ℕ × List ℕ) → List ℕ
front_or text None = text
front_or text (Some parts) = parts.0

abbrev pub rest_or : List ℕ → Option (List ℕ × List ℕ) → List ℕ
rest_or text None = text
rest_or text (Some parts) = parts.1

-- what stands before the first colon, or the whole
abbrev pub before_colon : List ℕ → List ℕ
before_colon text = front_or text (cut_at 58 text)

-- what stands behind the first blank, or the whole
abbrev pub behind_blank : List ℕ → List ℕ
behind_blank text = rest_or text (cut_at 32 text)
