-- The members of a paragraph of control text (Policy 5.1): its fields, in their order.
use Rattle.std.specs.Prelude.{ℕ, ◌||◌, Bool, List, [], ◌∷◌, ◌++◌, codes, if◌then◌else◌, nat_eq}
use Rattle.std.specs.List.{starts_with}
use Rattle.json_lines.specs.Cutting.{before_colon, behind_blank, cut_at, rest_or}
use Rattle.json_lines.specs.Members.{member}

-- a line that goes on with the field before it
abbrev pub goes_on : List ℕ → Bool
goes_on line = starts_with nat_eq line (codes " ") || starts_with nat_eq line (codes "\t")

-- the lines up to the next field, each behind a newline
abbrev pub further : List (List ℕ) → List ℕ
further [] = []
further (line ∷ lines) = if goes_on line then codes "\n" ++ (line ++ further lines) else []

-- what stands behind the colon, and its blank
abbrev pub first_value : List ℕ → List ℕ
first_value line = behind_blank (rest_or [] (cut_at 58 line))

abbrev pub field : List ℕ → List (List ℕ) → List ℕ
field line lines = member (before_colon line) (first_value line ++ further lines)

-- each field with all its lines
abbrev pub fields : List (List ℕ) → List (List ℕ)
fields [] = []
fields (line ∷ lines) = if goes_on line then fields lines else field line lines ∷ fields lines
