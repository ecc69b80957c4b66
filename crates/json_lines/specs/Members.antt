-- The members of an object, and its text (RFC 8259).
use Rattle.std.specs.Prelude.{ℕ, ◌-◌, suc, ◌&&◌, List, [], ◌∷◌, ◌++◌, codes, drop, flat_map, if◌then◌else◌, length, nat_lt, take}
use Rattle.json.specs.Print.{quoted}
use Rattle.json_lines.specs.Cutting.{between}
use Rattle.json_lines.specs.Forms.{merged_in, names_in}
use Rattle.json_lines.specs.declared.forms.Form.{Form}

-- `"NAME":"VALUE"`
abbrev pub member : List ℕ → List ℕ → List ℕ
member name value = quoted name ++ (codes ":" ++ quoted value)

abbrev pub joined : List ℕ → List (List ℕ) → List ℕ
joined mark [] = []
joined mark (t ∷ ts) = t ++ flat_map (λ u. mark ++ u) ts

-- an object on a line of its own
abbrev pub object : List (List ℕ) → List ℕ
object members = codes "{" ++ (joined (codes ",") members ++ codes "}\n")

-- so many words from a place on are one value
abbrev pub merged : ℕ → ℕ → List (List ℕ) → List (List ℕ)
merged at count words = take at words ++ joined (codes " ") (take count (drop at words)) ∷ drop count (drop at words)

-- the values for so many names: where there are more words, those that are too many stand in one value
abbrev pub values_of : ℕ → ℕ → List (List ℕ) → List (List ℕ)
values_of at names words =
    if nat_lt at names && nat_lt names (length words) then merged at (suc (length words - names)) words else words

-- each name with its value; names that are left over have no member
abbrev pub named : List (List ℕ) → List (List ℕ) → List (List ℕ)
named names [] = []
named [] (v ∷ vs) = []
named (n ∷ ns) (v ∷ vs) = member n v ∷ named ns vs

-- the members of a line of these words
abbrev pub formed : Form → List (List ℕ) → List (List ℕ)
formed form words = named (between 32 (names_in form)) (values_of (merged_in form) (length (between 32 (names_in form))) words)
