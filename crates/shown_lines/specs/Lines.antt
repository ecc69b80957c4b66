-- Lines as they are printed.
use Rattle.std.specs.Prelude.{ℕ, Bool, List, [], ◌∷◌, ◌++◌, ◌/◌, ◌%◌, ◌||◌, codes, nat_eq, nat_lt, if◌then◌else◌}
use Rattle.std.specs.Char.{digit_char}
use Rattle.std.specs.List.{flat_map}

-- a byte that ends a line or controls a terminal: those below the blank, and 127
abbrev pub is_control : ℕ → Bool
is_control byte = nat_lt byte 32 || nat_eq byte 127

-- `\x` and the two digits of a byte in base 16
abbrev pub byte_digits : ℕ → List ℕ
byte_digits byte = codes "\\x" ++ digit_char (byte / 16) ∷ digit_char (byte % 16) ∷ []

-- such a byte is shown by its digits, any other as it is
abbrev pub shown_byte : ℕ → List ℕ
shown_byte byte = if is_control byte then byte_digits byte else byte ∷ []

-- a text as it is shown in a line
abbrev pub shown : List ℕ → List ℕ
shown text = flat_map shown_byte text

-- the line with this text
abbrev pub line : List ℕ → List ℕ
line text = shown text ++ codes "\n"
