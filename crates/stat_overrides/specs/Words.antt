-- Words of a line, and the numbers that they give.
use Rattle.std.specs.Prelude.{ℕ, ◌+◌, ◌*◌, ◌-◌, nat_eq, nat_lt, nat_le, if◌then◌else◌, List, [], ◌∷◌, Option, Some, None, option_map, option_and_then}

-- what stands before the first such byte, and what behind it
abbrev pub cut_at : ℕ → List ℕ → Option (List ℕ × List ℕ)
cut_at sign [] = None
cut_at sign (c ∷ cs) = if nat_eq c sign then Some ([], cs) else option_map (λ parts. (c ∷ parts.0, parts.1)) (cut_at sign cs)

-- a number that isn't greater than this
abbrev pub within : ℕ → ℕ → Option ℕ
within limit n = if nat_lt limit n then None else Some n

-- with one digit more of a base of at most ten
abbrev pub number_with : ℕ → ℕ → ℕ → ℕ → Option ℕ
number_with base limit value digit = if nat_lt digit 48 then None else if nat_le base (digit - 48) then None else within limit (value * base + (digit - 48))

-- with these digits more
abbrev pub number_from : ℕ → ℕ → ℕ → List ℕ → Option ℕ
number_from base limit value [] = Some value
number_from base limit value (digit ∷ digits) = option_and_then (λ next. number_from base limit next digits) (number_with base limit value digit)

-- the number of digits; there is at least one
abbrev pub number_of : ℕ → ℕ → List ℕ → Option ℕ
number_of base limit [] = None
number_of base limit (digit ∷ digits) = number_from base limit 0 (digit ∷ digits)

-- of a user or group: 32 bits, of which the greatest number stands for none
abbrev pub id_in : List ℕ → Option ℕ
id_in digits = number_of 10 4294967294 digits

-- a mode, by its octal digits: the twelve bits for permissions, those for set-id among them
abbrev pub mode_in : List ℕ → Option ℕ
mode_in digits = number_of 8 4095 digits
