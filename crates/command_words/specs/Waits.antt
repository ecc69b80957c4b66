-- How long words let a command wait for a lock that another program holds.
use Rattle.std.specs.Prelude.{ℕ, ◌^◌, List, [], ◌∷◌, Option, Some, None, ◌&&◌, codes, if◌then◌else◌, nat_lt}
use Rattle.std.specs.Char.{is_ascii_digit}
use Rattle.std.specs.List.{list_all}
use Rattle.std.specs.Str.Parse.{digits_value}
use Rattle.clap.specs.Words.{Row, Text, first_of}

-- the number that a text of decimal digits writes, where it is below 2^32
abbrev pub number_in : Text → Option ℕ
number_in [] = None
number_in (first ∷ rest) =
    if list_all is_ascii_digit (first ∷ rest) && nat_lt (digits_value 10 (first ∷ rest)) (2 ^ 32)
    then Some (digits_value 10 (first ∷ rest))
    else None

-- so many seconds, and none where nothing is given
abbrev pub wait_from : Option Text → Option ℕ
wait_from None = Some 0
wait_from (Some text) = number_in text

abbrev pub wait_of : List Row → Option ℕ
wait_of rows = wait_from (first_of (codes "wait") rows)
