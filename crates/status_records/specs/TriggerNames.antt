-- Names of triggers, or of packages, in the value of a field (deb-triggers).
use Rattle.std.specs.Prelude.{◌&&◌, ℕ, Bool, false, not, List, [], ◌∷◌, nat_lt}
use Rattle.std.specs.List.{list_all}
use Rattle.std.specs.Str.{bytes_eq}
use Rattle.control_fields.specs.Names.{is_blank, trim_end}

-- a printed sign of ASCII, or a space
abbrev pub is_printed_sign : ℕ → Bool
is_printed_sign b = nat_lt 31 b && nat_lt b 127

abbrev pub starts_with_sign : List ℕ → Bool
starts_with_sign [] = false
starts_with_sign (b ∷ bs) = not (is_blank b)

-- names with blanks between them: the first sign and the last are none
abbrev pub are_trigger_names : List ℕ → Bool
are_trigger_names text = list_all is_printed_sign text && (starts_with_sign text && bytes_eq (trim_end text) text)
