-- Numbers among dpkg's words: a descriptor (`--status-fd N`), and how many may fail (`--abort-after N`).
use Rattle.std.specs.Prelude.{◌&&◌, ◌||◌, Bool, not, codes, length, nat_eq, nat_le, nat_lt}
use Rattle.std.specs.Char.{is_ascii_digit}
use Rattle.std.specs.List.{list_all, starts_with}
use Rattle.std.specs.Str.{bytes_eq}
use Rattle.dpkg_words.specs.Options.{Text}

-- no zero stands before other digits: dpkg takes such a number for an octal one
abbrev pub is_plain_number : Text → Bool
is_plain_number text = bytes_eq text (codes "0") || not (starts_with nat_eq text (codes "0"))

-- a number of one to nine decimal digits
abbrev pub is_number : Text → Bool
is_number text = list_all is_ascii_digit text && is_plain_number text && nat_lt 0 (length text) && nat_le (length text) 9
