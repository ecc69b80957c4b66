-- Formats, as dpkg-query(1) has them (`--showformat`): bytes that stand for themselves, and fields, `${NAME}` or `${NAME;WIDTH}`.
use Rattle.std.specs.Prelude.{ℕ, ◌+◌, ◌*◌, ◌-◌, ◌==◌, ◌&&◌, Bool, true, false, List, [], ◌∷◌, ◌++◌, Option, Some, None, fold, if◌then◌else◌, nat_le, nat_lt}
use Rattle.std.specs.Char.{is_ascii_digit, to_ascii_lowercase}
use Rattle.record_formats.specs.declared.pieces.Piece.{Piece}
use Rattle.record_formats.specs.declared.pieces.Piece.TheVariants.{Byte, Field}
use Rattle.record_formats.specs.declared.reading.Place.{Place}
use Rattle.record_formats.specs.declared.reading.Place.TheVariants.{InText, BehindBackslash, BehindDollar, BehindBoth, InName, BehindSemicolon, BehindSign, InWidth, Nowhere}
use Rattle.record_formats.specs.declared.reading.Reading.{Reading}

-- before the first byte
abbrev pub begun : Reading
begun = record { pieces = []; place = InText; name = []; width = 0; left = false }

abbrev pub moved : Place → Reading → Reading
moved place s = record s { place = place }

-- a byte that stands for itself
abbrev pub with_byte : ℕ → Place → Reading → Reading
with_byte b place s = record s { pieces = s.pieces ++ Byte b ∷ []; place = place }

-- a field, which ends
abbrev pub with_field : Reading → Reading
with_field s = record {
  pieces = s.pieces ++ Field (record { name = s.name; width = s.width; left = s.left }) ∷ [];
  place = InText;
  name = [];
  width = 0;
  left = false;
}

-- the byte that is meant behind a backslash: `n` is a newline, `t` a tab, `r` a return, any other stands for itself
abbrev pub unquoted : ℕ → ℕ
unquoted b = if b == 110 then 10 else if b == 116 then 9 else if b == 114 then 13 else b

-- `$` (36) may begin a field, `\` (92) quotes the byte behind it
abbrev pub in_text : ℕ → Reading → Reading
in_text b s =
    if b == 36 then moved BehindDollar s
    else if b == 92 then moved BehindBackslash s
    else with_byte b InText s

-- a dollar is quoted, and begins a field all the same
abbrev pub behind_backslash : ℕ → Reading → Reading
behind_backslash b s = if b == 36 then with_byte 36 BehindBoth s else with_byte (unquoted b) InText s

-- `{` (123) begins a field
abbrev pub behind_dollar : ℕ → Reading → Reading
behind_dollar b s = if b == 123 then moved InName s else in_text b (with_byte 36 InText s)

abbrev pub behind_both : ℕ → Reading → Reading
behind_both b s = if b == 123 then moved InName s else in_text b s

-- `}` (125) ends a field, `;` (59) its name, which is read without regard to case
abbrev pub in_name : ℕ → Reading → Reading
in_name b s =
    if b == 125 then with_field s
    else if b == 59 then moved BehindSemicolon s
    else record s { name = s.name ++ to_ascii_lowercase b ∷ [] }

abbrev pub is_first_digit : ℕ → Bool
is_first_digit b = nat_le 49 b && nat_le b 57

-- a width begins with a digit that isn't zero
abbrev pub behind_sign : ℕ → Reading → Reading
behind_sign b s = if is_first_digit b then record s { place = InWidth; width = b - 48 } else moved Nowhere s

-- `-` (45) lets the value stand to the left
abbrev pub behind_semicolon : ℕ → Reading → Reading
behind_semicolon b s = if b == 45 then record s { place = BehindSign; left = true } else behind_sign b s

-- and has five digits at most
abbrev pub with_digit : ℕ → Reading → Reading
with_digit b s =
    if is_ascii_digit b && nat_lt s.width 10000 then record s { width = 10 * s.width + (b - 48) } else moved Nowhere s

abbrev pub in_width : ℕ → Reading → Reading
in_width b s = if b == 125 then with_field s else with_digit b s

-- what a byte is, by what stands before it
abbrev pub behind_at : Place → ℕ → Reading → Reading
behind_at InText b s = in_text b s
behind_at BehindBackslash b s = behind_backslash b s
behind_at BehindDollar b s = behind_dollar b s
behind_at BehindBoth b s = behind_both b s
behind_at InName b s = in_name b s
behind_at BehindSemicolon b s = behind_semicolon b s
behind_at BehindSign b s = behind_sign b s
behind_at InWidth b s = in_width b s
behind_at Nowhere b s = s

abbrev pub behind_byte : Reading → ℕ → Reading
behind_byte s b = behind_at s.place b s

-- what was read at the end of a format: a backslash there stands for nothing, and no field goes on
abbrev pub finished_at : Place → List Piece → Option (List Piece)
finished_at InText pieces = Some pieces
finished_at BehindBackslash pieces = Some pieces
finished_at BehindDollar pieces = Some (pieces ++ Byte 36 ∷ [])
finished_at BehindBoth pieces = Some pieces
finished_at InName pieces = None
finished_at BehindSemicolon pieces = None
finished_at BehindSign pieces = None
finished_at InWidth pieces = None
finished_at Nowhere pieces = None

abbrev pub finished : Reading → Option (List Piece)
finished s = finished_at s.place s.pieces

-- the pieces of a format that can be read; an empty one can't
abbrev pub pieces_of : List ℕ → Option (List Piece)
pieces_of [] = None
pieces_of (b ∷ bs) = finished (fold behind_byte begun (b ∷ bs))
