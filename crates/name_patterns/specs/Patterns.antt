-- Which texts a pattern matches, as fnmatch(3) has it without flags: but `[` stands for itself here.
use Rattle.std.specs.Prelude.{ℕ, ◌==◌, ◌&&◌, ◌||◌, Bool, true, false, not, List, [], ◌∷◌, Option, Some, None, if◌then◌else◌}
use Rattle.std.specs.List.{list_any}

-- nothing is left of a text
abbrev pub is_end : List ℕ → Bool
is_end [] = true
is_end (b ∷ bs) = false

-- a byte is the one that is wanted, if any is
abbrev pub fits : Option ℕ → ℕ → Bool
fits None byte = true
fits (Some wanted) byte = wanted == byte

-- a text begins with a byte that fits, and what is behind it passes
abbrev pub behind_one : Option ℕ → (List ℕ → Bool) → List ℕ → Bool
behind_one wanted passes [] = false
behind_one wanted passes (b ∷ bs) = fits wanted b && passes bs

-- a text passes, or what is behind some of its first bytes does
abbrev pub behind_some : (List ℕ → Bool) → List ℕ → Bool
behind_some passes [] = passes []
behind_some passes (b ∷ bs) = passes (b ∷ bs) || behind_some passes bs

-- a byte quotes the one behind it: `\` (92), where it isn't quoted itself
abbrev pub is_quoting : Bool → ℕ → Bool
is_quoting quoted sign = not quoted && sign == 92

-- `*` (42) stands for any bytes, or none; `?` (63) for one; `\` (92) quotes the byte behind it, and ends no pattern that matches; any other
-- byte stands for itself. The slash and a leading dot are bytes like others.
abbrev pub matches_behind : Bool → List ℕ → List ℕ → Bool
matches_behind quoted [] text = not quoted && is_end text
matches_behind true (c ∷ cs) text = behind_one (Some c) (matches_behind false cs) text
matches_behind false (c ∷ cs) text =
    if c == 42 then behind_some (matches_behind false cs) text
    else if c == 63 then behind_one None (matches_behind false cs) text
    else if c == 92 then matches_behind true cs text
    else behind_one (Some c) (matches_behind false cs) text

abbrev pub matches : List ℕ → List ℕ → Bool
matches pattern text = matches_behind false pattern text

-- a text that has `*` or `?`
abbrev pub is_wild : List ℕ → Bool
is_wild text = list_any (λ b. b == 42 || b == 63) text

-- A pattern that means here what it means to dpkg: no `[` (91) that isn't quoted, and no `\` at its end.
abbrev pub is_readable_behind : Bool → List ℕ → Bool
is_readable_behind quoted [] = not quoted
is_readable_behind quoted (c ∷ cs) = not (not quoted && c == 91) && is_readable_behind (is_quoting quoted c) cs

abbrev pub is_readable : List ℕ → Bool
is_readable pattern = is_readable_behind false pattern
