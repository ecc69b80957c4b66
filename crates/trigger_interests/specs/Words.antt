-- Words of a line of a package's file `triggers`.
use Rattle.std.specs.Prelude.{◌&&◌, ◌==◌, not, ℕ, Bool, true, false, nat_lt, if◌then◌else◌, List, [], ◌∷◌, length, filter, Option, Some, None, codes}
use Rattle.std.specs.List.{list_all, list_any, slice_split}
use Rattle.std.specs.Str.{bytes_eq}
use Rattle.control_fields.specs.Names.{is_blank}
use Rattle.trigger_interests.specs.declared.words.Directive.{Directive}
use Rattle.trigger_interests.specs.declared.words.Directive.TheVariants.{Interest, Activate}

-- what stands between its spaces and tabs; no word is empty
abbrev pub words_in : List ℕ → List (List ℕ)
words_in line = filter (λ word. not (length word == 0)) (slice_split is_blank line)

-- that a package is interested, and who activates the trigger waits for it
abbrev pub interest_words : List (List ℕ)
interest_words = codes "interest" ∷ codes "interest-await" ∷ []

-- that it is interested, and nobody waits for it
abbrev pub noawait_word : List ℕ
noawait_word = codes "interest-noawait"

-- that it activates the trigger; whether it waits isn't kept
abbrev pub activate_words : List (List ℕ)
activate_words = codes "activate" ∷ codes "activate-await" ∷ codes "activate-noawait" ∷ []

-- the directive that a word is, if it is one
abbrev pub directive_of : List ℕ → Option Directive
directive_of word =
    if list_any (bytes_eq word) interest_words then Some (Interest false) else if bytes_eq word noawait_word then Some (Interest true)
    else if list_any (bytes_eq word) activate_words then Some Activate else None

-- a printed sign of ASCII, and no blank
abbrev pub is_trigger_sign : ℕ → Bool
is_trigger_sign byte = nat_lt 32 byte && nat_lt byte 127

-- whether a word may name a trigger
abbrev pub is_trigger_name : List ℕ → Bool
is_trigger_name word = list_all is_trigger_sign word
