-- Whether each line that is printed is to be an object of JSON (`--json`).
use Rattle.std.specs.Prelude.{Bool, true, false, List, [], ◌∷◌, codes, if◌then◌else◌}
use Rattle.std.specs.Str.{bytes_eq}
use Rattle.clap.specs.Words.{Text}

-- the flag stands among words; behind `--` no word is a flag
abbrev pub wants_json : List Text → Bool
wants_json [] = false
wants_json (word ∷ words) =
    if bytes_eq word (codes "--") then false
    else if bytes_eq word (codes "--json") then true
    else wants_json words
