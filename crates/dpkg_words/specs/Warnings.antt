-- What is told on standard error before dpkg's words are carried out: the things that they force and that change nothing.
use Rattle.std.specs.Prelude.{◌++◌, Bool, true, false, List, [], codes, flat_map, if◌then◌else◌}
use Rattle.dpkg_words.specs.Options.{Text}
use Rattle.dpkg_words.specs.Reading.{read_all}
use Rattle.dpkg_words.specs.Translated.{behind_program, translated_from}
use Rattle.dpkg_words.specs.declared.reading.Reading.{Reading}
use Rattle.dpkg_words.specs.declared.translation.Translated.{Translated}
use Rattle.dpkg_words.specs.declared.translation.Translated.TheVariants.{Prints, Refused}

-- neither is a text printed, nor are the words refused
abbrev pub is_carried_out : Translated → Bool
is_carried_out (Prints printed) = false
is_carried_out (Refused line) = false
is_carried_out _ = true

abbrev pub idle_warning : Text → Text
idle_warning name = codes "warning: --force-" ++ (name ++ codes " changes nothing\n")

-- a line for each name, where the words are carried out
abbrev pub warned_of : Bool → List Text → Text
warned_of carried names = if carried then flat_map idle_warning names else []

abbrev pub warned_from : Reading → Text
warned_from r = warned_of (is_carried_out (translated_from r)) r.options.idle

-- What is told of words, the first of which is the program's name.
unfoldable pub idle_warnings : List Text → Text
idle_warnings words = warned_from (read_all (behind_program words))
