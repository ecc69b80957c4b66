-- A word that is no value, by what was read before it.
use Rattle.std.proofs.Common.{◌≡◌, true, false, Option, Some, None, refl}
use Rattle.std.specs.Prelude.{is_some}
use Rattle.dpkg_words.specs.Options.{Text}
use Rattle.dpkg_words.specs.Reading.{in_place, read_at, read_word}
use Rattle.dpkg_words.specs.declared.options.Valued.{Valued}
use Rattle.dpkg_words.specs.declared.reading.Outcome.{Outcome}
use Rattle.dpkg_words.specs.declared.reading.Reading.{Reading}

rest_at : (outcome : Option Outcome) (wants : Option Valued) (r : Reading) (word : Text) → is_some outcome ≡ false → wants ≡ None → read_at outcome wants r word ≡ in_place r word
rest_at (Some ending) wants r word e none = absurd (let h : true ≡ false = e in cc)
rest_at None (Some valued) r word e none = absurd (let h : Some valued ≡ None = none in cc)
rest_at None None r word e none = refl

pub read_rest : (r : Reading) (word : Text) → is_some r.outcome ≡ false → r.wants ≡ None → read_word r word ≡ in_place r word
read_rest r word e none = rest_at r.outcome r.wants r word e none
