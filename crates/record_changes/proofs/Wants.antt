-- Two wants are one where their words are.
use Rattle.std.proofs.Common.{◌≡◌, refl}
use Rattle.std.specs.Prelude.{MatchBool}
use Rattle.std.specs.Str.{bytes_eq}
use Rattle.status_records.specs.Words.{want_word}
use Rattle.status_records.specs.declared.words.Want.{Want}
use Rattle.status_records.specs.declared.words.Want.TheVariants as want

pub by_words : (a b : Want) → MatchBool (bytes_eq (want_word a) (want_word b)) (a ≡ b) (a ≡ b → ⊥)
by_words want.Unknown want.Unknown = refl
by_words want.Unknown want.Install = λ e. cc
by_words want.Unknown want.Hold = λ e. cc
by_words want.Unknown want.Deinstall = λ e. cc
by_words want.Unknown want.Purge = λ e. cc
by_words want.Install want.Unknown = λ e. cc
by_words want.Install want.Install = refl
by_words want.Install want.Hold = λ e. cc
by_words want.Install want.Deinstall = λ e. cc
by_words want.Install want.Purge = λ e. cc
by_words want.Hold want.Unknown = λ e. cc
by_words want.Hold want.Install = λ e. cc
by_words want.Hold want.Hold = refl
by_words want.Hold want.Deinstall = λ e. cc
by_words want.Hold want.Purge = λ e. cc
by_words want.Deinstall want.Unknown = λ e. cc
by_words want.Deinstall want.Install = λ e. cc
by_words want.Deinstall want.Hold = λ e. cc
by_words want.Deinstall want.Deinstall = refl
by_words want.Deinstall want.Purge = λ e. cc
by_words want.Purge want.Unknown = λ e. cc
by_words want.Purge want.Install = λ e. cc
by_words want.Purge want.Hold = λ e. cc
by_words want.Purge want.Deinstall = λ e. cc
by_words want.Purge want.Purge = refl
