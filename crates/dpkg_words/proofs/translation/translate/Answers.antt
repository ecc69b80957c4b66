use Rattle.std.proofs.Common.{◌≡◌, ◌∙◌, ap, map, string_bytes}
use Rattle.std.proofs.lemmas.Result.{IfOk-weaker}
use Rattle.dpkg_words.specs.Reading.{read_all}
use Rattle.dpkg_words.specs.Translated.{behind_program, translated, translated_from}
use Rattle.dpkg_words.proofs.translation.translate.Goals as goal

pub returns : goal.returns
unfolding translated
returns c =
    let read : c.in_ok-reading.reading ≡ read_all (behind_program (map string_bytes c.args.words.now)) = c.in_ok-reading.ensures ∙ ap read_all c.behind_program.ensures in
    IfOk-weaker c.translated_from.result _ _ (λ t h. h ∙ ap translated_from read) c.translated_from.ensures
