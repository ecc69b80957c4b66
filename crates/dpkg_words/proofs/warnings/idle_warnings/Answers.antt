use Rattle.std.proofs.Common.{◌≡◌, ◌∙◌, ap, map, string_bytes}
use Rattle.std.proofs.lemmas.Result.{IfOk-weaker}
use Rattle.dpkg_words.specs.Reading.{read_all}
use Rattle.dpkg_words.specs.Translated.{behind_program}
use Rattle.dpkg_words.specs.Warnings.{idle_warnings, warned_from}
use Rattle.dpkg_words.proofs.warnings.idle_warnings.Goals as goal

pub returns : goal.returns
unfolding idle_warnings
returns c =
    let read : c.in_ok-reading.reading ≡ read_all (behind_program (map string_bytes c.args.words.now)) = c.in_ok-reading.ensures ∙ ap read_all c.behind_program.ensures in
    IfOk-weaker c.warned_from.result _ _ (λ lines h. h ∙ ap warned_from read) c.warned_from.ensures
