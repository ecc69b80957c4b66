use Rattle.std.proofs.Common.{◌∙◌, ap, sym}
use Rattle.std.proofs.lemmas.Result.{IfOk-weaker}
use Rattle.dpkg_words.specs.Reading.{given}
use Rattle.dpkg_words.specs.declared.options.Valued.{Valued}
use Rattle.dpkg_words.proofs.reading.given.Goals as goal

pub returns-in-PathExclude : goal.returns-in-PathExclude
returns-in-PathExclude c =
    IfOk-weaker c.with_filter.result _ _ (λ o e. e ∙ sym (ap (λ (v : Valued). given v c.args.value.now c.args.options) c.in-PathExclude.is)) c.with_filter.ensures

pub returns-in-PathInclude : goal.returns-in-PathInclude
returns-in-PathInclude c =
    IfOk-weaker c.with_filter-in-PathInclude.result _ _ (λ o e. e ∙ sym (ap (λ (v : Valued). given v c.args.value.now c.args.options) c.in-PathInclude.is)) c.with_filter-in-PathInclude.ensures
