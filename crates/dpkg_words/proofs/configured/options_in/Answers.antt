use Rattle.std.proofs.Common.{◌≡◌, ◌∙◌, ap, map}
use Rattle.std.proofs.lemmas.Result.{IfOk-weaker}
use Rattle.dpkg_words.specs.Configured.{options_in, options_of}
use Rattle.dpkg_words.specs.Selections.{between}
use Rattle.dpkg_words.proofs.configured.options_in.Goals as goal

pub returns : goal.returns
unfolding options_in
returns c =
    let lines : map (λ t. t.now) c.as_slice.result.now ≡ between 10 c.args.text.now = ap (map (λ t. t.now)) c.as_slice.ensures.value ∙ c.in_ok-lines.ensures in
    IfOk-weaker c.options_of.result _ _ (λ options h. h ∙ ap options_of lines) c.options_of.ensures
