use Rattle.std.proofs.Common.{◌≡◌, ◌∙◌, ap, map}
use Rattle.std.proofs.lemmas.Result.{IfOk-weaker}
use Rattle.dpkg_words.specs.Selections.{between, selected_from, selecting_words}
use Rattle.dpkg_words.proofs.selections.selecting_words.Goals as goal

pub returns : goal.returns
unfolding selecting_words
returns c =
    let lines : map (λ t. t.now) c.as_slice.result.now ≡ between 10 c.args.text.now = ap (map (λ t. t.now)) c.as_slice.ensures.value ∙ c.in_ok-lines.ensures in
    IfOk-weaker c.selected_from.result _ _ (λ come h. h ∙ ap (selected_from c.args.front.now) lines) c.selected_from.ensures
