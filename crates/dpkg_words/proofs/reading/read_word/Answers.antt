use Rattle.std.proofs.Common.{◌≡◌, ◌∙◌, false, rules, sym}
use Rattle.std.specs.Prelude.{is_some}
use Rattle.std.proofs.lemmas.Result.{IfOk-weaker}
use Rattle.dpkg_words.proofs.Turns.{read_rest}
use Rattle.dpkg_words.proofs.reading.read_word.Goals as goal

pub returns-in-None : goal.returns-in-None
returns-in-None c =
    let none : is_some c.args.reading.outcome ≡ false = search rules in
    IfOk-weaker c.in_place.result _ _ (λ r h. h ∙ sym (read_rest c.args.reading c.args.word.now none c.in-None.is)) c.in_place.ensures
