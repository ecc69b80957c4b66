use Rattle.std.proofs.Common.{◌∙◌, sym}
use Rattle.std.proofs.lemmas.Result.{IfOk-weaker}
use Rattle.dpkg_words.proofs.Three.{not_three}
use Rattle.dpkg_words.proofs.translation.compared.Goals as goal

pub returns-then-words-ne3 : goal.returns-then-words-ne3
returns-then-words-ne3 c = IfOk-weaker c.refusal.result _ _ (λ t e. e ∙ sym (not_three c.args.words.now c.if-words-ne3.true)) c.refusal.ensures
