use Rattle.std.proofs.Common.{ℕ, List, ◌++◌, ◌∙◌, ap, codes}
use Rattle.std.proofs.lemmas.Result.{IfOk-weaker}
use Rattle.command_words.proofs.help.help_text.Goals as goal

pub returns : goal.returns
returns c =
    let about = c.about-about.result.now in
    IfOk-weaker c.screen_text.result _ _
    (λ text h. (about, h ∙ ap (λ (usage : List ℕ). codes "Usage: coizkerra " ++ (usage ++ (codes "\n\n" ++ about))) c.usage-usage.ensures)) c.screen_text.ensures
