use Rattle.std.proofs.Common.{◌++◌, ◌∙◌, ℕ, List, ap, codes}
use Rattle.std.proofs.lemmas.Result.{IfOk-weaker}
use Rattle.shown_lines.specs.Lines.{line}
use Rattle.verification.proofs.comparing.version_line.Goals as goal

pub returns : goal.returns
returns c =
    IfOk-weaker c.line.result _ _ (λ printed e. e ∙ ap line (c.as_str.ensures.value ∙ c.in_ok-content.ensures.ok
    ∙ ap (λ (n : List ℕ). codes "refused " ++ (n ++ (codes " OtherVersion " ++ c.text-recorded.result.now))) c.as_str-name.ensures
    ∙ ap (λ (v : List ℕ). codes "refused " ++ (c.args.entry.now.name ++ (codes " OtherVersion " ++ v))) c.text-recorded.ensures.text)) c.line.ensures
