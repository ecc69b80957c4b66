use Rattle.std.proofs.Common.{◌≡◌, ◌∙◌, List, ℕ, ap, subst}
use Rattle.std.specs.Prelude.{IfOk}
use Rattle.std.proofs.lemmas.Result.{IfOk-weaker}
use Rattle.trigger_turns.specs.Turns.{first_wishes}
use Rattle.trigger_turns.proofs.wishing.first_wishes.Goals as goal

pub returns-in-Ok : goal.returns-in-Ok
returns-in-Ok g c = λ order is.
    let same : c.in-Ok.names.items ≡ order = subst (λ names. IfOk names (λ copies. copies.items ≡ order)) c.in-Ok.is is in
    IfOk-weaker c.wishes_for.result _ _ (λ wishes e. e ∙ ap (λ (l : List (List ℕ)). first_wishes l c.args.session.now.administration.database.records) same) c.wishes_for.ensures

pub returns-in-Err : goal.returns-in-Err
returns-in-Err g c = λ order is. tt
