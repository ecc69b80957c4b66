use Rattle.std.proofs.Common.{◌≡◌, ◌∙◌, ◌++◌, List, ℕ, ap, subst}
use Rattle.std.specs.Prelude.{IfOk}
use Rattle.std.proofs.lemmas.Result.{IfOk-weaker}
use Rattle.trigger_turns.specs.Turns.{names_told}
use Rattle.command_line.proofs.triggering.with_told.Goals as goal

pub returns-in-Ok : goal.returns-in-Ok
returns-in-Ok c = λ order is.
    let same : c.in-Ok.names.items ≡ order = subst (λ names. IfOk names (λ copies. copies.items ≡ order)) c.in-Ok.is is in
    IfOk-weaker c.told_behind.result _ _ (λ all e. e ∙ ap (λ (l : List (List ℕ)). l ++ names_told c.args.units.now) same) c.told_behind.ensures

pub returns-in-Err : goal.returns-in-Err
returns-in-Err c = λ order is. tt
