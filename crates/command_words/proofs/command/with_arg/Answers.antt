use Rattle.std.proofs.Common.{◌≡◌, ◌∙◌, Bool, refl, rules, true, false, ◌||◌}
use Rattle.std.proofs.lemmas.Result.{IfOk-weaker}
use Rattle.clap.specs.Words.{rule_of}
use Rattle.clap.specs.declared.builder.arg.Arg.{Arg}
use Rattle.command_words.proofs.command.with_arg.Goals as goal

-- an argument with a simple rule is not global
simple_local : (a : Arg) → (rule_of a).is_simple ≡ true → a.global ≡ false
simple_local a simple = search rules

or_false : (x y : Bool) → y ≡ false → (x || y) ≡ x
or_false true y e = refl
or_false false y e = e

pub returns-clause-app : goal.returns-clause-app
returns-clause-app c =
    IfOk-weaker c.arg.result _ _ (λ r adds. adds.shape (simple_local c.args.arg c.requires)) c.arg.ensures

pub returns-clause-local : goal.returns-clause-local
returns-clause-local c =
    let local = simple_local c.args.arg c.requires in
    IfOk-weaker c.arg.result _ _ (λ r adds. adds.globals ∙ or_false _ _ local) c.arg.ensures
