use Rattle.std.proofs.Common.{rules, ◌≡◌, ◌∙◌, ap, sym, Some, inl, inr}
use Rattle.std.proofs.lemmas.Result.{IfOk-weaker, IfErr-weaker}
use Rattle.clap.specs.Words.{found_of, rows_of, subcommand_rows_of}
use Rattle.command_words.specs.Commands.{asked_in, rehearsed_in}
use Rattle.command_words.proofs.words.asked_in.Goals as goal

pub returns-in-Some-clause-asked : goal.returns-in-Some-clause-asked
returns-in-Some-clause-asked c =
    let entered : subcommand_rows_of c.args.matches.now ≡ Some (c.in-Some.name.now, rows_of (found_of c.in-Some.found.now)) = search rules in
    IfOk-weaker c.asked_or_mistake.result _ _ (λ asked h. ap asked_in entered ∙ h) c.asked_or_mistake.ensures.asked

pub returns-in-Some-clause-rehearsal : goal.returns-in-Some-clause-rehearsal
returns-in-Some-clause-rehearsal c =
    let entered : subcommand_rows_of c.args.matches.now ≡ Some (c.in-Some.name.now, rows_of (found_of c.in-Some.found.now)) = search rules in
    IfOk-weaker c.asked_or_mistake.result _ _ (λ command h. h ∙ sym (ap rehearsed_in entered)) c.asked_or_mistake.ensures.rehearsal

pub returns-in-Some-clause-usage : goal.returns-in-Some-clause-usage
returns-in-Some-clause-usage c =
    let entered : subcommand_rows_of c.args.matches.now ≡ Some (c.in-Some.name.now, rows_of (found_of c.in-Some.found.now)) = search rules in
    IfErr-weaker c.asked_or_mistake.result _ _ (λ fault h. elim h [
      | inl memory ↦ inl memory
      | inr none ↦ inr (ap asked_in entered ∙ none)
    ]) c.asked_or_mistake.ensures.usage
