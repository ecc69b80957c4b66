use Rattle.std.proofs.Common.{map, string_bytes, ◌∙◌, sym, inl, inr}
use Rattle.std.proofs.lemmas.Result.{IfOk-weaker, IfErr-weaker}
use Rattle.clap.specs.Words.{app_of}
use Rattle.command_words.proofs.Asking.{parsed_taken, parsed_refused, rehearsed_taken, whole_is_simple}
use Rattle.command_words.proofs.words.parsed.Goals as goal

pub returns-in-Ok-clause-asked : goal.returns-in-Ok-clause-asked
returns-in-Ok-clause-asked c =
    let taken = parsed_taken (app_of c.in_ok-whole_command.field-0) (map string_bytes c.args.words.now) c.in-Ok.matches
    c.in_ok-whole_command.ensures c.in-Ok.ensures.matches c.in-Ok.ensures.kinds in
    IfOk-weaker c.asked_in.result _ _ (λ asked h. taken ∙ h) c.asked_in.ensures.asked

pub returns-in-Ok-clause-rehearsal : goal.returns-in-Ok-clause-rehearsal
returns-in-Ok-clause-rehearsal c =
    let taken = rehearsed_taken (app_of c.in_ok-whole_command.field-0) (map string_bytes c.args.words.now) c.in-Ok.matches c.in_ok-whole_command.ensures c.in-Ok.ensures.matches in
    IfOk-weaker c.asked_in.result _ _ (λ command h. h ∙ sym taken) c.asked_in.ensures.rehearsal

pub returns-in-Ok-clause-usage : goal.returns-in-Ok-clause-usage
returns-in-Ok-clause-usage c =
    let taken = parsed_taken (app_of c.in_ok-whole_command.field-0) (map string_bytes c.args.words.now) c.in-Ok.matches
    c.in_ok-whole_command.ensures c.in-Ok.ensures.matches c.in-Ok.ensures.kinds in
    IfErr-weaker c.asked_in.result _ _ (λ fault h. elim h [
      | inl memory ↦ inl memory
      | inr none ↦ inr (taken ∙ none)
    ]) c.asked_in.ensures.usage

pub returns-in-Err-clause-usage : goal.returns-in-Err-clause-usage
returns-in-Err-clause-usage c =
    let app = c.in_ok-whole_command.ensures in
    elim (c.in-Err.ensures.kinds (whole_is_simple _ app)) [
      | inl memory ↦ inl (c.fault_of.ensures memory)
      | inr among ↦ inr (parsed_refused (app_of c.in_ok-whole_command.field-0) (map string_bytes c.args.words.now) _ app among)
    ]
