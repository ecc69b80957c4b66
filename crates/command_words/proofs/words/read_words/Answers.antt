use Rattle.std.proofs.Common.{map, string_bytes, length, ◌<◌, ◌∙◌, Some, ap, sym, inl, inr}
use Rattle.std.proofs.lemmas.List.{length-map}
use Rattle.std.proofs.lemmas.Result.{IfOk-weaker, IfErr-weaker}
use Rattle.command_words.specs.Commands.{rehearsal_with}
use Rattle.command_words.proofs.Asking.{asked_flagged, asked_names, asked_parsed, rehearsed_flagged, rehearsed_names, rehearsed_parsed}
use Rattle.command_words.proofs.words.read_words.Goals as goal

pub returns-then-words-le1-clause-asked : goal.returns-then-words-le1-clause-asked
returns-then-words-le1-clause-asked c =
    asked_names (map string_bytes c.args.words.now) (rw (length-map c.args.words.now string_bytes) c.if-words-le1.true) ∙ ap Some (sym c.carried_out.ensures.0)

pub returns-then-words-le1-clause-rehearsal : goal.returns-then-words-le1-clause-rehearsal
returns-then-words-le1-clause-rehearsal c =
    c.carried_out.ensures.1 ∙ sym (rehearsed_names (map string_bytes c.args.words.now) (rw (length-map c.args.words.now string_bytes) c.if-words-le1.true))

pub returns-in-Some-clause-asked : goal.returns-in-Some-clause-asked
returns-in-Some-clause-asked c =
    let more : 1 < length (map string_bytes c.args.words.now) = rw (length-map c.args.words.now string_bytes) c.if-words-le1.false in
    asked_flagged (map string_bytes c.args.words.now) c.in-Some.asked more (sym c.flagged.ensures ∙ c.in-Some.is) ∙ ap Some (sym c.carried_out-in-Some.ensures.0)

pub returns-in-Some-clause-rehearsal : goal.returns-in-Some-clause-rehearsal
returns-in-Some-clause-rehearsal c =
    let more : 1 < length (map string_bytes c.args.words.now) = rw (length-map c.args.words.now string_bytes) c.if-words-le1.false in
    c.carried_out-in-Some.ensures.1 ∙ sym (rehearsed_flagged (map string_bytes c.args.words.now) c.in-Some.asked more (sym c.flagged.ensures ∙ c.in-Some.is))

pub returns-in-None-clause-asked : goal.returns-in-None-clause-asked
returns-in-None-clause-asked c =
    let more : 1 < length (map string_bytes c.args.words.now) = rw (length-map c.args.words.now string_bytes) c.if-words-le1.false in
    let same = asked_parsed (map string_bytes c.args.words.now) more (sym c.flagged.ensures ∙ c.in-None.is) in
    IfOk-weaker c.parsed.result _ _ (λ asked h. same ∙ h) c.parsed.ensures.asked

pub returns-in-None-clause-rehearsal : goal.returns-in-None-clause-rehearsal
returns-in-None-clause-rehearsal c =
    let words = map string_bytes c.args.words.now in
    let more : 1 < length words = rw (length-map c.args.words.now string_bytes) c.if-words-le1.false in
    rehearsed_parsed words more (sym c.flagged.ensures ∙ c.in-None.is) (λ x. x.asked) rehearsal_with c.parsed.result c.parsed.ensures.asked c.parsed.ensures.rehearsal

pub returns-in-None-clause-usage : goal.returns-in-None-clause-usage
returns-in-None-clause-usage c =
    let more : 1 < length (map string_bytes c.args.words.now) = rw (length-map c.args.words.now string_bytes) c.if-words-le1.false in
    let same = asked_parsed (map string_bytes c.args.words.now) more (sym c.flagged.ensures ∙ c.in-None.is) in
    IfErr-weaker c.parsed.result _ _ (λ fault h. elim h [
      | inl memory ↦ inl memory
      | inr none ↦ inr (same ∙ none)
    ]) c.parsed.ensures.usage
