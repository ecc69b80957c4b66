use Rattle.std.proofs.Common.{◌∙◌, sym}
use Rattle.command_words.proofs.Waiting.{none_read, seconds_read}
use Rattle.command_words.proofs.waits.number_in.Goals as goal

pub returns-then-not-are_digits : goal.returns-then-not-are_digits
returns-then-not-are_digits c = sym (none_read c.args.text.now (sym c.are_digits.ensures ∙ c.if-not-are_digits.true))

pub returns : goal.returns
returns c = c.ok.ensures.value ∙ seconds_read c.args.text.now c.parse.result c.parse.ensures.value.0 (sym c.are_digits.ensures ∙ c.if-not-are_digits.false)
