use Rattle.std.proofs.Common.{sym}
use Rattle.std.specs.Prelude.{is_some}
use Rattle.command_words.specs.Rehearsals.{failure_in}
use Rattle.command_words.proofs.Rehearsing.{fails_at}
use Rattle.command_words.proofs.rehearsal.are_failures.Goals as goal

pub returns-then-not-is_failure : goal.returns-then-not-is_failure
returns-then-not-is_failure c = fails_at (λ text. is_some (failure_in text)) c.args.texts.now c.loop-text.text-index _ c.loop-text-test.true (sym c.if-not-is_failure.ensures)
