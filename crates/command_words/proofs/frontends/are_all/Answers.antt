use Rattle.std.proofs.Common.{sym}
use Rattle.command_words.specs.Frontends.{is_descriptor}
use Rattle.command_words.proofs.Rehearsing.{fails_at}
use Rattle.command_words.proofs.frontends.are_all.Goals as goal

pub returns-then-not-is_descriptor : goal.returns-then-not-is_descriptor
returns-then-not-is_descriptor c = fails_at is_descriptor c.args.texts.now c.loop-text.text-index _ c.loop-text-test.true (sym c.if-not-is_descriptor.ensures)
