use Rattle.std.proofs.Common.{sym}
use Rattle.name_patterns.specs.Patterns.{is_readable}
use Rattle.command_words.proofs.Rehearsing.{fails_at}
use Rattle.command_words.proofs.filters.are_all.Goals as goal

pub returns-then-not-is_filter : goal.returns-then-not-is_filter
returns-then-not-is_filter c = fails_at is_readable c.args.texts.now c.loop-text.text-index _ c.loop-text-test.true (sym c.if-not-is_filter.ensures)
