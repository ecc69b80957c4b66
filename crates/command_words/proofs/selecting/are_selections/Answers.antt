use Rattle.std.proofs.Common.{sym}
use Rattle.std.specs.Prelude.{is_some}
use Rattle.command_words.specs.Selecting.{selected_in}
use Rattle.command_words.proofs.Rehearsing.{fails_at}
use Rattle.command_words.proofs.selecting.are_selections.Goals as goal

pub returns-then-not-is_selection : goal.returns-then-not-is_selection
returns-then-not-is_selection c = fails_at (λ text. is_some (selected_in text)) c.args.texts.now c.loop-text.text-index _ c.loop-text-test.true (sym c.if-not-is_selection.ensures)
