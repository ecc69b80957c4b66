use Rattle.std.proofs.Common.{◌≡◌, rules}
use Rattle.std.specs.Str.Iter.{chars_rest}
use Rattle.shown_lines.proofs.Characters.{one_more}
use Rattle.shown_lines.proofs.lines.shown.Goals as goal

pub loop-character-preserved : goal.loop-character-preserved
loop-character-preserved c =
    one_more c.in-Some.character _ _ _ _ _ c.in-Some.ensures.steps.0 c.in_ok-add_shown.ensures c.loop-character.invariant
