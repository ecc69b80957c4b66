use Rattle.std.proofs.Common.{◌≤◌, ◌<◌, arith, rules}
use Rattle.std.proofs.lemmas.Grind.{common_steps}
use Rattle.shown_lines.proofs.Characters.{shown_ascii, shown_wide}
use Rattle.shown_lines.proofs.lines.add_shown.Goals as goal

pub returns-then-not-is_ascii : goal.returns-then-not-is_ascii
returns-then-not-is_ascii c =
    let wide : 128 ≤ c.args.character = grind (arith, common_steps) in
    rw (shown_wide c.args.character wide) (search rules)

pub returns : goal.returns
returns c =
    let ascii : c.args.character < 128 = grind (arith, common_steps) in
    rw (shown_ascii c.args.character ascii) (search rules)
