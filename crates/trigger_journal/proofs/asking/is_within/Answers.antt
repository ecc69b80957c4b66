use Rattle.std.proofs.Common.{◌∙◌, rules}
use Rattle.trigger_journal.proofs.Within.{not_front, front_rest, not_within, within_rest}
use Rattle.trigger_journal.proofs.asking.is_within.Goals as goal

pub returns-else-is_empty : goal.returns-else-is_empty
returns-else-is_empty c =
    let path = c.args.path.now in
    let d = c.args.directory.now in
    let rest = c.in-Some.rest.now in
    c.starts_with.ensures.value ∙ within_rest d path rest (front_rest d path rest (search rules) (search rules)) (search rules)

pub returns-in-None : goal.returns-in-None
returns-in-None c = not_within c.args.directory.now c.args.path.now (not_front c.args.directory.now c.args.path.now c.in-None.ensures.cases)
