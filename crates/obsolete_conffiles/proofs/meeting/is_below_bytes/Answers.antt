use Rattle.std.proofs.Common.{◌∙◌, ◌∷◌, [], sym, rules}
use Rattle.obsolete_conffiles.proofs.Below.{below, front_rest, not_below, not_front}
use Rattle.obsolete_conffiles.proofs.meeting.is_below_bytes.Goals as goal

pub returns-in-Some : goal.returns-in-Some
returns-in-Some c =
    let path = c.args.path.now in
    let top = c.args.top.now in
    let rest = c.in-Some.rest.now in
    c.starts_with.ensures.value ∙ below path top rest (47 ∷ []) (front_rest path top rest (search rules) (search rules))

pub returns-in-None : goal.returns-in-None
returns-in-None c = sym (not_below c.args.path.now c.args.top.now (47 ∷ []) (not_front c.args.path.now c.args.top.now (search rules)))
