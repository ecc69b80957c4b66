use Rattle.std.proofs.Common.{◌≡◌, ◌∙◌, ap, length, sym, nat_eq, rules}
use Rattle.queries.specs.Asked.{unfound_text}
use Rattle.queries.proofs.AllTold.{none_unfound}
use Rattle.queries.proofs.asked.unfound.Goals as goal

pub returns-clause-complete : goal.returns-clause-complete
returns-clause-complete c =
    let shown : c.as_str.result.now ≡ unfound_text c.args.patterns.now c.args.records.now = search rules in
    c.is_empty-complete.ensures ∙ ap (λ t. nat_eq (length t) 0) shown ∙ sym (none_unfound c.args.patterns.now c.args.records.now)
