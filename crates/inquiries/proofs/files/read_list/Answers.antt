use Rattle.std.proofs.Common.{ℕ, List, IfErr, rules, subst}
use Rattle.inquiries.specs.Read.{AreListsDamaged}
use Rattle.inquiries.proofs.PartByPart.{lists_damaged}
use Rattle.inquiries.proofs.files.read_list.Goals as goal

pub returns-clause-damage : goal.returns-clause-damage
returns-clause-damage g c = λ h.
    let w = (g.H.Host.state c.args.host.now).world in
    subst (λ (names : List (List ℕ)). IfErr c.read_seen.result (AreListsDamaged w names)) (search rules) (lists_damaged c.read_seen.result c.as_slice.result.now w (c.read_seen.ensures.finds h))
