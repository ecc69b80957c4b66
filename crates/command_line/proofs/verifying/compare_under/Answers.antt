use Rattle.std.proofs.Common.{arith, subst}
use Rattle.command_line.specs.Roots.{Around, around}
use Rattle.command_line.proofs.Compared.{has_compared}
use Rattle.command_line.proofs.Verified.{is_unverified}
use Rattle.command_line.proofs.verifying.compare_under.Goals as goal

pub returns-in-Ok-clause-answer : goal.returns-in-Ok-clause-answer
returns-in-Ok-clause-answer g c =
    let begun = g.S.Opened.Host.state c.in-Ok.host in
    let behind = subst (λ word. g.S.Hosts.root c.args.hosts.now word begun) c.as_str.ensures c.in-Ok.ensures.opened in
    has_compared g.S.Hosts c.args.hosts.now c.look_at_root.new.self c.compare_on.new.hosts (record { tree = c.look_at_root.ensures.trees; seen = λ s h. h; full = λ word path h. h; failed = λ h. omega arith })
    c.args.root.now c.args.word.now begun c.args.owners c.compare_on.result behind c.compare_on.ensures.answer

pub returns-in-Ok-clause-refused : goal.returns-in-Ok-clause-refused
returns-in-Ok-clause-refused g c =
    let begun = g.S.Opened.Host.state c.in-Ok.host in
    let behind = subst (λ word. g.S.Hosts.root c.args.hosts.now word begun) c.as_str.ensures c.in-Ok.ensures.opened in
    is_unverified (around g.S.Hosts c.args.hosts.now c.compare_on.new.hosts) c.args.root.now begun c.compare_on.result behind c.compare_on.ensures.refused
