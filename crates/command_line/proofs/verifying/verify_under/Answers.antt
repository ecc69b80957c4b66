use Rattle.std.proofs.Common.{subst}
use Rattle.command_line.specs.Roots.{Around, around}
use Rattle.command_line.proofs.Verified.{has_verified, is_unverified}
use Rattle.command_line.proofs.verifying.verify_under.Goals as goal

pub returns-in-Ok-clause-answer : goal.returns-in-Ok-clause-answer
returns-in-Ok-clause-answer g c =
    let begun = g.S.Opened.Host.state c.in-Ok.host in
    let behind = subst (λ word. g.S.Hosts.root c.args.hosts.now word begun) c.as_str.ensures c.in-Ok.ensures.opened in
    let a : Around = around g.S.Hosts c.args.hosts.now c.verify_on.new.hosts in
    has_verified a c.args.root.now begun c.args.asked.now c.verify_on.result behind c.verify_on.ensures.answer

pub returns-in-Ok-clause-refused : goal.returns-in-Ok-clause-refused
returns-in-Ok-clause-refused g c =
    let begun = g.S.Opened.Host.state c.in-Ok.host in
    let behind = subst (λ word. g.S.Hosts.root c.args.hosts.now word begun) c.as_str.ensures c.in-Ok.ensures.opened in
    let a : Around = around g.S.Hosts c.args.hosts.now c.verify_on.new.hosts in
    is_unverified a c.args.root.now begun c.verify_on.result behind c.verify_on.ensures.refused
