use Rattle.info_format.proofs.Seeings.{first_alone, first_sources, first_taken}
use Rattle.info_format.proofs.seeing.lose_first.Goals as goal

pub returns-then-branch-clause-taken : goal.returns-then-branch-clause-taken
returns-then-branch-clause-taken g c = λ h. first_taken c.in_ok-is_beside.field-0 c.args.names.now c.take.new.self c.args.pair.now.long c.args.pair.now.short (g.H.Host.state c.args.host.now).world c.if-branch.true (c.in_ok-is_beside.ensures.looks.found h) c.in_ok-take.ensures

pub returns-then-branch-clause-there : goal.returns-then-branch-clause-there
returns-then-branch-clause-there g c = λ h. first_sources c.in_ok-is_beside.field-0 c.args.names.now c.take.new.self c.args.pair.now.long c.args.pair.now.short (g.H.Host.state c.args.host.now).world c.if-branch.true (c.in_ok-is_beside.ensures.looks.found h) c.in_ok-take.ensures

pub returns-clause-taken : goal.returns-clause-taken
returns-clause-taken g c = λ h. first_alone c.in_ok-is_beside.field-0 c.args.names.now c.args.pair.now.long c.args.pair.now.short (g.H.Host.state c.args.host.now).world c.if-branch.false (c.in_ok-is_beside.ensures.looks.found h)
