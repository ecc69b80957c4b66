use Rattle.info_format.proofs.Seeings.{second_given, second_sources, second_there}
use Rattle.info_format.proofs.seeing.see_second.Goals as goal

pub returns-then-branch-clause-given : goal.returns-then-branch-clause-given
returns-then-branch-clause-given g c = λ h. second_given c.in_ok-lacks.field-0 c.args.names.now c.link.new.self c.args.pair.now.long c.args.pair.now.short (g.H.Host.state c.args.host.now).world c.if-branch.true (c.in_ok-lacks.ensures.looks.found h) c.in_ok-link.ensures

pub returns-then-branch-clause-there : goal.returns-then-branch-clause-there
returns-then-branch-clause-there g c = λ h.
    second_sources c.in_ok-lacks.field-0 c.args.names.now c.link.new.self c.args.pair.now.long c.args.pair.now.short (g.H.Host.state c.args.host.now).world c.if-branch.true (c.in_ok-lacks.ensures.looks.found h) (c.requires.parent (c.lacks.ensures.looks.silent.honest h)) c.in_ok-link.ensures

pub returns-clause-given : goal.returns-clause-given
returns-clause-given g c = λ h. second_there c.in_ok-lacks.field-0 c.args.names.now c.args.pair.now.long c.args.pair.now.short (g.H.Host.state c.args.host.now).world c.if-branch.false (c.in_ok-lacks.ensures.looks.found h)
