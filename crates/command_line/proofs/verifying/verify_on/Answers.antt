use Rattle.command_line.proofs.Verified.{has_come}
use Rattle.command_line.proofs.verifying.verify_on.Goals as goal

pub returns-clause-answer : goal.returns-clause-answer
returns-clause-answer g c =
    (has_come _ (λ verifier. g.S.Opened.Host.state verifier.host) c.args.asked.now (λ s t glance has. has) (λ s t fault has. has) (λ s t result has. has)
    (g.S.Hosts.left c.close_root.new.self) (record { host = c.args.host }) c.settle-answer.new.shown c.close_root.ensures.given c.settle-answer.result c.settle-answer.ensures).answer

pub returns-clause-bound : goal.returns-clause-bound
returns-clause-bound g c =
    (has_come _ (λ verifier. g.S.Opened.Host.state verifier.host) c.args.asked.now (λ s t glance has. has) (λ s t fault has. has) (λ s t result has. has)
    (g.S.Hosts.left c.close_root.new.self) (record { host = c.args.host }) c.settle-answer.new.shown c.close_root.ensures.given c.settle-answer.result c.settle-answer.ensures).bound

pub returns-clause-refused : goal.returns-clause-refused
returns-clause-refused g c =
    (has_come _ (λ verifier. g.S.Opened.Host.state verifier.host) c.args.asked.now (λ s t glance has. has) (λ s t fault has. has) (λ s t result has. has)
    (g.S.Hosts.left c.close_root.new.self) (record { host = c.args.host }) c.settle-answer.new.shown c.close_root.ensures.given c.settle-answer.result c.settle-answer.ensures).refused
