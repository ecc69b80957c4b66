use Rattle.command_line.proofs.Compared.{never_looked}
use Rattle.command_line.proofs.verifying.refuse_on.Goals as goal

pub returns-in-Err-clause-refused : goal.returns-in-Err-clause-refused
returns-in-Err-clause-refused g c = never_looked (g.S.Hosts.left c.close_root.new.self) (g.S.Opened.Host.state c.args.host) c.close_root.ensures.given
