use Rattle.std.proofs.Common.{rules}
use Rattle.control_fields.proofs.Settled.{put_back}
use Rattle.control_fields.proofs.line_list.Lines.settle.Goals as goal

pub returns : goal.returns
returns c = put_back c.args.self.now c.pop.new.self.items c.push.new.self.items c.in-Some.last c.drop_end.new.line (search rules) (search rules) (search rules)
