use Rattle.package_tree.proofs.Readable.{one_written}
use Rattle.package_tree.proofs.control_file.read_paragraph.Goals as goal
use Rattle.std.proofs.Common.{rules}

pub returns-in-Ok-clause-written : goal.returns-in-Ok-clause-written
returns-in-Ok-clause-written c = one_written c.args.text.now _ c.in-Ok.ensures.reads

pub returns-in-Err : goal.returns-in-Err
returns-in-Err c = search rules
