use Rattle.command_line.proofs.Printed.{printed_trees}
use Rattle.command_line.proofs.Limited.{kept_trees}
use Rattle.command_line.proofs.Steps.{trees_keep}
use Rattle.command_line.proofs.answer.unpack_telling.Goals as goal

pub returns-clause-same_output : goal.returns-clause-same_output
returns-clause-same_output g c = trees_keep c.unpack.result _ (λ t. t.out.ghost_name) (λ a b u at h. h.0) c.args.printer.now c.unpack.new.watcher c.unpack.ensures.watched c.unpack.ensures.unwatched

pub returns-clause-told : goal.returns-clause-told
returns-clause-told g c = λ whole. printed_trees _ (λ t. t.flow) (λ t. g.O.Write.contents t.out.now) (λ a u at b h. h.1) c.unpack.result c.args.printer.now c.unpack.new.watcher whole c.unpack.ensures.watched

pub returns-clause-kept : goal.returns-clause-kept
returns-clause-kept g c = kept_trees _ (λ t. t.left) (λ a u at b h. (h.2, h.3)) c.unpack.result c.args.printer.now c.unpack.new.watcher c.unpack.ensures.watched
