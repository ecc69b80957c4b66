use Rattle.command_line.proofs.Printed.{printed_work}
use Rattle.command_line.proofs.Limited.{kept_work}
use Rattle.command_line.proofs.Steps.{work_keeps}
use Rattle.command_line.proofs.answer.work_telling.Goals as goal

pub returns-clause-same_output : goal.returns-clause-same_output
returns-clause-same_output g c = work_keeps c.work_under.result _ (λ t. t.out.ghost_name) (λ a b u at h. h.0) c.args.printer.now c.work_under.new.watcher c.work_under.ensures.watched c.work_under.ensures.unwatched

pub returns-clause-told : goal.returns-clause-told
returns-clause-told g c = λ whole. printed_work _ (λ t. t.flow) (λ t. g.O.Write.contents t.out.now) (λ a u at b h. h.1) c.work_under.result c.args.printer.now c.work_under.new.watcher whole c.work_under.ensures.watched

pub returns-clause-kept : goal.returns-clause-kept
returns-clause-kept g c = kept_work _ (λ t. t.left) (λ a u at b h. (h.2, h.3)) c.work_under.result c.args.printer.now c.work_under.new.watcher c.work_under.ensures.watched
