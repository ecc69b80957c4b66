use Rattle.std.proofs.Common.{inl, ap, refl, ◌∙◌}
use Rattle.host_core.specs.declared.call.Call.{Call}
use Rattle.unit_reports.specs.declared.report.Breakage.TheVariants.{NoMemory}
use Rattle.unit_reports.specs.declared.report.Reply.TheVariants.{Broken}
use Rattle.std.proofs.Common.{Option}
use Rattle.configure_run.proofs.Replies.{answer_within, broken_by, broken_or, counts_answered}
use Rattle.configure_run.proofs.Units.{called_as, disk_as}
use Rattle.configure_run.proofs.unit.configured_unit.Goals as goal
use Rattle.unit_reports.proofs.Counting.{counts_broken, fault_within}

pub returns-in-Ok-clause-unit : goal.returns-in-Ok-clause-unit
returns-in-Ok-clause-unit g c =
    broken_or NoMemory c.answered.result.reply (λ answers. record {
      failed = c.in-Ok.failed;
      configured = disk_as _ _ _ _ _ _ _ _ c.new-calls.ensures.items c.answered.ensures.told c.in-Ok.ensures.unit;
      ended = c.in-Ok.ensures.end;
      order = c.in-Ok.ensures.order;
      ways = refl;
      answers = answers;
    }) c.answered.ensures.answer

pub returns-in-Ok-clause-told : goal.returns-in-Ok-clause-told
returns-in-Ok-clause-told g c = called_as _ _ _ _ _ _ c.new-calls.ensures.items c.answered.ensures.told c.configure_to_disk.ensures.told

pub returns-in-Err-clause-told : goal.returns-in-Err-clause-told
returns-in-Err-clause-told g c = called_as _ _ _ _ _ _ c.new-calls.ensures.items c.broken.ensures.told c.configure_to_disk.ensures.told

pub returns-in-Ok-clause-counts : goal.returns-in-Ok-clause-counts
returns-in-Ok-clause-counts g c = counts_answered _ _ _ c.answered.result (g.H.Host.state c.args.host.now) (g.H.Host.state c.configure_to_disk.new.host) c.in-Ok.ensures.counts c.answered.ensures.answer

pub returns-in-Ok-clause-not_closed : goal.returns-in-Ok-clause-not_closed
returns-in-Ok-clause-not_closed g c = answer_within _ _ _ c.answered.result c.answered.ensures.answer

pub returns-in-Err-clause-unit : goal.returns-in-Err-clause-unit
returns-in-Err-clause-unit g c = inl (broken_by _ c.broken.result.reply c.broken.ensures.reply)

pub returns-in-Err-clause-open : goal.returns-in-Err-clause-open
returns-in-Err-clause-open g c = inl (broken_by _ c.broken.result.reply c.broken.ensures.reply)

pub returns-in-Err-clause-on_disk : goal.returns-in-Err-clause-on_disk
returns-in-Err-clause-on_disk g c = inl (broken_by _ c.broken.result.reply c.broken.ensures.reply)

pub returns-in-Err-clause-counts : goal.returns-in-Err-clause-counts
returns-in-Err-clause-counts g c = counts_broken (Option Call) c.in-Err.fault c.broken.result.reply (g.H.Host.state c.args.host.now) (g.H.Host.state c.configure_to_disk.new.host) (c.broken.ensures.reply ∙ ap Broken c.breakage_of.ensures) c.in-Err.ensures.counts

pub returns-in-Err-clause-not_closed : goal.returns-in-Err-clause-not_closed
returns-in-Err-clause-not_closed g c = fault_within c.in-Err.fault c.broken.result.reply (c.broken.ensures.reply ∙ ap Broken c.breakage_of.ensures)
