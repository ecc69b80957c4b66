use Rattle.std.proofs.Common.{ap, inl, inr, refl, ◌∙◌}
use Rattle.host_core.specs.declared.call.Call.{Call}
use Rattle.std.specs.Prelude.{Option}
use Rattle.unit_reports.specs.declared.report.Reply.TheVariants.{Broken}
use Rattle.unit_reports.specs.Held.{held_by}
use Rattle.trigger_run.proofs.Processings.{called_as, is_processing, renewed}
use Rattle.trigger_run.proofs.Replies.{answer_within, counts_answered}
use Rattle.trigger_run.proofs.units.process_named.Goals as goal
use Rattle.unit_reports.proofs.Counting.{counts_broken, fault_within}

pub returns-in-Ok-clause-unit : goal.returns-in-Ok-clause-unit
returns-in-Ok-clause-unit g c =
    is_processing _ _ (held_by c.args.administration.now c.args.diversions.now) (held_by c.process_to_disk.new.administration c.args.diversions.now) c.finished.result _ _ _ _ c.new-calls.ensures.items c.finished.ensures.told c.in-Ok.ensures.unit c.in-Ok.ensures.end c.in-Ok.ensures.order refl c.finished.ensures.answer

pub returns-in-Ok-clause-answered : goal.returns-in-Ok-clause-answered
returns-in-Ok-clause-answered g c = inr (inl c.in-Ok.ensures.on_disk)

pub returns-in-Ok-clause-told : goal.returns-in-Ok-clause-told
returns-in-Ok-clause-told g c = called_as _ _ _ _ _ _ _ c.new-calls.ensures.items c.finished.ensures.told c.process_to_disk.ensures.told

pub returns-in-Err-clause-told : goal.returns-in-Err-clause-told
returns-in-Err-clause-told g c = called_as _ _ _ _ _ _ _ c.new-calls.ensures.items c.broken.ensures.told c.process_to_disk.ensures.told

pub returns-in-Ok-clause-counts : goal.returns-in-Ok-clause-counts
returns-in-Ok-clause-counts g c = counts_answered _ _ _ c.finished.result (g.H.Host.state c.args.host.now) (g.H.Host.state c.process_to_disk.new.host) c.in-Ok.ensures.counts c.finished.ensures.answer

pub returns-in-Err-clause-counts : goal.returns-in-Err-clause-counts
returns-in-Err-clause-counts g c = counts_broken (Option Call) c.in-Err.fault c.broken.result.reply (g.H.Host.state c.args.host.now) (g.H.Host.state c.process_to_disk.new.host) (c.broken.ensures.reply ∙ ap Broken c.breakage_of.ensures) c.in-Err.ensures.counts

pub returns-in-Ok-clause-not_closed : goal.returns-in-Ok-clause-not_closed
returns-in-Ok-clause-not_closed g c = answer_within _ _ _ c.finished.result c.finished.ensures.answer

pub returns-in-Err-clause-not_closed : goal.returns-in-Err-clause-not_closed
returns-in-Err-clause-not_closed g c = fault_within c.in-Err.fault c.broken.result.reply (c.broken.ensures.reply ∙ ap Broken c.breakage_of.ensures)

pub returns-in-Ok-clause-indexed : goal.returns-in-Ok-clause-indexed
returns-in-Ok-clause-indexed g c =
    renewed c.args.«package» c.in-Ok.failed c.finished.result.reply c.args.administration.now.database.records c.process_to_disk.new.administration.database.records c.args.packages.now c.finished.new.packages c.law.ensures.order c.requires.indexed c.in-Ok.ensures.end c.finished.ensures.indexed
