use Rattle.std.proofs.Common.{◌++◌, [], ap, inr, sym, ◌∙◌}
use Rattle.dependency_sets.specs.Sets.{has}
use Rattle.unit_reports.specs.Held.{held_by}
use Rattle.unit_reports.specs.Units.{calls_of}
use Rattle.unit_reports.specs.declared.report.Reply.TheVariants.{Broken}
use Rattle.unit_reports.proofs.Telling.{answered_then, told_added}
use Rattle.undo_rows.proofs.Makes.{tells_then}
use Rattle.name_sets.specs.Names.{each_once}
use Rattle.configure_run.specs.Early.{early_refusals}
use Rattle.configure_run.specs.Run.{HasRun}
use Rattle.configure_run.proofs.Moments.{order_read, silent_here}
use Rattle.configure_run.proofs.Refusals.{all_refused}
use Rattle.configure_run.proofs.Replies.{broken_by, counts_broken_by}
use Rattle.configure_run.proofs.Runs.{reads_here, since_run, since_run_reads, since_run_start}
use Rattle.configure_run.proofs.Told.{refused_calls, some_refused_calls, tells_no_more, tells_silent}
use Rattle.configure_run.proofs.Units.{no_calls}
use Rattle.configure_run.proofs.run.run_all.Goals as goal
use Rattle.unit_reports.proofs.Counting.{counts_from, counts_no_memory, fault_not_abandoned, fault_not_closed, no_memory_not_abandoned, no_memory_not_closed, no_fault_here}
use Rattle.host_core.proofs.Counted.{no_fault_then}

pub run_and_renew-requires-clause-order : goal.run_and_renew-requires-clause-order
run_and_renew-requires-clause-order g c = order_read (held_by c.args.administration.now c.args.diversions.now) (g.H.Host.state c.args.host.now) (g.H.Host.state c.begun.new.host) c.begun.ensures.looks.reads c.requires.order

pub returns-in-Ok-run_and_renew-clause-ok : goal.returns-in-Ok-run_and_renew-clause-ok
returns-in-Ok-run_and_renew-clause-ok g c = record { first = c.refuse_first.new.units.items; refused = c.in-Ok.ensures.ok; silent = (has c.in-Ok-begun.silent.items); start = c.in-Ok-begun.queue; looked = (g.H.Host.state c.begun.new.host); begins = (record { begun = c.in-Ok-begun.ensures.begun; looks = c.begun.ensures.looks.reads; quiet = c.begun.ensures.looks.silent; seen = c.in-Ok-begun.ensures.looks.found }); turns = c.in-Ok-run_and_renew.ensures.ok }

pub returns-in-Ok-run_and_renew-clause-answered : goal.returns-in-Ok-run_and_renew-clause-answered
returns-in-Ok-run_and_renew-clause-answered g c = answered_then (g.H.Host.state c.args.host.now) (g.H.Host.state c.begun.new.host) (g.H.Host.state c.run_and_renew.new.host) (inr c.begun.ensures.looks.reads) c.in-Ok-run_and_renew.ensures.answered

pub returns-in-Ok-run_and_renew-clause-told : goal.returns-in-Ok-run_and_renew-clause-told
returns-in-Ok-run_and_renew-clause-told g c = tells_then (g.H.Host.state c.args.host.now) (g.H.Host.state c.begun.new.host) (g.H.Host.state c.run_and_renew.new.host) [] (calls_of c.refuse_first.new.units.items) (calls_of c.run_and_renew.new.units.items) (tells_silent (g.H.Host.state c.args.host.now) (g.H.Host.state c.begun.new.host) [] (calls_of c.refuse_first.new.units.items) c.begun.ensures.looks.silent (refused_calls (early_refusals c.args.administration.now.database.records (each_once c.args.names.now)) c.refuse_first.new.units.items c.in-Ok.ensures.ok)) c.in-Ok-run_and_renew.ensures.told

pub returns-in-Ok-run_and_renew-clause-any_moment : goal.returns-in-Ok-run_and_renew-clause-any_moment
returns-in-Ok-run_and_renew-clause-any_moment g c = since_run c.args.names.now c.args.options (held_by c.args.administration.now c.args.diversions.now) (has c.in-Ok-begun.silent.items) c.in-Ok-begun.queue (g.H.Host.state c.args.host.now) (g.H.Host.state c.begun.new.host) (g.H.Host.state c.run_and_renew.new.host) (record { begun = c.in-Ok-begun.ensures.begun; looks = c.begun.ensures.looks.reads; quiet = c.begun.ensures.looks.silent; seen = c.in-Ok-begun.ensures.looks.found }) c.run_and_renew.ensures.any_moment

pub returns-in-Ok-run_and_renew-clause-no_fault : goal.returns-in-Ok-run_and_renew-clause-no_fault
returns-in-Ok-run_and_renew-clause-no_fault g c = no_fault_then _ _ _ c.in-Ok-begun.ensures.looks.counts c.in-Ok-run_and_renew.ensures.no_fault

pub returns-in-Err-run_and_renew-clause-err : goal.returns-in-Err-run_and_renew-clause-err
returns-in-Err-run_and_renew-clause-err g c = HasRun.turning c.refuse_first.new.units.items c.in-Ok.ensures.ok (has c.in-Ok-begun.silent.items) c.in-Ok-begun.queue (g.H.Host.state c.begun.new.host) (record { begun = c.in-Ok-begun.ensures.begun; looks = c.begun.ensures.looks.reads; quiet = c.begun.ensures.looks.silent; seen = c.in-Ok-begun.ensures.looks.found }) c.in-Err-run_and_renew.ensures.err

pub returns-in-Err-run_and_renew-clause-told_broken : goal.returns-in-Err-run_and_renew-clause-told_broken
returns-in-Err-run_and_renew-clause-told_broken g c = tells_then (g.H.Host.state c.args.host.now) (g.H.Host.state c.begun.new.host) (g.H.Host.state c.run_and_renew.new.host) [] (calls_of c.refuse_first.new.units.items) (calls_of c.run_and_renew.new.units.items ++ c.in-Err-run_and_renew.unit.calls.items) (tells_silent (g.H.Host.state c.args.host.now) (g.H.Host.state c.begun.new.host) [] (calls_of c.refuse_first.new.units.items) c.begun.ensures.looks.silent (refused_calls (early_refusals c.args.administration.now.database.records (each_once c.args.names.now)) c.refuse_first.new.units.items c.in-Ok.ensures.ok)) c.in-Err-run_and_renew.ensures.told_broken

pub returns-in-Err-run_and_renew-clause-any_moment : goal.returns-in-Err-run_and_renew-clause-any_moment
returns-in-Err-run_and_renew-clause-any_moment g c = since_run c.args.names.now c.args.options (held_by c.args.administration.now c.args.diversions.now) (has c.in-Ok-begun.silent.items) c.in-Ok-begun.queue (g.H.Host.state c.args.host.now) (g.H.Host.state c.begun.new.host) (g.H.Host.state c.run_and_renew.new.host) (record { begun = c.in-Ok-begun.ensures.begun; looks = c.begun.ensures.looks.reads; quiet = c.begun.ensures.looks.silent; seen = c.in-Ok-begun.ensures.looks.found }) c.run_and_renew.ensures.any_moment

pub returns-in-Err-run_and_renew-clause-counts : goal.returns-in-Err-run_and_renew-clause-counts
returns-in-Err-run_and_renew-clause-counts g c = counts_from c.in-Err-run_and_renew.unit.reply (g.H.Host.state c.args.host.now) (g.H.Host.state c.begun.new.host) (g.H.Host.state c.run_and_renew.new.host) c.in-Ok-begun.ensures.looks.counts c.in-Err-run_and_renew.ensures.counts

pub returns-in-Err-begun-clause-err : goal.returns-in-Err-begun-clause-err
returns-in-Err-begun-clause-err g c = HasRun.refusing (all_refused (early_refusals c.args.administration.now.database.records (each_once c.args.names.now)) c.refuse_first.new.units.items c.in-Ok.ensures.ok) c.begun.ensures.looks.reads (record { broken = broken_by _ c.broken.result.reply c.broken.ensures.reply; untouched = c.broken.ensures.touched; none = record { silent = c.begun.ensures.looks.silent; told = (c.broken.ensures.told ∙ c.new.ensures.items) } })

pub returns-in-Err-begun-clause-told_broken : goal.returns-in-Err-begun-clause-told_broken
returns-in-Err-begun-clause-told_broken g c = tells_no_more (g.H.Host.state c.args.host.now) (g.H.Host.state c.begun.new.host) [] (calls_of c.refuse_first.new.units.items) c.broken.result.calls.items (tells_silent (g.H.Host.state c.args.host.now) (g.H.Host.state c.begun.new.host) [] (calls_of c.refuse_first.new.units.items) c.begun.ensures.looks.silent (refused_calls (early_refusals c.args.administration.now.database.records (each_once c.args.names.now)) c.refuse_first.new.units.items c.in-Ok.ensures.ok)) (c.broken.ensures.told ∙ c.new.ensures.items)

pub returns-in-Err-begun-clause-any_moment : goal.returns-in-Err-begun-clause-any_moment
returns-in-Err-begun-clause-any_moment g c = since_run_reads c.args.names.now c.args.options (held_by c.args.administration.now c.args.diversions.now) (g.H.Host.state c.args.host.now) (g.H.Host.state c.begun.new.host) c.begun.ensures.looks.reads

pub returns-in-Err-begun-clause-counts : goal.returns-in-Err-begun-clause-counts
returns-in-Err-begun-clause-counts g c = counts_broken_by c.begun.result c.in-Err-begun.fault c.broken.result.reply (g.H.Host.state c.args.host.now) (g.H.Host.state c.begun.new.host) c.in-Err-begun.is (c.broken.ensures.reply ∙ ap Broken c.breakage_of.ensures) c.begun.ensures.looks.counts

pub returns-in-Err-begun-clause-not_closed : goal.returns-in-Err-begun-clause-not_closed
returns-in-Err-begun-clause-not_closed g c = fault_not_closed c.in-Err-begun.fault c.broken.result.reply (c.broken.ensures.reply ∙ ap Broken c.breakage_of.ensures)

pub returns-in-Err-clause-err : goal.returns-in-Err-clause-err
returns-in-Err-clause-err g c = HasRun.refusing c.in-Err.ensures.err (reads_here (g.H.Host.state c.args.host.now)) (record { broken = broken_by _ c.no_memory.result.reply c.no_memory.ensures.reply; untouched = c.no_memory.ensures.touched; none = no_calls c.no_memory.result (g.H.Host.state c.args.host.now) c.no_memory.ensures.told })

pub returns-in-Err-clause-told_broken : goal.returns-in-Err-clause-told_broken
returns-in-Err-clause-told_broken g c = tells_no_more (g.H.Host.state c.args.host.now) (g.H.Host.state c.args.host.now) [] (calls_of c.refuse_first.new.units.items) c.no_memory.result.calls.items (tells_silent (g.H.Host.state c.args.host.now) (g.H.Host.state c.args.host.now) [] (calls_of c.refuse_first.new.units.items) (silent_here (g.H.Host.state c.args.host.now)) (some_refused_calls (early_refusals c.args.administration.now.database.records (each_once c.args.names.now)) c.refuse_first.new.units.items c.in-Err.ensures.err)) c.no_memory.ensures.told

pub returns-in-Err-clause-any_moment : goal.returns-in-Err-clause-any_moment
returns-in-Err-clause-any_moment g c = since_run_start c.args.names.now c.args.options (held_by c.args.administration.now c.args.diversions.now) (g.H.Host.state c.args.host.now)

pub returns-in-Err-clause-counts : goal.returns-in-Err-clause-counts
returns-in-Err-clause-counts g c = counts_no_memory c.no_memory.result.reply (g.H.Host.state c.args.host.now) (g.H.Host.state c.args.host.now) (no_fault_here (g.H.Host.state c.args.host.now)) c.no_memory.ensures.reply

pub returns-in-Err-clause-not_closed : goal.returns-in-Err-clause-not_closed
returns-in-Err-clause-not_closed g c = no_memory_not_closed c.no_memory.result.reply c.no_memory.ensures.reply

pub returns-in-Ok-run_and_renew-clause-watched : goal.returns-in-Ok-run_and_renew-clause-watched
returns-in-Ok-run_and_renew-clause-watched g c =
    told_added g.W.Watcher.tells (g.H.Host.state c.args.host.now) (g.H.Host.state c.begun.new.host) c.args.watcher.now c.refuse_first.new.watcher c.run_and_renew.new.watcher c.args.units.now.items c.refuse_first.new.units.items c.run_and_renew.new.units.items
    c.refuse_first.ensures.watched
    (tells_silent (g.H.Host.state c.args.host.now) (g.H.Host.state c.begun.new.host) (calls_of c.args.units.now.items) (calls_of c.refuse_first.new.units.items) c.begun.ensures.looks.silent
    (refused_calls (early_refusals c.args.administration.now.database.records (each_once c.args.names.now)) c.refuse_first.new.units.items c.in-Ok.ensures.ok ∙ sym (ap calls_of c.requires.none)))
    (inr c.begun.ensures.looks.reads) c.run_and_renew.ensures.watched

pub returns-in-Err-run_and_renew-clause-watched : goal.returns-in-Err-run_and_renew-clause-watched
returns-in-Err-run_and_renew-clause-watched g c =
    told_added g.W.Watcher.tells (g.H.Host.state c.args.host.now) (g.H.Host.state c.begun.new.host) c.args.watcher.now c.refuse_first.new.watcher c.run_and_renew.new.watcher c.args.units.now.items c.refuse_first.new.units.items c.run_and_renew.new.units.items
    c.refuse_first.ensures.watched
    (tells_silent (g.H.Host.state c.args.host.now) (g.H.Host.state c.begun.new.host) (calls_of c.args.units.now.items) (calls_of c.refuse_first.new.units.items) c.begun.ensures.looks.silent
    (refused_calls (early_refusals c.args.administration.now.database.records (each_once c.args.names.now)) c.refuse_first.new.units.items c.in-Ok.ensures.ok ∙ sym (ap calls_of c.requires.none)))
    (inr c.begun.ensures.looks.reads) c.run_and_renew.ensures.watched

pub returns-in-Err-begun-clause-abandoned : goal.returns-in-Err-begun-clause-abandoned
returns-in-Err-begun-clause-abandoned g c told = absurd (fault_not_abandoned c.in-Err-begun.fault c.broken.result.reply (c.broken.ensures.reply ∙ ap Broken c.breakage_of.ensures) told)

pub returns-in-Err-clause-abandoned : goal.returns-in-Err-clause-abandoned
returns-in-Err-clause-abandoned g c told = absurd (no_memory_not_abandoned c.no_memory.result.reply c.no_memory.ensures.reply told)
