use Rattle.std.proofs.Common.{List, Some, subst, sym}
use Rattle.dependency_sets.specs.Sets.{has}
use Rattle.recorded_packages.specs.Packages.{ArePackagesOf}
use Rattle.relation_index.specs.declared.package.Package.{Package}
use Rattle.unit_reports.specs.Held.{held_by}
use Rattle.unit_reports.specs.Units.{calls_of}
use Rattle.configure_run.proofs.Numbers.{are_waiting}
use Rattle.configure_run.proofs.Others.{named_alone}
use Rattle.configure_run.proofs.Replies.{broken_by}
use Rattle.configure_run.proofs.Runs.{stop_of_end}
use Rattle.configure_run.proofs.Told.{tells_no_more}
use Rattle.configure_run.proofs.Units.{no_calls}
use Rattle.configure_run.proofs.run.run_and_renew.Goals as goal
use Rattle.unit_reports.proofs.Counting.{counts_no_memory, no_memory_not_abandoned, no_memory_not_closed}

pub run_turns-requires-clause-wait : goal.run_turns-requires-clause-wait
run_turns-requires-clause-wait g c = are_waiting c.args.names.now c.args.administration.now.database.records c.args.queue c.requires.begun c.law.ensures.order

pub returns-in-Ok-renew-clause-indexed : goal.returns-in-Ok-renew-clause-indexed
returns-in-Ok-renew-clause-indexed g c =
    let records = c.args.administration.now.database.records in
    c.in-Ok-renew.ensures.ok records c.law.ensures.order (subst (ArePackagesOf records) (sym {A = List Package} c.in-Ok.ensures.packages) c.requires.begun.packages)
    (named_alone c.args.names.now records c.args.queue c.requires.begun c.run_turns.new.administration.database.records c.in-Ok.ensures.others)

pub returns-in-Err-renew-clause-err : goal.returns-in-Err-renew-clause-err
returns-in-Err-renew-clause-err g c = stop_of_end c.args.options (has c.args.silent.items) c.args.queue (held_by c.args.administration.now c.args.diversions.now) (g.H.Host.state c.args.host.now) (g.H.Host.state c.run_turns.new.host) c.args.units.now.items c.run_turns.new.units.items (held_by c.run_turns.new.administration c.args.diversions.now) (Some c.no_memory.result) c.in-Ok.ensures.ok
    (record { broken = broken_by _ c.no_memory.result.reply c.no_memory.ensures.reply; untouched = c.no_memory.ensures.touched; none = no_calls c.no_memory.result (g.H.Host.state c.run_turns.new.host) c.no_memory.ensures.told })

pub returns-in-Err-renew-clause-told_broken : goal.returns-in-Err-renew-clause-told_broken
returns-in-Err-renew-clause-told_broken g c = tells_no_more (g.H.Host.state c.args.host.now) (g.H.Host.state c.run_turns.new.host) (calls_of c.args.units.now.items) (calls_of c.run_turns.new.units.items) c.no_memory.result.calls.items c.in-Ok.ensures.told c.no_memory.ensures.told

pub returns-in-Err-renew-clause-counts : goal.returns-in-Err-renew-clause-counts
returns-in-Err-renew-clause-counts g c = counts_no_memory c.no_memory.result.reply (g.H.Host.state c.args.host.now) (g.H.Host.state c.run_turns.new.host) c.in-Ok.ensures.no_fault c.no_memory.ensures.reply

pub returns-in-Err-renew-clause-not_closed : goal.returns-in-Err-renew-clause-not_closed
returns-in-Err-renew-clause-not_closed g c = no_memory_not_closed c.no_memory.result.reply c.no_memory.ensures.reply

pub returns-in-Err-renew-clause-abandoned : goal.returns-in-Err-renew-clause-abandoned
returns-in-Err-renew-clause-abandoned g c told = absurd (no_memory_not_abandoned c.no_memory.result.reply c.no_memory.ensures.reply told)
