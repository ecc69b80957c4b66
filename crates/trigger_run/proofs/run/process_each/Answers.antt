use Rattle.std.proofs.Common.{List, [], refl, subst, sym}
use Rattle.recorded_packages.specs.Packages.{ArePackagesOf}
use Rattle.relation_index.specs.declared.package.Package.{Package}
use Rattle.unit_reports.specs.Held.{held_by}
use Rattle.trigger_run.proofs.Ending.{runs_to, runs_up_to, stopped_up_to, tells_ended, told_ended}
use Rattle.trigger_run.proofs.run.process_each.Goals as goal

pub run_turns-requires-clause-indexed : goal.run_turns-requires-clause-indexed
run_turns-requires-clause-indexed g c = subst (ArePackagesOf c.args.administration.now.database.records) (sym {A = List Package} c.replace-taken.ensures.value) c.requires.indexed

pub returns-in-Ok-clause-whole : goal.returns-in-Ok-clause-whole
returns-in-Ok-clause-whole g c = λ none.
    runs_to c.args.names.items (held_by c.args.administration.now c.args.diversions.now) (g.H.Host.state c.args.host.now) c.new-units.result.items c.run_turns.new.units.items c.run_turns.new.units.items [] (held_by c.run_turns.new.administration c.args.diversions.now) (g.H.Host.state c.run_turns.new.host)
    c.new-units.ensures.items refl c.in-Ok.ensures.turned

pub returns-in-Ok-clause-part : goal.returns-in-Ok-clause-part
returns-in-Ok-clause-part g c =
    runs_up_to c.args.names.items (held_by c.args.administration.now c.args.diversions.now) (g.H.Host.state c.args.host.now) c.new-units.result.items c.run_turns.new.units.items (held_by c.run_turns.new.administration c.args.diversions.now) (g.H.Host.state c.run_turns.new.host)
    c.new-units.ensures.items c.in-Ok.ensures.turned

pub returns-in-Err-clause-part : goal.returns-in-Err-clause-part
returns-in-Err-clause-part g c =
    stopped_up_to c.args.names.items (held_by c.args.administration.now c.args.diversions.now) (g.H.Host.state c.args.host.now) c.new-units.result.items c.run_turns.new.units.items (g.H.Host.state c.run_turns.new.host) c.in-Err.unit c.new-units.ensures.items c.in-Err.ensures.stopped

pub returns-in-Ok-clause-told : goal.returns-in-Ok-clause-told
returns-in-Ok-clause-told g c = tells_ended c.new-units.result.items c.run_turns.new.units.items (g.H.Host.state c.args.host.now) (g.H.Host.state c.run_turns.new.host) c.new-units.ensures.items c.in-Ok.ensures.told

pub returns-in-Ok-clause-watched : goal.returns-in-Ok-clause-watched
returns-in-Ok-clause-watched g c =
    told_ended g.W.Watcher.tells (g.H.Host.state c.args.host.now) c.args.watcher.now c.run_turns.new.watcher c.new-units.result.items c.run_turns.new.units.items c.run_turns.new.units.items c.new-units.ensures.items refl c.run_turns.ensures.watched

pub returns-in-Err-clause-watched : goal.returns-in-Err-clause-watched
returns-in-Err-clause-watched g c =
    told_ended g.W.Watcher.tells (g.H.Host.state c.args.host.now) c.args.watcher.now c.run_turns.new.watcher c.new-units.result.items c.run_turns.new.units.items c.run_turns.new.units.items c.new-units.ensures.items refl c.run_turns.ensures.watched
