use Rattle.std.proofs.Common.{◌≡◌, [], List, ℕ, sym, subst, ◌∙◌}
use Rattle.std.specs.Prelude.{IsTrue}
use Rattle.std.specs.List.{AllByRecursion}
use Rattle.recorded_packages.specs.Packages.{ArePackagesOf}
use Rattle.recorded_packages.specs.Renewal.{AreSameBut}
use Rattle.relation_index.specs.declared.package.Package.{Package}
use Rattle.unit_reports.proofs.Telling.{told_all}
use Rattle.unit_reports.specs.Held.{held_by}
use Rattle.unit_reports.specs.Units.{IsRefusal, calls_of}
use Rattle.unit_reports.specs.Watching.{IsTold}
use Rattle.unit_reports.specs.declared.report.Unit.{Unit as AUnit}
use Rattle.removal_run.proofs.Ending.{ending_not_abandoned, none_ends, runs_through, runs_up_to, stopped_up_to, tells_ended}
use Rattle.removal_run.proofs.Tellings.{told_ended, told_turns}
use Rattle.removal_run.proofs.run.run_sorted.Goals as goal

pub returns-in-Ok-clause-whole : goal.returns-in-Ok-clause-whole
returns-in-Ok-clause-whole g c = λ none.
    runs_through c.args.options c.replace-taken.result c.args.sorted.waiting.items c.in-Ok.left.items c.args.sorted.refused.items c.run_turns.new.units.items c.ended.result.units.items
    (held_by c.args.administration.now c.args.diversions.now) (held_by c.run_turns.new.administration c.args.diversions.now) (g.H.Host.state c.args.host.now) (g.H.Host.state c.run_turns.new.host)
    (subst (ArePackagesOf c.args.administration.now.database.records) (sym {A = List Package} c.replace-taken.ensures.value) c.requires.indexed)
    c.in-Ok.ensures.turned c.in-Ok.queue c.in-Ok.ensures.nothing (none_ends c.in-Ok.queue c.run_turns.new.units.items c.ended.result.units.items c.ended.result.last none c.ended.ensures.ends)

pub returns-in-Ok-clause-part : goal.returns-in-Ok-clause-part
returns-in-Ok-clause-part g c =
    runs_up_to c.args.options c.replace-taken.result c.args.sorted.waiting.items c.in-Ok.left.items c.args.sorted.refused.items c.run_turns.new.units.items c.ended.result.units.items
    (held_by c.args.administration.now c.args.diversions.now) (held_by c.run_turns.new.administration c.args.diversions.now) (g.H.Host.state c.args.host.now) (g.H.Host.state c.run_turns.new.host)
    (subst (ArePackagesOf c.args.administration.now.database.records) (sym {A = List Package} c.replace-taken.ensures.value) c.requires.indexed)
    c.in-Ok.ensures.turned c.in-Ok.queue c.in-Ok.ensures.nothing c.ended.result.last c.ended.ensures.ends

pub returns-clause-part : goal.returns-clause-part
returns-clause-part g c =
    stopped_up_to c.args.options c.replace-taken.result c.args.sorted.waiting.items c.args.sorted.refused.items c.run_turns.new.units.items (held_by c.args.administration.now c.args.diversions.now) (g.H.Host.state c.args.host.now) (g.H.Host.state c.run_turns.new.host) c.in-Err.unit
    (subst (ArePackagesOf c.args.administration.now.database.records) (sym {A = List Package} c.replace-taken.ensures.value) c.requires.indexed) c.in-Err.ensures.stopped

pub returns-in-Ok-clause-told : goal.returns-in-Ok-clause-told
returns-in-Ok-clause-told g c =
    tells_ended c.in-Ok.queue c.args.sorted.refused.items c.run_turns.new.units.items c.ended.result.units.items c.ended.result.last (g.H.Host.state c.args.host.now) (g.H.Host.state c.run_turns.new.host) c.requires.told c.ended.ensures.ends c.in-Ok.ensures.told

pub returns-in-Ok-clause-watched : goal.returns-in-Ok-clause-watched
returns-in-Ok-clause-watched g c =
    told_ended g.W.Watcher.tells (g.H.Host.state c.args.host.now) (g.H.Host.state c.run_turns.new.host) c.args.watcher.now c.tell_all.new.watcher c.run_turns.new.watcher c.ended.new.watcher c.args.sorted.refused.items c.run_turns.new.units.items c.ended.result.units.items
    c.requires.told (subst (λ (us : List AUnit). IsTold g.W.Watcher.tells (g.H.Host.state c.args.host.now) c.args.watcher.now us c.tell_all.new.watcher) c.as_slice.ensures.value c.tell_all.ensures)
    c.run_turns.ensures.watched c.in-Ok.ensures.told c.in-Ok.ensures.answered c.ended.ensures.watched

pub returns-clause-watched : goal.returns-clause-watched
returns-clause-watched g c =
    told_all g.W.Watcher.tells (g.H.Host.state c.args.host.now) c.args.watcher.now c.run_turns.new.watcher c.run_turns.new.units.items
    (told_turns g.W.Watcher.tells (g.H.Host.state c.args.host.now) c.args.watcher.now c.tell_all.new.watcher c.run_turns.new.watcher c.args.sorted.refused.items c.run_turns.new.units.items
    c.requires.told (subst (λ (us : List AUnit). IsTold g.W.Watcher.tells (g.H.Host.state c.args.host.now) c.args.watcher.now us c.tell_all.new.watcher) c.as_slice.ensures.value c.tell_all.ensures) c.run_turns.ensures.watched)

pub tell_all-requires : goal.tell_all-requires
tell_all-requires g c = record {
  quiet = subst (λ (us : List AUnit). calls_of us ≡ []) (sym c.as_slice.ensures.value) c.requires.told;
  refused = subst (AllByRecursion (λ (u : AUnit). IsRefusal u.reply)) (sym c.as_slice.ensures.value) c.requires.refused;
}

pub returns-in-Ok-clause-abandoned : goal.returns-in-Ok-clause-abandoned
returns-in-Ok-clause-abandoned g c = ending_not_abandoned (IsTrue (g.W.Watcher.ends c.ended.new.watcher)) c.in-Ok.queue c.run_turns.new.units.items c.ended.result.units.items c.ended.result.last c.ended.ensures.ends

pub returns-in-Ok-clause-indexed : goal.returns-in-Ok-clause-indexed
returns-in-Ok-clause-indexed g c = λ none.
    let start = c.args.administration.now.database.records in
    let packages = subst (ArePackagesOf start) (sym {A = List Package} (c.in-Ok.ensures.nothing.queue.stated ∙ c.replace-taken.ensures.value)) c.requires.indexed in
    c.ended.ensures.renewed none start c.law.ensures.order packages (subst (λ (names : List (List ℕ)). AreSameBut names start c.run_turns.new.administration.database.records) (sym (c.as_slice-in-Ok-2.ensures.value ∙ c.requires.asked)) c.in-Ok.ensures.others)

pub ended-requires-clause-none : goal.ended-requires-clause-none
ended-requires-clause-none g c = c.in-Ok.ensures.nothing.nobody.none
