use Rattle.std.proofs.Common.{◌≡◌, [], ℕ, List, Option, subst, sym, ap, ◌∙◌, get_or, take}
use Rattle.status_records.specs.Records.{record_in}
use Rattle.unit_reports.proofs.Telling.{none_added, told_still}
use Rattle.unit_reports.specs.Units.{calls_of}
use Rattle.unit_reports.specs.declared.refusal.Rule.{Rule}
use Rattle.unit_reports.specs.declared.report.Unit.{Unit as AUnit}
use Rattle.configure_run.specs.Early.{AreRefused, AreSomeRefused, HasRefused, early_refusal, early_refusals, early_rule, refusal_by}
use Rattle.configure_run.proofs.Refusals.{on_err, refused_next, some_refused}
use Rattle.configure_run.proofs.Told.{refused_calls}
use Rattle.configure_run.proofs.early.refuse_early.Goals as goal

pub loop-name-init : goal.loop-name-init
loop-name-init g c = record {
  refused = subst (AreRefused []) (sym c.requires.none) tt;
  watched = none_added g.W.Watcher.tells (g.H.Host.state c.args.host.now) c.args.watcher.now c.args.units.now.items;
}

pub returns-in_err-push_refusal-clause-err : goal.returns-in_err-push_refusal-clause-err
returns-in_err-push_refusal-clause-err g c =
    on_err c.from_residual.result _ (subst (AreSomeRefused (early_refusals c.args.database.now.records c.args.names.now)) (sym {A = List AUnit} c.in_err-push_refusal.ensures.err)
    (some_refused c.args.database.now.records c.args.names.now c.loop-name.name-index c.loop-name.units.items c.loop-name.invariant.refused))

pub returns-in_err-push_refusal-clause-watched : goal.returns-in_err-push_refusal-clause-watched
returns-in_err-push_refusal-clause-watched g c = told_still g.W.Watcher.tells (g.H.Host.state c.args.host.now) c.args.watcher.now c.loop-name.watcher c.push_refusal.new.watcher c.args.units.now.items c.loop-name.units.items c.push_refusal.new.units.items c.loop-name.invariant.watched
    (refused_calls (early_refusals c.args.database.now.records (take c.loop-name.name-index c.args.names.now)) c.loop-name.units.items c.loop-name.invariant.refused ∙ sym (ap calls_of c.requires.none)) c.push_refusal.ensures.watched

pub loop-name-preserved : goal.loop-name-preserved
loop-name-preserved g c =
    let records = c.args.database.now.records in
    let name = c.name-item.result in
    let same : get_or c.args.names.now c.loop-name.name-index name ≡ name = sym c.name-item.is in
    let rule : c.early_rule.result ≡ early_rule (record_in records name) = c.early_rule.ensures ∙ ap early_rule c.get.ensures in
    record {
      refused = refused_next records c.args.names.now c.loop-name.name-index name c.loop-name.units.items c.push_refusal.new.units.items c.loop-name-test.true c.loop-name.invariant.refused
          (subst (λ (n : List ℕ). HasRefused (early_refusal records n) c.loop-name.units.items c.push_refusal.new.units.items) (sym same)
          (subst (λ (o : Option Rule). HasRefused (refusal_by name o) c.loop-name.units.items c.push_refusal.new.units.items) rule c.in_ok-push_refusal.ensures.ok));
      watched = told_still g.W.Watcher.tells (g.H.Host.state c.args.host.now) c.args.watcher.now c.loop-name.watcher c.push_refusal.new.watcher c.args.units.now.items c.loop-name.units.items c.push_refusal.new.units.items c.loop-name.invariant.watched
          (refused_calls (early_refusals c.args.database.now.records (take c.loop-name.name-index c.args.names.now)) c.loop-name.units.items c.loop-name.invariant.refused ∙ sym (ap calls_of c.requires.none)) c.push_refusal.ensures.watched;
    }
