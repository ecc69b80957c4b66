use Rattle.std.proofs.Common.{ℕ, List, take, drop, get_or, subst, sym}
use Rattle.std.proofs.lemmas.List.{take_more, take-append-drop}
use Rattle.unit_reports.proofs.Telling.{none_added, told_still}
use Rattle.unit_reports.specs.declared.report.Unit.{Unit as AUnit}
use Rattle.configure_run.specs.LeftOver.{AddLeftOver}
use Rattle.configure_run.proofs.LeftLaws.{add_last, add_none}
use Rattle.configure_run.proofs.Refusals.{on_err}
use Rattle.configure_run.proofs.Told.{left_over_calls, more_without_calls}
use Rattle.configure_run.proofs.left_over.refuse_numbers.Goals as goal

pub returns-in_err-refuse_one-clause-err : goal.returns-in_err-refuse_one-clause-err
returns-in_err-refuse_one-clause-err g c =
    let i = c.loop-number.number-index in
    on_err c.from_residual.result _ (record {
      done = take i c.args.numbers.now;
      rest = drop i c.args.numbers.now;
      split = sym (take-append-drop i c.args.numbers.now);
      add = subst (AddLeftOver c.args.queue.now (take i c.args.numbers.now) c.args.units.now.items) (sym {A = List AUnit} c.in_err-refuse_one.ensures.err) c.loop-number.invariant.added;
    })

pub loop-number-preserved : goal.loop-number-preserved
loop-number-preserved g c =
    let i = c.loop-number.number-index in
    let numbers = c.args.numbers.now in
    record {
      added = subst (λ (l : List ℕ). AddLeftOver c.args.queue.now l c.args.units.now.items c.refuse_one.new.units.items) (sym (take_more numbers i 0 c.loop-number-test.true))
          (add_last c.args.queue.now (take i numbers) (get_or numbers i 0) c.args.units.now.items c.loop-number.units.items c.refuse_one.new.units.items c.loop-number.invariant.added c.in_ok-refuse_one.ensures.ok);
      watched = told_still g.W.Watcher.tells (g.H.Host.state c.args.host.now) c.args.watcher.now c.loop-number.watcher c.refuse_one.new.watcher c.args.units.now.items c.loop-number.units.items c.refuse_one.new.units.items c.loop-number.invariant.watched
          (more_without_calls c.args.units.now.items c.loop-number.invariant.added.more c.loop-number.units.items c.loop-number.invariant.added.grown
          (left_over_calls c.args.queue.now (take c.loop-number.number-index c.args.numbers.now) c.loop-number.invariant.added.more c.loop-number.invariant.added.are)) c.refuse_one.ensures.watched;
    }

pub loop-number-init : goal.loop-number-init
loop-number-init g c = record {
  added = add_none c.args.queue.now c.args.units.now.items;
  watched = none_added g.W.Watcher.tells (g.H.Host.state c.args.host.now) c.args.watcher.now c.args.units.now.items;
}

pub returns-in_err-refuse_one-clause-watched : goal.returns-in_err-refuse_one-clause-watched
returns-in_err-refuse_one-clause-watched g c = told_still g.W.Watcher.tells (g.H.Host.state c.args.host.now) c.args.watcher.now c.loop-number.watcher c.refuse_one.new.watcher c.args.units.now.items c.loop-number.units.items c.refuse_one.new.units.items c.loop-number.invariant.watched
    (more_without_calls c.args.units.now.items c.loop-number.invariant.added.more c.loop-number.units.items c.loop-number.invariant.added.grown
    (left_over_calls c.args.queue.now (take c.loop-number.number-index c.args.numbers.now) c.loop-number.invariant.added.more c.loop-number.invariant.added.are)) c.refuse_one.ensures.watched
