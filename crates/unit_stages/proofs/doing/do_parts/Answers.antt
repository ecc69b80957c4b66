use Rattle.std.proofs.Common.{refl, sym, ap, subst, rules, ◌∙◌}
use Rattle.std.proofs.lemmas.List.{take_all}
use Rattle.host_core.specs.Host.{WasDenied}
use Rattle.unit_stages.specs.Parts.{HaveDone, part_lists, part_records, parts_lists, parts_records}
use Rattle.unit_stages.proofs.PartMoments.{settle_first}
use Rattle.unit_stages.proofs.PartsInTurn.{doing_start, done_then, fit_after, fit_here, lists_more, records_more, settle_here, since_more}
use Rattle.unit_stages.proofs.Settling.{settle_rest}
use Rattle.unit_stages.proofs.Apart.{apart_on, goes_here, goes_on, later_of, passed_on}
use Rattle.unit_stages.proofs.doing.do_parts.Goals as goal

pub loop-part-init : goal.loop-part-init
loop-part-init g c = record {
  silent = search rules;
  counts = search rules;
  records = refl;
  lists = refl;
  noting = c.requires.noting;
  listing = c.requires.listing;
  fit = c.requires.fit;
  order = c.requires.order;
  settleable = c.requires.settleable;
  done = λ h. refl;
  any_moment = doing_start c.args.name.now c.args.parts.now c.args.database.now c.args.lists.now.lists _ c.requires.named c.requires.order c.requires.settleable;
  apart = goes_here (g.H.Host.state c.args.host.now);
}

pub do_part-requires-clause-fit : goal.do_part-requires-clause-fit
do_part-requires-clause-fit g c = (fit_here c.args.name.now c.args.parts.now c.loop-part.part-index c.part-item.result c.loop-part-test.true c.part-item.is c.loop-part.database.records c.loop-part.lists.lists c.loop-part.invariant.fit).0

pub do_part-requires-clause-settleable : goal.do_part-requires-clause-settleable
do_part-requires-clause-settleable g c = λ h.
    settle_first c.part-item.result _ _ (settle_here c.args.name.now c.args.parts.now c.loop-part.part-index c.part-item.result c.loop-part-test.true c.part-item.is _ (c.loop-part.invariant.settleable h))

pub returns-in_err-do_part-clause-any_moment : goal.returns-in_err-do_part-clause-any_moment
returns-in_err-do_part-clause-any_moment g c =
    let before = c.loop-part.invariant in
    since_more c.args.name.now c.args.parts.now c.loop-part.part-index c.part-item.result c.loop-part-test.true c.part-item.is c.args.database.now.records c.loop-part.database.records before.records _ _ _ before.done before.any_moment c.do_part.ensures.any_moment

pub loop-part-preserved : goal.loop-part-preserved
loop-part-preserved g c =
    let before = c.loop-part.invariant in
    let name = c.args.name.now in
    let parts = c.args.parts.now in
    let i = c.loop-part.part-index in
    let part = c.part-item.result in
    let lt = c.loop-part-test.true in
    let at = c.part-item.is in
    let rs = c.args.database.now.records in
    let ls = c.args.lists.now.lists in
    record {
      silent = search rules;
      counts = search rules;
      records = c.in_ok-do_part.ensures.records ∙ ap (part_records name part) before.records ∙ sym (records_more name parts i part lt at rs);
      lists = c.in_ok-do_part.ensures.lists ∙ ap (part_lists name part) before.lists ∙ sym (lists_more name parts i part lt at ls);
      noting = c.in_ok-do_part.ensures.noting;
      listing = c.in_ok-do_part.ensures.listing;
      fit = fit_after name parts i part lt at c.loop-part.database.records c.loop-part.lists.lists _ _ c.in_ok-do_part.ensures.records c.in_ok-do_part.ensures.lists before.fit;
      order = λ h. c.in_ok-do_part.ensures.order h;
      settleable = λ h.
          let h0 = c.do_part.ensures.silent.honest h in
          settle_rest name _ part _ c.loop-part.database.records _ _ (settle_here name parts i part lt at _ (before.settleable h0)) (c.in_ok-do_part.ensures.done h);
      done = λ h. done_then name parts i part lt at rs c.loop-part.database.records before.records (g.H.Host.state c.args.host.now) (g.H.Host.state c.loop-part.host) (g.H.Host.state c.do_part.new.host) (later_of _ _ _ before.any_moment) (later_of _ _ _ c.do_part.ensures.any_moment) (before.done (c.do_part.ensures.silent.honest h)) (c.in_ok-do_part.ensures.done h);
      any_moment = since_more name parts i part lt at rs c.loop-part.database.records before.records _ _ _ before.done before.any_moment c.do_part.ensures.any_moment;
      apart = goes_on (g.H.Host.state c.args.host.now) (g.H.Host.state c.loop-part.host) (g.H.Host.state c.do_part.new.host) (later_of _ _ _ before.any_moment) (later_of _ _ _ c.do_part.ensures.any_moment) before.apart c.in_ok-do_part.ensures.apart;
    }

pub returns-clause-records : goal.returns-clause-records
returns-clause-records g c =
    c.loop-part.invariant.records ∙ ap (λ ps. parts_records c.args.name.now ps c.args.database.now.records) (take_all c.loop-part.part-index c.args.parts.now c.loop-part-test.false)

pub returns-clause-lists : goal.returns-clause-lists
returns-clause-lists g c =
    c.loop-part.invariant.lists ∙ ap (λ ps. parts_lists c.args.name.now ps c.args.lists.now.lists) (take_all c.loop-part.part-index c.args.parts.now c.loop-part-test.false)

pub returns-clause-done : goal.returns-clause-done
returns-clause-done g c = λ h.
    subst (λ ps. HaveDone c.args.name.now (WasDenied (g.H.Host.state c.args.host.now) (g.H.Host.state c.loop-part.host)) ps c.args.database.now.records (g.H.Host.state c.args.host.now).world (g.H.Host.state c.loop-part.host).world) (take_all c.loop-part.part-index c.args.parts.now c.loop-part-test.false) (c.loop-part.invariant.done h)

pub returns-in_err-do_part-clause-apart : goal.returns-in_err-do_part-clause-apart
returns-in_err-do_part-clause-apart g c = λ h.
    let before = c.loop-part.invariant in
    (apart_on (g.H.Host.state c.args.host.now) (g.H.Host.state c.loop-part.host) (g.H.Host.state c.do_part.new.host) (later_of _ _ _ before.any_moment) (later_of _ _ _ c.do_part.ensures.any_moment) before.apart (λ h0. (c.do_part.ensures.apart h0).0) h, passed_on _ _ c.from_residual.result c.from_residual.ensures.1)

pub returns-clause-apart : goal.returns-clause-apart
returns-clause-apart g c = c.loop-part.invariant.apart
