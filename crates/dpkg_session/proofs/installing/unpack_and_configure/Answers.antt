use Rattle.std.proofs.Common.{◌≡◌, ◌++◌, List, sym, subst, ◌∙◌, rules}
use Rattle.std.proofs.lemmas.List.{append-nil}
use Rattle.unit_reports.specs.Held.{held_by}
use Rattle.unit_reports.specs.Watching.{IsTold}
use Rattle.unit_reports.specs.declared.report.Unit.{Unit as AUnit}
use Rattle.dpkg_session.proofs.Installs.{answered_both, installed_both, installed_part, none_both}
use Rattle.dpkg_session.proofs.Outlasting.{run_answered}
use Rattle.dpkg_session.proofs.Told.{tells_units}
use Rattle.dpkg_session.proofs.installing.unpack_and_configure.Goals as goal

pub returns-then-is_some-clause-run : goal.returns-then-is_some-clause-run
returns-then-is_some-clause-run g c =
    let run = c.unpack_trees-unpacked.ensures.run in
    (run.0, run.1, installed_part c.args.allowed run.0 _ c.args.options c.unpack_trees-unpacked.result c.empty_report.result _ _ _ _ (sym c.is_some.ensures ∙ c.if-is_some.true) c.empty_report.ensures (g.H.Host.settled c.unpack_trees-unpacked.new.host) run.2)

pub returns-then-is_some-clause-watched : goal.returns-then-is_some-clause-watched
returns-then-is_some-clause-watched g c =
    let us = c.unpack_trees-unpacked.result.units.items in
    let same : us ++ c.empty_report.result.units.items ≡ us = subst (λ (l : List AUnit). us ++ l ≡ us) (sym c.empty_report.ensures.units) (append-nil us) in
    subst (λ (l : List AUnit). IsTold g.W.Watcher.tells (g.H.Host.state c.args.host.now) c.args.watcher.now l c.unpack_trees-unpacked.new.watcher) (sym same) c.unpack_trees-unpacked.ensures.watched

pub returns-clause-run : goal.returns-clause-run
returns-clause-run g c =
    let run = c.unpack_trees-unpacked.ensures.run in
    let none = sym c.is_some.ensures ∙ c.if-is_some.false in
    let told : c.as_slice-2.result.now ≡ c.unpack_trees-unpacked.result.units.items = search rules in
    let configured = c.configure_done-configured.ensures in (
      run.0,
      run.1,
      installed_both c.args.allowed run.0 _ c.args.options c.unpack_trees-unpacked.result c.configure_done-configured.result c.as_slice-2.result.now c.as_slice.result.now
          _ (held_by c.unpack_trees-unpacked.new.administration c.unpack_trees-unpacked.new.diversions) _ _ _ _ (c.as_slice.ensures ∙ run.3 none) told none (g.H.Host.settled c.configure_done-configured.new.host) run.2 configured.whole configured.part configured.any_moment,
    )

pub returns-clause-watched : goal.returns-clause-watched
returns-clause-watched g c =
    let first = c.unpack_trees-unpacked in
    let none = sym c.is_some.ensures ∙ c.if-is_some.false in
    c.what_is_told_in_turn.ensures.more (g.H.Host.state c.args.host.now) (g.H.Host.state first.new.host) c.args.watcher.now first.new.watcher c.configure_done-configured.new.watcher first.result.units.items c.configure_done-configured.result.units.items
    first.ensures.watched (tells_units (g.H.Host.state c.args.host.now) (g.H.Host.state first.new.host) first.result none first.ensures.told)
    (run_answered c.args.allowed first.ensures.run.0 first.result.units.items (held_by c.args.administration.now c.args.diversions.now) (held_by first.new.administration first.new.diversions) (g.H.Host.state c.args.host.now) (g.H.Host.state first.new.host) (first.ensures.run.2.whole none)) c.configure_done-configured.ensures.watched

pub returns-clause-answered : goal.returns-clause-answered
returns-clause-answered g c = λ none.
    let first = sym c.is_some.ensures ∙ c.if-is_some.false in
    answered_both c.args.allowed c.unpack_trees-unpacked.ensures.run.0 c.unpack_trees-unpacked.result.units.items _ _ _ _ _ (c.unpack_trees-unpacked.ensures.run.2.whole first)
    (c.configure_done-configured.ensures.answered (none_both c.unpack_trees-unpacked.result.last c.configure_done-configured.result.last first none))

pub returns-clause-order : goal.returns-clause-order
returns-clause-order g c = λ none. c.configure_done-configured.ensures.order (none_both c.unpack_trees-unpacked.result.last c.configure_done-configured.result.last (sym c.is_some.ensures ∙ c.if-is_some.false) none)

pub returns-clause-open : goal.returns-clause-open
returns-clause-open g c = λ none. c.configure_done-configured.ensures.open (none_both c.unpack_trees-unpacked.result.last c.configure_done-configured.result.last (sym c.is_some.ensures ∙ c.if-is_some.false) none)
