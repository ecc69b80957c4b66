use Rattle.std.proofs.Common.{sym, ◌∙◌}
use Rattle.dpkg_session.proofs.Standings.{order_standing, standing_run}
use Rattle.dpkg_session.proofs.Outlasting.{run_answered, run_stands}
use Rattle.dpkg_session.proofs.Runs.{falls_run}
use Rattle.dpkg_session.proofs.KeptPackages.{packages_kept, packages_known}
use Rattle.unit_reports.specs.Held.{held_by}
use Rattle.dpkg_session.proofs.session.Session.run.Goals as goal

pub unpack_trees-report-requires-clause-order : goal.unpack_trees-report-requires-clause-order
unpack_trees-report-requires-clause-order g c = λ h. order_standing (held_by c.args.self.now.administration c.args.self.now.diversions) _ (c.args.self.now.ready c.if-self.false h)

pub unpack_trees-report-requires-clause-open : goal.unpack_trees-report-requires-clause-open
unpack_trees-report-requires-clause-open g c = c.args.self.now.opened c.if-self.false

pub unpack_trees-report-requires-clause-indexed : goal.unpack_trees-report-requires-clause-indexed
unpack_trees-report-requires-clause-indexed g c = packages_known _ _ (c.args.self.now.indexed c.if-self.false)

pub invariant_of-self : goal.invariant_of-self
invariant_of-self g c =
    let report = c.unpack_trees-report.ensures in
    record {
      ready = λ open_still h.
          let left = sym c.is_some-self.ensures ∙ open_still in
          let run = report.run.2.whole left in
          standing_run _ _ _ _ _ _ _ run h (report.order left h) (c.args.self.now.ready c.if-self.false (falls_run _ _ _ _ _ _ _ run h));
      opened = λ open_still. report.open (sym c.is_some-self.ensures ∙ open_still);
      indexed = λ open_still. packages_kept _ _ (report.indexed (sym c.is_some-self.ensures ∙ open_still));
      writable = λ open_still. report.writable (c.args.self.now.writable c.if-self.false);
    }

pub returns-clause-run : goal.returns-clause-run
returns-clause-run g c = λ open_before.
    let run = c.unpack_trees-report.ensures.run in
    (run.0, run.1, run.2)

pub returns-clause-stands : goal.returns-clause-stands
returns-clause-stands g c = λ open_before whole.
    let run = c.unpack_trees-report.ensures.run.2 in
    run_stands _ _ _ _ _ _ _ _ run.any_moment (run.whole whole)

pub returns-clause-answered : goal.returns-clause-answered
returns-clause-answered g c = λ open_before whole. run_answered _ _ _ _ _ _ _ (c.unpack_trees-report.ensures.run.2.whole whole)
