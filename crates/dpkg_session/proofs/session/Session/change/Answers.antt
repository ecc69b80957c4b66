use Rattle.std.proofs.Common.{sym, ◌∙◌}
use Rattle.dpkg_session.proofs.Carries.{carries_standing}
use Rattle.dpkg_session.proofs.Changes.{changes_carry}
use Rattle.dpkg_session.proofs.Outlasting.{answered_stands, loses_like}
use Rattle.dpkg_session.proofs.Standings.{order_standing}
use Rattle.dpkg_session.proofs.KeptPackages.{packages_kept, packages_known}
use Rattle.unit_reports.specs.Held.{held_by}
use Rattle.dpkg_session.proofs.session.Session.change.Goals as goal

pub change_records-report-requires-clause-order : goal.change_records-report-requires-clause-order
change_records-report-requires-clause-order g c = λ h. order_standing (held_by c.args.self.now.administration c.args.self.now.diversions) _ (c.args.self.now.ready c.if-self.false h)

pub change_records-report-requires-clause-open : goal.change_records-report-requires-clause-open
change_records-report-requires-clause-open g c = c.args.self.now.opened c.if-self.false

pub change_records-report-requires-clause-indexed : goal.change_records-report-requires-clause-indexed
change_records-report-requires-clause-indexed g c = packages_known _ _ (c.args.self.now.indexed c.if-self.false)

pub invariant_of-self : goal.invariant_of-self
invariant_of-self g c =
    let report = c.change_records-report.ensures in
    record {
      ready = λ open_still h.
          let carries = changes_carry _ _ _ _ _ _ (report.whole (sym c.is_some-self.ensures ∙ open_still)) in
          carries_standing _ _ _ _ carries h (c.args.self.now.ready c.if-self.false (carries.falls h));
      opened = λ open_still. report.open (sym c.is_some-self.ensures ∙ open_still);
      indexed = λ open_still. packages_kept _ _ (report.indexed (sym c.is_some-self.ensures ∙ open_still));
      writable = λ open_still. c.args.self.now.writable c.if-self.false;
    }

pub returns-clause-loss : goal.returns-clause-loss
returns-clause-loss g c = λ open_before. loses_like _ _ _ (g.H.Host.settled c.change_records-report.new.host) c.change_records-report.ensures.any_moment

pub returns-clause-stands : goal.returns-clause-stands
returns-clause-stands g c = λ open_before whole. answered_stands _ _ _ c.change_records-report.ensures.any_moment (c.change_records-report.ensures.answered whole)
