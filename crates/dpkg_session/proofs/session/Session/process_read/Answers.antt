use Rattle.std.proofs.Common.{sym, ◌∙◌}
use Rattle.dpkg_session.proofs.Carries.{carries_standing}
use Rattle.dpkg_session.proofs.Triggers.{triggers_carry}
use Rattle.dpkg_session.proofs.Standings.{order_standing}
use Rattle.dpkg_session.proofs.KeptPackages.{packages_kept, packages_known}
use Rattle.unit_reports.specs.Held.{held_by}
use Rattle.dpkg_session.proofs.session.Session.process_read.Goals as goal

pub process_named-report-requires-clause-order : goal.process_named-report-requires-clause-order
process_named-report-requires-clause-order g c = λ h. order_standing (held_by c.args.self.now.administration c.args.self.now.diversions) _ (c.args.self.now.ready c.requires h)

pub process_named-report-requires-clause-open : goal.process_named-report-requires-clause-open
process_named-report-requires-clause-open g c = c.args.self.now.opened c.requires

pub process_named-report-requires-clause-indexed : goal.process_named-report-requires-clause-indexed
process_named-report-requires-clause-indexed g c = packages_known _ _ (c.args.self.now.indexed c.requires)

pub invariant_of-self : goal.invariant_of-self
invariant_of-self g c =
    let report = c.process_named-report.ensures in
    record {
      ready = λ open_still h.
          let carries = triggers_carry _ _ _ _ _ _ (report.whole (sym c.is_some-self.ensures ∙ open_still)) in
          carries_standing _ _ _ _ carries h (c.args.self.now.ready c.requires (carries.falls h));
      opened = λ open_still. report.open (sym c.is_some-self.ensures ∙ open_still);
      indexed = λ open_still. packages_kept _ _ (report.indexed (sym c.is_some-self.ensures ∙ open_still));
      writable = λ open_still. c.args.self.now.writable c.requires;
    }
