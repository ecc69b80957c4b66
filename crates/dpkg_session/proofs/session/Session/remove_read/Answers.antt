use Rattle.std.proofs.Common.{sym, ◌∙◌}
use Rattle.dpkg_session.proofs.Carries.{carries_standing}
use Rattle.dpkg_session.proofs.Removes.{removal_carries}
use Rattle.dpkg_session.proofs.Standings.{order_standing}
use Rattle.dpkg_session.proofs.KeptPackages.{packages_kept, packages_known}
use Rattle.unit_reports.specs.Held.{held_by}
use Rattle.dpkg_session.proofs.session.Session.remove_read.Goals as goal

pub remove_going-report-requires-clause-order : goal.remove_going-report-requires-clause-order
remove_going-report-requires-clause-order g c = λ h. order_standing (held_by c.args.self.now.administration c.args.self.now.diversions) _ (c.args.self.now.ready c.requires h)

pub remove_going-report-requires-clause-open : goal.remove_going-report-requires-clause-open
remove_going-report-requires-clause-open g c = c.args.self.now.opened c.requires

pub remove_going-report-requires-clause-indexed : goal.remove_going-report-requires-clause-indexed
remove_going-report-requires-clause-indexed g c = packages_known _ _ (c.args.self.now.indexed c.requires)

pub invariant_of-self : goal.invariant_of-self
invariant_of-self g c =
    let report = c.remove_going-report.ensures in
    record {
      ready = λ open_still h.
          let carries = removal_carries _ _ _ _ _ _ _ (report.whole (sym c.is_some-self.ensures ∙ open_still)) in
          carries_standing _ _ _ _ carries h (c.args.self.now.ready c.requires (carries.falls h));
      opened = λ open_still. report.open (sym c.is_some-self.ensures ∙ open_still);
      indexed = λ open_still. packages_kept _ _ (report.indexed (sym c.is_some-self.ensures ∙ open_still));
      writable = λ open_still. c.args.self.now.writable c.requires;
    }
