use Rattle.std.proofs.Common.{sym, ◌∙◌}
use Rattle.dpkg_session.proofs.InstallStandings.{install_falls, install_standing}
use Rattle.dpkg_session.proofs.Outlasting.{answered_stands}
use Rattle.dpkg_session.proofs.Standings.{order_standing}
use Rattle.dpkg_session.proofs.KeptPackages.{packages_kept, packages_known}
use Rattle.unit_reports.specs.Held.{held_by}
use Rattle.dpkg_session.proofs.session.Session.install.Goals as goal

pub unpack_and_configure-installed-requires-clause-order : goal.unpack_and_configure-installed-requires-clause-order
unpack_and_configure-installed-requires-clause-order g c = λ h. order_standing (held_by c.args.self.now.administration c.args.self.now.diversions) _ (c.args.self.now.ready c.if-self.false h)

pub unpack_and_configure-installed-requires-clause-open : goal.unpack_and_configure-installed-requires-clause-open
unpack_and_configure-installed-requires-clause-open g c = c.args.self.now.opened c.if-self.false

pub unpack_and_configure-installed-requires-clause-indexed : goal.unpack_and_configure-installed-requires-clause-indexed
unpack_and_configure-installed-requires-clause-indexed g c = packages_known _ _ (c.args.self.now.indexed c.if-self.false)

pub invariant_of-self : goal.invariant_of-self
invariant_of-self g c =
    let installed = c.unpack_and_configure-installed.ensures in
    record {
      ready = λ open_still h.
          let whole = installed.run.2.whole (sym c.is_broken-self.ensures ∙ open_still) in
          install_standing _ _ _ _ _ _ _ _ _ whole h (c.args.self.now.ready c.if-self.false (install_falls _ _ _ _ _ _ _ _ _ whole h));
      opened = λ open_still. installed.open (sym c.is_broken-self.ensures ∙ open_still);
      indexed = λ open_still. packages_kept _ _ (installed.indexed (sym c.is_broken-self.ensures ∙ open_still));
      writable = λ open_still. installed.writable (c.args.self.now.writable c.if-self.false);
    }

pub returns-clause-stands : goal.returns-clause-stands
returns-clause-stands g c = λ open_before whole. answered_stands _ _ _ c.unpack_and_configure-installed.ensures.run.2.any_moment (c.unpack_and_configure-installed.ensures.answered whole)

pub returns-clause-run : goal.returns-clause-run
returns-clause-run g c = λ open_before. c.unpack_and_configure-installed.ensures.run
