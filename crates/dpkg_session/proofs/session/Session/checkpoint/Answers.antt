use Rattle.std.proofs.Common.{subst, sym, ◌∙◌}
use Rattle.std.specs.Prelude.{IfSome}
use Rattle.recorded_packages.specs.Packages.{ArePackagesOf}
use Rattle.unit_reports.specs.Held.{held_by}
use Rattle.dpkg_session.proofs.Checkpoints.{standing_left, stands_behind, where_open}
use Rattle.dpkg_session.proofs.KeptPackages.{packages_kept, packages_known}
use Rattle.dpkg_session.proofs.Outlasting.{loses_like}
use Rattle.dpkg_session.proofs.Standings.{order_standing}
use Rattle.dpkg_session.proofs.session.Session.checkpoint.Goals as goal

pub merge_to_disk-result-requires-clause-kept : goal.merge_to_disk-result-requires-clause-kept
merge_to_disk-result-requires-clause-kept g c = λ h. (order_standing (held_by c.args.self.now.administration c.args.self.now.diversions) _ (c.args.self.now.ready c.requires h)).kept

pub invariant_of-self : goal.invariant_of-self
invariant_of-self g c =
    let merging = c.merge_to_disk-result.ensures in
    let was = c.args.self.now.opened c.requires in
    record {
      ready = λ open_still h.
          let ok = sym c.is_err-self.ensures.value ∙ open_still in
          standing_left (held_by c.args.self.now.administration c.args.self.now.diversions) c.merge_to_disk-result.new.database _ _
          merging.records (where_open _ _ ok merging.number) (where_open _ _ ok (merging.merged h)) (c.args.self.now.ready c.requires (merging.silent.honest h));
      opened = λ open_still. record { noting = where_open _ _ (sym c.is_err-self.ensures.value ∙ open_still) merging.opened; listing = was.listing; kept = was.kept };
      indexed = λ open_still. packages_kept _ _ (subst (λ rs. IfSome c.args.self.now.administration.packages (ArePackagesOf rs)) (sym merging.records) (packages_known _ _ (c.args.self.now.indexed c.requires)));
      writable = λ open_still. c.args.self.now.writable c.requires;
    }

pub returns-clause-loss : goal.returns-clause-loss
returns-clause-loss g c = loses_like _ _ _ (g.H.Host.settled c.merge_to_disk-result.new.host) c.merge_to_disk-result.ensures.any_moment

pub returns-clause-stands : goal.returns-clause-stands
returns-clause-stands g c = stands_behind _ _ _ _ c.merge_to_disk-result.ensures.any_moment c.merge_to_disk-result.ensures.answered
