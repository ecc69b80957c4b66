use Rattle.std.proofs.Common.{inl, refl}
use Rattle.host_core.specs.declared.fault.HostFault.TheVariants.{NoMemory}
use Rattle.dpkg_session.proofs.Barriers.{opens_stopped}
use Rattle.dpkg_session.proofs.Standings.{standing_opened}
use Rattle.dpkg_session.proofs.Outlasting.{loses_like}
use Rattle.dpkg_session.proofs.KeptPackages.{packages_kept}
use Rattle.dpkg_session.proofs.session.Session.open.Goals as goal

pub invariant_of-result : goal.invariant_of-result
invariant_of-result g c = record {
  ready = λ open_still h. standing_opened c.in-Ok.field-0.database c.in-Ok.field-0.lists c.in-Ok.field-0.diversions _ c.in-Ok.ensures.number (c.in-Ok.ensures.opened h);
  opened = λ open_still. record { noting = c.in-Ok.ensures.noting; listing = c.in-Ok.ensures.listing; kept = c.in-Ok-places.ensures };
  indexed = λ open_still. packages_kept _ _ tt;
  writable = λ open_still. c.in-Ok.ensures.writable;
}

pub returns-in-Ok-places-clause-loss : goal.returns-in-Ok-places-clause-loss
returns-in-Ok-places-clause-loss g c = loses_like _ _ _ (g.H.Host.settled c.open_to_disk.new.host) c.open_to_disk.ensures.any_moment

pub returns-in-Err-places-clause-loss_refused : goal.returns-in-Err-places-clause-loss_refused
returns-in-Err-places-clause-loss_refused g c = loses_like _ _ _ (g.H.Host.settled c.open_to_disk.new.host) c.open_to_disk.ensures.any_moment

pub returns-in-Err-clause-loss_refused : goal.returns-in-Err-clause-loss_refused
returns-in-Err-clause-loss_refused g c = loses_like _ _ _ (g.H.Host.settled c.open_to_disk.new.host) c.open_to_disk.ensures.any_moment

pub returns-in-Err-places-clause-refused : goal.returns-in-Err-places-clause-refused
returns-in-Err-places-clause-refused g c = λ h. opens_stopped NoMemory _ _ _ _ refl refl (c.in-Ok.ensures.opens h)

pub returns-in-Err-places-clause-brought_refused : goal.returns-in-Err-places-clause-brought_refused
returns-in-Err-places-clause-brought_refused g c = λ h stopped. inl (c.in-Ok.ensures.brought h stopped)
