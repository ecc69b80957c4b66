use Rattle.unit_reports.specs.Held.{held_by}
use Rattle.dpkg_session.proofs.Foreseen.{standing_registered, stands_registered}
use Rattle.dpkg_session.proofs.Outlasting.{loses_like}
use Rattle.dpkg_session.proofs.session.Session.register_triggers.Goals as goal

pub invariant_of-self : goal.invariant_of-self
invariant_of-self g c = record {
  ready = λ open_still. standing_registered c.args.self.now.administration.database.records (held_by c.args.self.now.administration c.args.self.now.diversions) _ _ c.write_interests.ensures.any_moment (c.args.self.now.ready c.if-self.false);
  opened = λ open_still. c.args.self.now.opened c.if-self.false;
  indexed = λ open_still. c.args.self.now.indexed c.if-self.false;
  writable = λ open_still. c.args.self.now.writable c.if-self.false;
}

pub returns-clause-loss : goal.returns-clause-loss
returns-clause-loss g c = λ open_before. loses_like _ _ _ (g.H.Host.settled c.write_interests.new.host) c.write_interests.ensures.any_moment

pub returns-clause-stands : goal.returns-clause-stands
returns-clause-stands g c = λ open_before. stands_registered _ _ _ _ c.write_interests.ensures.any_moment c.write_interests.ensures.on_disk
