use Rattle.unit_reports.specs.Held.{held_by}
use Rattle.dpkg_session.proofs.Foreseen.{standing_written, stands_written}
use Rattle.dpkg_session.proofs.Outlasting.{loses_like}
use Rattle.dpkg_session.proofs.Standings.{order_standing}
use Rattle.dpkg_session.proofs.session.Session.foresee_triggers.Goals as goal

pub write_ahead-requires : goal.write_ahead-requires
write_ahead-requires g c = record {
  home = λ h. (order_standing (held_by c.args.self.now.administration c.args.self.now.diversions) _ (c.args.self.now.ready c.if-self.false h)).kept.unblocked.home;
}

pub invariant_of-self : goal.invariant_of-self
invariant_of-self g c = record {
  ready = λ open_still. standing_written _ (held_by c.args.self.now.administration c.args.self.now.diversions) _ _ c.write_ahead.ensures.any_moment (c.args.self.now.ready c.if-self.false);
  opened = λ open_still. c.args.self.now.opened c.if-self.false;
  indexed = λ open_still. c.args.self.now.indexed c.if-self.false;
  writable = λ open_still. c.args.self.now.writable c.if-self.false;
}

pub returns-clause-loss : goal.returns-clause-loss
returns-clause-loss g c = λ open_before. loses_like _ _ _ (g.H.Host.settled c.write_ahead.new.host) c.write_ahead.ensures.any_moment

pub returns-clause-stands : goal.returns-clause-stands
returns-clause-stands g c = λ open_before. stands_written _ _ _ _ c.write_ahead.ensures.any_moment c.write_ahead.ensures.on_disk
