use Rattle.unit_reports.specs.Held.{held_by}
use Rattle.dpkg_session.proofs.Looked.{standing_looked}
use Rattle.dpkg_session.proofs.session.Session.requested_triggers.Goals as goal

pub invariant_of-self : goal.invariant_of-self
invariant_of-self g c = record {
  ready = λ open_still. standing_looked (held_by c.args.self.now.administration c.args.self.now.diversions) _ _ c.read_requests.ensures.looks.reads (c.args.self.now.ready c.if-self.false);
  opened = λ open_still. c.args.self.now.opened c.if-self.false;
  indexed = λ open_still. c.args.self.now.indexed c.if-self.false;
  writable = λ open_still. c.args.self.now.writable c.if-self.false;
}
