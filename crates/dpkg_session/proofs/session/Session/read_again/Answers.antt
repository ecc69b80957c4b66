use Rattle.std.proofs.Common.{ap, subst, sym, ◌∙◌}
use Rattle.std.specs.Prelude.{IfSome}
use Rattle.held_administration.specs.declared.held.Administration.{Administration}
use Rattle.host_core.specs.World.{World}
use Rattle.unit_reports.specs.Held.{Held, held_by}
use Rattle.held_administration.specs.Open.{IsOpen}
use Rattle.dpkg_session.specs.Rereading.{HasReread, with_ways}
use Rattle.dpkg_session.specs.Standing.{IsStanding}
use Rattle.dpkg_session.proofs.Again.{known_same, read_none, standing_reread}
use Rattle.dpkg_session.proofs.session.Session.read_again.Goals as goal

pub read_before-unread-requires : goal.read_before-unread-requires
read_before-unread-requires g c = record { «open» = c.args.self.now.opened c.requires }

pub invariant_of-self : goal.invariant_of-self
invariant_of-self g c =
    let read = c.read_before-unread.ensures in
    let before = held_by c.args.self.now.administration c.args.self.now.diversions in
    let ways = c.read_before-unread.new.diversions.ways in
    let s = g.H.Host.state c.args.self.now.host in
    let m = g.H.Host.state c.read_before-unread.new.host in
    record {
      ready = λ open_still h.
          let is : HasReread before ways s m = read_none c.read_before-unread.result (HasReread before ways s m) (sym c.is_some-self.ensures ∙ open_still) read.read in
          subst (λ (x : Held). IsStanding x m.world) (sym read.held)
          (subst (IsStanding (with_ways before ways)) (sym is.reads.world) (standing_reread before ways s.world (is.found h) (c.args.self.now.ready c.requires (is.reads.honest h))));
      opened = λ open_still. read_none c.read_before-unread.result (IsOpen c.read_before-unread.new.diversions.ways c.read_before-unread.new.administration) (sym c.is_some-self.ensures ∙ open_still) read.open;
      indexed = λ open_still. known_same c.args.self.now.administration c.read_before-unread.new.administration read.same (c.args.self.now.indexed c.requires);
      writable = λ open_still. read.writable (c.args.self.now.writable c.requires);
    }
