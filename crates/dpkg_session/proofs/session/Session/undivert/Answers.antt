use Rattle.std.proofs.Common.{sym, ◌∙◌}
use Rattle.diversions.proofs.Turning.{goes_here}
use Rattle.dpkg_session.proofs.Outlasting.{answered_stands, loses_like}
use Rattle.dpkg_session.proofs.TableUnits.{flushed_answered}
use Rattle.dpkg_session.proofs.Told.{tells_silent}
use Rattle.dpkg_session.proofs.Retabled.{standing_undiverted}
use Rattle.dpkg_session.proofs.session.Session.undivert.Goals as goal

pub undivert_followed-report-requires-clause-kept : goal.undivert_followed-report-requires-clause-kept
undivert_followed-report-requires-clause-kept g c = (c.args.self.now.opened c.if-self.false).kept

pub invariant_of-self : goal.invariant_of-self
invariant_of-self g c =
    let report = c.undivert_followed-report.ensures in
    record {
      ready = λ open_still h.
          let one = report.whole (sym c.is_some-self.ensures ∙ open_still) in
          standing_undiverted c.args.self.now.administration.database c.args.self.now.administration.lists.lists _ _ _ one.0 _ _ one.2 h (c.args.self.now.ready c.if-self.false (report.silent.honest h));
      opened = λ open_still.
          let was = c.args.self.now.opened c.if-self.false in
          record { noting = was.noting; listing = was.listing; kept = report.kept (sym c.is_some-self.ensures ∙ open_still) };
      indexed = λ open_still. c.args.self.now.indexed c.if-self.false;
      writable = λ open_still. report.writable (sym c.is_some-self.ensures ∙ open_still);
    }

pub returns-clause-told : goal.returns-clause-told
returns-clause-told g c = tells_silent _ _ _ c.undivert_followed-report.ensures.silent c.undivert_followed-report.ensures.calls

pub returns-clause-loss : goal.returns-clause-loss
returns-clause-loss g c = λ open_before. loses_like _ _ _ (g.H.Host.settled c.undivert_followed-report.new.host) c.undivert_followed-report.ensures.any_moment

pub returns-clause-stands : goal.returns-clause-stands
returns-clause-stands g c = λ open_before whole. answered_stands _ _ _ c.undivert_followed-report.ensures.any_moment (let one = c.undivert_followed-report.ensures.whole whole in flushed_answered one.2.is.answer _ _ one.2.is.flushed)

pub returns-clause-answered : goal.returns-clause-answered
returns-clause-answered g c = λ open_before whole. let one = c.undivert_followed-report.ensures.whole whole in flushed_answered one.2.is.answer _ _ one.2.is.flushed

pub returns-then-self-clause-turns : goal.returns-then-self-clause-turns
returns-then-self-clause-turns g c = goes_here _
