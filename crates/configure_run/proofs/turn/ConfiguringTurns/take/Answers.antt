use Rattle.std.proofs.Common.{◌≡◌, Bool, List, Some, sym, subst, ◌∙◌}
use Rattle.dependency_check.specs.Waiting.{Waiting}
use Rattle.unit_reports.specs.Held.{held_by}
use Rattle.configure_run.specs.Starting.{AreWaiting}
use Rattle.configure_run.specs.Taking.{left_of}
use Rattle.configure_run.proofs.Between.{fewer_of, moments_of, ready_of}
use Rattle.configure_run.proofs.turn.ConfiguringTurns.take.Goals as goal

pub behind-requires : goal.behind-requires
behind-requires g c = record { waits = (ready_of c.args.self.now c.args.administration.now c.in-Some.queue (sym c.replace.ensures.value ∙ c.in-Some.is) c.requires.between).waits }

pub take_next-taken-requires-clause-wait : goal.take_next-taken-requires-clause-wait
take_next-taken-requires-clause-wait g c =
    let ready = ready_of c.args.self.now c.args.administration.now c.in-Some.queue (sym c.replace.ensures.value ∙ c.in-Some.is) c.requires.between in
    subst (λ (q : Waiting). AreWaiting q c.args.administration.now.database.records) (sym c.in-Ok.ensures) ready.wait

pub returns-in-Ok-clause-any_moment : goal.returns-in-Ok-clause-any_moment
returns-in-Ok-clause-any_moment g c =
    let ready = ready_of c.args.self.now c.args.administration.now c.in-Some.queue (sym c.replace.ensures.value ∙ c.in-Some.is) c.requires.between in
    moments_of c.args.self.now.options c.args.self.now.silent.items _ c.in-Ok.queue (left_of c.args.self.now) c.in-Ok.queue (held_by c.args.administration.now c.args.self.now.diversions.now) (g.H.Host.state c.args.host.now) (g.H.Host.state c.take_next-taken.new.host)
    (ready.left ∙ sym c.in-Ok.ensures) c.as_slice.ensures.value c.take_next-taken.ensures.any_moment

pub returns-in-Ok-clause-fewer : goal.returns-in-Ok-clause-fewer
returns-in-Ok-clause-fewer g c =
    let ready = ready_of c.args.self.now c.args.administration.now c.in-Some.queue (sym c.replace.ensures.value ∙ c.in-Some.is) c.requires.between in
    fewer_of c.in-Ok.queue (left_of c.args.self.now) c.take_next-taken.new.taken c.take_next-taken.result (ready.left ∙ sym c.in-Ok.ensures) c.take_next-taken.ensures.found
