use Rattle.std.proofs.Common.{Ok, refl}
use Rattle.host_core.proofs.Counted.{counts_does, silent_does}
use Rattle.host_overlay.specs.Doings.{step_of}
use Rattle.host_overlay.specs.Layers.{changed_in, events_in}
use Rattle.host_overlay.proofs.Calls.{foreseen_done, seen_of, sound_of, sound_done, step_happens}
use Rattle.host_overlay.proofs.overlay.Overlay.make_step.Goals as goal

pub invariant_of-self : goal.invariant_of-self
invariant_of-self g c =
    let o = c.args.self.now in
    let s = sound_done c.do_step.result (step_of c.args.step) (g.H.Host.state o.begun.value) (g.H.Host.state o.below) (changed_in o.layer) (changed_in c.do_step.new.self) (events_in o.layer) (events_in c.do_step.new.self)
    (sound_of o) o.layer.makes c.requires.can c.requires.settled c.do_step.ensures.ok c.do_step.ensures.told c.do_step.ensures.err c.do_step.ensures.untold in
    let seen = foreseen_done c.do_step.result (step_of c.args.step) (events_in o.layer) (events_in c.do_step.new.self) o.failing.items c.do_step.ensures.told c.do_step.ensures.untold (seen_of o) in
    record { world = s.world; failures = s.failures; honest = s.honest; tree = s.tree; settled = s.settled; there = s.there; went = seen.went; rest = seen.rest }

pub returns : goal.returns
returns g c =
    let o = c.args.self.now in
    let does = step_happens (step_of c.args.step) (g.H.Host.state o.begun.value) (g.H.Host.state o.below) (events_in o.layer) (events_in c.do_step.new.self) c.in_ok-do_step.ensures.told in
    record { does = does; silent = silent_does (Ok (tt {0})) (step_of c.args.step) _ _ does; counts = counts_does (Ok (tt {0})) (step_of c.args.step) _ _ does; untouched = record { below = refl; begun = refl }; assumed = refl }
