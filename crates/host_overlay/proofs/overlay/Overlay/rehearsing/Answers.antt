use Rattle.std.proofs.Common.{◌∙◌, List, refl, sym, subst, ap}
use Rattle.host_core.specs.Events.{Event, follow_all}
use Rattle.host_core.specs.Unsynced.{IsSettled}
use Rattle.host_core.specs.World.{World}
use Rattle.host_overlay.specs.Failing.{foretold}
use Rattle.host_overlay.specs.Layers.{changed_in, events_in}
use Rattle.host_overlay.specs.Standings.{Changed, AreThere}
use Rattle.host_overlay.proofs.Foreseen.{IsForeseen, foreseen_first, idle_foretold, settled_foretold}
use Rattle.host_overlay.proofs.Sound.{Sound, sound_new}
use Rattle.host_overlay.proofs.overlay.Overlay.rehearsing.Goals as goal

pub behind-requires : goal.behind-requires
behind-requires g c = λ w. ap (λ (l : List Event). follow_all l w) c.args.plan.foretold ∙ idle_foretold c.args.plan.failing.items w

pub returns-clause-state : goal.returns-clause-state
returns-clause-state g c =
    let s = g.H.Host.state c.args.below in
    let told = c.behind.ensures.events ∙ c.args.plan.foretold in
    ap (λ (x : g.row.H.Denot). record { honest = s.honest; world = follow_all (events_in c.behind.result) (g.H.Host.state x).world; events = events_in c.behind.result }) c.of-begun.ensures
    ∙ ap (λ (es : List Event). record { honest = s.honest; world = follow_all es s.world; events = es }) told ∙ ap (λ (w : World). record { honest = s.honest; world = w; events = foretold c.args.plan.failing.items }) (idle_foretold c.args.plan.failing.items s.world)

pub invariant_of-result : goal.invariant_of-result
invariant_of-result g c =
    let s = g.H.Host.state c.args.below in
    let es = events_in c.behind.result in
    let failing = c.args.plan.failing.items in
    let told = c.behind.ensures.events ∙ c.args.plan.foretold in
    let there = subst (λ (m : Changed). AreThere m s.world) (sym c.behind.ensures.changes) (λ q. refl) in
    let sound = subst (λ (x : g.row.H.Denot). Sound (g.H.Host.state x) s (changed_in c.behind.result) es) (sym c.of-begun.ensures)
    (sound_new s (changed_in c.behind.result) es (λ w. ap (λ (l : List Event). follow_all l w) told ∙ idle_foretold failing w) (g.H.Host.tree c.args.below) there (subst IsSettled (sym told) (settled_foretold failing))) in
    let seen = subst (λ (l : List Event). IsForeseen l failing) (sym told) (foreseen_first failing) in
    record { world = sound.world; failures = sound.failures; honest = sound.honest; tree = sound.tree; settled = sound.settled; there = sound.there; went = seen.went; rest = seen.rest }
