use Rattle.std.proofs.Common.{◌≡◌, ◌∙◌, ap}
use Rattle.std.specs.BTreeMap.{get_by_text}
use Rattle.host_core.specs.World.{Lower}
use Rattle.host_overlay.specs.Standings.{changed, held_at, lowered_standing, Becomes}
use Rattle.host_overlay.specs.declared.standing.Standing.{Standing}
use Rattle.host_overlay.proofs.Overlaying.{ok_so, becomes_by, becomes_lower}
use Rattle.host_overlay.proofs.step.lower.Goals as goal

pub returns-clause-ok : goal.returns-clause-ok
returns-clause-ok c =
    let m = get_by_text c.args.changes.now.map in
    let x = get_by_text c.set.new.self.map in
    let p = c.args.path.now in
    ok_so c.set.result (x ≡ changed m p c.lowered.result) (Becomes (Lower p) m x)
    (λ is. becomes_by (Lower p) m (changed m p (lowered_standing (held_at m p))) x
    (is ∙ ap (λ (s : Standing). changed m p s) (c.lowered.ensures ∙ ap lowered_standing c.in_ok-standing.ensures)) (becomes_lower m p)) c.set.ensures.ok
