use Rattle.std.proofs.Common.{◌∙◌, ap}
use Rattle.std.specs.BTreeMap.{get_by_text}
use Rattle.std.proofs.Common.{◌≡◌}
use Rattle.host_core.specs.World.{HardLink}
use Rattle.host_overlay.specs.Standings.{changed, held_at, Becomes}
use Rattle.host_overlay.specs.declared.standing.Standing.{Standing}
use Rattle.host_overlay.proofs.Overlaying.{ok_so, becomes_by, becomes_link}
use Rattle.host_overlay.proofs.step.link_name.Goals as goal

pub returns-clause-ok : goal.returns-clause-ok
returns-clause-ok c =
    let m = get_by_text c.args.changes.now.map in
    let x = get_by_text c.set.new.self.map in
    let a = c.args.from.now in
    let b = c.args.to.now in
    ok_so c.set.result (x ≡ changed m b c.in_ok-standing.standing) (Becomes (HardLink a b) m x)
    (λ is. becomes_by (HardLink a b) m (changed m b (held_at m a)) x (is ∙ ap (λ (s : Standing). changed m b s) c.in_ok-standing.ensures) (becomes_link m a b)) c.set.ensures.ok
