use Rattle.std.proofs.Common.{◌≡◌, ◌∙◌, ap}
use Rattle.std.specs.BTreeMap.{get_by_text}
use Rattle.host_core.specs.World.{Take}
use Rattle.host_overlay.specs.Seen.{seen_by}
use Rattle.host_overlay.specs.Standings.{changed, gone, Becomes}
use Rattle.host_overlay.specs.declared.standing.Standing.{Standing}
use Rattle.host_overlay.proofs.Overlaying.{ok_so, becomes_by, becomes_take}
use Rattle.host_overlay.proofs.seen_names.SeenNames.take.Goals as goal

pub returns : goal.returns
returns c =
    let m = seen_by c.args.self.now in
    let x = get_by_text c.set.new.self.map in
    let p = c.args.path.now in
    ok_so c.set.result (x ≡ changed m p c.new.result) (Becomes (Take p) m x)
    (λ is. becomes_by (Take p) m (changed m p gone) x (is ∙ ap (λ (s : Standing). changed m p s) c.new.ensures) (becomes_take m p)) c.set.ensures.ok
