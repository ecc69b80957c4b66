use Rattle.std.proofs.Common.{◌≡◌, ◌&&◌, Bool, true, Some, map, rules}
use Rattle.std.specs.BTreeMap.{get_by_text}
use Rattle.host_core.specs.Paths.{Path}
use Rattle.host_core.specs.Unsynced.{unsynced}
use Rattle.host_core.specs.World.{World, put}
use Rattle.host_memory.specs.Doings.{event_of}
use Rattle.host_memory.specs.Losing.{filled, left_of}
use Rattle.host_memory.specs.Traces.{event_target, is_target}
use Rattle.host_memory.proofs.Filling.{fill_put, on_ok}
use Rattle.host_memory.proofs.unsynced.fill_target.Goals as goal

pub returns : goal.returns
returns c =
    let w : World = get_by_text c.args.files.now.nodes in
    let v : World = get_by_text c.fill_at.new.files.nodes in
    let u : Path → Bool = unsynced (map event_of c.args.events.now) in
    let e = event_of c.args.done.now in
    let p = c.in-Some.path.now in
    let at : event_target e ≡ Some p = search rules in
    let lost : u p ≡ true = search rules in
    on_ok c.fill_at.result (v ≡ put w p (filled c.args.fill (w p))) ((q : Path) → v q ≡ left_of c.args.fill (is_target e q && u q) (w q)) (fill_put c.args.fill w u e v p at lost) c.fill_at.ensures
