use Rattle.std.proofs.Common.{map}
use Rattle.std.specs.BTreeMap.{get_by_text}
use Rattle.host_core.specs.Unsynced.{unsynced}
use Rattle.host_memory.specs.Doings.{event_of}
use Rattle.host_memory.proofs.Filling.{fill_more, fill_all}
use Rattle.host_memory.proofs.unsynced.fill_unsynced.Goals as goal

pub loop-done-preserved : goal.loop-done-preserved
loop-done-preserved c = fill_more c.args.fill c.args.events.now c.loop-done.done-index c.done-item.result (get_by_text c.args.files.now.nodes) (get_by_text c.loop-done.files.nodes) (get_by_text c.fill_target.new.files.nodes) (unsynced (map event_of c.args.events.now))
    c.loop-done-test.true c.done-item.is c.loop-done.invariant c.in_ok-fill_target.ensures

pub returns : goal.returns
returns c = fill_all c.args.fill c.args.events.now c.loop-done.done-index (get_by_text c.args.files.now.nodes) (get_by_text c.loop-done.files.nodes) c.loop-done-test.false c.loop-done.invariant
