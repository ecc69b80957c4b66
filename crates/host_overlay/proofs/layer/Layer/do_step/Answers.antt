use Rattle.std.proofs.Common.{List, map, refl, ap}
use Rattle.std.specs.BTreeMap.{get_by_text}
use Rattle.host_core.specs.Events.{Did}
use Rattle.host_overlay.specs.Doings.{event_of, step_of}
use Rattle.host_overlay.specs.declared.done.Done.{Done}
use Rattle.host_overlay.specs.declared.done.Done.TheVariants as done
use Rattle.host_overlay.proofs.Telling.{makes_more, makes_same, told_last}
use Rattle.host_overlay.proofs.layer.Layer.do_step.Goals as goal

pub invariant_of-self-in-Break-branch-2 : goal.invariant_of-self-in-Break-branch-2
invariant_of-self-in-Break-branch-2 c = record {
  makes = makes_same (get_by_text c.args.self.now.changes.map) (get_by_text c.perform.new.changes.map) (map event_of c.args.self.now.events.items) (map event_of c.reserve.new.self.items)
      c.args.self.now.makes c.in_err-perform.ensures.err.world (ap (λ (l : List Done). map event_of l) c.reserve.ensures.items);
}

pub invariant_of-self-2 : goal.invariant_of-self-2
invariant_of-self-2 c =
    let items = c.args.self.now.events.items in
    let s = Did (step_of c.args.step) in
    record {
      makes = makes_more (get_by_text c.args.self.now.changes.map) (get_by_text c.perform.new.changes.map) (map event_of items) (map event_of c.push_reserved.new.self.items) s
          c.args.self.now.makes c.in_ok-perform.ensures.ok.world (told_last s (done.Did c.args.step) items c.reserve.new.self.items c.push_reserved.new.self.items refl c.reserve.ensures.items c.push_reserved.ensures.items);
    }
