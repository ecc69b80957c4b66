use Rattle.std.proofs.Common.{map, refl}
use Rattle.std.specs.BTreeMap.{get_by_text}
use Rattle.host_core.specs.Events.{Failed}
use Rattle.host_overlay.specs.Doings.{event_of}
use Rattle.host_overlay.specs.declared.done.Done.TheVariants as done
use Rattle.host_overlay.proofs.Telling.{makes_more, told_last}
use Rattle.host_overlay.proofs.layer.Layer.tell.Goals as goal

pub invariant_of-self : goal.invariant_of-self
invariant_of-self g c =
    let m = get_by_text c.args.self.now.changes.map in
    let items = c.args.self.now.events.items in
    record { makes = makes_more m m (map event_of items) (map event_of c.push_reserved.new.self.items) Failed c.args.self.now.makes (λ w. refl) (told_last Failed done.Failed items items c.push_reserved.new.self.items refl refl c.push_reserved.ensures.items) }
