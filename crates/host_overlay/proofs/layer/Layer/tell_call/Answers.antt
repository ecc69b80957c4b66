use Rattle.std.proofs.Common.{[], map, refl}
use Rattle.std.specs.BTreeMap.{get_by_text}
use Rattle.host_core.specs.Events.{Finished}
use Rattle.host_core.specs.Host.{ran_of}
use Rattle.host_overlay.specs.Doings.{event_of}
use Rattle.host_overlay.specs.declared.done.Done.TheVariants as done
use Rattle.host_overlay.proofs.Telling.{makes_more, told_last}
use Rattle.host_overlay.proofs.layer.Layer.tell_call.Goals as goal

pub invariant_of-self : goal.invariant_of-self
invariant_of-self c =
    let m = get_by_text c.args.self.now.changes.map in
    let items = c.args.self.now.events.items in
    let e = Finished (ran_of c.args.call c.args.outcome []) in
    record {
      makes = makes_more m m (map event_of items) (map event_of c.push_reserved.new.self.items) e c.args.self.now.makes (λ w. refl)
          (told_last e (done.Finished (record { call = c.args.call; outcome = c.args.outcome })) items items c.push_reserved.new.self.items refl refl c.push_reserved.ensures.items);
    }
