use Rattle.std.proofs.Common.{List, ◌+◌, map, take, ap, ap₂, ◌∙◌, Option}
use Rattle.host_core.specs.Events.{Event}
use Rattle.host_core.specs.Unsynced.{unsynced}
use Rattle.host_core.specs.World.{World}
use Rattle.host_core.specs.declared.node.Node.{Node}
use Rattle.host_memory.specs.Doings.{event_of}
use Rattle.host_memory.specs.Losing.{left_of}
use Rattle.host_memory.specs.declared.done.Done.{Done}
use Rattle.host_memory.proofs.Lost.{first_events}
use Rattle.host_memory.proofs.history.History.left_by_loss.Goals as goal

pub returns : goal.returns
returns c =
    let h = c.args.self.now in
    let count = c.survivors-survivors.result.count in
    record {
      count = count;
      survives = c.survivors-survivors.ensures.survives;
      left = λ q. c.in_ok-fill_unsynced.ensures q ∙ ap₂ (λ (es : List Event) (n : Option Node). left_of c.args.fill (unsynced es q) n)
          (ap (λ (l : List Done). map event_of (take (h.flushed + count) l)) c.deref.ensures.value ∙ first_events h count)
          (ap (λ (w : World). w q) (c.in_ok-files.ensures ∙ c.survivors-survivors.ensures.files));
    }
