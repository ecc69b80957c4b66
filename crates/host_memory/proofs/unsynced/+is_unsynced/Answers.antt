use Rattle.std.proofs.Common.{Bool, map, sym, ap, ◌∙◌}
use Rattle.host_core.specs.Paths.{Path}
use Rattle.host_core.specs.Unsynced.{unsynced}
use Rattle.host_memory.specs.Doings.{event_of}
use Rattle.host_memory.specs.Traces.{told_by}
use Rattle.host_memory.specs.declared.unsynced.Trace.{Trace}
use Rattle.host_memory.proofs.Filling.{unsynced_last}
use Rattle.host_memory.proofs.unsynced.+is_unsynced.Goals as goal

pub returns-in-Known : goal.returns-in-Known
returns-in-Known t c =
    let u : Path → Bool = unsynced (map event_of c.in-Some.before.now) in
    sym (ap (λ (x : Trace). told_by x u) c.in-Known.is) ∙ c.trace_event.ensures u
    ∙ sym (unsynced_last c.args.events.now c.in-Some.before.now c.in-Some.last.now c.in-Some.ensures.cases.0 c.args.path.now)

pub returns-in-From : goal.returns-in-From
returns-in-From t c =
    let u : Path → Bool = unsynced (map event_of c.in-Some.before.now) in
    c.is_unsynced.ensures ∙ sym (ap (λ (x : Trace). told_by x u) c.in-From.is) ∙ c.trace_event.ensures u
    ∙ sym (unsynced_last c.args.events.now c.in-Some.before.now c.in-Some.last.now c.in-Some.ensures.cases.0 c.args.path.now)
