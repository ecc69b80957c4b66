use Rattle.std.proofs.Common.{◌∙◌, List, map, sym, ap}
use Rattle.host_core.specs.Events.{follow_all}
use Rattle.host_overlay.specs.Doings.{event_of}
use Rattle.host_overlay.specs.Standings.{Changed, overlaid}
use Rattle.host_overlay.specs.declared.done.Done.{Done}
use Rattle.host_overlay.proofs.layer.Layer.new.Goals as goal

pub invariant_of-result : goal.invariant_of-result
invariant_of-result c = record { makes = λ w. ap (λ (m : Changed). overlaid m w) c.new.ensures ∙ ap (λ (es : List Done). follow_all (map event_of es) w) (sym c.new-2.ensures.items) }
