use Rattle.std.proofs.Common.{◌∙◌, sym, ap}
use Rattle.host_overlay.specs.Standings.{Changed, overlaid}
use Rattle.host_overlay.proofs.layer.Layer.behind.Goals as goal

pub invariant_of-result : goal.invariant_of-result
invariant_of-result c = record { makes = λ w. ap (λ (m : Changed). overlaid m w) c.new.ensures ∙ sym (c.requires w) }
