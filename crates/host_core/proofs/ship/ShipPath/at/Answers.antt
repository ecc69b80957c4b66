use Rattle.std.proofs.Common.{rules, ◌≡◌, string_bytes, ap, ◌∙◌}
use Rattle.host_core.specs.Paths.{is_path}
use Rattle.host_core.proofs.ShipNames.{ships}
use Rattle.host_core.proofs.ship.ShipPath.at.Goals as goal

pub new-requires : goal.new-requires
new-requires c =
    let same : string_bytes c.in_ok-clone.field-0 ≡ string_bytes c.self.inside.text = search rules in
    ap is_path same ∙ (ships (string_bytes c.self.inside.text) c.self.invariant).path
