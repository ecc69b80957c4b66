use Rattle.std.proofs.Common.{rules, ◌≡◌, ◌++◌, string_bytes, ap, ◌∙◌}
use Rattle.host_core.specs.Paths.{is_path}
use Rattle.host_core.specs.Suffixes.{suffix_text}
use Rattle.host_core.proofs.ShipNames.{beside_is_path}
use Rattle.host_core.proofs.ship.ShipPath.beside.Goals as goal

pub new-requires : goal.new-requires
new-requires c =
    let same : string_bytes c.push_str.new.self ≡ string_bytes c.self.inside.text ++ suffix_text c.args.suffix = search rules in
    ap is_path same ∙ beside_is_path (string_bytes c.self.inside.text) c.args.suffix c.self.invariant
