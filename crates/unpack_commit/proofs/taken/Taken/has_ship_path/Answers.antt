use Rattle.std.proofs.Common.{ap, ◌∙◌}
use Rattle.std.specs.List.{list_any}
use Rattle.std.specs.Str.{bytes_eq}
use Rattle.host_core.specs.Paths.{Path}
use Rattle.unpack_commit.proofs.taken.Taken.has_ship_path.Goals as goal

pub returns : goal.returns
returns c = c.has.ensures ∙ ap (λ (p : Path). list_any (bytes_eq p) c.args.self.now) (c.as_str.ensures ∙ c.in_ok-place.ensures)
