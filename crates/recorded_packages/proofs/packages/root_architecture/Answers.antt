use Rattle.std.proofs.Common.{◌∙◌, ap}
use Rattle.recorded_packages.specs.Packages.{first_architecture}
use Rattle.recorded_packages.proofs.Named.{first_is_root}
use Rattle.recorded_packages.proofs.packages.root_architecture.Goals as goal

pub returns : goal.returns
returns c = λ records are. c.first_architecture.ensures ∙ ap first_architecture c.as_slice.ensures.list ∙ first_is_root records c.args.packages.now are
