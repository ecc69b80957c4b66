-- Where nothing is a conffile.
use Rattle.std.proofs.Common.{◌≡◌, List, [], ◌∷◌, refl}
use Rattle.host_core.specs.Paths.{Path}
use Rattle.host_core.specs.declared.node.Node.{Node}
use Rattle.file_check.specs.Ships.{FitsConffiles}

pub fits_none : (shipped : List (Path × Node)) → FitsConffiles [] shipped
fits_none [] = tt
fits_none (s ∷ ss) = (λ no_file. refl, fits_none ss)
