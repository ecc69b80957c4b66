-- What the kind of a node tells of it.
use Rattle.std.proofs.Common.{◌≡◌, ℕ, Option, Some, None, is_some, refl, ap, arith}
use Rattle.host_core.specs.World.{kind_of}
use Rattle.host_core.specs.declared.node.Node.{Node}
use Rattle.host_core.specs.declared.node.Node.TheVariants.{File, Dir, Link}
use Rattle.administration.specs.Directories.{standing_of, IsStanding}

abbrev code : Option Node → ℕ
code None = 0
code (Some (File b m)) = 1
code (Some (Dir m)) = 2
code (Some (Link t)) = 3

pub some_kind : (n : Option Node) → is_some (kind_of n) ≡ is_some n
some_kind None = refl
some_kind (Some (File b m)) = refl
some_kind (Some (Dir m)) = refl
some_kind (Some (Link t)) = refl

pub standing_kind : (n : Option Node) → IsStanding (standing_of (kind_of n)) n
standing_kind None = refl
standing_kind (Some (File b m)) = (refl, λ is. absurd (omega (arith, ap code is.1)))
standing_kind (Some (Dir m)) = (m, refl)
standing_kind (Some (Link t)) = (refl, λ is. absurd (omega (arith, ap code is.1)))
