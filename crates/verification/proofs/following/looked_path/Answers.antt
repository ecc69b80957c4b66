use Rattle.std.proofs.Common.{◌≡◌, ◌++◌, ◌<◌, ◌+◌, ◌∙◌, true, refl, sym, subst, ap, arith, codes, length}
use Rattle.host_core.specs.Paths.{Path, is_path}
use Rattle.host_core.proofs.PathLaws.{child_is_path}
use Rattle.host_core.proofs.ShipNames.{ships}
use Rattle.verification.proofs.following.looked_path.Goals as goal

pub with_suffix-requires : goal.with_suffix-requires
with_suffix-requires c =
    let path : Path = c.args.file.now.path in
    let is = ships path c.law.ensures in
    let few = is.few in
    subst (λ (p : Path). is_path (p ++ codes "/x") ≡ true) (sym c.in_ok-path.ensures) (child_is_path path (codes "x") is.path refl refl (omega (arith, few)))
