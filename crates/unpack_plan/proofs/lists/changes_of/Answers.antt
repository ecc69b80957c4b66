use Rattle.std.proofs.Common.{◌↔◌, ◌⊎◌, ◌∙◌, Contains, List, subst}
use Rattle.host_core.specs.Paths.{Path}
use Rattle.package_tree.specs.ShipMap.{paths_of}
use Rattle.unpack_plan.proofs.lists.changes_of.Goals as goal

pub returns-clause-union : goal.returns-clause-union
returns-clause-union c =
    let union = c.in_ok-union.union in
    record {
      paths = c.in_ok-union.ensures.paths;
      are = λ q. subst (λ (l : List Path). Contains union q ↔ (Contains l q ⊎ Contains (paths_of c.args.files.now) q)) c.as_slice.ensures
          (subst (λ (l : List Path). Contains union q ↔ (Contains c.as_slice.result.now q ⊎ Contains l q)) (c.as_slice-2.ensures.value ∙ c.in_ok-shipped.ensures.paths) (c.in_ok-union.ensures.union q));
    }
