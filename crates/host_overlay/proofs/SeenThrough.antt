-- Names through which a world is seen.
use Rattle.std.proofs.Common.{◌≡◌, Option, refl, sym, ap, subst}
use Rattle.std.specs.Prelude.{None}
use Rattle.host_core.specs.Paths.{Path}
use Rattle.host_core.specs.Tree.{IsTree}
use Rattle.host_core.specs.World.{World, Step, after}
use Rattle.host_overlay.specs.Able.{CanDo}
use Rattle.host_overlay.specs.Seen.{AreSources, seen, seen_by}
use Rattle.host_overlay.specs.Standings.{AreThere, Becomes, Changed, overlaid}
use Rattle.host_overlay.specs.declared.seen_names.SeenNames.{SeenNames}
use Rattle.host_overlay.proofs.Steps.{tree_step}

-- through none it is seen as it stands
pub seen_none : (names : SeenNames) (w : World) → seen_by names ≡ (λ _. None) → seen names w ≡ w
seen_none names w none = ap (λ (m : Changed). overlaid m w) none

pub sources_none : (names : SeenNames) (w : World) → seen_by names ≡ (λ _. None) → IsTree w → AreSources names w
sources_none names w none tree = record {
  there = subst (λ (m : Changed). AreThere m w) (sym none) (λ q. refl);
  tree = subst (λ (m : Changed). IsTree (overlaid m w)) (sym none) tree;
}

-- one step more
pub sources_then : (s : Step) (a b : SeenNames) (w : World) → Becomes s (seen_by a) (seen_by b) → CanDo s (seen a w) → AreSources a w → AreSources b w
sources_then s a b w becomes can sources = record {
  there = becomes.there w can sources.there;
  tree = subst IsTree (sym (becomes.world w)) (tree_step s (seen a w) sources.tree can);
}
