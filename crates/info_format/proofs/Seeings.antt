-- Names are seen as they would be brought to format 0.
use Rattle.std.proofs.Common.{◌≡◌, Bool, true, false, None, inl, inr, refl, sym, ap, subst, ◌∙◌}
use Rattle.std.specs.Prelude.{◌&&◌, IsSome, is_some, not}
use Rattle.host_core.specs.Paths.{Path}
use Rattle.host_core.specs.World.{World, HardLink, HasParent, IsLoose, Take, put}
use Rattle.host_core.proofs.Nodes.{none_stands}
use Rattle.host_core.proofs.WorldLaws.{put_same}
use Rattle.host_overlay.specs.Seen.{AreSources, seen, seen_by}
use Rattle.host_overlay.specs.Standings.{Becomes}
use Rattle.host_overlay.specs.declared.seen_names.SeenNames.{SeenNames}
use Rattle.host_overlay.proofs.SeenThrough.{sources_then}
use Rattle.info_format.specs.Seeing.{HasNoFirst, HasSecond}
use Rattle.info_format.specs.Tests.{is_loose}
use Rattle.info_format.proofs.Steps.{beside, lacking, not_beside, not_lacking}

-- what a step makes of what is seen

second_by : (a b : SeenNames) (long short : Path) (w : World) → Becomes (HardLink long short) (seen_by a) (seen_by b) → IsLoose (seen a w long) → seen a w short ≡ None → HasSecond long short (seen a w) (seen b w)
second_by a b long short w becomes loose none = record {
  moves = inr (loose, none, becomes.world w);
  all = λ _. subst IsSome (sym (ap (λ (v : World). v short) (becomes.world w) ∙ put_same (seen a w) short short (seen a w long) refl)) loose.0;
}

pub second_given : (lacks : Bool) (a b : SeenNames) (long short : Path) (w : World) → lacks ≡ true → lacks ≡ (is_loose (seen a w long) && not (is_some (seen a w short))) → Becomes (HardLink long short) (seen_by a) (seen_by b) → HasSecond long short (seen a w) (seen b w)
second_given lacks a b long short w is told becomes = (let both = lacking lacks (seen a w) (seen a w) long short is told refl in second_by a b long short w becomes both.0 both.1)

pub second_sources : (lacks : Bool) (a b : SeenNames) (long short : Path) (w : World) → lacks ≡ true → lacks ≡ (is_loose (seen a w long) && not (is_some (seen a w short))) → HasParent (seen a w) short → Becomes (HardLink long short) (seen_by a) (seen_by b) → AreSources a w → AreSources b w
second_sources lacks a b long short w is told parent becomes = (let both = lacking lacks (seen a w) (seen a w) long short is told refl in sources_then (HardLink long short) a b w becomes (both.0, both.1, parent))

pub second_there : (lacks : Bool) (a : SeenNames) (long short : Path) (w : World) → lacks ≡ false → lacks ≡ (is_loose (seen a w long) && not (is_some (seen a w short))) → HasSecond long short (seen a w) (seen a w)
second_there lacks a long short w is told = record { moves = inl refl; all = not_lacking lacks (seen a w) (seen a w) long short is told refl }

pub first_taken : (both : Bool) (a b : SeenNames) (long short : Path) (w : World) → both ≡ true → both ≡ (is_loose (seen a w long) && is_loose (seen a w short)) → Becomes (Take long) (seen_by a) (seen_by b) → HasNoFirst long short (seen a w) (seen b w)
first_taken both a b long short w is told becomes =
    let are = beside both (seen a w) (seen a w) long short is told refl in
    record {
      moves = inr (are.1, are.0, becomes.world w);
      all = λ loose there. none_stands (seen b w long) (ap (λ (v : World). v long) (becomes.world w) ∙ put_same (seen a w) long long None refl) there.0;
    }

pub first_sources : (both : Bool) (a b : SeenNames) (long short : Path) (w : World) → both ≡ true → both ≡ (is_loose (seen a w long) && is_loose (seen a w short)) → Becomes (Take long) (seen_by a) (seen_by b) → AreSources a w → AreSources b w
first_sources both a b long short w is told becomes = (let are = beside both (seen a w) (seen a w) long short is told refl in sources_then (Take long) a b w becomes are.0)

pub first_alone : (both : Bool) (a : SeenNames) (long short : Path) (w : World) → both ≡ false → both ≡ (is_loose (seen a w long) && is_loose (seen a w short)) → HasNoFirst long short (seen a w) (seen a w)
first_alone both a long short w is told = record { moves = inl refl; all = not_beside both (seen a w) (seen a w) long short is told refl }
