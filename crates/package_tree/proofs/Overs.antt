-- The first file of `DEBIAN` that is too large.
use Rattle.std.proofs.Common.{◌≡◌, ◌<◌, true, ℕ, zero, suc, List, [], ◌∷◌, ◌++◌, get_or, take, drop, length, Option, Some, None, refl, sym, ap, subst, ◌∙◌, inl, inr, arith}
use Rattle.std.specs.Prelude.{Contains}
use Rattle.std.specs.List.{AllByRecursion}
use Rattle.std.proofs.Math.Seq.{split_at}
use Rattle.std.proofs.lemmas.List.{map-append}
use Rattle.std.proofs.lemmas.List.Elements.{Contains-append_right}
use Rattle.host_core.specs.Paths.{Path}
use Rattle.host_core.specs.World.{World, kind_of}
use Rattle.host_core.specs.declared.node.Kind.TheVariants as kind
use Rattle.host_core.specs.declared.node.Node.{Node}
use Rattle.host_core.specs.declared.node.Node.TheVariants.{File, Dir, Link}
use Rattle.package_tree.specs.ControlLimit.{IsOver, IsOverFile, IsOverOther, IsFirstOverOther, IsOverTold, AreNoneOver, IsFirstOverAmong}
use Rattle.package_tree.specs.OtherFiles.{names_of, control_member, AreOthers}
use Rattle.package_tree.specs.OtherNames.{is_other_name}
use Rattle.package_tree.specs.Owners.{root_at}
use Rattle.package_tree.specs.Shipped.{AreInOrder, HasNoPath, IsFirstPath}
use Rattle.package_tree.specs.declared.other_file.OtherFile.{OtherFile}
use Rattle.package_tree.proofs.Firsts.{first_in_order}
use Rattle.package_tree.proofs.Ordered.{none_in, first_or_later}

-- the first is at this index
pub over_at : (others : List OtherFile) (i : ℕ) (other : OtherFile) → i < length others → other ≡ get_or others i other → AreNoneOver (take i others) → IsOverFile other.node → IsFirstOverAmong others other
over_at others i other lt is none over = record {
  front = take i others;
  rest = drop (suc i) others;
  is = split_at others i other lt ∙ ap (λ (o : OtherFile). take i others ++ o ∷ drop (suc i) others) (sym is);
  over = over;
  first = none;
}

-- what is given to root has the same bytes
over_given : (there : Option Node) → IsOver there → IsOver (root_at there)
over_given None over = over
over_given (Some (File bytes access)) over = over
over_given (Some (Dir access)) over = over
over_given (Some (Link target)) over = over

given_over : (there : Option Node) → IsOver (root_at there) → IsOver there
given_over None over = over
given_over (Some (File bytes access)) over = over
given_over (Some (Dir access)) over = over
given_over (Some (Link target)) over = over

over_kind : (there : Option Node) → IsOver there → kind_of there ≡ Some kind.File
over_kind None over = absurd over
over_kind (Some (File bytes access)) over = refl
over_kind (Some (Dir access)) over = absurd over
over_kind (Some (Link target)) over = absurd over

abbrev StandsAs : World → OtherFile → Type 0
StandsAs w other = root_at (w (control_member other.name)) ≡ Some other.node

front_of : (w : World) (front rest : List OtherFile) → AllByRecursion (StandsAs w) (front ++ rest) → AllByRecursion (StandsAs w) front
front_of w [] rest all = tt
front_of w (o ∷ front) rest all = (all.0, front_of w front rest all.1)

here_of : (w : World) (front rest : List OtherFile) (other : OtherFile) → AllByRecursion (StandsAs w) (front ++ other ∷ rest) → StandsAs w other
here_of w [] rest other all = all.0
here_of w (o ∷ front) rest other all = here_of w front rest other all.1

-- none of some files is too large, so none that stands by their names is
none_over : (w : World) (others : List OtherFile) → AllByRecursion (StandsAs w) others → AreNoneOver others → (name : List ℕ) → Contains (names_of others) name → IsOver (w (control_member name)) → ⊥
none_over w [] all none name has over = none_in name has
none_over w (o ∷ others) all none name has over = elim (first_or_later o.name (names_of others) name has) [
  | inl same ↦ none.0 (subst IsOver all.0 (over_given _ (subst (λ (n : List ℕ). IsOver (w (control_member n))) (sym same) over)))
  | inr later ↦ none_over w others all.1 none.1 name later over
]

pub none_over_other : (w : World) (others : List OtherFile) → AreOthers w others → AreNoneOver others → HasNoPath (IsOverOther w)
none_over_other w others are none name is = none_over w others are.nodes none name (are.whole name is.0 (over_kind _ is.1)) is.1

first_over : (w : World) (others : List OtherFile) (other : OtherFile) → AreOthers w others → IsFirstOverAmong others other → IsFirstPath (IsOverOther w) other.name
first_over w others other are first =
    let nodes = subst (AllByRecursion (StandsAs w)) first.is are.nodes in
    let names : names_of others ≡ names_of first.front ++ other.name ∷ names_of first.rest = ap names_of first.is ∙ map-append (λ (o : OtherFile). o.name) first.front (other ∷ first.rest) in
    first_in_order (IsOverOther w) (names_of first.front) (names_of first.rest) other.name (subst AreInOrder names are.order)
    (λ q is. subst (λ (l : List Path). Contains l q) names (are.whole q is.0 (over_kind _ is.1)))
    (other.named, given_over _ (subst IsOver (sym (here_of w first.front first.rest other nodes)) first.over))
    (λ q ahead is. none_over w first.front (front_of w first.front (other ∷ first.rest) nodes) first.first q ahead is.1)

pub over_told : (w : World) (others : List OtherFile) (path : Path) → AreOthers w others → IsOverTold others (Some path) → IsFirstOverOther w path
over_told w others path are told = (told.0.name, told.1, first_over w others told.0 are told.2)
