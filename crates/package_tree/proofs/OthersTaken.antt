-- The files of `DEBIAN` that are stored are found one after another.
use Rattle.std.proofs.Common.{◌≡◌, ◌&&◌, Bool, true, false, ℕ, List, [], ◌∷◌, ◌++◌, Option, Some, None, codes, refl, sym, ap, subst, ◌∙◌, inl, inr}
use Rattle.std.specs.Prelude.{IsSome}
use Rattle.std.specs.List.{AllByRecursion, list_any}
use Rattle.std.specs.Str.{bytes_eq}
use Rattle.std.proofs.lemmas.Bool.{and_parts, false≢true, true≢false}
use Rattle.std.proofs.lemmas.List.{map-append}
use Rattle.std.proofs.lemmas.List.Folds.{Any-from_list_any, list_any-from_Any}
use Rattle.std.proofs.lemmas.Slice.Eq.{bytes_eq-Decides}
use Rattle.host_core.specs.Paths.{Path, is_path}
use Rattle.host_core.specs.Tree.{IsListing}
use Rattle.host_core.specs.World.{World, kind_of}
use Rattle.host_core.specs.declared.node.Kind.TheVariants.{File}
use Rattle.host_core.specs.declared.node.Node.{Node}
use Rattle.package_tree.specs.OtherNames.{is_other_name}
use Rattle.package_tree.specs.OtherFiles.{names_of, control_member, AreOthersOf, HasTakenOther}
use Rattle.package_tree.specs.Owners.{root_at}
use Rattle.package_tree.specs.declared.other_file.OtherFile.{OtherFile}
use Rattle.package_tree.proofs.Collected.{all_push}
use Rattle.package_tree.proofs.Drawn.{IsDrawn, IsTaken, HasKept, drawn_over, drawn_more, kept_over, kept_more}
use Rattle.package_tree.proofs.OtherPaths.{other_is_path, other_is_text, other_plain}

pub taken_file : (name : List ℕ) (stands : Option Node) (old new : List OtherFile) (other : OtherFile) → new ≡ old ++ other ∷ [] → other.name ≡ name → Some other.node ≡ root_at stands → HasTakenOther name stands old new
taken_file name stands old new other pushed named here = inr (other, named, here, pushed)

names_more : (old new : List OtherFile) (other : OtherFile) (name : List ℕ) → new ≡ old ++ other ∷ [] → other.name ≡ name → names_of new ≡ names_of old ++ name ∷ []
names_more old new other name pushed named = ap names_of pushed ∙ map-append (λ (o : OtherFile). o.name) old (other ∷ []) ∙ ap (λ (n : List ℕ). names_of old ++ n ∷ []) named

pub other_drawn : (all left rest : Path → Bool) (old new : List OtherFile) (name : List ℕ) (stands : Option Node) → IsDrawn all left (names_of old) → IsTaken name left rest → HasTakenOther name stands old new → IsDrawn all rest (names_of new)
other_drawn all left rest old new name stands is taken (inl passed) = subst (λ (l : List OtherFile). IsDrawn all rest (names_of l)) (sym passed.0) (drawn_over all left rest (names_of old) name is taken)
other_drawn all left rest old new name stands is taken (inr took) = subst (IsDrawn all rest) (sym (names_more old new took.0 name took.3 took.1)) (drawn_more all left rest (names_of old) name is taken)

pub other_nodes : (w : World) (old new : List OtherFile) (name : List ℕ) → AllByRecursion (λ other. root_at (w (control_member other.name)) ≡ Some other.node) old → HasTakenOther name (w (control_member name)) old new
    → AllByRecursion (λ other. root_at (w (control_member other.name)) ≡ Some other.node) new
other_nodes w old new name all (inl passed) = subst (AllByRecursion (λ other. root_at (w (control_member other.name)) ≡ Some other.node)) (sym passed.0) all
other_nodes w old new name all (inr took) =
    subst (AllByRecursion (λ other. root_at (w (control_member other.name)) ≡ Some other.node)) (sym took.3)
    (all_push (λ (other : OtherFile). root_at (w (control_member other.name)) ≡ Some other.node) old took.0 all (ap (λ (n : List ℕ). root_at (w (control_member n))) took.1 ∙ sym took.2))

pub other_kept : (w : World) (all left rest : Path → Bool) (old new : List OtherFile) (name : List ℕ) → HasKept (λ q. kind_of (w (control_member q)) ≡ Some File) all left (names_of old) → IsTaken name left rest → HasTakenOther name (w (control_member name)) old new
    → HasKept (λ q. kind_of (w (control_member q)) ≡ Some File) all rest (names_of new)
other_kept w all left rest old new name is taken (inl passed) =
    subst (λ (l : List OtherFile). HasKept (λ (q : Path). kind_of (w (control_member q)) ≡ Some File) all rest (names_of l)) (sym passed.0)
    (kept_over (λ (q : Path). kind_of (w (control_member q)) ≡ Some File) all left rest (names_of old) name is taken passed.1)
other_kept w all left rest old new name is taken (inr took) =
    subst (HasKept (λ (q : Path). kind_of (w (control_member q)) ≡ Some File) all rest) (sym (names_more old new took.0 name took.3 took.1))
    (kept_more (λ (q : Path). kind_of (w (control_member q)) ≡ Some File) all left rest (names_of old) name is taken)

-- what a listing of the directory gives

pub named_other : (names : List Path) (q : Path) → list_any (λ name. is_other_name q && bytes_eq q name) names ≡ true → is_other_name q ≡ true
named_other names q e =
    let any = Any-from_list_any (λ (name : Path). is_other_name q && bytes_eq q name) names e in
    (and_parts (is_other_name q) (bytes_eq q any.1) any.4).0

both : (a b : Bool) → a ≡ true → b ≡ true → a && b ≡ true
both true b first second = second
both false b first second = absurd (false≢true first)

pub listed_other : (w : World) (directory : Path) (names : List Path) (bad : Bool) (q : Path) → directory ≡ codes "/DEBIAN" → IsListing w directory names bad → is_other_name q ≡ true → IsSome (w (directory ++ 47 ∷ q))
    → list_any (λ name. is_other_name q && bytes_eq q name) names ≡ true
listed_other w directory names bad q at listing is some = elim (listing.whole q (other_plain q is) some) [
  | inl here ↦ list_any-from_Any (λ (name : Path). is_other_name q && bytes_eq q name) names (here.0, q, here.1, here.2, both (is_other_name q) (bytes_eq q q) is ((bytes_eq-Decides q q).1 refl))
  | inr odd ↦ absurd (elim odd.0 [
    | inl no_text ↦ no_text (other_is_text q is)
    | inr no_path ↦ true≢false (sym (other_is_path q is) ∙ ap (λ (d : Path). is_path (d ++ 47 ∷ q)) (sym at) ∙ no_path)
  ])
]

some_of_kind : (o : Option Node) → kind_of o ≡ Some File → IsSome o
some_of_kind None e = absurd (let none : None ≡ Some File = e in cc)
some_of_kind (Some n) e = refl

pub all_others : (w : World) (names : Path → Bool) (others : List OtherFile) → ((q : Path) → is_other_name q ≡ true → IsSome (w (codes "/DEBIAN" ++ 47 ∷ q)) → names q ≡ true) → AreOthersOf w names others → AreOthersOf w is_other_name others
all_others w names others listed are = record {
  nodes = are.nodes;
  whole = λ name is kind. are.whole name (listed name is (some_of_kind (w (control_member name)) kind)) kind;
  order = are.order;
}
