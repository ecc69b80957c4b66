-- What keeps a tree.
use Rattle.std.proofs.Common.{◌≡◌, ◌≢◌, ◌⊎◌, ℕ, suc, List, [], ◌∷◌, ◌++◌, ◌+◌, length, Option, Some, None, refl, sym, ap, subst, ◌∙◌, inl, inr, arith, length-append}
use Rattle.std.specs.Prelude.{IsSome, Contains}
use Rattle.std.proofs.lemmas.Bool.{false≢true}
use Rattle.host_core.proofs.Nodes.{none_there, none_stands, directory_stands, directory_is}
use Rattle.host_core.proofs.Paths.{decide}
use Rattle.host_core.proofs.WorldLaws.{put_same, put_other}
use Rattle.host_core.specs.Paths.{Path}
use Rattle.host_core.specs.Tree.{IsTree, IsBelow}
use Rattle.host_core.specs.World.{World, Step, Write, Move, Take, MakeDir, RemoveDir, HardLink, MakeLink, Sync, Barrier, SyncAll, SyncRoot, Lower, after, put, moved, lowered, is_directory, IsDirectory, IsLoose, IsBare, HasParent}
use Rattle.host_core.specs.declared.node.Node.{Node}
use Rattle.host_core.specs.declared.node.Node.TheVariants.{File, Dir, Link}
use Rattle.host_overlay.specs.Able.{CanDo}
use Rattle.host_overlay.specs.Trees.{IsTreeByTest}

-- the path is a name in this directory
abbrev IsIn : Path → Path → Type 0
IsIn front path = (name : Path) × (path ≡ front ++ 47 ∷ name) × (Contains name 47 → ⊥)

-- what this leaves at a path leaves a tree
record Fits (w : World) (path : Path) (node : Option Node) : Type 0 where
  pub above : IsSome node → (top : Path) → IsBelow top path → IsDirectory (w top)
  pub below : (IsDirectory node → ⊥) → IsBare w path

pub test_from-IsTree : (w : World) → IsTree w → IsTreeByTest w
test_from-IsTree w tree top rest there = directory_is (w top) (tree top rest there)

directory_or_not : (o : Option Node) → IsDirectory o ⊎ (IsDirectory o → ⊥)
directory_or_not None = inr (λ d. false≢true (directory_is None d))
directory_or_not (Some (File b m)) = inr (λ d. false≢true (directory_is (Some (File b m)) d))
directory_or_not (Some (Dir m)) = inl (m, refl)
directory_or_not (Some (Link t)) = inr (λ d. false≢true (directory_is (Some (Link t)) d))

absent_not_directory : (o : Option Node) → o ≡ None → IsDirectory o → ⊥
absent_not_directory o is d = false≢true (sym (ap is_directory is) ∙ directory_is o d)

-- what goes on below a path isn't that path
below_differs : (top rest : Path) → top ++ 47 ∷ rest ≢ top
below_differs top rest e =
    let l : length (top ++ 47 ∷ rest) ≡ length top = ap length e in
    let m : length (top ++ 47 ∷ rest) ≡ length top + length (47 ∷ rest) = length-append top (47 ∷ rest) in
    omega (arith, l, m)

-- a slash in the last name of a path is none
stands_behind : (top rest : Path) → Contains (top ++ 47 ∷ rest) 47
stands_behind [] rest = (0, omega arith, refl)
stands_behind (x ∷ top) rest = let m = stands_behind top rest in (suc m.0, omega (arith, m.1), m.2)

-- a path that goes on to a last name does so from the directory itself, or from above it
in_directory : (top rest front name : Path) → (Contains name 47 → ⊥) → top ++ 47 ∷ rest ≡ front ++ 47 ∷ name → (top ≡ front) ⊎ IsBelow top front
in_directory [] rest [] name lacks e = inl refl
in_directory [] rest (y ∷ front) name lacks e =
    let h : 47 ≡ y = cc e in
    inr (front, ap (λ (b : ℕ). b ∷ front) (sym h))
in_directory (x ∷ top) rest [] name lacks e =
    let t : top ++ 47 ∷ rest ≡ name = cc e in
    absurd (lacks (subst (λ (l : List ℕ). Contains l 47) t (stands_behind top rest)))
in_directory (x ∷ top) rest (y ∷ front) name lacks e =
    let h : x ≡ y = cc e in
    let t : top ++ 47 ∷ rest ≡ front ++ 47 ∷ name = cc e in
    elim (in_directory top rest front name lacks t) [
      | inl same ↦ inl (ap (λ (b : ℕ). b ∷ top) h ∙ ap (λ (l : List ℕ). y ∷ l) same)
      | inr below ↦ inr (below.0, ap (λ (l : List ℕ). y ∷ l) below.1 ∙ ap (λ (b : ℕ). b ∷ (top ++ 47 ∷ below.0)) (sym h))
    ]

above_or_in : (top front path : Path) → IsIn front path → IsBelow top path → (top ≡ front) ⊎ IsBelow top front
above_or_in top front path in_front below = in_directory top below.0 front in_front.0 in_front.2 (sym below.1 ∙ in_front.1)

there_above : (w : World) (top path : Path) → IsTree w → IsBelow top path → IsSome (w path) → IsDirectory (w top)
there_above w top path tree below there = tree top below.0 (subst (λ (p : Path). IsSome (w p)) below.1 there)

-- below what isn't a directory nothing stands
bare_unless_directory : (w : World) (path : Path) → IsTree w → (IsDirectory (w path) → ⊥) → IsBare w path
bare_unless_directory w path tree no_dir rest = none_there (w (path ++ 47 ∷ rest)) (λ there. no_dir (tree path rest there))

-- what fits leaves a tree
IsTree-put : (w : World) (path : Path) (node : Option Node) → IsTree w → Fits w path node → IsTree (put w path node)
IsTree-put w path node tree fits top rest there = elim (decide (top ++ 47 ∷ rest) path) [
  | inl same ↦ (let above : IsDirectory (w top) = fits.above (subst (λ (o : Option Node). IsSome o) (put_same w path (top ++ 47 ∷ rest) node same) there) top (rest, sym same) in
      subst (λ (o : Option Node). IsDirectory o) (sym (put_other w path top node (λ e. below_differs top rest (same ∙ sym e)))) above)
  | inr other ↦ (let was : IsSome (w (top ++ 47 ∷ rest)) = subst (λ (o : Option Node). IsSome o) (put_other w path (top ++ 47 ∷ rest) node other) there in
      elim (decide top path) [
        | inl here ↦ elim (directory_or_not node) [
          | inl dir ↦ subst (λ (o : Option Node). IsDirectory o) (sym (put_same w path top node here)) dir
          | inr no_dir ↦ absurd (none_stands (w (top ++ 47 ∷ rest)) (ap (λ (p : Path). w (p ++ 47 ∷ rest)) here ∙ fits.below no_dir rest) was)
        ]
        | inr elsewhere ↦ subst (λ (o : Option Node). IsDirectory o) (sym (put_other w path top node elsewhere)) (tree top rest was)
      ])
]

-- all above a path in a directory is directories
above_HasParent : (w : World) (path : Path) → IsTree w → HasParent w path → (top : Path) → IsBelow top path → IsDirectory (w top)
above_HasParent w path tree parent top below = elim (above_or_in top parent.0 path (parent.1, parent.2, parent.3) below) [
  | inl same ↦ subst (λ (p : Path). IsDirectory (w p)) (sym same) parent.4
  | inr above ↦ there_above w top parent.0 tree above (directory_stands (w parent.0) parent.4)
]

-- a new node in a directory
Fits-new : (w : World) (path : Path) (node : Option Node) → IsTree w → HasParent w path → (IsDirectory (w path) → ⊥) → Fits w path node
Fits-new w path node tree parent no_dir = record {
  above = λ some. above_HasParent w path tree parent;
  below = λ _. bare_unless_directory w path tree no_dir;
}

-- another file or link in place of one
Fits-over : (w : World) (path : Path) (node : Option Node) → IsTree w → IsLoose (w path) → Fits w path node
Fits-over w path node tree loose = record {
  above = λ some top below. there_above w top path tree below loose.0;
  below = λ _. bare_unless_directory w path tree loose.1;
}

Fits-none : (w : World) (path : Path) → IsBare w path → Fits w path None
Fits-none w path bare = record { above = λ some. absurd (false≢true some); below = λ _. bare }

-- a file or link goes
Fits-take : (w : World) (path : Path) → IsTree w → (IsDirectory (w path) → ⊥) → Fits w path None
Fits-take w path tree no_dir = Fits-none w path (bare_unless_directory w path tree no_dir)

-- the step over nothing, as writing a file and making a directory
IsTree-new : (w : World) (path : Path) (node : Node) → IsTree w → w path ≡ None → HasParent w path → IsTree (put w path (Some node))
IsTree-new w path node tree absent parent = IsTree-put w path (Some node) tree (Fits-new w path (Some node) tree parent (absent_not_directory (w path) absent))

IsTree-take : (w : World) (path : Path) → IsTree w → IsLoose (w path) → IsTree (put w path None)
IsTree-take w path tree loose = IsTree-put w path None tree (Fits-take w path tree loose.1)

IsTree-remove_dir : (w : World) (path : Path) → IsTree w → IsBare w path → IsTree (put w path None)
IsTree-remove_dir w path tree bare = IsTree-put w path None tree (Fits-none w path bare)

-- a file or link moves over what isn't a directory
moved_parent : (w : World) (from to : Path) → IsLoose (w from) → HasParent w to → HasParent (put w from None) to
moved_parent w from to loose parent = (
  parent.0,
  parent.1,
  parent.2,
  parent.3,
  subst (λ (o : Option Node). IsDirectory o)
      (sym (put_other w from parent.0 None (λ same. loose.1 (subst (λ (p : Path). IsDirectory (w p)) same parent.4)))) parent.4,
)

moved_over : (w : World) (from to : Path) → (IsDirectory (w to) → ⊥) → IsDirectory (put w from None to) → ⊥
moved_over w from to over dir = elim (decide to from) [
  | inl same ↦ absent_not_directory (put w from None to) (put_same w from to None same) dir
  | inr other ↦ over (subst (λ (o : Option Node). IsDirectory o) (put_other w from to None other) dir)
]

IsTree-moved : (w : World) (from to : Path) → IsTree w → IsLoose (w from) → (IsDirectory (w to) → ⊥) → HasParent w to → IsTree (moved w from to)
IsTree-moved w from to tree loose over parent =
    let gone : IsTree (put w from None) = IsTree-take w from tree loose in
    IsTree-put (put w from None) to (w from) gone (Fits-new (put w from None) to (w from) gone (moved_parent w from to loose parent) (moved_over w from to over))

-- a step that can be made leaves a tree
pub tree_step : (s : Step) (w : World) → IsTree w → CanDo s w → IsTree (after s w)
tree_step (Write p n) w tree can = IsTree-new w p n tree can.1 can.2
tree_step (Move a b) w tree can = IsTree-moved w a b tree can.0 can.1 can.2
tree_step (Take p) w tree can = IsTree-take w p tree can
tree_step (MakeDir p m) w tree can = IsTree-new w p (Dir m) tree can.0 can.1
tree_step (RemoveDir p) w tree can = IsTree-remove_dir w p tree can.1
tree_step (HardLink a b) w tree can = IsTree-put w b (w a) tree (Fits-new w b (w a) tree can.2 (absent_not_directory (w b) can.1))
tree_step (MakeLink p t) w tree can = IsTree-new w p (Link t) tree can.0 can.1
tree_step (Sync p) w tree can = tree
tree_step Barrier w tree can = tree
tree_step SyncAll w tree can = tree
tree_step SyncRoot w tree can = tree
tree_step (Lower p) w tree can = IsTree-put w p (lowered (w p)) tree (Fits-over w p (lowered (w p)) tree can)
