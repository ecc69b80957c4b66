-- What is collected of the shipped paths.
use Rattle.std.proofs.Common.{◌≡◌, ◌⊎◌, ◌<◌, ◌≤◌, ◌+◌, ℕ, suc, Bool, true, false, List, [], ◌∷◌, ◌++◌, take, drop, length, get_or, sym, ap, ap₂, subst, ◌∙◌, inl, inr, append_assoc, Some, arith}
use Rattle.std.specs.Prelude.{Contains, MatchBool}
use Rattle.std.specs.List.{AllByRecursion}
use Rattle.std.proofs.Math.Seq.{split_at}
use Rattle.std.proofs.lemmas.Bool.{false≢true, true≢false}
use Rattle.std.proofs.lemmas.Grind.{take_at_read}
use Rattle.std.proofs.lemmas.List.{length-take-le, map-append, take_all, length-append}
use Rattle.std.proofs.lemmas.List.Elements.{Contains-append_left, Contains-append_right}
use Rattle.host_core.specs.Paths.{Path}
use Rattle.host_core.specs.World.{World}
use Rattle.host_core.specs.declared.node.Node.{Node}
use Rattle.package_tree.specs.Shipped.{IsBefore, AreShipped, HasNoPath, IsFirstPath, IsShipped}
use Rattle.package_tree.specs.ShipMap.{paths_of, AreFiles, HasBefore, IsLarge}
use Rattle.package_tree.specs.declared.shipped.Shipped.{Shipped}
use Rattle.package_tree.proofs.PathOrder.{before_then, not_before_itself, behind, each_of}
use Rattle.package_tree.proofs.Firsts.{first_in_order, placed}
use Rattle.package_tree.proofs.Ordered.{in_first, around, order_front, ahead, not_more}

-- a shipped path before which fewer stand hasn't so many before it
pub few_before : (w : World) (front rest : List Path) (q : Path) (count : ℕ) → AreShipped w (front ++ q ∷ rest) → length front < count → HasBefore count w q → ⊥
few_before w front rest q count are few many =
    let fewer : length many.0 ≤ length front = not_more many.0 front many.2 (order_front front (q ∷ rest) are.order) (λ p has. elim (placed front rest q p (are.whole p (many.3 p has).0)) [
      | inl here ↦ here
      | inr (inl same) ↦ absurd (not_before_itself q (subst (λ (x : Path). IsBefore x q) (sym same) (many.3 p has).1))
      | inr (inr later) ↦ absurd (not_before_itself q (before_then q p q (behind front rest q p are.order later) (many.3 p has).1))
    ]) in
    omega (arith, few, fewer, many.1)

-- the first path that is more than a tree may hold
pub first_too_large : (w : World) (front rest : List Path) (path : Path) (count : ℕ) → AreShipped w (front ++ path ∷ rest) → AllByRecursion (λ q. IsLarge (w q) → ⊥) front → length front ≤ count → (IsLarge (w path) ⊎ (length front ≡ count))
    → IsFirstPath (λ q. IsShipped w q × (IsLarge (w q) ⊎ HasBefore count w q)) path
first_too_large w front rest path count are small few why =
    let at : Contains (front ++ path ∷ rest) path = Contains-append_right front (path ∷ rest) path (in_first path rest) in
    let here = are.only path at in
    first_in_order (λ q. IsShipped w q × (IsLarge (w q) ⊎ HasBefore count w q)) front rest path are.order (λ q is. are.whole q is.0)
    (elim why [
      | inl large ↦ (here, inl large)
      | inr many ↦ (here, inr (front, many, order_front front (path ∷ rest) are.order, λ p has. (are.only p (earlier p has), ahead front rest path p are.order has)))
    ])
    (λ q has is. elim is.1 [
      | inl large ↦ each_of (λ p. IsLarge (w p) → ⊥) front q small has large
      | inr many ↦ (let parts = around front q has in
          let whole : front ++ path ∷ rest ≡ parts.0 ++ q ∷ (parts.1 ++ path ∷ rest) = ap (λ (l : List Path). l ++ path ∷ rest) parts.2 ∙ append_assoc parts.0 (q ∷ parts.1) (path ∷ rest) in
          let long : length front ≡ length parts.0 + length (q ∷ parts.1) = ap length parts.2 ∙ length-append parts.0 (q ∷ parts.1) in
          few_before w parts.0 (parts.1 ++ path ∷ rest) q count (subst (AreShipped w) whole are) (omega (arith, long, few)) many)
    ])
  where
    earlier : (p : Path) → Contains front p → Contains (front ++ path ∷ rest) p
    earlier p has = Contains-append_left front (path ∷ rest) p has

-- the path behind so many
pub many_before : (w : World) (paths : List Path) (i : ℕ) (path : Path) (count : ℕ) → AreShipped w paths → i < length paths → path ≡ get_or paths i path → i ≡ count → HasBefore count w path
many_before w paths i path count are lt is same =
    let front = take i paths in
    let rest = drop (suc i) paths in
    let whole : paths ≡ front ++ path ∷ rest = split_at paths i path lt ∙ ap (λ (p : Path). take i paths ++ p ∷ drop (suc i) paths) (sym is) in
    let split = subst (AreShipped w) whole are in (
      front,
      length-take-le i paths (omega (arith, lt)) ∙ same,
      order_front front (path ∷ rest) split.order,
      λ p has. (split.only p (Contains-append_left front (path ∷ rest) p has), ahead front rest path p split.order has),
    )

-- none is
pub none_too_large : (w : World) (paths : List Path) (count : ℕ) → AreShipped w paths → AllByRecursion (λ q. IsLarge (w q) → ⊥) paths → length paths ≤ count → HasNoPath (λ q. IsShipped w q × (IsLarge (w q) ⊎ HasBefore count w q))
none_too_large w paths count are small few q is = elim is.1 [
  | inl large ↦ each_of (λ p. IsLarge (w p) → ⊥) paths q small (are.whole q is.0) large
  | inr many ↦ (let parts = around paths q (are.whole q is.0) in
      let long : length paths ≡ length parts.0 + length (q ∷ parts.1) = ap length parts.2 ∙ length-append parts.0 (q ∷ parts.1) in
      few_before w parts.0 parts.1 q count (subst (AreShipped w) parts.2 are) (omega (arith, long, few)) many)
]

-- the path at an index
pub first_at_index : (w : World) (paths : List Path) (i : ℕ) (path : Path) (count : ℕ) → AreShipped w paths → i < length paths → path ≡ get_or paths i path → AllByRecursion (λ q. IsLarge (w q) → ⊥) (take i paths) → i ≤ count → (IsLarge (w path) ⊎ (i ≡ count))
    → IsFirstPath (λ q. IsShipped w q × (IsLarge (w q) ⊎ HasBefore count w q)) path
first_at_index w paths i path count are lt is small few why =
    let long : length (take i paths) ≡ i = length-take-le i paths (omega (arith, lt)) in
    let whole : paths ≡ take i paths ++ path ∷ drop (suc i) paths = split_at paths i path lt ∙ ap (λ (p : Path). take i paths ++ p ∷ drop (suc i) paths) (sym is) in
    first_too_large w (take i paths) (drop (suc i) paths) path count (subst (AreShipped w) whole are) small (subst (λ n. n ≤ count) (sym long) few) (elim why [ inl large ↦ inl large | inr same ↦ inr (long ∙ same) ])

pub all_push : {X : Type 0} (P : X → Type 0) (xs : List X) (x : X) → AllByRecursion P xs → P x → AllByRecursion P (xs ++ x ∷ [])
all_push P [] x all holds = (holds, tt)
all_push P (y ∷ ys) x all holds = (all.0, all_push P ys x all.1 holds)

-- one path more
pub paths_more : (paths : List Path) (i : ℕ) (path : Path) (node : Node) (old new : List Shipped) → i < length paths → path ≡ get_or paths i path → paths_of old ≡ take i paths → new ≡ old ++ record { path = path; node = node } ∷ [] → paths_of new ≡ take (i + 1) paths
paths_more paths i path node old new lt is same pushed =
    ap paths_of pushed ∙ map-append (λ (f : Shipped). f.path) old (record { path = path; node = node } ∷ []) ∙ ap₂ (λ (ps : List Path) (p : Path). ps ++ p ∷ []) same is ∙ sym (take_at_read paths i path lt).1

pub nodes_more : (w : World) (path : Path) (node : Node) (old new : List Shipped) → AllByRecursion (λ file. w file.path ≡ Some file.node) old → w path ≡ Some node → new ≡ old ++ record { path = path; node = node } ∷ [] → AllByRecursion (λ file. w file.path ≡ Some file.node) new
nodes_more w path node old new all here pushed = subst (AllByRecursion (λ file. w file.path ≡ Some file.node)) (sym pushed) (all_push (λ file. w file.path ≡ Some file.node) old (record { path = path; node = node }) all here)

pub small_more : (w : World) (paths : List Path) (i : ℕ) (path : Path) → i < length paths → path ≡ get_or paths i path → AllByRecursion (λ q. IsLarge (w q) → ⊥) (take i paths) → (IsLarge (w path) → ⊥) → AllByRecursion (λ q. IsLarge (w q) → ⊥) (take (i + 1) paths)
small_more w paths i path lt is all here =
    subst (AllByRecursion (λ q. IsLarge (w q) → ⊥)) (ap (λ (p : Path). take i paths ++ p ∷ []) is ∙ sym (take_at_read paths i path lt).1) (all_push (λ q. IsLarge (w q) → ⊥) (take i paths) path all here)

-- all paths were looked at
pub all_collected : (w : World) (paths : List Path) (i : ℕ) (files : List Shipped) (count : ℕ) → AreShipped w paths → length paths ≤ i → i ≤ count → paths_of files ≡ take i paths → AllByRecursion (λ file. w file.path ≡ Some file.node) files
    → AllByRecursion (λ q. IsLarge (w q) → ⊥) (take i paths) → AreFiles w files × HasNoPath (λ q. IsShipped w q × (IsLarge (w q) ⊎ HasBefore count w q))
all_collected w paths i files count are done few same nodes small =
    let all : take i paths ≡ paths = take_all i paths done in (
      record { paths = subst (AreShipped w) (sym (same ∙ all)) are; nodes = nodes },
      none_too_large w paths count are (subst (AllByRecursion (λ q. IsLarge (w q) → ⊥)) all small) (omega (arith, done, few)),
    )

-- what was told of the next path

abbrev pub Told : World → Path → Bool → List Shipped → List Shipped → Type 0
Told w path large old new = MatchBool large (IsLarge (w path)) ((IsLarge (w path) → ⊥) × ((node : Node) × (w path ≡ Some node) × (new ≡ old ++ record { path = path; node = node } ∷ [])))

pub large_told : (w v : World) (path : Path) (large : Bool) (old new : List Shipped) → v ≡ w → large ≡ true → Told v path large old new → IsLarge (w path)
large_told w v path true old new same is says = subst (λ (x : World). IsLarge (x path)) same says
large_told w v path false old new same is says = absurd (false≢true is)

pub small_told : (w v : World) (path : Path) (large : Bool) (old new : List Shipped) → v ≡ w → large ≡ false → Told v path large old new
    → (IsLarge (w path) → ⊥) × ((node : Node) × (w path ≡ Some node) × (new ≡ old ++ record { path = path; node = node } ∷ []))
small_told w v path true old new same is says = absurd (true≢false is)
small_told w v path false old new same is says = subst (λ (x : World). (IsLarge (x path) → ⊥) × ((node : Node) × (x path ≡ Some node) × (new ≡ old ++ record { path = path; node = node } ∷ []))) same says

pub pushed_told : (path : Path) (large : Bool) (old new : List Shipped) → large ≡ false → MatchBool large (new ≡ old) ((node : Node) × (new ≡ old ++ record { path = path; node = node } ∷ [])) → (node : Node) × (new ≡ old ++ record { path = path; node = node } ∷ [])
pushed_told path true old new is says = absurd (true≢false is)
pushed_told path false old new is says = says
