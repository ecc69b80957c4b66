-- Shipped paths in their order.
use Rattle.std.proofs.Common.{◌≡◌, ◌<◌, ℕ, zero, suc, true, List, [], ◌∷◌, length, take, get_or, sym, ap, subst, ◌∙◌, arith, inl, inr}
use Rattle.std.specs.Prelude.{Contains}
use Rattle.std.specs.List.{AllByRecursion}
use Rattle.std.specs.Ordering.{is_lt}
use Rattle.host_core.specs.Paths.{Path}
use Rattle.file_lists.specs.Increasing.{AreIncreasing}
use Rattle.file_lists.proofs.Increasing.{not_before_itself}
use Rattle.package_tree.specs.ShipMap.{paths_of}
use Rattle.package_tree.specs.Shipped.{AreInOrder, IsBefore}
use Rattle.package_tree.specs.declared.shipped.Shipped.{Shipped}
use Rattle.package_tree.proofs.Ordered.{none_in, first_or_later}
use Rattle.status_records.specs.ConffilePaths.{is_before}

pub increasing : (paths : List Path) → AreInOrder paths → AreIncreasing paths
increasing [] order = tt
increasing (p ∷ ps) order = (order.0, increasing ps order.1)

path_at : (P : Path → Type 0) (files : List Shipped) (i : ℕ) (d : Shipped) → AllByRecursion P (paths_of files) → i < length files → P (get_or files i d).path
path_at P [] i d all lt = absurd (omega (arith, lt))
path_at P (f ∷ files) zero d all lt = all.0
path_at P (f ∷ files) (suc i) d all lt = path_at P files i d all.1 (omega (arith, lt))

-- the paths in front are before it
front_before : (files : List Shipped) (i : ℕ) (d : Shipped) → AreInOrder (paths_of files) → i < length files → AllByRecursion (λ q. is_before q (get_or files i d).path ≡ true) (paths_of (take i files))
front_before [] i d order lt = absurd (omega (arith, lt))
front_before (f ∷ files) zero d order lt = tt
front_before (f ∷ files) (suc i) d order lt = (ap is_lt (path_at (IsBefore f.path) files i d order.0 (omega (arith, lt))), front_before files i d order.1 (omega (arith, lt)))

pub before_file : (files : List Shipped) (i : ℕ) (file : Shipped) → AreInOrder (paths_of files) → i < length files → file ≡ get_or files i file → AllByRecursion (λ q. is_before q file.path ≡ true) (paths_of (take i files))
before_file files i file order lt is = subst (λ (x : Shipped). AllByRecursion (λ q. is_before q x.path ≡ true) (paths_of (take i files))) (sym is) (front_before files i file order lt)

before_all : (P : Path → Type 0) (files : List Shipped) (file : Shipped) → AllByRecursion P (paths_of files) → Contains files file → P file.path
before_all P [] file all has = absurd (none_in file has)
before_all P (f ∷ files) file all has = elim (first_or_later f files file has) [
  | inl same ↦ subst (λ (x : Shipped). P x.path) same all.0
  | inr later ↦ before_all P files file all.1 later
]

-- at one path stands one thing
pub one_at : (files : List Shipped) (a b : Shipped) → AreInOrder (paths_of files) → Contains files a → Contains files b → a.path ≡ b.path → a ≡ b
one_at [] a b order has_a has_b same = absurd (none_in a has_a)
one_at (f ∷ files) a b order has_a has_b same = elim (first_or_later f files a has_a) [
  | inl is_a ↦ elim (first_or_later f files b has_b) [
    | inl is_b ↦ sym is_a ∙ is_b
    | inr later ↦ absurd (not_before_itself b.path (subst (λ (p : Path). IsBefore p b.path) (ap (λ (x : Shipped). x.path) is_a ∙ same) (before_all (IsBefore f.path) files b order.0 later)))
  ]
  | inr later_a ↦ elim (first_or_later f files b has_b) [
    | inl is_b ↦ absurd (not_before_itself a.path (subst (λ (p : Path). IsBefore p a.path) (ap (λ (x : Shipped). x.path) is_b ∙ sym same) (before_all (IsBefore f.path) files a order.0 later_a)))
    | inr later_b ↦ one_at files a b order.1 later_a later_b same
  ]
]
