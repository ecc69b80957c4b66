-- The texts of a set are taken out in their order, and some of them are kept.
use Rattle.std.proofs.Common.{◌≡◌, ◌⊎◌, ◌<◌, Bool, true, false, cond, List, [], ◌∷◌, ◌++◌, String, length, refl, sym, ap, subst, ◌∙◌, inl, inr, arith}
use Rattle.std.specs.Prelude.{Contains}
use Rattle.std.specs.Str.{IsUtf8, bytes_eq}
use Rattle.std.specs.String.{string_bytes}
use Rattle.std.specs.BTreeSet.{BTreeSet, contains_text}
use Rattle.std.specs.BTreeMap.{is_at}
use Rattle.std.specs.declared.alloc.Global.{Global}
use Rattle.std.specs.Cmp.Lexicographic.{slice_cmp}
use Rattle.std.specs.Ordering.{nat_cmp}
use Rattle.std.proofs.lemmas.Bool.{false≢true}
use Rattle.std.proofs.lemmas.List.Folds.{Any-from_list_any}
use Rattle.std.proofs.lemmas.List.Elements.{Contains-append_left, Contains-append_right, Contains-append_cases}
use Rattle.std.proofs.lemmas.Map.Text.{is_eq-slice_cmp}
use Rattle.std.proofs.lemmas.Slice.Eq.{bytes_eq-Decides}
use Rattle.std.proofs.lemmas.Str.{IsUtf8-string_bytes}
use Rattle.host_core.specs.Paths.{Path, is_ship_text}
use Rattle.package_tree.specs.Shipped.{IsBefore, AreInOrder}
use Rattle.package_tree.specs.LineNames.{HasTakenPath}
use Rattle.package_tree.proofs.PathOrder.{in_order_snoc}
use Rattle.package_tree.proofs.Ordered.{none_in, first_or_later}
use Rattle.package_tree.proofs.Sets.{no_keys}

-- what a set of texts has is text
pub text_in : (s : BTreeSet (String Global)) (q : Path) → contains_text s q ≡ true → IsUtf8 q
text_in s q e =
    let any = Any-from_list_any (is_at (λ (x : String Global). slice_cmp nat_cmp q (string_bytes x))) s.keys e in
    let is : q ≡ string_bytes any.1 = (bytes_eq-Decides q (string_bytes any.1)).0 (sym (is_eq-slice_cmp q (string_bytes any.1)) ∙ any.4) in
    subst IsUtf8 (sym is) (IsUtf8-string_bytes any.1)

-- where the set has no length nothing is in it
pub none_left : (s : BTreeSet (String Global)) → (0 < length s.keys → false ≡ true) → (q : Path) → contains_text s q ≡ false
none_left s empty q = no_keys s (at s.keys empty) q
  where
    at : (keys : List (String Global)) → (0 < length keys → false ≡ true) → keys ≡ []
    at [] none = refl
    at (k ∷ keys) none = absurd (false≢true (none (omega arith)))

-- those kept so far are in order, and come before those that are left
pub record IsDrawn (all left : Path → Bool) (kept : List Path) : Type 0 where
  pub order : AreInOrder kept
  pub before : (a b : Path) → Contains kept a → left b ≡ true → IsBefore a b
  pub from : (q : Path) → Contains kept q → all q ≡ true
  pub less : (q : Path) → left q ≡ true → all q ≡ true

-- each text that has P is kept, or left
abbrev pub HasKept : (Path → Type 0) → (Path → Bool) → (Path → Bool) → List Path → Type 0
HasKept P all left kept = (q : Path) → all q ≡ true → P q → Contains kept q ⊎ (left q ≡ true)

-- the least was taken out
pub record IsTaken (name : Path) (left rest : Path → Bool) : Type 0 where
  pub here : left name ≡ true
  pub fewer : (q : Path) → rest q ≡ cond (bytes_eq name q) false (left q)
  pub above : (q : Path) → rest q ≡ true → IsBefore name q

still_left : (b x : Bool) → cond b false x ≡ true → x ≡ true
still_left true x e = absurd (false≢true e)
still_left false x e = e

among : (name : Path) (left rest : Path → Bool) → IsTaken name left rest → (q : Path) → rest q ≡ true → left q ≡ true
among name left rest taken q e = still_left (bytes_eq name q) (left q) (sym (taken.fewer q) ∙ e)

this_or_left : (name q : Path) (left rest : Path → Bool) → IsTaken name left rest → left q ≡ true → (name ≡ q) ⊎ (rest q ≡ true)
this_or_left name q left rest taken t = at (bytes_eq name q) refl
  where
    at : (b : Bool) → bytes_eq name q ≡ b → (name ≡ q) ⊎ (rest q ≡ true)
    at true e = inl ((bytes_eq-Decides name q).0 e)
    at false e = inr (taken.fewer q ∙ ap (λ b. cond b false (left q)) e ∙ t)

pub drawn_start : (all : Path → Bool) → IsDrawn all all []
drawn_start all = record { order = tt; before = λ a b has e. absurd (none_in a has); from = λ q has. absurd (none_in q has); less = λ q e. e }

pub kept_start : (P : Path → Type 0) (all : Path → Bool) → HasKept P all all []
kept_start P all q e holds = inr e

-- it is passed over
pub drawn_over : (all left rest : Path → Bool) (kept : List Path) (name : Path) → IsDrawn all left kept → IsTaken name left rest → IsDrawn all rest kept
drawn_over all left rest kept name is taken = record {
  order = is.order;
  before = λ a b has e. is.before a b has (among name left rest taken b e);
  from = is.from;
  less = λ q e. is.less q (among name left rest taken q e);
}

pub kept_over : (P : Path → Type 0) (all left rest : Path → Bool) (kept : List Path) (name : Path) → HasKept P all left kept → IsTaken name left rest → (P name → ⊥) → HasKept P all rest kept
kept_over P all left rest kept name is taken passed q e holds = elim (is q e holds) [
  | inl has ↦ inl has
  | inr l ↦ elim (this_or_left name q left rest taken l) [
    | inl same ↦ absurd (passed (subst P (sym same) holds))
    | inr on ↦ inr on
  ]
]

-- it is kept
pub drawn_more : (all left rest : Path → Bool) (kept : List Path) (name : Path) → IsDrawn all left kept → IsTaken name left rest → IsDrawn all rest (kept ++ name ∷ [])
drawn_more all left rest kept name is taken = record {
  order = in_order_snoc kept name is.order (λ p has. is.before p name has taken.here);
  before = λ a b has e. elim (Contains-append_cases kept (name ∷ []) a has) [
    | inl old ↦ is.before a b old (among name left rest taken b e)
    | inr new ↦ subst (λ (x : Path). IsBefore x b) (only a new) (taken.above b e)
  ];
  from = λ q has. elim (Contains-append_cases kept (name ∷ []) q has) [
    | inl old ↦ is.from q old
    | inr new ↦ subst (λ (x : Path). all x ≡ true) (only q new) (is.less name taken.here)
  ];
  less = λ q e. is.less q (among name left rest taken q e);
}
  where
    only : (q : Path) → Contains (name ∷ []) q → name ≡ q
    only q has = elim (first_or_later name [] q has) [ inl e ↦ e | inr none ↦ absurd (none_in q none) ]

pub kept_more : (P : Path → Type 0) (all left rest : Path → Bool) (kept : List Path) (name : Path) → HasKept P all left kept → IsTaken name left rest → HasKept P all rest (kept ++ name ∷ [])
kept_more P all left rest kept name is taken q e holds = elim (is q e holds) [
  | inl has ↦ inl (Contains-append_left kept (name ∷ []) q has)
  | inr l ↦ elim (this_or_left name q left rest taken l) [
    | inl same ↦ inl (Contains-append_right kept (name ∷ []) q (0, omega arith, same))
    | inr on ↦ inr on
  ]
]

-- none is left
pub kept_all : (P : Path → Type 0) (all left : Path → Bool) (kept : List Path) → HasKept P all left kept → ((q : Path) → left q ≡ false) → (q : Path) → all q ≡ true → P q → Contains kept q
kept_all P all left kept is none q e holds = elim (is q e holds) [ inl has ↦ has | inr l ↦ absurd (false≢true (sym (none q) ∙ l)) ]

-- a text is kept if it is a path that a package may ship
pub drawn_path : (all left rest : Path → Bool) (kept new : List Path) (name : Path) → IsDrawn all left kept → IsTaken name left rest → HasTakenPath name kept new → IsDrawn all rest new
drawn_path all left rest kept new name is taken (inl took) = subst (IsDrawn all rest) (sym took.1) (drawn_more all left rest kept name is taken)
drawn_path all left rest kept new name is taken (inr passed) = subst (IsDrawn all rest) (sym passed.1) (drawn_over all left rest kept name is taken)

pub kept_path : (all left rest : Path → Bool) (kept new : List Path) (name : Path) → HasKept (λ q. is_ship_text q ≡ true) all left kept → IsTaken name left rest → HasTakenPath name kept new → HasKept (λ q. is_ship_text q ≡ true) all rest new
kept_path all left rest kept new name is taken (inl took) = subst (HasKept (λ (q : Path). is_ship_text q ≡ true) all rest) (sym took.1) (kept_more (λ (q : Path). is_ship_text q ≡ true) all left rest kept name is taken)
kept_path all left rest kept new name is taken (inr passed) =
    subst (HasKept (λ (q : Path). is_ship_text q ≡ true) all rest) (sym passed.1) (kept_over (λ (q : Path). is_ship_text q ≡ true) all left rest kept name is taken (λ fits. false≢true (sym passed.0 ∙ fits)))
