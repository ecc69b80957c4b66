-- Names that are taken out of a set in order.
use Rattle.std.proofs.Common.{◌≡◌, ◌⊎◌, ◌↔◌, ◌+◌, ◌<◌, inl, inr, ℕ, zero, suc, Bool, true, false, cond, ◌&&◌, List, [], ◌∷◌, ◌++◌, take, length, get_or, String, refl, sym, ap, subst, ◌∙◌, arith, Contains}
use Rattle.std.specs.Prelude.{◌||◌, All, IsSome}
use Rattle.std.specs.List.{list_any}
use Rattle.std.specs.Str.{bytes_eq}
use Rattle.std.specs.String.{string_cmp, string_bytes}
use Rattle.std.specs.BTreeSet.{BTreeSet, contains_text}
use Rattle.std.specs.BTreeMap.{is_at}
use Rattle.std.specs.BTreeMap.Range.{IsLtBy}
use Rattle.std.specs.declared.alloc.Global.{Global}
use Rattle.std.specs.Cmp.Lexicographic.{slice_cmp}
use Rattle.std.specs.Ordering.{nat_cmp}
use Rattle.std.proofs.lemmas.Bool.{false≢true, true≢false, and_parts, false_from_ne_true}
use Rattle.std.proofs.lemmas.Map.Text.{is_eq-slice_cmp}
use Rattle.std.proofs.lemmas.Slice.Eq.{bytes_eq-Decides}
use Rattle.std.proofs.lemmas.List.Elements.{Contains-append_left, Contains-append_right, Contains-append_cases}
use Rattle.std.proofs.lemmas.List.Folds.{list_any_more, Any-from_list_any, list_any_at}
use Rattle.std.proofs.lemmas.Map.Views.{Contains-from_any}
use Rattle.host_core.specs.Paths.{Path}
use Rattle.host_core.specs.World.{World}
use Rattle.host_core.specs.Tree.{IsListing}
use Rattle.texts.specs.PackageNames.{is_package_name}
use Rattle.administration.specs.Places.{info_path}
use Rattle.control_members.specs.Names.{is_member_name}
use Rattle.control_members.specs.Members.{IsBefore, AreInOrder}
use Rattle.control_members.specs.Stored.{stored_member_path, is_among, AreStoredNames}
use Rattle.control_members.proofs.MemberNames.{stored_is_path, stored_utf8, stored_name_plain}
use Rattle.control_members.proofs.Apart.{same_behind}
use Rattle.control_members.proofs.Order.{order_more, all_from}

-- what is left of a set of texts is above the one that was the least
pub above_text : (k : String Global) (s : BTreeSet (String Global)) → All (IsLtBy string_cmp k) s.keys → (b : Path) → contains_text s b ≡ true → IsBefore (string_bytes k) b
above_text k s all b e =
    let any = Any-from_list_any (is_at (λ (x : String Global). slice_cmp nat_cmp b (string_bytes x))) s.keys e in
    let is : b ≡ string_bytes any.1 = (bytes_eq-Decides b (string_bytes any.1)).0 (sym (is_eq-slice_cmp b (string_bytes any.1)) ∙ any.4) in
    subst (IsBefore (string_bytes k)) (sym is) (subst (IsLtBy string_cmp k) any.3 (all any.0 any.1 any.2))

no_keys : (s : BTreeSet (String Global)) → s.keys ≡ [] → (q : Path) → contains_text s q ≡ false
no_keys s e q = ap (list_any (is_at (λ (k : String Global). slice_cmp nat_cmp q (string_bytes k)))) e

-- where the set has no length nothing is in it
pub none_left : (s : BTreeSet (String Global)) → (0 < length s.keys → false ≡ true) → (q : Path) → contains_text s q ≡ false
none_left s empty q = no_keys s (at s.keys empty) q
  where
    at : (keys : List (String Global)) → (0 < length keys → false ≡ true) → keys ≡ []
    at [] none = refl
    at (k ∷ keys) none = absurd (false≢true (none (omega arith)))

pub contains_any : (names : List Path) (name : Path) → Contains names name → is_among names name ≡ true
contains_any names name has = list_any_at (bytes_eq name) names has.0 name has.1 ((bytes_eq-Decides name (get_or names has.0 name)).1 (sym has.2))

pub any_contains : (names : List Path) (name : Path) → is_among names name ≡ true → Contains names name
any_contains names name is = Contains-from_any (λ x y e. (bytes_eq-Decides x y).0 e) name names is

still_left : (b x : Bool) → cond b false x ≡ true → x ≡ true
still_left true x e = absurd (false≢true e)
still_left false x e = e

-- one that is still to be looked at is this one, or is left
this_or_left : (name q : Path) (todo rest : Path → Bool) → ((q : Path) → rest q ≡ cond (bytes_eq name q) false (todo q)) → todo q ≡ true → (name ≡ q) ⊎ (rest q ≡ true)
this_or_left name q todo rest less t = at (bytes_eq name q) refl
  where
    at : (b : Bool) → bytes_eq name q ≡ b → (name ≡ q) ⊎ (rest q ≡ true)
    at true e = inl ((bytes_eq-Decides name q).0 e)
    at false e = inr (less q ∙ ap (λ b. cond b false (todo q)) e ∙ t)

-- these so far, and others that are left
pub record IsDrawn (all left : Path → Bool) (drawn : List Path) : Type 0 where
  pub order : AreInOrder drawn
  pub before : (a b : Path) → Contains drawn a → left b ≡ true → IsBefore a b
  pub from : (q : Path) → Contains drawn q → all q ≡ true
  pub less : (q : Path) → left q ≡ true → all q ≡ true
  pub whole : (q : Path) → all q ≡ true → Contains drawn q ⊎ (left q ≡ true)

none_in : (q : Path) → Contains [] q → ⊥
none_in q has = omega (arith, has.1)

pub drawn_start : (all : Path → Bool) → IsDrawn all all []
drawn_start all = record {
  order = tt;
  before = λ a b has e. absurd (none_in a has);
  from = λ q has. absurd (none_in q has);
  less = λ q e. e;
  whole = λ q e. inr e;
}

only : (name q : Path) → Contains (name ∷ []) q → name ≡ q
only name q (zero, lt, is) = is
only name q (suc i, lt, is) = absurd (omega (arith, lt))

pub drawn_more : (all left rest : Path → Bool) (drawn : List Path) (name : Path) → IsDrawn all left drawn → left name ≡ true → ((q : Path) → rest q ≡ cond (bytes_eq name q) false (left q)) → ((q : Path) → rest q ≡ true → IsBefore name q) → IsDrawn all rest (drawn ++ name ∷ [])
drawn_more all left rest drawn name is here fewer above = record {
  order = order_more drawn name is.order (all_from (λ x. IsBefore x name) drawn (λ x has. is.before x name has here));
  before = λ a b has e. elim (Contains-append_cases drawn (name ∷ []) a has) [
    | inl h ↦ is.before a b h (among b e)
    | inr h ↦ subst (λ x. IsBefore x b) (only name a h) (above b e)
  ];
  from = λ q has. elim (Contains-append_cases drawn (name ∷ []) q has) [
    | inl h ↦ is.from q h
    | inr h ↦ subst (λ x. all x ≡ true) (only name q h) (is.less name here)
  ];
  less = λ q e. is.less q (among q e);
  whole = λ q e. elim (is.whole q e) [
    | inl h ↦ inl (Contains-append_left drawn (name ∷ []) q h)
    | inr l ↦ elim (this_or_left name q left rest fewer l) [
      | inl s ↦ inl (Contains-append_right drawn (name ∷ []) q (0, omega arith, s))
      | inr r ↦ inr r
    ]
  ];
}
  where
    among : (q : Path) → rest q ≡ true → left q ≡ true
    among q e = still_left (bytes_eq name q) (left q) (sym (fewer q) ∙ e)

-- none is left
pub drawn_all : (all left : Path → Bool) (drawn : List Path) → IsDrawn all left drawn → ((q : Path) → left q ≡ false) → (q : Path) → Contains drawn q ↔ (all q ≡ true)
drawn_all all left drawn is none q = (is.from q, λ e. elim (is.whole q e) [ inl h ↦ h | inr l ↦ absurd (false≢true (sym (none q) ∙ l)) ])

-- the entries of a package, one more looked at

abbrev pub entered : Path → List Path → Path → Bool
entered owner entries name = is_member_name name && is_among entries (owner ++ 46 ∷ name)

pub one_passed : (owner entry : Path) (entries : List Path) (k : ℕ) (new : Bool) (name : Path) → k < length entries → entry ≡ get_or entries k entry → ((n : Path) → is_member_name n ≡ true → entry ≡ owner ++ 46 ∷ n → ⊥)
    → new ≡ entered owner (take k entries) name → new ≡ entered owner (take (k + 1) entries) name
one_passed owner entry entries k new name lt is none before = before ∙ at (is_member_name name) refl
  where
    other : is_member_name name ≡ true → bytes_eq (owner ++ 46 ∷ name) (get_or entries k entry) ≡ false
    other member = false_from_ne_true _ (λ t. none name member (is ∙ sym ((bytes_eq-Decides (owner ++ 46 ∷ name) (get_or entries k entry)).0 t)))

    or_false : (x : Bool) → x ≡ (x || false)
    or_false true = refl
    or_false false = refl

    at : (b : Bool) → is_member_name name ≡ b → (b && is_among (take k entries) (owner ++ 46 ∷ name)) ≡ (b && is_among (take (k + 1) entries) (owner ++ 46 ∷ name))
    at true member = or_false (is_among (take k entries) (owner ++ 46 ∷ name)) ∙ ap (λ t. is_among (take k entries) (owner ++ 46 ∷ name) || t) (sym (other member)) ∙ sym (list_any_more (bytes_eq (owner ++ 46 ∷ name)) entries k entry lt)
    at false member = refl

pub one_entered : (owner entry word : Path) (entries : List Path) (k : ℕ) (new old : Bool) (name : Path) → k < length entries → entry ≡ get_or entries k entry → entry ≡ owner ++ 46 ∷ word → is_member_name word ≡ true
    → new ≡ cond (bytes_eq word name) true old → old ≡ entered owner (take k entries) name → new ≡ entered owner (take (k + 1) entries) name
one_entered owner entry word entries k new old name lt is split member change before = change ∙ at (bytes_eq word name) refl
  where
    more : is_among (take (k + 1) entries) (owner ++ 46 ∷ name) ≡ (is_among (take k entries) (owner ++ 46 ∷ name) || bytes_eq (owner ++ 46 ∷ name) (get_or entries k entry))
    more = list_any_more (bytes_eq (owner ++ 46 ∷ name)) entries k entry lt

    or_true : (x : Bool) → (x || true) ≡ true
    or_true true = refl
    or_true false = refl

    or_false : (x : Bool) → (x || false) ≡ x
    or_false true = refl
    or_false false = refl

    at : (b : Bool) → bytes_eq word name ≡ b → cond b true old ≡ entered owner (take (k + 1) entries) name
    at true e =
        let same = (bytes_eq-Decides word name).0 e in
        let there = (bytes_eq-Decides (owner ++ 46 ∷ name) (get_or entries k entry)).1 (ap (λ (n : Path). owner ++ 46 ∷ n) (sym same) ∙ sym split ∙ is) in
        sym (ap (λ b. b && is_among (take (k + 1) entries) (owner ++ 46 ∷ name)) (subst (λ n. is_member_name n ≡ true) same member)
        ∙ more ∙ ap (λ t. is_among (take k entries) (owner ++ 46 ∷ name) || t) there ∙ or_true (is_among (take k entries) (owner ++ 46 ∷ name)))
    at false e =
        let apart = false_from_ne_true (bytes_eq (owner ++ 46 ∷ name) (get_or entries k entry)) (λ t. true≢false
        (sym ((bytes_eq-Decides word name).1 (same_behind owner word name (sym split ∙ is ∙ sym ((bytes_eq-Decides (owner ++ 46 ∷ name) (get_or entries k entry)).0 t)))) ∙ e)) in
        before ∙ ap (λ t. is_member_name name && t) (sym (more ∙ ap (λ t. is_among (take k entries) (owner ++ 46 ∷ name) || t) apart ∙ or_false (is_among (take k entries) (owner ++ 46 ∷ name))))

-- what a listing of `info/` tells

pub stored_listed : (w : World) (owner : Path) (entries names : List Path) (bad : Bool) → is_package_name owner ≡ true → IsListing w info_path entries bad → AreInOrder names
    → ((name : Path) → Contains names name ↔ (entered owner entries name ≡ true)) → AreStoredNames w owner names
stored_listed w owner entries names bad named listing order is = record {
  order = order;
  exact = λ name. (
    λ has. let parts = and_parts (is_member_name name) (is_among entries (owner ++ 46 ∷ name)) ((is name).0 has) in (parts.0, (listing.there (owner ++ 46 ∷ name) (any_contains entries (owner ++ 46 ∷ name) parts.1)).1),
    λ there. (is name).1 (ap (λ b. b && is_among entries (owner ++ 46 ∷ name)) there.0 ∙ contains_any entries (owner ++ 46 ∷ name) (listed name there.0 there.1)),
  );
}
  where
    listed : (name : Path) → is_member_name name ≡ true → IsSome (w (stored_member_path owner name)) → Contains entries (owner ++ 46 ∷ name)
    listed name member some = elim (listing.whole (owner ++ 46 ∷ name) (stored_name_plain owner name named member) some) [
      | inl has ↦ has
      | inr odd ↦ elim odd.0 [ inl no_text ↦ absurd (no_text (stored_utf8 owner name named member)) | inr no_path ↦ absurd (true≢false (sym (stored_is_path owner name named member) ∙ no_path)) ]
    ]
