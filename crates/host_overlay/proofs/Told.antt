-- The paths that were changed, from what is left of the entries.
use Rattle.std.proofs.Common.{◌≡◌, ◌⊎◌, ◌∙◌, List, [], ◌∷◌, ◌++◌, Option, Some, String, map, false, refl, sym, ap, subst, subst₂, inl, inr, arith}
use Rattle.std.specs.Prelude.{IsSome, Contains}
use Rattle.std.specs.String.{string_bytes, string_cmp}
use Rattle.std.specs.Map.{keys_of}
use Rattle.std.specs.BTreeMap.{BTreeMap, get_by_text}
use Rattle.std.specs.List.Sorted.{IsStrictlySortedBy}
use Rattle.std.specs.declared.alloc.Global.{Global}
use Rattle.std.specs.List.{IsDistinct, list_any}
use Rattle.std.specs.Str.{bytes_eq}
use Rattle.std.proofs.lemmas.Bool.{false≢true, false_from_ne_true}
use Rattle.std.proofs.lemmas.Cmp.{nat_list_eq_equiv}
use Rattle.std.proofs.lemmas.List.{map-append}
use Rattle.std.proofs.lemmas.List.Elements.{Contains-append_left, Contains-push, Contains-push_cases}
use Rattle.std.proofs.lemmas.Map.Keys.{IsDistinct-from_sorted, IsDistinct-push}
use Rattle.std.proofs.lemmas.Map.Views.{Contains-from_any}
use Rattle.std.proofs.lemmas.Slice.Eq.{bytes_eq-Decides}
use Rattle.host_core.specs.Paths.{Path}
use Rattle.host_overlay.specs.Standings.{is_something, is_shown, AreTold}
use Rattle.host_overlay.specs.declared.changed_path.ChangedPath.{ChangedPath}
use Rattle.host_overlay.specs.declared.standing.Standing.{Standing}
use Rattle.host_overlay.proofs.Listed.{Entry, here, Has, AreApart, rest_apart, split_head, all_head, sub_tail, has_head, has_tail, not_in_rest}

-- the paths that are told
abbrev pub paths_of : List ChangedPath → List Path
paths_of told = map (λ (x : ChangedPath). x.path) told

-- a loop over the entries, of which the last ones are left
pub record IsAmidTelling (all left : List Entry) (told : List ChangedPath) : Type 0 where
  pub sub : (q : Path) → Has left q → here left q ≡ here all q
  pub apart : AreApart left
  pub passed : (q : Path) → Contains (paths_of told) q → Has left q → ⊥
  pub once : IsDistinct bytes_eq (paths_of told)
  pub sound : (x : ChangedPath) → Contains told x → IsSome (here all x.path) × (x.stands ≡ is_shown (here all x.path))
  pub whole : (q : Path) → Has all q → ((x : ChangedPath) × Contains told x × (x.path ≡ q)) ⊎ Has left q

no_path : (P : Type 0) (paths : List Path) (q : Path) → paths ≡ [] → Contains paths q → P
no_path P [] q none c = absurd (omega (arith, c.1))
no_path P (p ∷ paths) q none c = absurd (cc)

none_told : (P : Type 0) (x : ChangedPath) → Contains [] x → P
none_told P x c = absurd (omega (arith, c.1))

pub telling_start : (all left : List Entry) (told : List ChangedPath) → left ≡ all → told ≡ [] → IsStrictlySortedBy string_cmp (keys_of all) → IsAmidTelling all left told
unfolding IsDistinct
telling_start all left told whole none sorted = subst₂ (λ (l : List Entry) (ts : List ChangedPath). IsAmidTelling all l ts) (sym whole) (sym none) record {
  sub = λ q h. refl;
  apart = IsDistinct-from_sorted (string_cmp {Z = Global}) (keys_of all) sorted;
  passed = λ q c h. no_path ⊥ (paths_of []) q refl c;
  once = tt;
  sound = λ x c. none_told (IsSome (here all x.path) × (x.stands ≡ is_shown (here all x.path))) x c;
  whole = λ q h. inr h;
}

pub telling_end : (all left : List Entry) (told : List ChangedPath) (m : BTreeMap (String Global) Standing) → m.entries ≡ all → left ≡ [] → IsAmidTelling all left told → AreTold (get_by_text m) told
telling_end all left told m is none amid = subst (λ (es : List Entry). AreTold (λ q. here es q) told) (sym is) record {
  there = amid.sound;
  once = amid.once;
  whole = λ q h. elim (amid.whole q h) [ inl x ↦ x | inr l ↦ absurd (false≢true (subst (λ (es : List Entry). Has es q) none l)) ];
}

module _ (all left : List Entry) (e : Entry) (es : List Entry) (told : List ChangedPath) (x : ChangedPath) (is : left ≡ e ∷ es) (amid : IsAmidTelling all left told) (at : x.path ≡ string_bytes e.0) (stands : x.stands ≡ is_something e.1.origin) where
  here_now : here all x.path ≡ Some e.1
  here_now = all_head all left e es is amid.sub amid.apart x.path at

  more_paths : paths_of (told ++ x ∷ []) ≡ paths_of told ++ x.path ∷ []
  more_paths = map-append (λ (y : ChangedPath). y.path) told (x ∷ [])

  more_passed : (q : Path) → Contains (paths_of (told ++ x ∷ [])) q → Has es q → ⊥
  more_passed q c h = elim (Contains-push_cases (paths_of told) x.path q (subst (λ (l : List Path). Contains l q) more_paths c)) [
    | inl old ↦ amid.passed q old (has_tail q e es left is h)
    | inr same ↦ not_in_rest q e es left is amid.apart (sym same ∙ at) h
  ]

  more_once : IsDistinct bytes_eq (paths_of (told ++ x ∷ []))
  more_once =
      let absent : list_any (bytes_eq x.path) (paths_of told) ≡ false =
      false_from_ne_true (list_any (bytes_eq x.path) (paths_of told))
      (λ t. amid.passed x.path (Contains-from_any (λ p q same. (bytes_eq-Decides p q).0 same) x.path (paths_of told) t) (has_head x.path e es left is at)) in
      subst (λ (l : List Path). IsDistinct bytes_eq l) (sym more_paths) (IsDistinct-push nat_list_eq_equiv (paths_of told) x.path amid.once absent)

  pub telling_more : IsAmidTelling all es (told ++ x ∷ [])
  telling_more = record {
    sub = sub_tail all left e es is amid.sub amid.apart;
    apart = rest_apart e es left is amid.apart;
    passed = more_passed;
    once = more_once;
    sound = λ y c. elim (Contains-push_cases told x y c) [
      | inl old ↦ amid.sound y old
      | inr same ↦ subst (λ (z : ChangedPath). IsSome (here all z.path) × (z.stands ≡ is_shown (here all z.path))) same
          (subst (λ (o : Option Standing). IsSome o) (sym here_now) refl, stands ∙ sym (ap is_shown here_now))
    ];
    whole = λ q h. elim (amid.whole q h) [
      | inl old ↦ inl (old.0, Contains-append_left told (x ∷ []) old.0 old.1, old.2)
      | inr l ↦ elim (split_head q e es left is l) [ inl k ↦ inl (x, Contains-push told x, at ∙ sym k) | inr t ↦ inr t ]
    ];
  }

-- the key of the next entry was changed
pub key_changed : (all left : List Entry) (e : Entry) (es : List Entry) (told : List ChangedPath) → left ≡ e ∷ es → IsAmidTelling all left told → Has all (string_bytes e.0)
key_changed all left e es told is amid = subst (λ (o : Option Standing). IsSome o) (amid.sub (string_bytes e.0) (has_head (string_bytes e.0) e es left is refl)) (has_head (string_bytes e.0) e es left is refl)
