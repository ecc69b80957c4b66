-- The names of what was changed in a directory, from what is left of the entries.
use Rattle.std.proofs.Common.{◌≡◌, ◌⊎◌, Bool, true, false, cond, List, [], ◌∷◌, ◌++◌, Option, Some, None, String, refl, sym, ap, subst, subst₂, ◌∙◌, inl, inr}
use Rattle.std.specs.Prelude.{IsSome, Contains}
use Rattle.std.specs.String.{string_bytes, string_cmp, string_cmp_total}
use Rattle.std.specs.Map.{lookup, keys_of}
use Rattle.std.specs.BTreeMap.{BTreeMap, is_at, get_by_text}
use Rattle.std.specs.declared.alloc.Global.{Global}
use Rattle.std.specs.Cmp.Lexicographic.{slice_cmp}
use Rattle.std.specs.Ordering.{nat_cmp, eq_by_cmp}
use Rattle.std.specs.List.{IsDistinct, list_any}
use Rattle.std.specs.List.Sorted.{IsStrictlySortedBy}
use Rattle.std.specs.Str.{bytes_eq, IsUtf8}
use Rattle.std.proofs.lemmas.Bool.{false≢true, false_from_ne_true}
use Rattle.std.proofs.lemmas.Cmp.{eq_by_cmp_equiv, nat_list_eq_equiv}
use Rattle.std.proofs.lemmas.Map.{lookup-none}
use Rattle.std.proofs.lemmas.Map.Entries.{none_past_head}
use Rattle.std.proofs.lemmas.Map.Keys.{IsDistinct-from_sorted, IsDistinct-tail, IsDistinct-push}
use Rattle.std.proofs.lemmas.Map.Views.{Contains-from_any, list_any-from_Contains}
use Rattle.std.proofs.lemmas.Map.Text.{is_eq-slice_cmp}
use Rattle.std.proofs.lemmas.Slice.Eq.{bytes_eq-Decides}
use Rattle.std.proofs.lemmas.List.Elements.{Contains-append_left, Contains-push, Contains-push_cases}
use Rattle.host_core.specs.Paths.{Path}
use Rattle.host_core.specs.Tree.{has_slash}
use Rattle.host_overlay.specs.Standings.{is_something, is_shown, AreNamesIn}
use Rattle.host_overlay.specs.declared.standing.Standing.{Standing}
use Rattle.host_overlay.proofs.Splits.{same_name}

abbrev pub Entry : Type 0
Entry = String Global × Standing

abbrev pub test : Path → String Global → Bool
test q = is_at (λ (k : String Global). slice_cmp nat_cmp q (string_bytes k))

-- what the entries have at a path
abbrev pub here : List Entry → Path → Option Standing
here es q = lookup (test q) es

abbrev pub Has : List Entry → Path → Type 0
Has es q = IsSome (here es q)

true_test : (q : Path) (k : String Global) → test q k ≡ true → q ≡ string_bytes k
true_test q k e = (bytes_eq-Decides q (string_bytes k)).0 (sym (is_eq-slice_cmp q (string_bytes k)) ∙ e)

test_true : (q : Path) (k : String Global) → q ≡ string_bytes k → test q k ≡ true
test_true q k e = is_eq-slice_cmp q (string_bytes k) ∙ (bytes_eq-Decides q (string_bytes k)).1 e

-- no two keys are the same
abbrev pub AreApart : List Entry → Type 0
AreApart es = IsDistinct (eq_by_cmp (string_cmp {Z = Global})) (keys_of es)

pub rest_apart : (e : Entry) (es left : List Entry) → left ≡ e ∷ es → AreApart left → AreApart es
rest_apart e es left is apart = IsDistinct-tail (eq_by_cmp (string_cmp {Z = Global})) e.0 (keys_of es) (subst AreApart is apart)

no_some : (o : Option Standing) → o ≡ None → IsSome o → ⊥
no_some None e is = false≢true is
no_some (Some s) e is = absurd cc

-- what stands at the first key stands at none of the others
pub not_in_rest : (q : Path) (e : Entry) (es left : List Entry) → left ≡ e ∷ es → AreApart left → q ≡ string_bytes e.0 → Has es q → ⊥
not_in_rest q e es left is apart at = no_some (here es q) (
    ap (λ (p : Path). here es p) at
    ∙ lookup-none (test (string_bytes e.0)) es
    (none_past_head (eq_by_cmp_equiv (string_cmp_total {Z = Global})) e.0 e es (subst AreApart is apart) ((eq_by_cmp_equiv (string_cmp_total {Z = Global})).refl e.0)))

-- a loop over the entries, of which the last ones are left
pub record IsAmidNames (all left : List Entry) (path : Path) (names : List Path) : Type 0 where
  pub sub : (q : Path) → Has left q → here left q ≡ here all q
  pub apart : AreApart left
  pub passed : (name : Path) → Contains names name → Has left (path ++ 47 ∷ name) → ⊥
  pub once : IsDistinct bytes_eq names
  pub text : (name : Path) → Contains names name → IsUtf8 name
  pub sound : (name : Path) → Contains names name → (has_slash name ≡ false) × (is_shown (here all (path ++ 47 ∷ name)) ≡ true)
  pub whole : (name : Path) → has_slash name ≡ false → is_shown (here all (path ++ 47 ∷ name)) ≡ true → Contains names name ⊎ Has left (path ++ 47 ∷ name)
  pub keys : (name : Path) → has_slash name ≡ false → Has all (path ++ 47 ∷ name) → IsUtf8 name ⊎ Has left (path ++ 47 ∷ name)

none_in_nil : (P : Type 0) (name : Path) → Contains [] name → P
none_in_nil P name c = absurd (false≢true (list_any-from_Contains nat_list_eq_equiv name [] c))

shown_has : (o : Option Standing) → is_shown o ≡ true → IsSome o
shown_has None is = is
shown_has (Some s) is = refl

pub names_start : (all left : List Entry) (path : Path) (names : List Path) → left ≡ all → names ≡ [] → IsStrictlySortedBy string_cmp (keys_of all) → IsAmidNames all left path names
unfolding IsDistinct
names_start all left path names whole none sorted = subst₂ (λ (l : List Entry) (ns : List Path). IsAmidNames all l path ns) (sym whole) (sym none) record {
  sub = λ q h. refl;
  apart = IsDistinct-from_sorted (string_cmp {Z = Global}) (keys_of all) sorted;
  passed = λ name c h. none_in_nil ⊥ name c;
  once = tt;
  text = λ name c. none_in_nil (IsUtf8 name) name c;
  sound = λ name c. none_in_nil ((has_slash name ≡ false) × (is_shown (here all (path ++ 47 ∷ name)) ≡ true)) name c;
  whole = λ name plain h. inr (shown_has (here all (path ++ 47 ∷ name)) h);
  keys = λ name plain h. inr h;
}

none_left : (q : Path) (left : List Entry) → left ≡ [] → Has left q → ⊥
none_left q left none h = false≢true (subst (λ (es : List Entry). Has es q) none h)

pub names_end : (all left : List Entry) (path : Path) (names : List Path) (m : BTreeMap (String Global) Standing) → m.entries ≡ all → left ≡ [] → IsAmidNames all left path names → AreNamesIn (get_by_text m) path names
names_end all left path names m is none amid = subst (λ (es : List Entry). AreNamesIn (λ q. here es q) path names) (sym is) record {
  once = amid.once;
  text = amid.text;
  there = amid.sound;
  whole = λ name plain h. elim (amid.whole name plain h) [ inl c ↦ c | inr l ↦ absurd (none_left (path ++ 47 ∷ name) left none l) ];
  all = λ name plain h. elim (amid.keys name plain h) [ inl c ↦ c | inr l ↦ absurd (none_left (path ++ 47 ∷ name) left none l) ];
}

head_or_tail : (q : Path) (e : Entry) (es : List Entry) (b : Bool) → test q e.0 ≡ b → IsSome (cond b (Some e.1) (here es q)) → (q ≡ string_bytes e.0) ⊎ Has es q
head_or_tail q e es true is h = inl (true_test q e.0 is)
head_or_tail q e es false is h = inr h

pub split_head : (q : Path) (e : Entry) (es left : List Entry) → left ≡ e ∷ es → Has left q → (q ≡ string_bytes e.0) ⊎ Has es q
split_head q e es left is h = head_or_tail q e es (test q e.0) refl (subst (λ (l : List Entry). Has l q) is h)

-- at the first key stands what it was changed to
at_head : (q : Path) (e : Entry) (es left : List Entry) → left ≡ e ∷ es → q ≡ string_bytes e.0 → here left q ≡ Some e.1
at_head q e es left is at = ap (λ (l : List Entry). here l q) is ∙ ap (λ (b : Bool). cond b (Some e.1) (here es q)) (test_true q e.0 at)

pub has_head : (q : Path) (e : Entry) (es left : List Entry) → left ≡ e ∷ es → q ≡ string_bytes e.0 → Has left q
has_head q e es left is at = subst (λ (o : Option Standing). IsSome o) (sym (at_head q e es left is at)) refl

in_tail_at : (b : Bool) (n : Standing) (o : Option Standing) → IsSome o → IsSome (cond b (Some n) o)
in_tail_at true n o h = refl
in_tail_at false n o h = h

pub has_tail : (q : Path) (e : Entry) (es left : List Entry) → left ≡ e ∷ es → Has es q → Has left q
has_tail q e es left is h = subst (λ (l : List Entry). Has l q) (sym is) (in_tail_at (test q e.0) e.1 (here es q) h)

-- what is left says what the whole does
module _ (all left : List Entry) (e : Entry) (es : List Entry) (is : left ≡ e ∷ es) (sub : (q : Path) → Has left q → here left q ≡ here all q) (apart : AreApart left) where
  tail_by : (q : Path) (b : Bool) → test q e.0 ≡ b → Has es q → here es q ≡ cond b (Some e.1) (here es q)
  tail_by q true t h = absurd (not_in_rest q e es left is apart (true_test q e.0 t) h)
  tail_by q false t h = refl

  pub sub_tail : (q : Path) → Has es q → here es q ≡ here all q
  sub_tail q h = tail_by q (test q e.0) refl h ∙ sym (ap (λ (l : List Entry). here l q) is) ∙ sub q (has_tail q e es left is h)

  pub all_head : (q : Path) → q ≡ string_bytes e.0 → here all q ≡ Some e.1
  all_head q at = sym (sub q (has_head q e es left is at)) ∙ at_head q e es left is at

-- an entry that stands in another directory
pub names_other : (all left : List Entry) (e : Entry) (es : List Entry) (path : Path) (names : List Path) → left ≡ e ∷ es → IsAmidNames all left path names
    → ((name : Path) → has_slash name ≡ false → string_bytes e.0 ≡ path ++ 47 ∷ name → ⊥) → IsAmidNames all es path names
names_other all left e es path names is amid none = record {
  sub = sub_tail all left e es is amid.sub amid.apart;
  apart = rest_apart e es left is amid.apart;
  passed = λ name c h. amid.passed name c (has_tail (path ++ 47 ∷ name) e es left is h);
  once = amid.once;
  text = amid.text;
  sound = amid.sound;
  whole = λ name plain h. elim (amid.whole name plain h) [
    | inl c ↦ inl c
    | inr l ↦ elim (split_head (path ++ 47 ∷ name) e es left is l) [ inl k ↦ absurd (none name plain (sym k)) | inr t ↦ inr t ]
  ];
  keys = λ name plain h. elim (amid.keys name plain h) [
    | inl c ↦ inl c
    | inr l ↦ elim (split_head (path ++ 47 ∷ name) e es left is l) [ inl k ↦ absurd (none name plain (sym k)) | inr t ↦ inr t ]
  ];
}

module _ (all left : List Entry) (e : Entry) (es : List Entry) (path name : Path) (names : List Path) (is : left ≡ e ∷ es) (amid : IsAmidNames all left path names) (key : string_bytes e.0 ≡ path ++ 47 ∷ name) (plain : has_slash name ≡ false) (utf8 : IsUtf8 name) where
  same_here : (x : Path) → path ++ 47 ∷ x ≡ string_bytes e.0 → name ≡ x
  same_here x k = same_name path name x (sym key ∙ sym k)

  keys_tail : (x : Path) → has_slash x ≡ false → Has all (path ++ 47 ∷ x) → IsUtf8 x ⊎ Has es (path ++ 47 ∷ x)
  keys_tail x bare h = elim (amid.keys x bare h) [
    | inl c ↦ inl c
    | inr l ↦ elim (split_head (path ++ 47 ∷ x) e es left is l) [ inl k ↦ inl (subst IsUtf8 (same_here x k) utf8) | inr t ↦ inr t ]
  ]

  -- an entry at which nothing stands any more
  pub names_gone : is_something e.1.origin ≡ false → IsAmidNames all es path names
  names_gone nothing = record {
    sub = sub_tail all left e es is amid.sub amid.apart;
    apart = rest_apart e es left is amid.apart;
    passed = λ x c h. amid.passed x c (has_tail (path ++ 47 ∷ x) e es left is h);
    once = amid.once;
    text = amid.text;
    sound = amid.sound;
    whole = λ x bare h. elim (amid.whole x bare h) [
      | inl c ↦ inl c
      | inr l ↦ elim (split_head (path ++ 47 ∷ x) e es left is l) [
        | inl k ↦ absurd (false≢true (sym nothing ∙ sym (ap is_shown (all_head all left e es is amid.sub amid.apart (path ++ 47 ∷ x) k)) ∙ h))
        | inr t ↦ inr t
      ]
    ];
    keys = keys_tail;
  }

  -- an entry at which something stands
  pub names_some : is_something e.1.origin ≡ true → IsAmidNames all es path (names ++ name ∷ [])
  names_some something = record {
    sub = sub_tail all left e es is amid.sub amid.apart;
    apart = rest_apart e es left is amid.apart;
    passed = λ x m h. elim (Contains-push_cases names name x m) [
      | inl c ↦ amid.passed x c (has_tail (path ++ 47 ∷ x) e es left is h)
      | inr s ↦ not_in_rest (path ++ 47 ∷ x) e es left is amid.apart (ap (λ (n : Path). path ++ 47 ∷ n) (sym s) ∙ sym key) h
    ];
    once = IsDistinct-push nat_list_eq_equiv names name amid.once (false_from_ne_true (list_any (bytes_eq name) names)
        (λ t. amid.passed name (Contains-from_any (λ x y same. (bytes_eq-Decides x y).0 same) name names t) (has_head (path ++ 47 ∷ name) e es left is (sym key))));
    text = λ x m. elim (Contains-push_cases names name x m) [ inl c ↦ amid.text x c | inr s ↦ subst IsUtf8 s utf8 ];
    sound = λ x m. elim (Contains-push_cases names name x m) [
      | inl c ↦ amid.sound x c
      | inr s ↦ (
        ap has_slash (sym s) ∙ plain,
        ap is_shown (all_head all left e es is amid.sub amid.apart (path ++ 47 ∷ x) (ap (λ (n : Path). path ++ 47 ∷ n) (sym s) ∙ sym key)) ∙ something,
      )
    ];
    whole = λ x bare h. elim (amid.whole x bare h) [
      | inl c ↦ inl (Contains-append_left names (name ∷ []) x c)
      | inr l ↦ elim (split_head (path ++ 47 ∷ x) e es left is l) [
        | inl k ↦ inl (subst (λ (n : Path). Contains (names ++ name ∷ []) n) (same_here x k) (Contains-push names name))
        | inr t ↦ inr t
      ]
    ];
    keys = keys_tail;
  }
