-- The lists of the recorded packages in the end of a unit, name by name.
use Rattle.std.proofs.Common.{◌≡◌, ◌⊎◌, inl, inr, ℕ, zero, suc, ◌||◌, Bool, true, false, cond, List, [], ◌∷◌, Option, Some, None, refl, sym, ap, subst, ◌∙◌, arith, Contains}
use Rattle.std.specs.Str.{bytes_eq, IsUtf8}
use Rattle.std.specs.List.{list_any, AllByRecursion}
use Rattle.std.proofs.lemmas.Bool.{true≢false, cond-true}
use Rattle.std.proofs.lemmas.Cmp.{nat_list_eq_equiv}
use Rattle.std.proofs.lemmas.List.Elements.{Contains-append_cases}
use Rattle.std.proofs.lemmas.Map.Views.{Contains-from_any, list_any-from_Contains}
use Rattle.std.proofs.lemmas.Slice.Eq.{bytes_eq-Decides}
use Rattle.std.proofs.lemmas.Str.{IsUtf8-nil, IsUtf8-from_ascii}
use Rattle.std.proofs.lemmas.Str.Ascii.{IsAscii-cons, IsAscii-nil}
use Rattle.host_core.specs.Paths.{Path, path_of}
use Rattle.host_core.specs.World.{World}
use Rattle.host_core.specs.declared.node.Node.{Node}
use Rattle.host_core.specs.declared.node.Node.TheVariants.{File, Dir, Link}
use Rattle.administration.specs.Places.{list_path}
use Rattle.diversions.specs.Ways.{Ways}
use Rattle.diversions.specs.Lines.{lines_in}
use Rattle.file_lists.specs.Lists.{HasLists, IsGood, IsReadable, Lists, paths_in, root_line}
use Rattle.file_lists.specs.Owners.{IsListable, paths_of}
use Rattle.file_lists.specs.Taking.{without_all}
use Rattle.file_lists.specs.Writing.{left_paths, list_file, without_places}
use Rattle.file_lists.specs.declared.paths.PackageList.{PackageList}
use Rattle.file_lists.proofs.Sorting.{all_of, listable}
use Rattle.file_lists.proofs.TakingAll.{lefts_step, paths_with}
use Rattle.file_lists.proofs.ReadBack.{list_readable, list_says}

-- a name is among these or not

pub any_has : (names : List (List ℕ)) (name : List ℕ) → list_any (bytes_eq name) names ≡ true → Contains names name
any_has names name is = Contains-from_any (λ x y e. (bytes_eq-Decides x y).0 e) name names is

pub has_any : (names : List (List ℕ)) (name : List ℕ) → Contains names name → list_any (bytes_eq name) names ≡ true
has_any names name has = list_any-from_Contains nat_list_eq_equiv name names has

pub among : (names : List (List ℕ)) (name : List ℕ) → Contains names name ⊎ (Contains names name → ⊥)
among names name = at (list_any (bytes_eq name) names) refl
  where
    at : (b : Bool) → list_any (bytes_eq name) names ≡ b → Contains names name ⊎ (Contains names name → ⊥)
    at true is = inl (any_has names name is)
    at false none = inr (λ has. true≢false (sym (has_any names name has) ∙ none))

pub none_has : {X : Type 0} (x : X) → Contains [] x → ⊥
none_has x has = absurd (omega (arith, has.1))

-- what a name lists once places were taken from some

module _ (ways : Ways) (places : List Path) where
  without_is : (names : List (List ℕ)) (had : List PackageList) (n : List ℕ) → paths_of (without_all ways places names had) n ≡ cond (list_any (bytes_eq n) names) (left_paths ways places n (paths_of had n)) (paths_of had n)
  without_is [] had n = refl
  without_is (m ∷ ms) had n = without_is ms next n ∙ join (list_any (bytes_eq n) ms) (bytes_eq n m) refl (paths_with had m n (left_paths ways places m (paths_of had m)))
    where
      next : List PackageList
      next = without_places ways places m had

      lefts : left_paths ways places n (paths_of next n) ≡ left_paths ways places n (paths_of had n)
      lefts = lefts_step ways places had had next m (λ x. refl) refl n

      join : (a b : Bool) → bytes_eq n m ≡ b → paths_of next n ≡ cond b (left_paths ways places m (paths_of had m)) (paths_of had n)
          → cond a (left_paths ways places n (paths_of next n)) (paths_of next n) ≡ cond (b || a) (left_paths ways places n (paths_of had n)) (paths_of had n)
      join true true e is = lefts
      join true false e is = lefts
      join false true e is = is ∙ ap (λ (x : List ℕ). left_paths ways places x (paths_of had x)) (sym ((bytes_eq-Decides n m).0 e))
      join false false e is = is

  pub paths_taken : (names : List (List ℕ)) (had : List PackageList) (n : List ℕ) → Contains names n → paths_of (without_all ways places names had) n ≡ left_paths ways places n (paths_of had n)
  paths_taken names had n has = without_is names had n ∙ cond-true (list_any (bytes_eq n) names) _ _ (has_any names n has)

  pub paths_spared : (names : List (List ℕ)) (had : List PackageList) (n : List ℕ) → (Contains names n → ⊥) → paths_of (without_all ways places names had) n ≡ paths_of had n
  paths_spared names had n hasnt = without_is names had n ∙ by (list_any (bytes_eq n) names) refl
    where
      by : (b : Bool) → list_any (bytes_eq n) names ≡ b → cond b (left_paths ways places n (paths_of had n)) (paths_of had n) ≡ paths_of had n
      by true is = absurd (hasnt (any_has names n is))
      by false is = refl

-- the paths that a readable list names are text

good_text : (line : List ℕ) → IsGood line → IsUtf8 line
good_text line (inl root) = subst IsUtf8 (sym root) (IsUtf8-from_ascii (47 ∷ 46 ∷ []) (IsAscii-cons 47 (46 ∷ []) (omega arith) (IsAscii-cons 46 [] (omega arith) IsAscii-nil)))
good_text line (inr parts) = parts.0

path_text : (line : List ℕ) → IsUtf8 line → IsUtf8 (path_of line)
path_text line text = by (bytes_eq line (47 ∷ []))
  where
    by : (b : Bool) → IsUtf8 (cond b [] line)
    by true = IsUtf8-nil
    by false = text

one_text : (x : Path) → IsUtf8 x → (q : Path) → Contains (x ∷ []) q → IsUtf8 q
one_text x text q (zero, lt, same) = subst IsUtf8 same text
one_text x text q (suc k, lt, same) = absurd (omega (arith, lt))

line_texts : (line : List ℕ) → IsGood line → (q : Path) → Contains (cond (bytes_eq line root_line) [] (path_of line ∷ [])) q → IsUtf8 q
line_texts line good q has = by (bytes_eq line root_line) has
  where
    by : (b : Bool) → Contains (cond b [] (path_of line ∷ [])) q → IsUtf8 q
    by true there = absurd (none_has q there)
    by false there = one_text (path_of line) (path_text line (good_text line good)) q there

lines_texts : (lines : List (List ℕ)) → AllByRecursion IsGood lines → (q : Path) → Contains (paths_in lines) q → IsUtf8 q
lines_texts [] good q has = absurd (none_has q has)
lines_texts (line ∷ lines) good q has = elim (Contains-append_cases (cond (bytes_eq line root_line) [] (path_of line ∷ [])) (paths_in lines) q has) [
  | inl here ↦ line_texts line good.0 q here
  | inr later ↦ lines_texts lines good.1 q later
]

pub node_texts : (node : Option Node) → IsReadable node → (q : Path) → Lists node q → IsUtf8 q
node_texts None readable q is = absurd is
node_texts (Some (File bytes access)) readable q is = lines_texts (lines_in bytes) readable.good q is
node_texts (Some (Dir access)) readable q is = absurd is
node_texts (Some (Link target)) readable q is = absurd is

node_can : (node : Option Node) → IsReadable node → (q : Path) → Lists node q → IsListable q
node_can None readable q is = absurd is
node_can (Some (File bytes access)) readable q is = all_of IsListable (paths_in (lines_in bytes)) q (listable (lines_in bytes) readable.good) is
node_can (Some (Dir access)) readable q is = absurd is
node_can (Some (Link target)) readable q is = absurd is

-- the lists, by what is said of each name

module _ (old new : World) (names more : List (List ℕ)) (lists after : List PackageList) where
  -- its list stayed, is one that was written, or names nothing
  pub data IsListEnd (name : List ℕ) : Type 0 where
    stays : Contains names name → new (list_path name) ≡ old (list_path name) → paths_of after name ≡ paths_of lists name → IsListEnd name
    written : (paths : List Path) → AllByRecursion IsListable paths → AllByRecursion IsUtf8 paths → new (list_path name) ≡ Some (list_file paths) → paths_of after name ≡ paths → IsListEnd name
    bare : new (list_path name) ≡ None → paths_of after name ≡ [] → IsListEnd name

  module _ (has : HasLists old names lists) where
    end_readable : (name : List ℕ) → IsListEnd name → IsReadable (new (list_path name))
    end_readable name (stays is same paths_are) = subst IsReadable (sym same) (has.readable name is)
    end_readable name (written paths can texts is paths_are) = subst IsReadable (sym is) (list_readable paths can texts)
    end_readable name (bare none paths_are) = subst IsReadable (sym none) tt

    end_whole : (name : List ℕ) → IsListEnd name → (q : Path) → Lists (new (list_path name)) q → Contains (paths_of after name) q
    end_whole name (stays is same paths_are) q there = subst (λ (l : List Path). Contains l q) (sym paths_are) (has.whole name q is (subst (λ n. Lists n q) same there))
    end_whole name (written paths can texts is paths_are) q there = subst (λ (l : List Path). Contains l q) (sym paths_are) ((list_says paths can q).0 (subst (λ n. Lists n q) is there))
    end_whole name (bare none paths_are) q there = absurd (subst (λ n. Lists n q) none there)

    end_sound : (name : List ℕ) → IsListEnd name → (q : Path) → Contains (paths_of after name) q → Lists (new (list_path name)) q
    end_sound name (stays is same paths_are) q there = subst (λ n. Lists n q) (sym same) (has.sound name q (subst (λ (l : List Path). Contains l q) paths_are there)).1
    end_sound name (written paths can texts is paths_are) q there = subst (λ n. Lists n q) (sym is) ((list_says paths can q).1 (subst (λ (l : List Path). Contains l q) paths_are there))
    end_sound name (bare none paths_are) q there = absurd (none_has q (subst (λ (l : List Path). Contains l q) paths_are there))

    pub has_lists_end : ((name : List ℕ) → Contains more name → IsListEnd name) → ((name : List ℕ) → (Contains more name → ⊥) → paths_of after name ≡ []) → HasLists new more after
    has_lists_end ends others = record {
      readable = λ name is. end_readable name (ends name is);
      whole = λ name q is there. end_whole name (ends name is) q there;
      sound = λ name q there. elim (among more name) [
        | inl is ↦ (is, end_sound name (ends name is) q there)
        | inr isnt ↦ absurd (none_has q (subst (λ (l : List Path). Contains l q) (others name isnt) there))
      ];
    }

    -- what is listed in the beginning is text, and of a name without a record nothing is listed
    pub listed_texts : (name : List ℕ) (q : Path) → Contains (paths_of lists name) q → IsUtf8 q
    listed_texts name q there = (let l = has.sound name q there in node_texts (old (list_path name)) (has.readable name l.0) q l.1)

    pub listed_can : (name : List ℕ) (q : Path) → Contains (paths_of lists name) q → IsListable q
    listed_can name q there = (let l = has.sound name q there in node_can (old (list_path name)) (has.readable name l.0) q l.1)

    pub unlisted : (name : List ℕ) → (Contains names name → ⊥) → paths_of lists name ≡ []
    unlisted name isnt = by (paths_of lists name) refl
      where
        by : (paths : List Path) → paths_of lists name ≡ paths → paths_of lists name ≡ []
        by [] is = is
        by (p ∷ ps) is = absurd (isnt (has.sound name p (subst (λ (l : List Path). Contains l p) (sym is) (zero, omega arith, refl))).0)
