-- The places of all lists are those before a name, its own, and those behind it.
use Rattle.std.proofs.Common.{◌≡◌, ◌+◌, ◌<◌, ◌≤◌, ℕ, zero, suc, Bool, true, false, cond, List, [], ◌∷◌, ◌++◌, map, filter, take, drop, length, get_or, refl, sym, ap, subst, ◌∙◌, arith, append_assoc, length-append}
use Rattle.std.specs.List.{AllByRecursion, sum_by}
use Rattle.std.specs.Str.{bytes_eq}
use Rattle.std.specs.Ordering.{nat_cmp, is_lt, ordering_reverse, match_ordering}
use Rattle.std.specs.Cmp.Lexicographic.{slice_cmp}
use Rattle.std.specs.declared.cmp.Ordering.{Ordering}
use Rattle.std.specs.declared.cmp.Ordering.TheVariants.{Less, Equal, Greater}
use Rattle.std.proofs.Math.Seq.{take-append_seam, drop-append_seam}
use Rattle.std.proofs.lemmas.Bool.{false_from_ne_true}
use Rattle.std.proofs.lemmas.Cmp.{nat_list_cmp_total, tied_itself}
use Rattle.std.proofs.lemmas.List.{length-map}
use Rattle.std.proofs.lemmas.List.Elements.{filter_more}
use Rattle.std.proofs.lemmas.List.Sums.{sum_by-append}
use Rattle.std.proofs.lemmas.Map.Lookups.{exact_bytes}
use Rattle.std.proofs.lemmas.Slice.Eq.{bytes_eq-Decides}
use Rattle.host_core.specs.Paths.{Path}
use Rattle.diversions.specs.Ways.{Ways, place}
use Rattle.file_lists.specs.Beside.{AreSameBeside, lists_before, lists_behind, path_count}
use Rattle.file_lists.specs.Increasing.{AreIncreasing, IsBefore}
use Rattle.file_lists.specs.Owners.{AreLists, names_of, paths_of, places_in, places_of_list}
use Rattle.file_lists.specs.Writing.{package_list, with_list}
use Rattle.file_lists.specs.declared.paths.PackageList.{PackageList}
use Rattle.file_lists.proofs.Increasing.{not_before_itself}

-- one list more is counted, or isn't
pub count_more : (counts : PackageList → Bool) (lists : List PackageList) (i : ℕ) (l : PackageList) (old new : ℕ) → i < length lists → l ≡ get_or lists i l → old ≡ path_count (filter counts (take i lists))
    → new ≡ old + cond (counts l) (length l.paths) 0 → new ≡ path_count (filter counts (take (i + 1) lists))
count_more counts lists i l old new lt is so_far more =
    more ∙ ap (λ (n : ℕ). n + cond (counts l) (length l.paths) 0) so_far
    ∙ ap (λ (n : ℕ). path_count (filter counts (take i lists)) + n) (one (counts l))
    ∙ sym (sum_by-append (λ (x : PackageList). length x.paths) (filter counts (take i lists)) (cond (counts l) (l ∷ []) []))
    ∙ ap (λ (x : PackageList). path_count (filter counts (take i lists) ++ cond (counts x) (x ∷ []) [])) is
    ∙ ap path_count (sym (filter_more counts lists i l lt))
  where
    one : (b : Bool) → cond b (length l.paths) 0 ≡ path_count (cond b (l ∷ []) [])
    one true = let alone : length l.paths ≡ 0 + length l.paths = omega arith in alone
    one false = refl

first_counted : (l : PackageList) (lists : List PackageList) → path_count (l ∷ lists) ≡ length l.paths + path_count lists
first_counted l lists =
    let alone : 0 + length l.paths ≡ length l.paths = omega arith in
    sum_by-append (λ (x : PackageList). length x.paths) (l ∷ []) lists ∙ ap (λ (n : ℕ). n + path_count lists) alone

module _ (ways : Ways) (name : List ℕ) where
  places_count : (lists : List PackageList) → length (places_in ways lists) ≡ path_count lists
  places_count [] = refl
  places_count (l ∷ lists) =
      length-append (map (place ways l.name) l.paths) (places_in ways lists)
      ∙ ap (λ (n : ℕ). n + length (places_in ways lists)) (length-map l.paths (place ways l.name))
      ∙ ap (λ (n : ℕ). length l.paths + n) (places_count lists)
      ∙ sym (first_counted l lists)

  abbrev whole : List PackageList → List Path → List PackageList → List Path
  whole before paths behind = places_in ways before ++ map (place ways name) paths ++ places_in ways behind

  whole_same : (b c : List PackageList) (p q : List Path) (d e : List PackageList) → b ≡ c → p ≡ q → d ≡ e → whole b p d ≡ whole c q e
  whole_same b c p q d e first second third = ap (λ (x : List PackageList). whole x p d) first ∙ ap (λ (x : List Path). whole c x d) second ∙ ap (λ (x : List PackageList). whole c q x) third

  apart : (p q : Path) → IsBefore p q → bytes_eq p q ≡ false
  apart p q less = false_from_ne_true (bytes_eq p q) (λ same. not_before_itself p (subst (IsBefore p) (sym ((bytes_eq-Decides p q).0 same)) less))

  apart_back : (p q : Path) → IsBefore p q → bytes_eq q p ≡ false
  apart_back p q less = false_from_ne_true (bytes_eq q p) (λ same. not_before_itself p (subst (IsBefore p) ((bytes_eq-Decides q p).0 same) less))

  turned : (p q : Path) → IsBefore p q → slice_cmp nat_cmp q p ≡ Greater
  turned p q less = nat_list_cmp_total.antisymm q p ∙ ap ordering_reverse less

  -- lists behind the name alone

  none_before : (lists : List PackageList) → AllByRecursion (IsBefore name) (names_of lists) → lists_before name lists ≡ []
  none_before [] all = refl
  none_before (l ∷ lists) all = ap (λ o. cond (is_lt o) (l ∷ lists_before name lists) (lists_before name lists)) (turned name l.name all.0) ∙ none_before lists all.1

  all_behind : (lists : List PackageList) → AllByRecursion (IsBefore name) (names_of lists) → lists_behind name lists ≡ lists
  all_behind [] all = refl
  all_behind (l ∷ lists) all = ap (λ o. cond (is_lt o) (l ∷ lists_behind name lists) (lists_behind name lists)) all.0 ∙ ap (λ (x : List PackageList). l ∷ x) (all_behind lists all.1)

  none_own : (lists : List PackageList) → AllByRecursion (IsBefore name) (names_of lists) → paths_of lists name ≡ []
  none_own [] all = refl
  none_own (l ∷ lists) all = ap (λ b. cond b l.paths (paths_of lists name)) (apart name l.name all.0) ∙ none_own lists all.1

  further : (p : Path) (names : List Path) → IsBefore name p → AllByRecursion (IsBefore p) names → AllByRecursion (IsBefore name) names
  further p [] less all = tt
  further p (q ∷ names) less all = (nat_list_cmp_total.trans name p q less all.0, further p names less all.1)

  parted : (lists : List PackageList) → AreIncreasing (names_of lists) → places_in ways lists ≡ whole (lists_before name lists) (paths_of lists name) (lists_behind name lists)
  parted [] order = refl
  parted (l ∷ lists) order = by (slice_cmp nat_cmp l.name name) refl (parted lists order.1)
    where
      by : (o : Ordering) → slice_cmp nat_cmp l.name name ≡ o → places_in ways lists ≡ whole (lists_before name lists) (paths_of lists name) (lists_behind name lists)
          → places_in ways (l ∷ lists) ≡ whole (lists_before name (l ∷ lists)) (paths_of (l ∷ lists) name) (lists_behind name (l ∷ lists))
      by Less e rest =
          ap (λ (x : List Path). places_of_list ways l ++ x) rest
          ∙ sym (append_assoc (places_of_list ways l) (places_in ways (lists_before name lists) ++ map (place ways name) (paths_of lists name)) (places_in ways (lists_behind name lists)))
          ∙ ap (λ (x : List Path). x ++ places_in ways (lists_behind name lists)) (sym (append_assoc (places_of_list ways l) (places_in ways (lists_before name lists)) (map (place ways name) (paths_of lists name))))
          ∙ sym (whole_same (lists_before name (l ∷ lists)) (l ∷ lists_before name lists) (paths_of (l ∷ lists) name) (paths_of lists name) (lists_behind name (l ∷ lists)) (lists_behind name lists)
          (ap (λ o. cond (is_lt o) (l ∷ lists_before name lists) (lists_before name lists)) e)
          (ap (λ b. cond b l.paths (paths_of lists name)) (apart_back l.name name e))
          (ap (λ o. cond (is_lt o) (l ∷ lists_behind name lists) (lists_behind name lists)) (turned l.name name e)))
      by Equal e rest =
          let same : l.name ≡ name = exact_bytes l.name name e in
          let all = subst (λ (n : Path). AllByRecursion (IsBefore n) (names_of lists)) same order.0 in
          ap (λ (n : Path). map (place ways n) l.paths ++ places_in ways lists) same
          ∙ sym (whole_same (lists_before name (l ∷ lists)) [] (paths_of (l ∷ lists) name) l.paths (lists_behind name (l ∷ lists)) lists
          (ap (λ o. cond (is_lt o) (l ∷ lists_before name lists) (lists_before name lists)) e ∙ none_before lists all)
          (ap (λ b. cond b l.paths (paths_of lists name)) ((bytes_eq-Decides name l.name).1 (sym same)))
          (ap (λ o. cond (is_lt o) (l ∷ lists_behind name lists) (lists_behind name lists)) (nat_list_cmp_total.antisymm name l.name ∙ ap ordering_reverse e) ∙ all_behind lists all))
      by Greater e rest =
          let less : IsBefore name l.name = nat_list_cmp_total.antisymm name l.name ∙ ap ordering_reverse e in
          let all : AllByRecursion (IsBefore name) (names_of (l ∷ lists)) = (less, further l.name (names_of lists) less order.0) in
          sym (whole_same (lists_before name (l ∷ lists)) [] (paths_of (l ∷ lists) name) [] (lists_behind name (l ∷ lists)) (l ∷ lists) (none_before (l ∷ lists) all) (none_own (l ∷ lists) all) (all_behind (l ∷ lists) all))

  -- the package's places are put between those of the others
  pub renewed : (old now : List PackageList) (start upto : ℕ) (had new : List Path) → AreLists old → AreLists now → AreSameBeside name old now → had ≡ places_in ways old
      → start ≡ path_count (lists_before name now) → upto + path_count (lists_behind name now) ≡ length had → new ≡ take start had ++ map (place ways name) (paths_of now name) ++ drop upto had → new ≡ places_in ways now
  renewed old now start upto had new were are same is from to new_is =
      let before = places_in ways (lists_before name now) in
      let own = map (place ways name) (paths_of old name) in
      let behind = places_in ways (lists_behind name now) in
      let had_is : had ≡ before ++ own ++ behind = is ∙ parted old were.names ∙ sym (whole_same (lists_before name now) (lists_before name old) (paths_of old name) (paths_of old name) (lists_behind name now) (lists_behind name old) same.before refl same.behind) in
      let front : take start had ≡ before = ap (λ (n : ℕ). take n had) (from ∙ sym (places_count (lists_before name now))) ∙ ap (take (length before)) (had_is ∙ append_assoc before own behind) ∙ take-append_seam before (own ++ behind) in
      let counted : length behind ≡ path_count (lists_behind name now) = places_count (lists_behind name now) in
      let long : length had ≡ length (before ++ own) + length behind = ap length had_is ∙ length-append (before ++ own) behind in
      let seam : upto ≡ length (before ++ own) = omega (arith, to, counted, long) in
      let back : drop upto had ≡ behind = ap (λ (n : ℕ). drop n had) seam ∙ ap (drop (length (before ++ own))) had_is ∙ drop-append_seam (before ++ own) behind in
      new_is
      ∙ ap (λ (x : List Path). x ++ map (place ways name) (paths_of now name) ++ drop upto had) front
      ∙ ap (λ (x : List Path). before ++ map (place ways name) (paths_of now name) ++ x) back
      ∙ sym (parted now are.names)

-- a package's list comes, or is another: the others are the same
pub with_beside : (name : List ℕ) (paths : List Path) (lists : List PackageList) → AreSameBeside name lists (with_list name paths lists)
with_beside name paths lists = record { before = before lists; behind = behind lists }
  where
    itself : slice_cmp nat_cmp name name ≡ Equal
    itself = tied_itself nat_list_cmp_total name

    before : (ls : List PackageList) → lists_before name (with_list name paths ls) ≡ lists_before name ls
    before [] = ap (λ o. cond (is_lt o) (package_list name paths ∷ []) []) itself
    before (l ∷ ls) = by (slice_cmp nat_cmp name l.name) refl (before ls)
      where
        by : (o : Ordering) → slice_cmp nat_cmp name l.name ≡ o → lists_before name (with_list name paths ls) ≡ lists_before name ls
            → lists_before name (match_ordering o (package_list name paths ∷ l ∷ ls) (package_list name paths ∷ ls) (l ∷ with_list name paths ls)) ≡ lists_before name (l ∷ ls)
        by Less e rest = ap (λ o. cond (is_lt o) (package_list name paths ∷ lists_before name (l ∷ ls)) (lists_before name (l ∷ ls))) itself
        by Equal e rest =
            ap (λ o. cond (is_lt o) (package_list name paths ∷ lists_before name ls) (lists_before name ls)) itself
            ∙ sym (ap (λ o. cond (is_lt o) (l ∷ lists_before name ls) (lists_before name ls)) (nat_list_cmp_total.antisymm l.name name ∙ ap ordering_reverse e))
        by Greater e rest = ap (λ (x : List PackageList). cond (is_lt (slice_cmp nat_cmp l.name name)) (l ∷ x) x) rest

    behind : (ls : List PackageList) → lists_behind name (with_list name paths ls) ≡ lists_behind name ls
    behind [] = ap (λ o. cond (is_lt o) (package_list name paths ∷ []) []) itself
    behind (l ∷ ls) = by (slice_cmp nat_cmp name l.name) refl (behind ls)
      where
        by : (o : Ordering) → slice_cmp nat_cmp name l.name ≡ o → lists_behind name (with_list name paths ls) ≡ lists_behind name ls
            → lists_behind name (match_ordering o (package_list name paths ∷ l ∷ ls) (package_list name paths ∷ ls) (l ∷ with_list name paths ls)) ≡ lists_behind name (l ∷ ls)
        by Less e rest = ap (λ o. cond (is_lt o) (package_list name paths ∷ lists_behind name (l ∷ ls)) (lists_behind name (l ∷ ls))) itself
        by Equal e rest =
            ap (λ o. cond (is_lt o) (package_list name paths ∷ lists_behind name ls) (lists_behind name ls)) itself
            ∙ sym (ap (λ o. cond (is_lt o) (l ∷ lists_behind name ls) (lists_behind name ls)) e)
        by Greater e rest = ap (λ (x : List PackageList). cond (is_lt (slice_cmp nat_cmp name l.name)) (l ∷ x) x) rest

pub same_then : (name : List ℕ) (a b c : List PackageList) → AreSameBeside name a b → AreSameBeside name b c → AreSameBeside name a c
same_then name a b c first second = record { before = second.before ∙ first.before; behind = second.behind ∙ first.behind }

take_shorter : (i j : ℕ) (xs : List Path) → i ≤ j → take i (take j xs) ≡ take i xs
take_shorter zero j xs le = refl
take_shorter (suc i) zero xs le = absurd (omega (arith, le))
take_shorter (suc i) (suc j) [] le = refl
take_shorter (suc i) (suc j) (x ∷ xs) le = ap (λ (l : List Path). x ∷ l) (take_shorter i j xs (omega (arith, le)))

-- a part is cut out, and another put there
pub put_between : (had one two three new own behind : List Path) (start upto : ℕ) → start ≤ upto → one ≡ take upto had → behind ≡ drop upto had → two ≡ take start one → three ≡ two ++ own → new ≡ three ++ behind → new ≡ take start had ++ own ++ drop upto had
put_between had one two three new own behind start upto le one_is behind_is two_is three_is new_is =
    new_is
    ∙ ap (λ (x : List Path). x ++ behind) (three_is ∙ ap (λ (x : List Path). x ++ own) (two_is ∙ ap (take start) one_is ∙ take_shorter start upto had le))
    ∙ ap (λ (x : List Path). take start had ++ own ++ x) behind_is
