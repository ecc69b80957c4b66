-- Works that are sorted by their places, no two of which are the same.
use Rattle.std.proofs.Common.{◌≡◌, ℕ, ◌+◌, Bool, true, false, List, [], ◌∷◌, slice_index_or, refl, sym, ap, ◌∙◌, arith}
use Rattle.std.specs.Ordering.{is_lt, is_eq, nat_cmp, ordering_reverse}
use Rattle.std.specs.declared.cmp.Ordering.{Ordering}
use Rattle.std.specs.declared.cmp.Ordering.TheVariants.{Less, Equal, Greater}
use Rattle.std.specs.Cmp.{IsStrictWeakOrder}
use Rattle.std.specs.Cmp.Lexicographic.{slice_cmp, nat_list_cmp_total}
use Rattle.std.specs.List.{IsDistinct, AllByRecursion}
use Rattle.std.specs.List.Sorted.{IsSortedBy}
use Rattle.std.proofs.lemmas.Bool.{true≢false}
use Rattle.std.proofs.lemmas.Cmp.{nat_list_eq_equiv}
use Rattle.std.proofs.lemmas.List.Sorted.{ranks_by}
use Rattle.std.proofs.lemmas.Map.Text.{is_eq-slice_cmp}
use Rattle.std.proofs.Math.Numerals.{add-one}
use Rattle.package_files.specs.declared.work.Work.{Work}
use Rattle.package_files.specs.Files.{Each}
use Rattle.package_files.specs.Names.{IsBefore, AllInOrder}
use Rattle.file_check.proofs.WorkLists.{each_of}
use Rattle.file_check.specs.Ready.{is_one_place}

abbrev pub is_before : Work → Work → Bool
is_before x y = is_lt (slice_cmp nat_cmp x.place y.place)

pub ranks : IsStrictWeakOrder is_before
ranks = ranks_by nat_list_cmp_total (λ (x : Work). x.place)

reversed : (o : Ordering) → is_lt o ≡ false → is_eq o ≡ false → is_lt (ordering_reverse o) ≡ true
reversed Less no_less no_equal = absurd (true≢false no_less)
reversed Equal no_less no_equal = absurd (true≢false no_equal)
reversed Greater no_less no_equal = refl

-- what isn't less and isn't the same is greater
before_of : (x y : Work) → is_before y x ≡ false → is_one_place x y ≡ false → is_before x y ≡ true
before_of x y no_less differ =
    ap is_lt (nat_list_cmp_total.antisymm x.place y.place)
    ∙ reversed (slice_cmp nat_cmp y.place x.place) no_less (is_eq-slice_cmp y.place x.place ∙ nat_list_eq_equiv.symm y.place x.place ∙ differ)

next_at : (x : Work) (xs : List Work) (k : ℕ) (d : Work) → slice_index_or (x ∷ xs) (k + 1) d ≡ slice_index_or xs k d
next_at x xs k d = ap (λ i. slice_index_or (x ∷ xs) i d) (add-one k)

tail_sorted : (x : Work) (xs : List Work) → IsSortedBy is_before (x ∷ xs) → IsSortedBy is_before xs
tail_sorted x xs sorted k d low high =
    (λ i. is_before (sym (next_at x xs (k + 1) d) i) (sym (next_at x xs k d) i)) ∙ sorted (k + 1) d (omega arith) (omega (arith, high))

later : (x : Work) (xs : List Work) → IsSortedBy is_before (x ∷ xs) → Each (λ z. is_before z x ≡ false) xs
later x [] sorted = tt
later x (y ∷ ys) sorted =
    let first : is_before y x ≡ false = sorted 0 x (omega arith) (omega arith) in
    (first, each_of (λ z. is_before z y ≡ false) (λ z. is_before z x ≡ false) (λ z no_less. ranks.chain z y x no_less first) ys (later y ys (tail_sorted x (y ∷ ys) sorted)))

apart : (x : Work) (xs : List Work) → AllByRecursion (λ y. is_one_place x y ≡ false) xs → Each (λ z. is_before z x ≡ false) xs → Each (IsBefore x) xs
apart x [] differ rest = tt
apart x (y ∷ ys) differ rest = (before_of x y rest.0 differ.0, apart x ys differ.1 rest.1)

pub in_order : (xs : List Work) → IsSortedBy is_before xs → IsDistinct is_one_place xs → AllInOrder xs
unfolding IsDistinct
in_order [] sorted distinct = tt
in_order (x ∷ xs) sorted distinct = (apart x xs distinct.0 (later x xs sorted), in_order xs (tail_sorted x xs sorted) distinct.1)

pub one_place_flips : (x y : Work) → is_one_place x y ≡ is_one_place y x
one_place_flips x y = nat_list_eq_equiv.symm x.place y.place
