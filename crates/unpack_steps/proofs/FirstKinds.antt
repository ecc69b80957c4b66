-- How many rows come before that of the files.
use Rattle.std.proofs.Common.{◌≡◌, ◌||◌, ℕ, ◌<◌, ◌+◌, zero, suc, Bool, true, false, List, [], ◌∷◌, length, take, get_or, refl, sym, ap, subst, ◌∙◌, arith}
use Rattle.std.proofs.lemmas.Bool.{true≢false}
use Rattle.unpack_rows.specs.Stages.{has_files, is_files}
use Rattle.unpack_rows.specs.declared.kinds.RowKind.{RowKind}

left_true : (a b : Bool) → a ≡ true → a || b ≡ true
left_true true b is = refl
left_true false b is = absurd (true≢false (sym is))

right_true : (a b : Bool) → b ≡ true → a || b ≡ true
right_true true b is = refl
right_true false b is = is

neither : (a b : Bool) → a ≡ false → b ≡ false → a || b ≡ false
neither true b is rest = is
neither false b is rest = rest

still_none : (a b c : Bool) → a || b ≡ false → (b ≡ false → c ≡ false) → a || c ≡ false
still_none true b c is so = is
still_none false b c is so = so is

none_first : (l : List RowKind) → has_files (take zero l) ≡ false
none_first [] = refl
none_first (x ∷ l) = refl

next : (i : ℕ) → suc i ≡ i + 1
next i = omega arith

files_by : (l : List RowKind) (i : ℕ) (k : RowKind) → i < length l → k ≡ get_or l i k → is_files k ≡ true → (has_files (take (suc i) l) ≡ true) × (has_files l ≡ true)
files_by [] i k within at is = absurd (omega (arith, within))
files_by (x ∷ l) zero k within at is =
    let this = sym (ap is_files at) ∙ is in
    (left_true (is_files x) (has_files (take zero l)) this, left_true (is_files x) (has_files l) this)
files_by (x ∷ l) (suc i) k within at is =
    let rest = files_by l i k (omega (arith, within)) at is in
    (right_true (is_files x) (has_files (take (suc i) l)) rest.0, right_true (is_files x) (has_files l) rest.1)

none_by : (l : List RowKind) (i : ℕ) (k : RowKind) → i < length l → k ≡ get_or l i k → is_files k ≡ false → has_files (take i l) ≡ false → has_files (take (suc i) l) ≡ false
none_by [] i k within at is none = absurd (omega (arith, within))
none_by (x ∷ l) zero k within at is none = neither (is_files x) (has_files (take zero l)) (sym (ap is_files at) ∙ is) (none_first l)
none_by (x ∷ l) (suc i) k within at is none = still_none (is_files x) (has_files (take i l)) (has_files (take (suc i) l)) none (λ rest. none_by l i k (omega (arith, within)) at is rest)

module _ (l : List RowKind) (i : ℕ) (k : RowKind) (within : i < length l) (at : k ≡ get_or l i k) where
  -- the row of the files is there, and among the first as far as it
  pub files_here : is_files k ≡ true → (has_files (take (i + 1) l) ≡ true) × (has_files l ≡ true)
  files_here is = let by = files_by l i k within at is in (subst (λ n. has_files (take n l) ≡ true) (next i) by.0, by.1)

  -- as long as it hasn't come
  pub none_more : is_files k ≡ false → has_files (take i l) ≡ false → has_files (take (i + 1) l) ≡ false
  none_more is none = subst (λ n. has_files (take n l) ≡ false) (next i) (none_by l i k within at is none)
