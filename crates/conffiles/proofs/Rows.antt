-- Each case falls in exactly one row of the table.
use Rattle.std.proofs.Common.{◌≡◌, ◌≢◌, ℕ, Bool, true, false, List, Option, Some, None, is_some, refl, sym, ap, ◌∙◌}
use Rattle.std.specs.Prelude.{IsSome}
use Rattle.std.specs.Str.{bytes_eq}
use Rattle.std.proofs.lemmas.Bool.{true≢false, false_from_ne_true}
use Rattle.std.proofs.lemmas.Slice.Eq.{bytes_eq-Decides}
use Rattle.conffiles.specs.Decisions.{Row, Unrecorded, UnrecordedUpToDate, UnrecordedOther, Deleted, DeletedAndShippedAnew, UpToDate, ShippedAnew, Edited, EditedAndShippedAnew, FlaggedMissing, FlaggedUntouched, FlaggedEdited, IsRow, IsOnlyRow}

-- whether two digests are there and the same, or both not there
abbrev agree : Option (List ℕ) → Option (List ℕ) → Bool
agree None None = true
agree None (Some b) = false
agree (Some a) None = false
agree (Some a) (Some b) = bytes_eq a b

agree_same : (a b : Option (List ℕ)) → a ≡ b → agree a b ≡ true
agree_same None None is = refl
agree_same None (Some b) is = absurd cc
agree_same (Some a) None is = absurd cc
agree_same (Some a) (Some b) is = (bytes_eq-Decides a b).1 (cc)

agree_is : (a b : Option (List ℕ)) → agree a b ≡ true → a ≡ b
agree_is None None is = refl
agree_is None (Some b) is = absurd (true≢false (sym is))
agree_is (Some a) None is = absurd (true≢false (sym is))
agree_is (Some a) (Some b) is = ap (λ (d : List ℕ). Some d) ((bytes_eq-Decides a b).0 is)

agree_other : (a b : Option (List ℕ)) → a ≢ b → agree a b ≡ false
agree_other a b differ = false_from_ne_true (agree a b) (λ is. differ (agree_is a b is))

differ_by : (a b : Option (List ℕ)) → agree a b ≡ false → a ≢ b
differ_by a b apart is = true≢false (sym (agree_same a b is) ∙ apart)

-- the row of a case: which of the three are there, and whether the file is as shipped, it is as recorded, the shipped is as recorded
abbrev row_by : (recorded now shipped now_shipped now_recorded shipped_recorded : Bool) → Row
row_by true true true true b c = UpToDate
row_by true true true false true c = ShippedAnew
row_by true true true false false true = Edited
row_by true true true false false false = EditedAndShippedAnew
row_by true true false a true c = FlaggedUntouched
row_by true true false a false c = FlaggedEdited
row_by true false true a b true = Deleted
row_by true false true a b false = DeletedAndShippedAnew
row_by true false false a b c = FlaggedMissing
row_by false true true true b c = UnrecordedUpToDate
row_by false true true false b c = UnrecordedOther
row_by false true false a b c = FlaggedEdited
row_by false false true a b c = Unrecorded
row_by false false false a b c = FlaggedMissing

abbrev row_of : (recorded now shipped : Option (List ℕ)) → Row
row_of r n s = row_by (is_some r) (is_some n) (is_some s) (agree n s) (agree n r) (agree s r)

-- what the digests that are there tell of an option
pub some_of : (a : Option (List ℕ)) (x : List ℕ) → a ≡ Some x → IsSome a
some_of a x is = ap is_some is

pub same_of : (a b : Option (List ℕ)) (x y : List ℕ) → a ≡ Some x → b ≡ Some y → true ≡ bytes_eq x y → a ≡ b
same_of a b x y first second same = first ∙ ap (λ (d : List ℕ). Some d) ((bytes_eq-Decides x y).0 (sym same)) ∙ sym second

pub other_of : (a b : Option (List ℕ)) (x y : List ℕ) → a ≡ Some x → b ≡ Some y → false ≡ bytes_eq x y → a ≢ b
other_of a b x y first second apart is =
    let same : x ≡ y = cc in
    absurd (true≢false (sym ((bytes_eq-Decides x y).1 same) ∙ sym apart))

pub other_none : (a b : Option (List ℕ)) (x : List ℕ) → a ≡ Some x → b ≡ None → a ≢ b
other_none a b x some none is = absurd cc

-- a case has at least one row

at_same : (row other : Row) (r n s : Option (List ℕ)) (t : Bool) → (t ≡ true → IsRow row r n s) → (t ≡ false → IsRow other r n s) → (x : Row) × IsRow x r n s
at_same row other r n s true here there = (row, here refl)
at_same row other r n s false here there = (other, there refl)

some_row : (r n s : Option (List ℕ)) → (row : Row) × IsRow row r n s
some_row None None None = (FlaggedMissing, (refl, refl))
some_row None None (Some s) = (Unrecorded, (refl, refl, refl))
some_row None (Some n) None = (FlaggedEdited, (refl, λ same. cc, refl))
some_row None (Some n) (Some s) =
    at_same UnrecordedUpToDate UnrecordedOther None (Some n) (Some s) (agree (Some n) (Some s))
    (λ is. (refl, refl, agree_is (Some n) (Some s) is)) (λ apart. (refl, refl, refl, differ_by (Some n) (Some s) apart))
some_row (Some r) None None = (FlaggedMissing, (refl, refl))
some_row (Some r) None (Some s) =
    at_same Deleted DeletedAndShippedAnew (Some r) None (Some s) (agree (Some s) (Some r))
    (λ is. (refl, refl, agree_is (Some s) (Some r) is)) (λ apart. (refl, refl, refl, differ_by (Some s) (Some r) apart))
some_row (Some r) (Some n) None =
    at_same FlaggedUntouched FlaggedEdited (Some r) (Some n) None (agree (Some n) (Some r))
    (λ is. (refl, agree_is (Some n) (Some r) is, refl)) (λ apart. (refl, differ_by (Some n) (Some r) apart, refl))
some_row (Some r) (Some n) (Some s) = all_there (agree (Some n) (Some s)) (agree (Some n) (Some r)) (agree (Some s) (Some r)) refl refl refl
  where
    all_there : (a b c : Bool) → agree (Some n) (Some s) ≡ a → agree (Some n) (Some r) ≡ b → agree (Some s) (Some r) ≡ c → (row : Row) × IsRow row (Some r) (Some n) (Some s)
    all_there true b c as_shipped as_recorded both = (UpToDate, (refl, refl, agree_is (Some n) (Some s) as_shipped))
    all_there false true c as_shipped as_recorded both = (
      ShippedAnew,
      (
        refl,
        agree_is (Some n) (Some r) as_recorded,
        refl,
        λ same. differ_by (Some n) (Some s) as_shipped (agree_is (Some n) (Some r) as_recorded ∙ sym same),
      ),
    )
    all_there false false true as_shipped as_recorded both = (Edited, (refl, refl, differ_by (Some n) (Some r) as_recorded, differ_by (Some n) (Some s) as_shipped, agree_is (Some s) (Some r) both))
    all_there false false false as_shipped as_recorded both = (EditedAndShippedAnew, (refl, refl, refl, differ_by (Some n) (Some r) as_recorded, differ_by (Some n) (Some s) as_shipped, differ_by (Some s) (Some r) both))

-- and at most one

row_at : (r r' n n' s s' a a' b b' c c' : Bool) → r ≡ r' → n ≡ n' → s ≡ s' → a ≡ a' → b ≡ b' → c ≡ c' → row_by r' n' s' a' b' c' ≡ row_by r n s a b c
row_at r r' n n' s s' a a' b b' c c' er en es ea eb ec = λ i. row_by (sym er i) (sym en i) (sym es i) (sym ea i) (sym eb i) (sym ec i)

none_is : (a : Option (List ℕ)) → a ≡ None → is_some a ≡ false
none_is a none = ap is_some none

some_as : (a b : Option (List ℕ)) → a ≡ b → is_some b ≡ true → is_some a ≡ true
some_as a b same some = ap is_some same ∙ some

the_row : (row : Row) (r n s : Option (List ℕ)) → IsRow row r n s → row ≡ row_of r n s
the_row Unrecorded r n s is = row_at (is_some r) false (is_some n) false (is_some s) true _ _ _ _ _ _ (none_is r is.0) (none_is n is.1) is.2 refl refl refl
the_row UnrecordedUpToDate r n s is = row_at (is_some r) false (is_some n) true (is_some s) true (agree n s) true _ _ _ _ (none_is r is.0) is.1 (some_as s n (sym is.2) is.1) (agree_same n s is.2) refl refl
the_row UnrecordedOther r n s is = row_at (is_some r) false (is_some n) true (is_some s) true (agree n s) false _ _ _ _ (none_is r is.0) is.1 is.2 (agree_other n s is.3) refl refl
the_row Deleted r n s is = row_at (is_some r) true (is_some n) false (is_some s) true _ _ _ _ (agree s r) true is.0 (none_is n is.1) (some_as s r is.2 is.0) refl refl (agree_same s r is.2)
the_row DeletedAndShippedAnew r n s is = row_at (is_some r) true (is_some n) false (is_some s) true _ _ _ _ (agree s r) false is.0 (none_is n is.1) is.2 refl refl (agree_other s r is.3)
the_row UpToDate r n s is = row_at (is_some r) true (is_some n) true (is_some s) true (agree n s) true _ _ _ _ is.0 is.1 (some_as s n (sym is.2) is.1) (agree_same n s is.2) refl refl
the_row ShippedAnew r n s is = row_at (is_some r) true (is_some n) true (is_some s) true (agree n s) false (agree n r) true _ _ is.0 (some_as n r is.1 is.0) is.2 (agree_other n s (λ same. is.3 (sym same ∙ is.1))) (agree_same n r is.1) refl
the_row Edited r n s is = row_at (is_some r) true (is_some n) true (is_some s) true (agree n s) false (agree n r) false (agree s r) true is.0 is.1 (some_as s r is.4 is.0) (agree_other n s is.3) (agree_other n r is.2) (agree_same s r is.4)
the_row EditedAndShippedAnew r n s is = row_at (is_some r) true (is_some n) true (is_some s) true (agree n s) false (agree n r) false (agree s r) false is.0 is.1 is.2 (agree_other n s is.4) (agree_other n r is.3) (agree_other s r is.5)
the_row FlaggedMissing r n s is = at (is_some r) refl
  where
    at : (t : Bool) → is_some r ≡ t → FlaggedMissing ≡ row_of r n s
    at true e = row_at (is_some r) true (is_some n) false (is_some s) false _ _ _ _ _ _ e (none_is n is.0) (none_is s is.1) refl refl refl
    at false e = row_at (is_some r) false (is_some n) false (is_some s) false _ _ _ _ _ _ e (none_is n is.0) (none_is s is.1) refl refl refl
the_row FlaggedUntouched r n s is = row_at (is_some r) true (is_some n) true (is_some s) false _ _ (agree n r) true _ _ (some_as r n (sym is.1) is.0) is.0 (none_is s is.2) refl (agree_same n r is.1) refl
the_row FlaggedEdited r n s is = at (is_some r) refl
  where
    at : (t : Bool) → is_some r ≡ t → FlaggedEdited ≡ row_of r n s
    at true e = row_at (is_some r) true (is_some n) true (is_some s) false _ _ (agree n r) false _ _ e is.0 (none_is s is.2) refl (agree_other n r is.1) refl
    at false e = row_at (is_some r) false (is_some n) true (is_some s) false _ _ _ _ _ _ e is.0 (none_is s is.2) refl refl refl

pub one_row : (r n s : Option (List ℕ)) → (row : Row) × IsOnlyRow row r n s
one_row r n s =
    let found = some_row r n s in
    (found.0, record { is = found.1; only = λ other is. the_row other r n s is ∙ sym (the_row found.0 r n s found.1) })

pub same_row : (a b : Row) (r n s : Option (List ℕ)) → IsRow a r n s → IsRow b r n s → a ≡ b
same_row a b r n s first second = the_row a r n s first ∙ sym (the_row b r n s second)
