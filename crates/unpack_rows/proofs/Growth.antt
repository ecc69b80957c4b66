-- What notes a row adds.
use Rattle.std.proofs.Common.{◌≡◌, ℕ, ◌+◌, ◌<◌, ◌≤◌, zero, suc, Bool, true, false, cond, ◌||◌, ◌&&◌, nat_le, List, [], ◌∷◌, ◌++◌, Option, Some, None, length, get_or, take, drop, refl, sym, ap, subst, ◌∙◌, arith, rules, append_assoc}
use Rattle.std.proofs.lemmas.Bool.{true≢false}
use Rattle.std.proofs.lemmas.List.{append-nil, take_more, get_or-take, length-take-le}
use Rattle.std.proofs.lemmas.List.Folds.{list_any-append}
use Rattle.std.proofs.lemmas.Slice.Eq.{bytes_eq-Decides}
use Rattle.std.proofs.Math.Seq.{drop-cons}
use Rattle.std.proofs.Math.Numerals.{add-one}
use Rattle.undo_rows.specs.declared.rows.Owner.{Owner}
use Rattle.undo_rows.specs.declared.rows.Owner.TheVariants.{Package as OfPackage, Files as OfFiles}
use Rattle.undo_rows.specs.declared.fall.Fall.{Fall}
use Rattle.undo_rows.specs.declared.fall.StepFault.{StepFault}
use Rattle.undo_rows.specs.declared.failed.Failed.{Failed}
use Rattle.undo_rows.specs.Place.{Back, Forward, Ready, blamed, called, worked}
use Rattle.status_records.specs.declared.record.Record.{Record}
use Rattle.unpack_rows.specs.declared.kinds.RowKind.{RowKind}
use Rattle.unpack_rows.specs.declared.kinds.RowKind.TheVariants.{Files}
use Rattle.unpack_rows.specs.declared.notes.Note.{Note}
use Rattle.unpack_rows.specs.Failures.{has_failed, is_same}
use Rattle.unpack_rows.specs.Kinds.{own_of, owner_of}
use Rattle.unpack_rows.specs.Notes.{listed, note_before, note_undone, notes_at, notes_back, notes_forward}
use Rattle.unpack_rows.proofs.Unnoted.{no_note}

or_false : (a b : Bool) → b ≡ false → (a || b) ≡ a
or_false true b e = refl
or_false false b e = e

or_true : (a b : Bool) → b ≡ true → (a || b) ≡ true
or_true true b e = refl
or_true false b e = e

or_left : (a b : Bool) → a ≡ true → (a || b) ≡ true
or_left true b e = refl
or_left false b e = absurd (true≢false (sym e))

and_both : (a b : Bool) → a ≡ true → b ≡ true → (a && b) ≡ true
and_both true b first second = second
and_both false b first second = first

and_false : (a b : Bool) → a ≡ false → (a && b) ≡ false
and_false true b e = absurd (true≢false e)
and_false false b e = refl

-- the failed undo calls

le_self : (n : ℕ) → nat_le n n ≡ true
le_self n = grind (arith, rules)

le_less : (j i : ℕ) → i < j → nat_le j i ≡ false
le_less j i less = grind (arith, rules)

same_self : (o : Owner) → is_same o o ≡ true
same_self (OfPackage name) = (bytes_eq-Decides name name).1 refl
same_self OfFiles = refl

-- after the undo of a row: whether its owner has a failed one
spared : (fails : Bool) (i : ℕ) (o : Owner) (failed : List Failed) → has_failed i o (blamed fails i o failed) ≡ (fails || has_failed i o failed)
spared false i o failed = refl
spared true i o failed =
    list_any-append (λ f. nat_le i f.row && is_same o f.owner) failed (record { row = i; owner = o } ∷ [])
    ∙ or_true (has_failed i o failed) _ (or_left (nat_le i i && is_same o o) false (and_both (nat_le i i) (is_same o o) (le_self i) (same_self o)))

-- which of a lower row doesn't concern later ones
later_failed : (fails : Bool) (j i : ℕ) (o p : Owner) (failed : List Failed) → i < j → has_failed j o (blamed fails i p failed) ≡ has_failed j o failed
later_failed false j i o p failed less = refl
later_failed true j i o p failed less =
    list_any-append (λ f. nat_le j f.row && is_same o f.owner) failed (record { row = i; owner = p } ∷ [])
    ∙ or_false (has_failed j o failed) _ (or_false (nat_le j i && is_same o p) false refl ∙ and_false (nat_le j i) (is_same o p) (le_less j i less))

nothing_left : (n : ℕ) (l : List RowKind) → drop n (take n l) ≡ []
nothing_left zero l = refl
nothing_left (suc n) [] = refl
nothing_left (suc n) (x ∷ l) = nothing_left n l

module _ (start : Option Record) (incoming : Record) where
  notes_forward-append : (a b : List RowKind) → notes_forward start incoming (a ++ b) ≡ notes_forward start incoming a ++ notes_forward start incoming b
  notes_forward-append [] b = refl
  notes_forward-append (k ∷ a) b =
      ap (λ (l : List Note). listed (note_before start incoming k) ++ l) (notes_forward-append a b)
      ∙ sym (append_assoc (listed (note_before start incoming k)) (notes_forward start incoming a) (notes_forward start incoming b))

  later_notes : (fails : Bool) (j i : ℕ) (p : Owner) (ks : List RowKind) (failed : List Failed) → i < j → notes_back start incoming j ks (blamed fails i p failed) ≡ notes_back start incoming j ks failed
  later_notes fails j i p [] failed less = refl
  later_notes fails j i p (k ∷ ks) failed less =
      let o = owner_of (own_of start incoming).name k in
      ap (λ (l : List Note). l ++ cond (has_failed j o (blamed fails i p failed)) [] (listed (note_undone start incoming k))) (later_notes fails (j + 1) i p ks failed (omega (arith, less)))
      ∙ ap (λ b. notes_back start incoming (j + 1) ks failed ++ cond b [] (listed (note_undone start incoming k))) (later_failed fails j i o p failed less)

  -- nothing is undone yet where a row failed
  nothing_undone : (kinds : List RowKind) (n : ℕ) (failed : List Failed) → notes_back start incoming n (drop n (take n kinds)) failed ≡ []
  nothing_undone kinds n failed = ap (λ l. notes_back start incoming n l failed) (nothing_left n kinds)

  turned : (kinds : List RowKind) (i : ℕ) (failed : List Failed) → notes_forward start incoming (take (i + 1) kinds) ++ notes_back start incoming (i + 1) (drop (i + 1) (take (i + 1) kinds)) failed ≡ notes_forward start incoming (take (i + 1) kinds)
  turned kinds i failed =
      ap (λ (l : List Note). notes_forward start incoming (take (i + 1) kinds) ++ l) (nothing_undone kinds (i + 1) failed)
      ∙ append-nil (notes_forward start incoming (take (i + 1) kinds))

  pub notes_called : (kinds : List RowKind) (i : ℕ) (ok : Bool) → notes_at start incoming kinds (called i ok) ≡ notes_at start incoming kinds (Ready i)
  notes_called kinds i true = refl
  notes_called kinds i false = turned kinds i []

  module _ (kinds : List RowKind) (i : ℕ) (k : RowKind) (within : i < length kinds) (at : k ≡ get_or kinds i k) where
    pub notes_ready : notes_at start incoming kinds (Ready i) ≡ notes_at start incoming kinds (Forward i) ++ listed (note_before start incoming k)
    notes_ready =
        ap (notes_forward start incoming) (take_more kinds i k within ∙ ap (λ r. take i kinds ++ r ∷ []) (sym at))
        ∙ notes_forward-append (take i kinds) (k ∷ [])
        ∙ ap (λ (l : List Note). notes_forward start incoming (take i kinds) ++ l) (append-nil (listed (note_before start incoming k)))

    files_alike : k ≡ Files → notes_at start incoming kinds (Ready i) ≡ notes_at start incoming kinds (Forward i)
    files_alike is =
        notes_ready
        ∙ ap (λ one. notes_at start incoming kinds (Forward i) ++ listed (note_before start incoming one)) is
        ∙ append-nil (notes_at start incoming kinds (Forward i))

    pub notes_worked : k ≡ Files → (fault : Option StepFault) → notes_at start incoming kinds (worked i fault) ≡ notes_at start incoming kinds (Forward i)
    notes_worked is None = files_alike is
    notes_worked is (Some fault) = turned kinds i [] ∙ files_alike is

  -- the notes up to a row that is undone
  module _ (kinds : List RowKind) (i : ℕ) (k : RowKind) (at : k ≡ get_or kinds i k) (fall : Fall) (failed : List Failed) (low : i ≤ fall.row) (inside : fall.row < length kinds) where
    tried_row : drop i (take (fall.row + 1) kinds) ≡ k ∷ drop (i + 1) (take (fall.row + 1) kinds)
    tried_row =
        let long : i < length (take (fall.row + 1) kinds) = subst (λ n. i < n) (sym (length-take-le (fall.row + 1) kinds (omega (arith, inside)))) (omega (arith, low)) in
        drop-cons (take (fall.row + 1) kinds) i k long
        ∙ ap (λ x. x ∷ drop (suc i) (take (fall.row + 1) kinds)) (get_or-take (fall.row + 1) kinds i k (omega (arith, low)) ∙ sym at)
        ∙ ap (λ n. k ∷ drop n (take (fall.row + 1) kinds)) (sym (add-one i))

    pub notes_undone : (fails : Bool) → notes_at start incoming kinds (Back i fall (blamed fails i (owner_of (own_of start incoming).name k) failed))
        ≡ notes_at start incoming kinds (Back (i + 1) fall failed) ++ cond (fails || has_failed i (owner_of (own_of start incoming).name k) failed) [] (listed (note_undone start incoming k))
    notes_undone fails =
        let o = owner_of (own_of start incoming).name k in
        let now = blamed fails i o failed in
        let fwd = notes_forward start incoming (take (fall.row + 1) kinds) in
        let rest = drop (i + 1) (take (fall.row + 1) kinds) in
        ap (λ (l : List RowKind). fwd ++ notes_back start incoming i l now) tried_row
        ∙ ap (λ (l : List Note). fwd ++ (l ++ cond (has_failed i o now) [] (listed (note_undone start incoming k)))) (later_notes fails (i + 1) i o rest failed (omega arith))
        ∙ ap (λ b. fwd ++ (notes_back start incoming (i + 1) rest failed ++ cond b [] (listed (note_undone start incoming k)))) (spared fails i o failed)
        ∙ sym (append_assoc fwd (notes_back start incoming (i + 1) rest failed) (cond (fails || has_failed i o failed) [] (listed (note_undone start incoming k))))

    pub notes_put_back : k ≡ Files → notes_at start incoming kinds (Back i fall failed) ≡ notes_at start incoming kinds (Back (i + 1) fall failed)
    notes_put_back is =
        let before = notes_at start incoming kinds (Back (i + 1) fall failed) in
        let b = has_failed i (owner_of (own_of start incoming).name k) failed in
        notes_undone false
        ∙ ap (λ one. before ++ cond b [] (listed (note_undone start incoming one))) is
        ∙ ap (λ (l : List Note). before ++ l) (no_note b)
        ∙ append-nil before
