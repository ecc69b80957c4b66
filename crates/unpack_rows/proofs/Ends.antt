-- The tables of an unpack's ends.
use Rattle.std.proofs.Common.{◌≡◌, ℕ, ◌+◌, ◌<◌, ◌≤◌, zero, suc, Bool, true, false, cond, ◌&&◌, ◌||◌, nat_le, List, [], ◌∷◌, ◌++◌, Option, Some, None, length, take, map, refl, sym, ap, subst, ◌∙◌, arith, rules}
use Rattle.std.specs.Str.{bytes_eq}
use Rattle.std.proofs.lemmas.Bool.{true≢false}
use Rattle.std.proofs.lemmas.List.{take_all}
use Rattle.std.proofs.lemmas.Slice.Eq.{bytes_eq-Decides}
use Rattle.std.proofs.Math.Numerals.{add-one}
use Rattle.undo_rows.specs.declared.rows.Owner.{Owner}
use Rattle.undo_rows.specs.declared.rows.Owner.TheVariants.{Package as OfPackage}
use Rattle.undo_rows.specs.declared.fall.Fall.{Fall}
use Rattle.undo_rows.specs.declared.failed.Failed.{Failed}
use Rattle.undo_rows.specs.Place.{Back, Forward}
use Rattle.undo_rows.specs.Transcripts.{Ended, Committed, Unwound}
use Rattle.status_records.specs.declared.record.Record.{Record}
use Rattle.status_records.specs.Records.{record_in, AreApart, IsWithout}
use Rattle.unpack_rows.specs.declared.kinds.RowKind.{RowKind}
use Rattle.unpack_rows.specs.declared.kinds.RowKind.TheVariants.{Other}
use Rattle.unpack_rows.specs.declared.notes.Note.{Note}
use Rattle.unpack_rows.specs.declared.notes.Note.TheVariants.{Put}
use Rattle.unpack_rows.specs.EndStates.{AreConcerned, AreRecorded, NoneFailed, OfPrerm, OfPreinstOrPostrm, other_end, others_end, others_forward, own_end_by, end_of, end_record, forward_end, unwound_end}
use Rattle.unpack_rows.specs.Failures.{has_failed, is_same}
use Rattle.unpack_rows.specs.Kinds.{first_kinds, has_prerm, is_upgrade, kinds_of, last_kinds, own_of, state_of}
use Rattle.unpack_rows.specs.Notes.{as_before, half_configured, half_installed, unpacked, noted, notes_at, notes_back, notes_forward}
use Rattle.unpack_rows.proofs.Unnoted.{files_unnoted, files_unnoted_back, postrm_unnoted}
use Rattle.unpack_rows.proofs.LastNotes.{last_of, last_of-append, made_unless, missed_unless, note_name, note_value, noted_last, skipped, taken}

le_not : (j i : ℕ) → i < j → nat_le j i ≡ false
le_not j i less = grind (arith, rules)

le_is : (j i : ℕ) → j ≤ i → nat_le j i ≡ true
le_is j i less = grind (arith, rules)

-- an undo of a later row is one of any row
failed_at_all : (row : ℕ) (o : Owner) (failed : List Failed) → has_failed row o failed ≡ true → has_failed 0 o failed ≡ true
failed_at_all row o [] is = absurd (true≢false (sym is))
failed_at_all row o (f ∷ fs) is =
    ap (λ b. (b && is_same o f.owner) || has_failed 0 o fs) (le_is 0 f.row (omega arith))
    ∙ down (nat_le row f.row) (is_same o f.owner) (has_failed row o fs) (has_failed 0 o fs) (failed_at_all row o fs) is
  where
    down : (a s later any : Bool) → (later ≡ true → any ≡ true) → ((a && s) || later) ≡ true → ((true && s) || any) ≡ true
    down a true later any so e = refl
    down true false later any so e = so e
    down false false later any so e = so e

module _ (start : Option Record) (incoming : Record) where
  -- the note after the undo of the preinst
  abbrev undone : Note
  undone = cond (has_prerm (state_of start)) (Put (unpacked (own_of start incoming))) (as_before start incoming start)

  before_name : (found : Option Record) → note_name (as_before found incoming found) ≡ (own_of found incoming).name
  before_name None = refl
  before_name (Some r) = refl

  before_value : (found : Option Record) → note_value (as_before found incoming found) ≡ found
  before_value None = refl
  before_value (Some r) = refl

  undone_name : note_name undone ≡ (own_of start incoming).name
  undone_name = by (has_prerm (state_of start))
    where
      by : (b : Bool) → note_name (cond b (Put (unpacked (own_of start incoming))) (as_before start incoming start)) ≡ (own_of start incoming).name
      by true = refl
      by false = before_name start

  undone_value : (b : Bool) → has_prerm (state_of start) ≡ b → note_value undone ≡ cond b (Some (unpacked (own_of start incoming))) start
  undone_value b e = ap (λ c. note_value (cond c (Put (unpacked (own_of start incoming))) (as_before start incoming start))) e ∙ by b
    where
      by : (b : Bool) → note_value (cond b (Put (unpacked (own_of start incoming))) (as_before start incoming start)) ≡ cond b (Some (unpacked (own_of start incoming))) start
      by true = refl
      by false = before_value start

  named : (n : Note) (b : Bool) (q : List ℕ) → note_name n ≡ (own_of start incoming).name → bytes_eq (own_of start incoming).name q ≡ b → bytes_eq (note_name n) q ≡ b
  named n b q is e = ap (λ name. bytes_eq name q) is ∙ e

  module _ (upgrade : Bool) (failed : List Failed) where
    abbrev rest_of : List Record → ℕ → List RowKind
    rest_of others n = take n (map (λ r. Other r) others ++ last_kinds upgrade)

    abbrev own_failed : ℕ → Bool
    own_failed row = has_failed row (OfPackage (own_of start incoming).name) failed

    abbrev other_failed : ℕ → Record → Bool
    other_failed row r = has_failed row (OfPackage r.name) failed

    -- forward and back over some rows: what is then the record of a name
    abbrev over : Option Record → ℕ → List RowKind → List ℕ → Option Record
    over o row ks q = last_of (last_of o (notes_forward start incoming ks) q) (notes_back start incoming row ks failed) q

    abbrev half : Option Record
    half = Some (half_installed (own_of start incoming))

    -- the preinst and what follows, where the record of the name was this one
    last_step : (o : Option Record) (row m : ℕ) (q : List ℕ) → over o row (take (suc m) (last_kinds upgrade)) q
        ≡ last_of (cond (bytes_eq (own_of start incoming).name q) half o) (cond (own_failed row) [] (undone ∷ [])) q
    last_step o row m q =
        λ i. last_of (last_of (cond (bytes_eq (own_of start incoming).name q) half o) (files_unnoted start incoming upgrade m i) q) (files_unnoted_back start incoming failed upgrade m (row + 1) i ++ cond (own_failed row) [] (undone ∷ [])) q

    last_over : (o : Option Record) (row m : ℕ) (q : List ℕ) → bytes_eq (own_of start incoming).name q ≡ true → over o row (take (suc m) (last_kinds upgrade)) q ≡ cond (own_failed row) half (note_value undone)
    last_over o row m q e =
        last_step o row m q
        ∙ made_unless (own_failed row) undone (cond (bytes_eq (own_of start incoming).name q) half o) q (named undone true q undone_name e)
        ∙ ap (λ x. cond (own_failed row) x (note_value undone)) (taken (bytes_eq (own_of start incoming).name q) half o e)

    last_missed : (o : Option Record) (row m : ℕ) (q : List ℕ) → bytes_eq (own_of start incoming).name q ≡ false → over o row (take m (last_kinds upgrade)) q ≡ o
    last_missed o row zero q e = refl
    last_missed o row (suc m) q e =
        last_step o row m q
        ∙ missed_unless (own_failed row) undone (cond (bytes_eq (own_of start incoming).name q) half o) q (named undone false q undone_name e)
        ∙ skipped (bytes_eq (own_of start incoming).name q) half o e

    -- one other package, and what follows
    other_over : (o : Option Record) (row : ℕ) (r : Record) (ks : List RowKind) (q : List ℕ) → over o row (Other r ∷ ks) q
        ≡ last_of (over (cond (bytes_eq r.name q) (Some (half_configured r)) o) (row + 1) ks q) (cond (other_failed row r) [] (Put r ∷ [])) q
    other_over o row r ks q = last_of-append (last_of (cond (bytes_eq r.name q) (Some (half_configured r)) o) (notes_forward start incoming ks) q) (notes_back start incoming (row + 1) ks failed) (cond (other_failed row r) [] (Put r ∷ [])) q

    other_missed : (o : Option Record) (row : ℕ) (r : Record) (ks : List RowKind) (q : List ℕ) → bytes_eq r.name q ≡ false → over o row (Other r ∷ ks) q ≡ over o (row + 1) ks q
    other_missed o row r ks q e =
        other_over o row r ks q
        ∙ missed_unless (other_failed row r) (Put r) (over (cond (bytes_eq r.name q) (Some (half_configured r)) o) (row + 1) ks q) q e
        ∙ ap (λ x. over x (row + 1) ks q) (skipped (bytes_eq r.name q) (Some (half_configured r)) o e)

    -- the package's own record, where so many of these rows were tried
    own_over : (others : List Record) (o : Option Record) (row n : ℕ) → IsWithout (own_of start incoming).name others → over o row (rest_of others n) (own_of start incoming).name
        ≡ cond (nat_le (length others + 1) n) (cond (own_failed (row + length others)) half (note_value undone)) o
    own_over [] o row zero lacks = refl
    own_over [] o row (suc m) lacks =
        last_over o row m (own_of start incoming).name ((bytes_eq-Decides (own_of start incoming).name (own_of start incoming).name).1 refl)
        ∙ ap (λ n. cond (own_failed n) half (note_value undone)) (plus row)
        ∙ sym (taken (nat_le 1 (suc m)) (cond (own_failed (row + 0)) half (note_value undone)) o (le_is 1 (suc m) (omega arith)))
      where
        plus : (row : ℕ) → row ≡ row + 0
        plus row = omega arith
    own_over (r ∷ rs) o row zero lacks = sym (skipped (nat_le (length (r ∷ rs) + 1) 0) _ o (le_not (length (r ∷ rs) + 1) 0 (omega arith)))
    own_over (r ∷ rs) o row (suc m) lacks =
        other_missed o row r (rest_of rs m) (own_of start incoming).name lacks.0
        ∙ own_over rs o (row + 1) m lacks.1
        ∙ ap (λ b. cond b (cond (own_failed (row + 1 + length rs)) half (note_value undone)) o) (steps (length rs) m)
        ∙ ap (λ n. cond (nat_le (length (r ∷ rs) + 1) (suc m)) (cond (own_failed n) half (note_value undone)) o) (moves row (length rs))
      where
        steps : (l m : ℕ) → nat_le (l + 1) m ≡ nat_le (suc l + 1) (suc m)
        steps l m = grind (arith, rules)

        moves : (row l : ℕ) → row + 1 + l ≡ row + suc l
        moves row l = omega arith

    -- a name that none of these rows is of
    all_missed : (others : List Record) (o : Option Record) (row n : ℕ) (q : List ℕ) → bytes_eq (own_of start incoming).name q ≡ false → IsWithout q others → over o row (rest_of others n) q ≡ o
    all_missed [] o row n q e lacks = last_missed o row n q e
    all_missed (r ∷ rs) o row zero q e lacks = refl
    all_missed (r ∷ rs) o row (suc m) q e lacks = other_missed o row r (rest_of rs m) q lacks.0 ∙ all_missed rs o (row + 1) m q e lacks.1

    module _ (fall : Fall) (table : List Record) (q : List ℕ) (differs : bytes_eq (own_of start incoming).name q ≡ false) where
      stands : (r : Record) → record_in table r.name ≡ Some r → bytes_eq r.name q ≡ true → record_in table q ≡ Some r
      stands r is e = ap (record_in table) (sym ((bytes_eq-Decides r.name q).0 e)) ∙ is

      -- rows that weren't reached
      unreached : (b : Bool) (row : ℕ) (r : Record) (rest : Option Record) → fall.row < row → record_in table r.name ≡ Some r → bytes_eq r.name q ≡ b → rest ≡ record_in table q → cond b (Some (other_end row r fall failed)) rest ≡ record_in table q
      unreached true row r rest less is e same =
          ap (λ b. Some (cond (b && other_failed row r) (half_configured r) r)) (le_not row fall.row less) ∙ sym (stands r is e)
      unreached false row r rest less is e same = same

      others_unreached : (others : List Record) (row : ℕ) → fall.row < row → AreRecorded table others → others_end row others fall failed (record_in table) q ≡ record_in table q
      others_unreached [] row less are = refl
      others_unreached (r ∷ rs) row less are = unreached (bytes_eq r.name q) row r (others_end (row + 1) rs fall failed (record_in table) q) less are.0 refl (others_unreached rs (row + 1) (omega (arith, less)) are.1)

      lacks_same : (name : List ℕ) (rs : List Record) → name ≡ q → IsWithout name rs → IsWithout q rs
      lacks_same name rs e lacks = subst (λ x. IsWithout x rs) e lacks

      reached_one : (row : ℕ) (r : Record) → row ≤ fall.row → (x : Option Record) → x ≡ Some (half_configured r) → bytes_eq r.name q ≡ true
          → last_of x (cond (other_failed row r) [] (Put r ∷ [])) q ≡ Some (other_end row r fall failed)
      reached_one row r low x is e =
          made_unless (other_failed row r) (Put r) x q e
          ∙ ap (λ y. cond (other_failed row r) y (Some r)) is
          ∙ pushed (other_failed row r)
          ∙ ap (λ b. Some (cond (b && other_failed row r) (half_configured r) r)) (sym (le_is row fall.row low))
        where
          pushed : (b : Bool) → cond b (Some (half_configured r)) (Some r) ≡ Some (cond b (half_configured r) r)
          pushed true = refl
          pushed false = refl

      others_over : (others : List Record) (row n : ℕ) → fall.row + 1 ≡ row + n → AreRecorded table others → AreApart others → over (record_in table q) row (rest_of others n) q ≡ others_end row others fall failed (record_in table) q
      others_over [] row n is are apart = last_missed (record_in table q) row n q differs
      others_over (r ∷ rs) row zero is are apart = sym (others_unreached (r ∷ rs) row (omega (arith, is)) are)
      others_over (r ∷ rs) row (suc m) is are apart = step (bytes_eq r.name q) refl (others_over rs (row + 1) m (omega (arith, is)) are.1 apart.1)
        where
          step : (b : Bool) → bytes_eq r.name q ≡ b → over (record_in table q) (row + 1) (rest_of rs m) q ≡ others_end (row + 1) rs fall failed (record_in table) q
              → over (record_in table q) row (Other r ∷ rest_of rs m) q ≡ cond b (Some (other_end row r fall failed)) (others_end (row + 1) rs fall failed (record_in table) q)
          step true e later =
              other_over (record_in table q) row r (rest_of rs m) q
              ∙ reached_one row r (omega (arith, is)) (over (cond (bytes_eq r.name q) (Some (half_configured r)) (record_in table q)) (row + 1) (rest_of rs m) q)
              (all_missed rs (cond (bytes_eq r.name q) (Some (half_configured r)) (record_in table q)) (row + 1) m q differs (lacks_same r.name rs ((bytes_eq-Decides r.name q).0 e) apart.0)
              ∙ taken (bytes_eq r.name q) (Some (half_configured r)) (record_in table q) e) e
          step false e later = other_missed (record_in table q) row r (rest_of rs m) q e ∙ later

    -- where all rows succeeded
    preinst_said : (o : Option Record) (q : List ℕ) → last_of o (notes_forward start incoming (last_kinds upgrade)) q ≡ cond (bytes_eq (own_of start incoming).name q) half o
    preinst_said o q = ap (λ l. last_of (cond (bytes_eq (own_of start incoming).name q) half o) l q) (postrm_unnoted start incoming upgrade)

    abbrev all_of : List Record → List RowKind
    all_of others = map (λ r. Other r) others ++ last_kinds upgrade

    forward_own : (others : List Record) (o : Option Record) (q : List ℕ) → bytes_eq (own_of start incoming).name q ≡ true → last_of o (notes_forward start incoming (all_of others)) q ≡ half
    forward_own [] o q e = preinst_said o q ∙ taken (bytes_eq (own_of start incoming).name q) half o e
    forward_own (r ∷ rs) o q e = forward_own rs (cond (bytes_eq r.name q) (Some (half_configured r)) o) q e

    forward_missed : (others : List Record) (o : Option Record) (q : List ℕ) → bytes_eq (own_of start incoming).name q ≡ false → IsWithout q others → last_of o (notes_forward start incoming (all_of others)) q ≡ o
    forward_missed [] o q e lacks = preinst_said o q ∙ skipped (bytes_eq (own_of start incoming).name q) half o e
    forward_missed (r ∷ rs) o q e lacks = forward_missed rs (cond (bytes_eq r.name q) (Some (half_configured r)) o) q e lacks.1 ∙ skipped (bytes_eq r.name q) (Some (half_configured r)) o lacks.0

    forward_others : (table others : List Record) (q : List ℕ) → bytes_eq (own_of start incoming).name q ≡ false → AreRecorded table others → AreApart others → last_of (record_in table q) (notes_forward start incoming (all_of others)) q ≡ others_forward others (record_in table) q
    forward_others table [] q e are apart = forward_missed [] (record_in table q) q e tt
    forward_others table (r ∷ rs) q e are apart = step (bytes_eq r.name q) refl (forward_others table rs q e are.1 apart.1)
      where
        step : (b : Bool) → bytes_eq r.name q ≡ b → last_of (record_in table q) (notes_forward start incoming (all_of rs)) q ≡ others_forward rs (record_in table) q
            → last_of (cond (bytes_eq r.name q) (Some (half_configured r)) (record_in table q)) (notes_forward start incoming (all_of rs)) q ≡ cond b (Some (half_configured r)) (others_forward rs (record_in table) q)
        step true is later =
            forward_missed rs (cond (bytes_eq r.name q) (Some (half_configured r)) (record_in table q)) q e (subst (λ x. IsWithout x rs) ((bytes_eq-Decides r.name q).0 is) apart.0)
            ∙ taken (bytes_eq r.name q) (Some (half_configured r)) (record_in table q) is
        step false is later = ap (λ x. last_of x (notes_forward start incoming (all_of rs)) q) (skipped (bytes_eq r.name q) (Some (half_configured r)) (record_in table q) is) ∙ later

  -- the whole of an unpack

  module _ (others table : List Record) (are : AreConcerned start incoming others table) where
    abbrev kinds_by : Bool → List RowKind
    kinds_by b = first_kinds b ++ (map (λ r. Other r) others ++ last_kinds (is_upgrade (state_of start)))

    module _ (fall : Fall) (failed : List Failed) where
      -- the notes back to the first row, said of a name
      back : (b : Bool) (o : Option Record) (q : List ℕ) → last_of o (notes_at start incoming (kinds_by b) (Back 0 fall failed)) q ≡ over (is_upgrade (state_of start)) failed o 0 (take (fall.row + 1) (kinds_by b)) q
      back b o q = last_of-append o (notes_forward start incoming (take (fall.row + 1) (kinds_by b))) (notes_back start incoming 0 (take (fall.row + 1) (kinds_by b)) failed) q

      -- over the prerm's row
      prerm_over : (o : Option Record) (q : List ℕ) → over (is_upgrade (state_of start)) failed o 0 (take (fall.row + 1) (kinds_by true)) q
          ≡ last_of (over (is_upgrade (state_of start)) failed (cond (bytes_eq (own_of start incoming).name q) (Some (half_configured (own_of start incoming))) o) 1 (rest_of (is_upgrade (state_of start)) failed others fall.row) q)
          (cond (own_failed (is_upgrade (state_of start)) failed 0) [] (as_before start incoming start ∷ [])) q
      prerm_over o q =
          ap (λ n. over (is_upgrade (state_of start)) failed o 0 (take n (kinds_by true)) q) (add-one fall.row)
          ∙ last_of-append (last_of (cond (bytes_eq (own_of start incoming).name q) (Some (half_configured (own_of start incoming))) o) (notes_forward start incoming (rest_of (is_upgrade (state_of start)) failed others fall.row)) q)
          (notes_back start incoming 1 (rest_of (is_upgrade (state_of start)) failed others fall.row) failed) (cond (own_failed (is_upgrade (state_of start)) failed 0) [] (as_before start incoming start ∷ [])) q

      abbrev row_by : Bool → ℕ
      row_by b = cond b 1 0 + length others

      -- the end table, where there is a row of the prerm, and where there is none
      abbrev own_by : Bool → Option Record
      own_by b = own_end_by start incoming
          (cond (nat_le (row_by b) fall.row && has_failed (row_by b) (OfPackage (own_of start incoming).name) failed) OfPreinstOrPostrm
          (cond (b && has_failed 0 (OfPackage (own_of start incoming).name) failed) OfPrerm NoneFailed)) (nat_le (row_by b) fall.row)

      own_case : (b : Bool) → has_prerm (state_of start) ≡ b → last_of (record_in table (own_of start incoming).name) (notes_at start incoming (kinds_by b) (Back 0 fall failed)) (own_of start incoming).name ≡ own_by b
      own_case true e =
          let own = own_of start incoming in
          let up = is_upgrade (state_of start) in
          let self = (bytes_eq-Decides own.name own.name).1 refl in
          let o = record_in table own.name in
          let begun = cond (bytes_eq own.name own.name) (Some (half_configured own)) o in
          let z = has_failed 0 (OfPackage own.name) failed in
          back true o own.name
          ∙ prerm_over o own.name
          ∙ made_unless z (as_before start incoming start) (over up failed begun 1 (rest_of up failed others fall.row) own.name) own.name (named (as_before start incoming start) true own.name (before_name start) self)
          ∙ ap (λ x. cond z x (note_value (as_before start incoming start))) (own_over up failed others begun 1 fall.row are.apart.0)
          ∙ ap (λ x. cond z (cond (nat_le (length others + 1) fall.row) (cond (own_failed up failed (1 + length others)) (half up failed) (note_value undone)) x) (note_value (as_before start incoming start))) (taken (bytes_eq own.name own.name) (Some (half_configured own)) o self)
          ∙ ap (λ x. cond z (cond (nat_le (length others + 1) fall.row) (cond (own_failed up failed (1 + length others)) (half up failed) x) (Some (half_configured own))) (note_value (as_before start incoming start))) (undone_value true e)
          ∙ ap (λ x. cond z (cond (nat_le (length others + 1) fall.row) (cond (own_failed up failed (1 + length others)) (half up failed) (Some (unpacked own))) (Some (half_configured own))) x) (before_value start)
          ∙ ap (λ n. cond z (cond (nat_le n fall.row) (cond (own_failed up failed (1 + length others)) (half up failed) (Some (unpacked own))) (Some (half_configured own))) start) (swaps (length others))
          ∙ pulled z (nat_le (1 + length others) fall.row) (has_failed (1 + length others) (OfPackage own.name) failed) (failed_at_all (1 + length others) (OfPackage own.name) failed)
        where
          swaps : (l : ℕ) → l + 1 ≡ 1 + l
          swaps l = omega arith

          pulled : (z reached later : Bool) → (later ≡ true → z ≡ true) → cond z (cond reached (cond later (Some (half_installed (own_of start incoming))) (Some (unpacked (own_of start incoming)))) (Some (half_configured (own_of start incoming)))) start
              ≡ own_end_by start incoming (cond (reached && later) OfPreinstOrPostrm (cond (true && z) OfPrerm NoneFailed)) reached
          pulled true true true so = refl
          pulled true true false so = refl
          pulled true false later so = refl
          pulled false true true so = absurd (true≢false (sym (so refl)))
          pulled false true false so = refl
          pulled false false later so = refl
      own_case false e =
          let own = own_of start incoming in
          let up = is_upgrade (state_of start) in
          let o = record_in table own.name in
          back false o own.name
          ∙ own_over up failed others o 0 (fall.row + 1) are.apart.0
          ∙ ap (λ x. cond (nat_le (length others + 1) (fall.row + 1)) (cond (own_failed up failed (0 + length others)) (half up failed) x) o) (undone_value false e)
          ∙ ap (λ x. cond (nat_le (length others + 1) (fall.row + 1)) (cond (own_failed up failed (0 + length others)) (half up failed) start) x) are.own
          ∙ ap (λ b. cond b (cond (own_failed up failed (0 + length others)) (half up failed) start) start) (steps (length others) fall.row)
          ∙ pulled (nat_le (0 + length others) fall.row) (has_failed (0 + length others) (OfPackage own.name) failed)
        where
          steps : (l n : ℕ) → nat_le (l + 1) (n + 1) ≡ nat_le (0 + l) n
          steps l n = grind (arith, rules)

          pulled : (reached later : Bool) → cond reached (cond later (Some (half_installed (own_of start incoming))) start) start
              ≡ own_end_by start incoming (cond (reached && later) OfPreinstOrPostrm NoneFailed) reached
          pulled true true = refl
          pulled true false = refl
          pulled false later = refl

      other_case : (b : Bool) (q : List ℕ) → bytes_eq (own_of start incoming).name q ≡ false → last_of (record_in table q) (notes_at start incoming (kinds_by b) (Back 0 fall failed)) q ≡ others_end (cond b 1 0) others fall failed (record_in table) q
      other_case true q e =
          let own = own_of start incoming in
          let up = is_upgrade (state_of start) in
          let begun = cond (bytes_eq own.name q) (Some (half_configured own)) (record_in table q) in
          back true (record_in table q) q
          ∙ prerm_over (record_in table q) q
          ∙ missed_unless (has_failed 0 (OfPackage own.name) failed) (as_before start incoming start) (over up failed begun 1 (rest_of up failed others fall.row) q) q (named (as_before start incoming start) false q (before_name start) e)
          ∙ ap (λ x. over up failed x 1 (rest_of up failed others fall.row) q) (skipped (bytes_eq own.name q) (Some (half_configured own)) (record_in table q) e)
          ∙ others_over up failed fall table q e others 1 fall.row (swaps fall.row) are.recorded are.apart.1
        where
          swaps : (l : ℕ) → l + 1 ≡ 1 + l
          swaps l = omega arith
      other_case false q e =
          back false (record_in table q) q
          ∙ others_over (is_upgrade (state_of start)) failed fall table q e others 0 (fall.row + 1) (swaps fall.row) are.recorded are.apart.1
        where
          swaps : (l : ℕ) → l + 1 ≡ 0 + (l + 1)
          swaps l = omega arith

      -- the records after unwinding are those of the table
      unwound_table : (q : List ℕ) → record_in (noted table (notes_at start incoming (kinds_of start others) (Back 0 fall failed))) q ≡ unwound_end start incoming others table fall failed q
      unwound_table q = noted_last (notes_at start incoming (kinds_of start others) (Back 0 fall failed)) table q ∙ by (bytes_eq (own_of start incoming).name q) refl
        where
          by : (b : Bool) → bytes_eq (own_of start incoming).name q ≡ b → last_of (record_in table q) (notes_at start incoming (kinds_by (has_prerm (state_of start))) (Back 0 fall failed)) q
              ≡ cond b (own_by (has_prerm (state_of start))) (others_end (cond (has_prerm (state_of start)) 1 0) others fall failed (record_in table) q)
          by true e = subst (λ x. last_of (record_in table x) (notes_at start incoming (kinds_by (has_prerm (state_of start))) (Back 0 fall failed)) x ≡ own_by (has_prerm (state_of start))) ((bytes_eq-Decides (own_of start incoming).name q).0 e) (own_case (has_prerm (state_of start)) refl)
          by false e = other_case (has_prerm (state_of start)) q e

    -- the same where all rows succeeded
    forward_case : (p b : Bool) (q : List ℕ) → bytes_eq (own_of start incoming).name q ≡ b → last_of (record_in table q) (notes_forward start incoming (kinds_by p)) q
        ≡ cond b (Some (half_installed (own_of start incoming))) (others_forward others (record_in table) q)
    forward_case true true q e = forward_own (is_upgrade (state_of start)) [] others (cond (bytes_eq (own_of start incoming).name q) (Some (half_configured (own_of start incoming))) (record_in table q)) q e
    forward_case false true q e = forward_own (is_upgrade (state_of start)) [] others (record_in table q) q e
    forward_case true false q e =
        ap (λ x. last_of x (notes_forward start incoming (all_of (is_upgrade (state_of start)) [] others)) q) (skipped (bytes_eq (own_of start incoming).name q) (Some (half_configured (own_of start incoming))) (record_in table q) e)
        ∙ forward_others (is_upgrade (state_of start)) [] table others q e are.recorded are.apart.1
    forward_case false false q e = forward_others (is_upgrade (state_of start)) [] table others q e are.recorded are.apart.1

    forward_table : (q : List ℕ) → record_in (noted table (notes_at start incoming (kinds_of start others) (Forward (length (kinds_of start others))))) q ≡ forward_end start incoming others table q
    forward_table q =
        ap (λ l. record_in (noted table (notes_forward start incoming l)) q) (take_all (length (kinds_of start others)) (kinds_of start others) (omega arith))
        ∙ noted_last (notes_forward start incoming (kinds_of start others)) table q
        ∙ forward_case (has_prerm (state_of start)) (bytes_eq (own_of start incoming).name q) q refl

    pub end_table : (ended : Ended) (q : List ℕ) → record_in (noted table (notes_at start incoming (kinds_of start others) (end_of (length (kinds_of start others)) ended))) q ≡ end_record start incoming others table ended q
    end_table Committed q = forward_table q
    end_table (Unwound fall failed) q = unwound_table fall failed q
