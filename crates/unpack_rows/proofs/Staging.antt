-- How far the files are at each place, and that the package is half-installed while they are written.
use Rattle.std.proofs.Common.{◌≡◌, ℕ, ◌+◌, ◌<◌, ◌≤◌, zero, suc, Bool, true, false, cond, ◌||◌, List, [], ◌∷◌, ◌++◌, Option, Some, None, length, get_or, take, drop, map, refl, sym, ap, ◌∙◌, arith}
use Rattle.std.specs.Str.{bytes_eq}
use Rattle.std.proofs.lemmas.Bool.{true≢false, false_from_ne_true}
use Rattle.std.proofs.lemmas.List.{append-nil, take_more}
use Rattle.std.proofs.lemmas.Slice.Eq.{bytes_eq-Decides}
use Rattle.undo_rows.specs.declared.fall.Fall.{Fall}
use Rattle.undo_rows.specs.declared.fall.StepFault.{StepFault}
use Rattle.undo_rows.specs.declared.failed.Failed.{Failed}
use Rattle.undo_rows.specs.Place.{Place, Back, Forward, Ready, called, is_declined, worked}
use Rattle.status_records.specs.declared.record.Record.{Record}
use Rattle.status_records.specs.Records.{record_in}
use Rattle.unpack_rows.specs.declared.kinds.RowKind.{RowKind}
use Rattle.unpack_rows.specs.declared.kinds.RowKind.TheVariants.{Other, Files}
use Rattle.unpack_rows.specs.declared.notes.Note.{Note}
use Rattle.unpack_rows.specs.Kinds.{first_kinds, has_prerm, is_upgrade, kinds_of, last_kinds, own_of, state_of}
use Rattle.unpack_rows.specs.Notes.{half_configured, half_installed, noted, notes_at, notes_back, notes_forward}
use Rattle.unpack_rows.specs.Stages.{Restored, Stage, Unwritten, Wrote, failed_at, has_files, is_files, stage_of}
use Rattle.unpack_rows.proofs.Unnoted.{files_unnoted, postrm_unnoted_back}
use Rattle.unpack_rows.proofs.LastNotes.{last_of, noted_last, taken}

or_false : (a b : Bool) → b ≡ false → (a || b) ≡ a
or_false true b e = refl
or_false false b e = e

or_true : (a b : Bool) → b ≡ true → (a || b) ≡ true
or_true true b e = refl
or_true false b e = e

or_assoc : (a b c : Bool) → (a || (b || c)) ≡ ((a || b) || c)
or_assoc true b c = refl
or_assoc false b c = refl

has_files-append : (a b : List RowKind) → has_files (a ++ b) ≡ (has_files a || has_files b)
has_files-append [] b = refl
has_files-append (k ∷ a) b = ap (λ x. is_files k || x) (has_files-append a b) ∙ or_assoc (is_files k) (has_files a) (has_files b)

-- the stages, told apart by numbers

abbrev number : Stage → ℕ
number Unwritten = 0
number Wrote = 1
number Restored = 2

is_wrote : (b : Bool) → cond b Wrote Unwritten ≡ Wrote → b ≡ true
is_wrote true e = refl
is_wrote false e = let d : ◌≡◌ {A = ℕ} 0 1 = ap number e in absurd (omega arith)

wrote_back : (b c d : Bool) → cond b (cond c Wrote Restored) (cond d Restored Unwritten) ≡ Wrote → c ≡ true
wrote_back true true d e = refl
wrote_back true false d e = let n : ◌≡◌ {A = ℕ} 2 1 = ap number e in absurd (omega arith)
wrote_back false c true e = let n : ◌≡◌ {A = ℕ} 2 1 = ap number e in absurd (omega arith)
wrote_back false c false e = let n : ◌≡◌ {A = ℕ} 0 1 = ap number e in absurd (omega arith)

wrote_before : (b c d : Bool) → cond b (cond c Wrote Restored) (cond d Restored Unwritten) ≡ Wrote → b ≡ true
wrote_before true c d e = refl
wrote_before false c true e = let n : ◌≡◌ {A = ℕ} 2 1 = ap number e in absurd (omega arith)
wrote_before false c false e = let n : ◌≡◌ {A = ℕ} 0 1 = ap number e in absurd (omega arith)

turned_back : (b : Bool) → cond b (cond b Wrote Restored) Unwritten ≡ cond b Wrote Unwritten
turned_back true = refl
turned_back false = refl

-- a row more

module _ (kinds : List RowKind) (i : ℕ) (k : RowKind) (within : i < length kinds) (at : k ≡ get_or kinds i k) where
  files_more : has_files (take (i + 1) kinds) ≡ (has_files (take i kinds) || is_files k)
  files_more =
      ap has_files (take_more kinds i k within ∙ ap (λ r. take i kinds ++ r ∷ []) (sym at))
      ∙ has_files-append (take i kinds) (k ∷ [])
      ∙ ap (λ b. has_files (take i kinds) || b) (or_false (is_files k) false refl)

  same_files : is_files k ≡ false → has_files (take (i + 1) kinds) ≡ has_files (take i kinds)
  same_files none = files_more ∙ or_false (has_files (take i kinds)) (is_files k) none

  with_files : k ≡ Files → has_files (take (i + 1) kinds) ≡ true
  with_files is = files_more ∙ or_true (has_files (take i kinds)) (is_files k) (ap is_files is)

  pub stage_called : is_files k ≡ false → (ok : Bool) → stage_of kinds (called i ok) ≡ stage_of kinds (Ready i)
  stage_called none true = ap (λ b. cond b Wrote Unwritten) (same_files none)
  stage_called none false = ap (λ b. cond (has_files (take i kinds)) (cond b Wrote Restored) Unwritten) (same_files none) ∙ turned_back (has_files (take i kinds))

  pub stage_wrote : k ≡ Files → stage_of kinds (worked i None) ≡ Wrote
  stage_wrote is = ap (λ b. cond b Wrote Unwritten) (with_files is)

  pub stage_undone : is_files k ≡ false → (fall : Fall) (failed now : List Failed) → stage_of kinds (Back i fall now) ≡ stage_of kinds (Back (i + 1) fall failed)
  stage_undone none fall failed now = ap (λ b. cond (has_files (take fall.row kinds)) (cond b Wrote Restored) (failed_at fall.fault)) (sym (same_files none))

-- before the file row there is no other, and behind it only the postrm

abbrev all_of : List Record → Bool → List RowKind
all_of others upgrade = map (λ r. Other r) others ++ last_kinds upgrade

last_free : (u : Bool) (i : ℕ) (k : RowKind) → i < length (last_kinds u) → k ≡ get_or (last_kinds u) i k → k ≡ Files → has_files (take i (last_kinds u)) ≡ false
last_free u zero k within at is = refl
last_free u (suc zero) k within at is = refl
last_free true (suc (suc zero)) k within at is = absurd (true≢false (sym (ap is_files is) ∙ ap is_files at))
last_free true (suc (suc (suc i))) k within at is = absurd (omega (arith, within))
last_free false (suc (suc i)) k within at is = absurd (omega (arith, within))

others_free : (others : List Record) (u : Bool) (i : ℕ) (k : RowKind) → i < length (all_of others u) → k ≡ get_or (all_of others u) i k → k ≡ Files → has_files (take i (all_of others u)) ≡ false
others_free [] u i k within at is = last_free u i k within at is
others_free (r ∷ rs) u zero k within at is = refl
others_free (r ∷ rs) u (suc i) k within at is = others_free rs u i k (omega (arith, within)) at is

kinds_free : (p : Bool) (others : List Record) (u : Bool) (i : ℕ) (k : RowKind) → i < length (first_kinds p ++ all_of others u) → k ≡ get_or (first_kinds p ++ all_of others u) i k → k ≡ Files → has_files (take i (first_kinds p ++ all_of others u)) ≡ false
kinds_free true others u zero k within at is = refl
kinds_free true others u (suc i) k within at is = others_free others u i k (omega (arith, within)) at is
kinds_free false others u i k within at is = others_free others u i k within at is

module _ (start : Option Record) (others : List Record) (i : ℕ) (k : RowKind) (within : i < length (kinds_of start others)) (at : k ≡ get_or (kinds_of start others) i k) (is : k ≡ Files) where
  free : has_files (take i (kinds_of start others)) ≡ false
  free = kinds_free (has_prerm (state_of start)) others (is_upgrade (state_of start)) i k within at is

  pub stage_before : stage_of (kinds_of start others) (Forward i) ≡ Unwritten
  stage_before = ap (λ b. cond b Wrote Unwritten) free

  pub stage_failed : (fault : StepFault) → stage_of (kinds_of start others) (worked i (Some fault)) ≡ failed_at (Some fault)
  stage_failed fault = ap (λ b. cond b (cond (has_files (take (i + 1) (kinds_of start others))) Wrote Restored) (failed_at (Some fault))) free

-- as rows go on there is no less of the file row

grows : (l : List RowKind) (n m : ℕ) → n ≤ m → has_files (take n l) ≡ true → has_files (take m l) ≡ true
grows [] zero m le is = absurd (true≢false (sym is))
grows [] (suc n) m le is = absurd (true≢false (sym is))
grows (x ∷ l) zero m le is = absurd (true≢false (sym is))
grows (x ∷ l) (suc n) zero le is = absurd (omega (arith, le))
grows (x ∷ l) (suc n) (suc m) le is = by (is_files x) (has_files (take n l)) (has_files (take m l)) (grows l n m (omega (arith, le))) is
  where
    by : (x a b : Bool) → (a ≡ true → b ≡ true) → (x || a) ≡ true → (x || b) ≡ true
    by true a b so e = refl
    by false a b so e = so e

is_wrote_now : (a b : Bool) (s : Stage) → a ≡ true → b ≡ true → cond a (cond b Wrote Restored) s ≡ Wrote
is_wrote_now true true s e f = refl
is_wrote_now true false s e f = absurd (true≢false (sym f))
is_wrote_now false b s e f = absurd (true≢false (sym e))

is_restored : (a b : Bool) (s : Stage) → a ≡ true → b ≡ false → cond a (cond b Wrote Restored) s ≡ Restored
is_restored true true s e f = absurd (true≢false f)
is_restored true false s e f = refl
is_restored false b s e f = absurd (true≢false (sym e))

is_failed_at : (a b : Bool) (s : Stage) → a ≡ false → cond a (cond b Wrote Restored) s ≡ s
is_failed_at true b s e = absurd (true≢false e)
is_failed_at false b s e = refl

module _ (start : Option Record) (others : List Record) (i : ℕ) (k : RowKind) (fall : Fall) (failed : List Failed) (within : i < length (kinds_of start others)) (at : k ≡ get_or (kinds_of start others) i k) (is : k ≡ Files) where
  abbrev kinds : List RowKind
  kinds = kinds_of start others

  pub stage_put_back : i < fall.row → (stage_of (kinds_of start others) (Back (i + 1) fall failed) ≡ Wrote) × (stage_of (kinds_of start others) (Back i fall failed) ≡ Restored)
  stage_put_back less =
      let has : has_files (take (i + 1) kinds) ≡ true = with_files kinds i k within at is in
      let past : has_files (take fall.row kinds) ≡ true = grows kinds (i + 1) fall.row (omega (arith, less)) has in
      (is_wrote_now (has_files (take fall.row kinds)) (has_files (take (i + 1) kinds)) (failed_at fall.fault) past has, is_restored (has_files (take fall.row kinds)) (has_files (take i kinds)) (failed_at fall.fault) past (free start others i k within at is))

  pub stage_spared : fall.row ≤ i → (stage_of (kinds_of start others) (Back (i + 1) fall failed) ≡ failed_at fall.fault) × (stage_of (kinds_of start others) (Back i fall failed) ≡ failed_at fall.fault)
  stage_spared low =
      let none : has_files (take fall.row kinds) ≡ false = false_from_ne_true (has_files (take fall.row kinds)) (λ has. true≢false (sym (grows kinds fall.row i low has) ∙ free start others i k within at is)) in
      (is_failed_at (has_files (take fall.row kinds)) (has_files (take (i + 1) kinds)) (failed_at fall.fault) none, is_failed_at (has_files (take fall.row kinds)) (has_files (take i kinds)) (failed_at fall.fault) none)

-- the package's record while the files are written

module _ (start : Option Record) (incoming : Record) where
  abbrev half : Option Record
  half = Some (half_installed (own_of start incoming))

  half_said : (others : List Record) (u : Bool) (o : Option Record) (n : ℕ) → has_files (take n (all_of others u)) ≡ true → last_of o (notes_forward start incoming (take n (all_of others u))) (own_of start incoming).name ≡ half
  half_said [] u o zero is = absurd (true≢false (sym is))
  half_said [] u o (suc zero) is = absurd (true≢false (sym is))
  half_said [] u o (suc (suc m)) is =
      ap (λ l. last_of (cond (bytes_eq (own_of start incoming).name (own_of start incoming).name) half o) l (own_of start incoming).name) (files_unnoted start incoming u (suc m))
      ∙ taken (bytes_eq (own_of start incoming).name (own_of start incoming).name) half o ((bytes_eq-Decides (own_of start incoming).name (own_of start incoming).name).1 refl)
  half_said (r ∷ rs) u o zero is = absurd (true≢false (sym is))
  half_said (r ∷ rs) u o (suc n) is = half_said rs u (cond (bytes_eq r.name (own_of start incoming).name) (Some (half_configured r)) o) n is

  half_by : (p : Bool) (others : List Record) (u : Bool) (o : Option Record) (n : ℕ) → has_files (take n (first_kinds p ++ all_of others u)) ≡ true → last_of o (notes_forward start incoming (take n (first_kinds p ++ all_of others u))) (own_of start incoming).name ≡ half
  half_by true others u o zero is = absurd (true≢false (sym is))
  half_by true others u o (suc n) is = half_said others u (cond (bytes_eq (own_of start incoming).name (own_of start incoming).name) (Some (half_configured (own_of start incoming))) o) n is
  half_by false others u o n is = half_said others u o n is

  behind : (others : List Record) (u : Bool) (failed : List Failed) (j n row : ℕ) → has_files (take j (all_of others u)) ≡ true → notes_back start incoming row (drop j (take n (all_of others u))) failed ≡ []
  behind [] u failed zero n row is = absurd (true≢false (sym is))
  behind [] u failed (suc zero) n row is = absurd (true≢false (sym is))
  behind [] u failed (suc (suc j)) zero row is = refl
  behind [] u failed (suc (suc j)) (suc zero) row is = refl
  behind [] u failed (suc (suc j)) (suc (suc m)) row is = postrm_unnoted_back start incoming failed u j m row
  behind (r ∷ rs) u failed zero n row is = absurd (true≢false (sym is))
  behind (r ∷ rs) u failed (suc j) zero row is = refl
  behind (r ∷ rs) u failed (suc j) (suc n) row is = behind rs u failed j n row is

  behind_by : (p : Bool) (others : List Record) (u : Bool) (failed : List Failed) (j n row : ℕ) → has_files (take j (first_kinds p ++ all_of others u)) ≡ true → notes_back start incoming row (drop j (take n (first_kinds p ++ all_of others u))) failed ≡ []
  behind_by true others u failed zero n row is = absurd (true≢false (sym is))
  behind_by true others u failed (suc j) zero row is = refl
  behind_by true others u failed (suc j) (suc n) row is = behind others u failed j n row is
  behind_by false others u failed j n row is = behind others u failed j n row is

  module _ (others table : List Record) where
    marked_forward : (n : ℕ) → has_files (take n (kinds_of start others)) ≡ true → record_in (noted table (notes_forward start incoming (take n (kinds_of start others)))) (own_of start incoming).name ≡ half
    marked_forward n is =
        noted_last (notes_forward start incoming (take n (kinds_of start others))) table (own_of start incoming).name
        ∙ half_by (has_prerm (state_of start)) others (is_upgrade (state_of start)) (record_in table (own_of start incoming).name) n is

    pub marked : (place : Place) → stage_of (kinds_of start others) place ≡ Wrote → record_in (noted table (notes_at start incoming (kinds_of start others) place)) (own_of start incoming).name ≡ half
    marked (Forward k) wrote = marked_forward k (is_wrote (has_files (take k (kinds_of start others))) wrote)
    marked (Ready k) wrote = marked_forward (k + 1) (grows (kinds_of start others) k (k + 1) (omega arith) (is_wrote (has_files (take k (kinds_of start others))) wrote))
    marked (Back k fall failed) wrote =
        let all = kinds_of start others in
        let tried = notes_forward start incoming (take (fall.row + 1) all) in
        ap (λ (l : List Note). record_in (noted table (tried ++ l)) (own_of start incoming).name)
        (behind_by (has_prerm (state_of start)) others (is_upgrade (state_of start)) failed k (fall.row + 1) k (wrote_back (has_files (take fall.row all)) (has_files (take k all)) (is_declined fall.fault) wrote))
        ∙ ap (λ l. record_in (noted table l) (own_of start incoming).name) (append-nil tried)
        ∙ marked_forward (fall.row + 1) (grows all fall.row (fall.row + 1) (omega arith) (wrote_before (has_files (take fall.row all)) (has_files (take k all)) (is_declined fall.fault) wrote))
