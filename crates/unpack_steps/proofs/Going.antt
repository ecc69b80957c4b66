-- At which row what is left under the name of a package without a record goes.
use Rattle.std.proofs.Common.{◌≡◌, ℕ, ◌+◌, ◌<◌, zero, suc, Bool, true, false, cond, List, [], ◌∷◌, ◌++◌, Option, Some, None, nat_le, not, length, get_or, map, take, refl, sym, ap, ◌∙◌, arith}
use Rattle.std.specs.Prelude.{is_some}
use Rattle.std.proofs.lemmas.Bool.{true≢false}
use Rattle.undo_rows.specs.Place.{Forward, Ready, called, worked}
use Rattle.status_records.specs.declared.record.Record.{Record}
use Rattle.undo_rows.specs.declared.fall.StepFault.{StepFault}
use Rattle.unpack_rows.specs.Kinds.{kinds_of, last_kinds}
use Rattle.unpack_rows.specs.Stages.{Unwritten, Wrote, has_files, is_files, stage_of}
use Rattle.unpack_rows.specs.declared.kinds.RowKind.{RowKind}
use Rattle.unpack_rows.specs.declared.kinds.RowKind.TheVariants.{Other, Files}
use Rattle.unpack_steps.specs.Clearing.{clears_before, is_gone, is_preinst}
use Rattle.unpack_steps.specs.Task.{Task, has_gone, kinds}

-- the rows of a package without a record
abbrev bare_kinds : List Record → List RowKind
bare_kinds others = map (λ r. Other r) others ++ last_kinds false

preinst_at : (others : List Record) (i : ℕ) (k : RowKind) → i < length (bare_kinds others) → k ≡ get_or (bare_kinds others) i k → is_preinst k ≡ true → i ≡ length others
preinst_at [] zero k within at is = refl
preinst_at [] (suc zero) k within at is = absurd (true≢false (sym is ∙ ap is_preinst at))
preinst_at [] (suc (suc i)) k within at is = absurd (omega (arith, within))
preinst_at (r ∷ rs) zero k within at is = absurd (true≢false (sym is ∙ ap is_preinst at))
preinst_at (r ∷ rs) (suc i) k within at is = ap suc (preinst_at rs i k (omega (arith, within)) at is)

not_preinst_at : (others : List Record) (i : ℕ) (k : RowKind) → i < length (bare_kinds others) → k ≡ get_or (bare_kinds others) i k → is_preinst k ≡ false → i ≡ length others → ⊥
not_preinst_at [] zero k within at is e = true≢false (sym (ap is_preinst at) ∙ is)
not_preinst_at [] (suc i) k within at is e = absurd (omega (arith, e))
not_preinst_at (r ∷ rs) zero k within at is e = absurd (omega (arith, e))
not_preinst_at (r ∷ rs) (suc i) k within at is e = not_preinst_at rs i k (omega (arith, within)) at is (omega (arith, e))

files_at : (others : List Record) (i : ℕ) (k : RowKind) → i < length (bare_kinds others) → k ≡ get_or (bare_kinds others) i k → k ≡ Files → i ≡ length others + 1
files_at [] zero k within at is = absurd (true≢false (sym (ap is_preinst at) ∙ ap is_preinst is))
files_at [] (suc zero) k within at is = refl
files_at [] (suc (suc i)) k within at is = absurd (omega (arith, within))
files_at (r ∷ rs) zero k within at is = absurd (true≢false (sym (ap is_files is) ∙ ap is_files at))
files_at (r ∷ rs) (suc i) k within at is = omega (arith, files_at rs i k (omega (arith, within)) at is)

-- no file row comes before the preinst's
no_files : (others : List Record) (i : ℕ) (k : RowKind) → i < length (bare_kinds others) → k ≡ get_or (bare_kinds others) i k → is_preinst k ≡ true → has_files (take i (bare_kinds others)) ≡ false
no_files [] zero k within at is = refl
no_files [] (suc zero) k within at is = absurd (true≢false (sym is ∙ ap is_preinst at))
no_files [] (suc (suc i)) k within at is = absurd (omega (arith, within))
no_files (r ∷ rs) zero k within at is = refl
no_files (r ∷ rs) (suc i) k within at is = no_files rs i k (omega (arith, within)) at is

called_more : (n i : ℕ) → nat_le (n + 1) (i + 1) ≡ nat_le n i
called_more n i = grind arith

readied : (n i : ℕ) → nat_le (n + 1) i ≡ true → nat_le n i ≡ true
readied n i e = grind arith

not_yet : (n i : ℕ) → i ≡ n → nat_le (n + 1) i ≡ false
not_yet n i e = grind arith

by_now : (n i : ℕ) → i ≡ n → nat_le n i ≡ true
by_now n i e = grind arith

elsewhere : (n i : ℕ) → (i ≡ n → ⊥) → nat_le n i ≡ nat_le (n + 1) i
elsewhere n i ne = grind arith

behind_one : (n i : ℕ) → i ≡ n + 1 → nat_le (n + 1) i ≡ true
behind_one n i e = grind arith

behind_more : (n i : ℕ) → i ≡ n + 1 → nat_le (n + 1) (i + 1) ≡ true
behind_more n i e = grind arith

behind_back : (n i : ℕ) → i ≡ n + 1 → nat_le n i ≡ true
behind_back n i e = grind arith

-- by what was found

called_by : (found : Option Record) (n i : ℕ) (ok : Bool) → is_gone found n (called i ok) ≡ is_gone found n (Ready i)
called_by None n i true = called_more n i
called_by None n i false = refl
called_by (Some r) n i true = refl
called_by (Some r) n i false = refl

prepared_by : (found : Option Record) (n i : ℕ) → is_gone found n (Forward i) ≡ true → is_gone found n (Ready i) ≡ true
prepared_by None n i e = readied n i e
prepared_by (Some r) n i e = e

worked_by : (found : Option Record) (others : List Record) (i : ℕ) (k : RowKind) → i < length (kinds_of found others) → k ≡ get_or (kinds_of found others) i k → k ≡ Files → (fault : Option StepFault)
    → is_gone found (length others) (worked i fault) ≡ is_gone found (length others) (Forward i)
worked_by None others i k within at is None = behind_more (length others) i (files_at others i k within at is) ∙ sym (behind_one (length others) i (files_at others i k within at is))
worked_by None others i k within at is (Some fault) = behind_back (length others) i (files_at others i k within at is) ∙ sym (behind_one (length others) i (files_at others i k within at is))
worked_by (Some r) others i k within at is None = refl
worked_by (Some r) others i k within at is (Some fault) = refl

files_by : (found : Option Record) (others : List Record) (i : ℕ) (k : RowKind) → i < length (kinds_of found others) → k ≡ get_or (kinds_of found others) i k → k ≡ Files
    → is_gone found (length others) (Forward i) ≡ not (is_some found)
files_by None others i k within at is = behind_one (length others) i (files_at others i k within at is)
files_by (Some r) others i k within at is = refl

goes_by : (found : Option Record) (others : List Record) (i : ℕ) (k : RowKind) → i < length (kinds_of found others) → k ≡ get_or (kinds_of found others) i k → clears_before found k ≡ true
    → (is_gone found (length others) (Forward i) ≡ false) × (is_gone found (length others) (Ready i) ≡ true) × (stage_of (kinds_of found others) (Forward i) ≡ Unwritten)
goes_by None others i k within at is =
    let here = preinst_at others i k within at is in
    (not_yet (length others) i here, by_now (length others) i here, ap (λ b. cond b Wrote Unwritten) (no_files others i k within at is))
goes_by (Some r) others i k within at is = absurd (true≢false (sym is))

stays_by : (found : Option Record) (others : List Record) (i : ℕ) (k : RowKind) → i < length (kinds_of found others) → k ≡ get_or (kinds_of found others) i k → clears_before found k ≡ false
    → is_gone found (length others) (Ready i) ≡ is_gone found (length others) (Forward i)
stays_by None others i k within at is = elsewhere (length others) i (not_preinst_at others i k within at is)
stays_by (Some r) others i k within at is = refl

-- of the rows of an unpack
module _ (t : Task) (i : ℕ) where
  pub gone_called : (ok : Bool) → has_gone t (called i ok) ≡ has_gone t (Ready i)
  gone_called ok = called_by t.found (length t.others) i ok

  pub gone_prepared : has_gone t (Forward i) ≡ true → has_gone t (Ready i) ≡ true
  gone_prepared e = prepared_by t.found (length t.others) i e

  module _ (k : RowKind) (within : i < length (kinds t)) (at : k ≡ get_or (kinds t) i k) where
    pub gone_worked : k ≡ Files → (fault : Option StepFault) → has_gone t (worked i fault) ≡ has_gone t (Forward i)
    gone_worked is fault = worked_by t.found t.others i k within at is fault

    pub gone_at_files : k ≡ Files → has_gone t (Forward i) ≡ not (is_some t.found)
    gone_at_files is = files_by t.found t.others i k within at is

    pub goes_there : clears_before t.found k ≡ true → (has_gone t (Forward i) ≡ false) × (has_gone t (Ready i) ≡ true) × (stage_of (kinds t) (Forward i) ≡ Unwritten)
    goes_there is = goes_by t.found t.others i k within at is

    pub stays_there : clears_before t.found k ≡ false → has_gone t (Ready i) ≡ has_gone t (Forward i)
    stays_there is = stays_by t.found t.others i k within at is
