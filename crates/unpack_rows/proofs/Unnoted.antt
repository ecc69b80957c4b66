-- The files and the postrm have no notes.
use Rattle.std.proofs.Common.{◌≡◌, ℕ, ◌+◌, zero, suc, Bool, true, false, cond, List, [], ◌∷◌, ◌++◌, Option, take, drop, refl, ap, ◌∙◌}
use Rattle.undo_rows.specs.declared.rows.Owner.TheVariants.{Package as OfPackage, Files as OfFiles}
use Rattle.undo_rows.specs.declared.failed.Failed.{Failed}
use Rattle.status_records.specs.declared.record.Record.{Record}
use Rattle.unpack_rows.specs.declared.kinds.RowKind.{RowKind}
use Rattle.unpack_rows.specs.declared.kinds.RowKind.TheVariants.{Files, Postrm}
use Rattle.unpack_rows.specs.declared.notes.Note.{Note}
use Rattle.unpack_rows.specs.Failures.{has_failed}
use Rattle.unpack_rows.specs.Kinds.{own_of}
use Rattle.unpack_rows.specs.Notes.{notes_back, notes_forward}

pub no_note : (b : Bool) → cond {A = List Note} b [] [] ≡ []
no_note true = refl
no_note false = refl

no_kinds : (j m : ℕ) → ◌≡◌ {A = List RowKind} (drop j (take m [])) []
no_kinds zero zero = refl
no_kinds zero (suc m) = refl
no_kinds (suc j) zero = refl
no_kinds (suc j) (suc m) = refl

module _ (start : Option Record) (incoming : Record) where
  pub postrm_unnoted : (b : Bool) → notes_forward start incoming (cond b (Postrm ∷ []) []) ≡ []
  postrm_unnoted true = refl
  postrm_unnoted false = refl

  pub files_unnoted : (b : Bool) (m : ℕ) → notes_forward start incoming (take m (Files ∷ cond b (Postrm ∷ []) [])) ≡ []
  files_unnoted b zero = refl
  files_unnoted true (suc zero) = refl
  files_unnoted true (suc (suc zero)) = refl
  files_unnoted true (suc (suc (suc m))) = refl
  files_unnoted false (suc zero) = refl
  files_unnoted false (suc (suc m)) = refl

  module _ (failed : List Failed) where
    abbrev own_failed : ℕ → Bool
    own_failed row = has_failed row (OfPackage (own_of start incoming).name) failed

    both : (row : ℕ) → ◌≡◌ {A = List Note} (cond {A = List Note} (own_failed (row + 1)) [] [] ++ cond {A = List Note} (has_failed row OfFiles failed) [] []) []
    both row = (λ i. no_note (own_failed (row + 1)) i ++ cond (has_failed row OfFiles failed) [] []) ∙ no_note (has_failed row OfFiles failed)

    pub files_unnoted_back : (b : Bool) (m row : ℕ) → notes_back start incoming row (take m (Files ∷ cond b (Postrm ∷ []) [])) failed ≡ []
    files_unnoted_back b zero row = refl
    files_unnoted_back true (suc zero) row = no_note (has_failed row OfFiles failed)
    files_unnoted_back true (suc (suc zero)) row = both row
    files_unnoted_back true (suc (suc (suc m))) row = both row
    files_unnoted_back false (suc zero) row = no_note (has_failed row OfFiles failed)
    files_unnoted_back false (suc (suc m)) row = no_note (has_failed row OfFiles failed)

    pub postrm_unnoted_back : (b : Bool) (j m row : ℕ) → notes_back start incoming row (drop j (take m (cond b (Postrm ∷ []) []))) failed ≡ []
    postrm_unnoted_back true zero zero row = refl
    postrm_unnoted_back true zero (suc zero) row = no_note (own_failed row)
    postrm_unnoted_back true zero (suc (suc m)) row = no_note (own_failed row)
    postrm_unnoted_back true (suc j) zero row = refl
    postrm_unnoted_back true (suc j) (suc m) row = ap (λ l. notes_back start incoming row l failed) (no_kinds j m)
    postrm_unnoted_back false j m row = ap (λ l. notes_back start incoming row l failed) (no_kinds j m)
