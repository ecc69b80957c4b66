-- Until the rows go on to the new preinst of a package without a record, it has none.
use Rattle.std.proofs.Common.{◌≡◌, ℕ, ◌+◌, ◌≤◌, zero, suc, Bool, true, false, cond, List, [], ◌∷◌, ◌++◌, Option, Some, None, nat_le, length, map, take, drop, refl, sym, ap, subst, ◌∙◌, arith}
use Rattle.std.specs.Str.{bytes_eq}
use Rattle.std.proofs.lemmas.Bool.{cond-false}
use Rattle.std.proofs.lemmas.List.{length-append, length-map}
use Rattle.undo_rows.specs.Place.{Place, Forward, Ready, Back}
use Rattle.undo_rows.specs.declared.failed.Failed.{Failed}
use Rattle.status_records.specs.Records.{IsWithout, put_record, record_in}
use Rattle.status_records.specs.declared.record.Record.{Record}
use Rattle.status_records.proofs.Tables.{record_in-put_record}
use Rattle.unpack_rows.specs.Kinds.{kinds_of, last_kinds}
use Rattle.unpack_rows.specs.Notes.{half_configured, noted, notes_at, notes_back, notes_forward}
use Rattle.unpack_rows.specs.declared.kinds.RowKind.{RowKind}
use Rattle.unpack_rows.specs.declared.kinds.RowKind.TheVariants.{Other}
use Rattle.unpack_rows.specs.declared.notes.Note.{Note}
use Rattle.unpack_rows.specs.declared.notes.Note.TheVariants.{Put, Drop}
use Rattle.unpack_steps.specs.Clearing.{is_gone}
use Rattle.unpack_steps.proofs.Hooks.{noted-append}

abbrev others_kinds : List Record → List RowKind
others_kinds others = map (λ r. Other r) others

take_others : (others : List Record) (rest : List RowKind) (j : ℕ) → j ≤ length others → take j (others_kinds others ++ rest) ≡ others_kinds (take j others)
take_others others rest zero low = refl
take_others [] rest (suc j) low = absurd (omega (arith, low))
take_others (r ∷ others) rest (suc j) low = ap (λ (l : List RowKind). Other r ∷ l) (take_others others rest j (omega (arith, low)))

drop_others : (others : List Record) (k : ℕ) → drop k (others_kinds others) ≡ others_kinds (drop k others)
drop_others others zero = refl
drop_others [] (suc k) = refl
drop_others (r ∷ others) (suc k) = drop_others others k

take_without : (own : List ℕ) (others : List Record) (j : ℕ) → IsWithout own others → IsWithout own (take j others)
take_without own others zero free = tt
take_without own [] (suc j) free = tt
take_without own (r ∷ others) (suc j) free = (free.0, take_without own others j free.1)

drop_without : (own : List ℕ) (others : List Record) (k : ℕ) → IsWithout own others → IsWithout own (drop k others)
drop_without own others zero free = free
drop_without own [] (suc k) free = tt
drop_without own (r ∷ others) (suc k) free = drop_without own others k free.1

module _ (start : Option Record) (incoming : Record) (own : List ℕ) where
  put_other : (x : Record) (table : List Record) → bytes_eq x.name own ≡ false → record_in (put_record x table) own ≡ record_in table own
  put_other x table other = record_in-put_record x table own ∙ cond-false (bytes_eq x.name own) (Some x) (record_in table own) other

  forward_other : (others table : List Record) → IsWithout own others → record_in (noted table (notes_forward start incoming (others_kinds others))) own ≡ record_in table own
  forward_other [] table free = refl
  forward_other (r ∷ others) table free = forward_other others (put_record (half_configured r) table) free.1 ∙ put_other (half_configured r) table free.0

  one_back : (b : Bool) (r : Record) (table : List Record) → bytes_eq r.name own ≡ false → record_in (noted table (cond b [] (Put r ∷ []))) own ≡ record_in table own
  one_back true r table other = refl
  one_back false r table other = put_other r table other

  back_other : (row : ℕ) (others : List Record) (failed : List Failed) (table : List Record) → IsWithout own others → record_in (noted table (notes_back start incoming row (others_kinds others) failed)) own ≡ record_in table own
  back_other row [] failed table free = refl
  back_other row (r ∷ others) failed table free =
      ap (λ (rs : List Record). record_in rs own) (noted-append table (notes_back start incoming (row + 1) (others_kinds others) failed) _)
      ∙ one_back _ r (noted table (notes_back start incoming (row + 1) (others_kinds others) failed)) free.0
      ∙ back_other (row + 1) others failed table free.1

below : (n k : ℕ) → nat_le (n + 1) k ≡ false → k ≤ n
below n k e = grind arith

below_ready : (n k : ℕ) → nat_le n k ≡ false → k + 1 ≤ n
below_ready n k e = grind arith

module _ (incoming : Record) (own : List ℕ) (others table : List Record) (free : IsWithout own others) where
  abbrev kinds : List RowKind
  kinds = kinds_of None others

  pub unreached : (place : Place) → is_gone None (length others) place ≡ false → record_in (noted table (notes_at None incoming kinds place)) own ≡ record_in table own
  unreached (Forward k) short =
      ap (λ ks. record_in (noted table (notes_forward None incoming ks)) own) (take_others others (last_kinds false) k (below (length others) k short))
      ∙ forward_other None incoming own (take k others) table (take_without own others k free)
  unreached (Ready k) short =
      ap (λ ks. record_in (noted table (notes_forward None incoming ks)) own) (take_others others (last_kinds false) (k + 1) (below_ready (length others) k short))
      ∙ forward_other None incoming own (take (k + 1) others) table (take_without own others (k + 1) free)
  unreached (Back k fall failed) short =
      let rows = take (fall.row + 1) others in
      ap (λ ks. record_in (noted table (notes_forward None incoming ks ++ notes_back None incoming k (drop k ks) failed)) own) (take_others others (last_kinds false) (fall.row + 1) (below_ready (length others) fall.row short))
      ∙ ap (λ ks. record_in (noted table (notes_forward None incoming (others_kinds rows) ++ notes_back None incoming k ks failed)) own) (drop_others rows k)
      ∙ ap (λ (rs : List Record). record_in rs own) (noted-append table (notes_forward None incoming (others_kinds rows)) (notes_back None incoming k (others_kinds (drop k rows)) failed))
      ∙ back_other None incoming own k (drop k rows) failed (noted table (notes_forward None incoming (others_kinds rows))) (drop_without own rows k (take_without own others (fall.row + 1) free))
      ∙ forward_other None incoming own rows table (take_without own others (fall.row + 1) free)

-- behind all rows its new preinst's is behind

enough : (n m : ℕ) → m ≡ n + 2 → nat_le (n + 1) m ≡ true
enough n m e = grind arith

pub rows_behind : (found : Option Record) → found ≡ None → (others : List Record) (rows : ℕ) → rows ≡ length (kinds_of found others) → is_gone found (length others) (Forward rows) ≡ true
rows_behind None none others rows many =
    enough (length others) rows (many ∙ length-append (others_kinds others) (last_kinds false) ∙ ap (λ n. n + 2) (length-map others (λ (r : Record). Other r)))
rows_behind (Some r) none others rows many = absurd cc
