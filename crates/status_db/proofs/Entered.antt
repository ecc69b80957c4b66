-- A table that took what a note says.
use Rattle.std.proofs.Common.{◌≡◌, ◌∙◌, ℕ, List, Option, Some, None, Result, Ok, Err, OnOk, sym, ap}
use Rattle.std.specs.Map.{update}
use Rattle.std.specs.Str.{bytes_eq}
use Rattle.status_records.specs.declared.record.Record.{Record}
use Rattle.status_records.specs.Records.{drop_record, put_record, record_in}
use Rattle.status_records.proofs.Tables.{record_in-drop_record, record_in-put_record}

pub put_by : {E : Type 0} (result : Result (Unit {0}) E) (r : Record) (before after : List Record) (name : List ℕ) (kept : Option Record) → kept ≡ Some r → r.name ≡ name → OnOk result (after ≡ put_record r before)
    → OnOk result ((q : List ℕ) → record_in after q ≡ update bytes_eq (record_in before) name kept q)
put_by (Ok x) r before after name kept is named put = λ q. ap (λ (l : List Record). record_in l q) put ∙ record_in-put_record r before q ∙ (λ i. update bytes_eq (record_in before) (named i) (sym is i) q)
put_by (Err e) r before after name kept is named put = tt

pub removed_by : (before after : List Record) (name : List ℕ) (kept : Option Record) → kept ≡ None → after ≡ drop_record name before → (q : List ℕ) → record_in after q ≡ update bytes_eq (record_in before) name kept q
removed_by before after name kept is dropped q = ap (λ (l : List Record). record_in l q) dropped ∙ record_in-drop_record name before q ∙ (λ i. update bytes_eq (record_in before) name (sym is i) q)
