use Rattle.std.proofs.Common.{◌<◌, ◌^◌, ◌∙◌, List, ℕ, length, sym, subst, arith, ◌==◌, ◌≡◌, ◌-◌, false, drop, take}
use Rattle.std.specs.List.{AllByRecursion}
use Rattle.std.specs.Option.{option_to_list}
use Rattle.status_records.specs.Paragraphs.{IsEntry}
use Rattle.std.proofs.lemmas.Result.{err_from_is_err_and}
use Rattle.control_fields.specs.Faults.{IsReadTo}
use Rattle.control_fields.specs.Grammar.{lines_of}
use Rattle.control_fields.specs.declared.located.Located.{Located}
use Rattle.status_records.specs.Faults.{IsEntryFault, IsSound}
use Rattle.status_db.proofs.NoteTexts.{cut_rest, entry_fault, first_sound, head_of, note_of, rest_fault}
use Rattle.status_records.proofs.WholeText.{read_sound}
use Rattle.status_db.proofs.note_reading.read_text.Goals as goal

pub fault_of_start-requires : goal.fault_of_start-requires
fault_of_start-requires c =
    let text = c.in_ok-text.text in
    let short : length c.args.bytes.now < 2 ^ 63 = omega arith in
    (read_sound c.args.bytes.now text.paragraphs.items text.begun text.fault short c.in_ok-text.ensures).1

pub entry_of-requires : goal.entry_of-requires
entry_of-requires c =
    let text = c.in_ok-text.text in
    let short : length c.args.bytes.now < 2 ^ 63 = omega arith in
    let some : (length c.as_slice-paragraphs.result.now == 0) ≡ false = sym c.is_empty.ensures ∙ c.if-is_empty.false in
    let first = head_of c.as_slice-paragraphs.result.now c.index-paragraphs-0.result some c.index-paragraphs-0.is in
    first_sound c.as_slice-paragraphs.result.now c.index-paragraphs-0.result first (subst (λ (l : List Located). AllByRecursion IsSound l) (sym c.as_slice-paragraphs.ensures.value) (read_sound c.args.bytes.now text.paragraphs.items text.begun text.fault short c.in_ok-text.ensures).0)

pub returns-in_err-entry-clause-fault : goal.returns-in_err-entry-clause-fault
returns-in_err-entry-clause-fault c =
    let text = c.in_ok-text.text in
    let ps = c.as_slice-paragraphs.result.now in
    let some : (length c.as_slice-paragraphs.result.now == 0) ≡ false = sym c.is_empty.ensures ∙ c.if-is_empty.false in
    let first = head_of ps c.index-paragraphs-0.result some c.index-paragraphs-0.is in
    let read = subst (λ (l : List Located). IsReadTo (lines_of c.args.bytes.now) l text.begun text.fault) (sym c.as_slice-paragraphs.ensures.value) c.in_ok-text.ensures in
    let p = err_from_is_err_and c.from_residual-in_err-entry.result c.from_residual-in_err-entry.ensures.1 in
    rw (p.1, p.2) (entry_fault c.args.bytes.now ps text.begun text.fault read c.index-paragraphs-0.result c.in_err-entry.field-0.0 first (subst (λ (n : List (List ℕ)). IsEntryFault n c.index-paragraphs-0.result c.in_err-entry.field-0.0) c.new-names.ensures c.in_err-entry.ensures.fault))

pub returns-in_err-check_rest-clause-fault : goal.returns-in_err-check_rest-clause-fault
returns-in_err-check_rest-clause-fault c =
    let text = c.in_ok-text.text in
    let ps = c.as_slice-paragraphs.result.now in
    let some : (length c.as_slice-paragraphs.result.now == 0) ≡ false = sym c.is_empty.ensures ∙ c.if-is_empty.false in
    let first = head_of ps c.index-paragraphs-0.result some c.index-paragraphs-0.is in
    let read = subst (λ (l : List Located). IsReadTo (lines_of c.args.bytes.now) l text.begun text.fault) (sym c.as_slice-paragraphs.ensures.value) c.in_ok-text.ensures in
    let entry = subst (λ (n : List (List ℕ)). IsEntry n c.index-paragraphs-0.result.paragraph c.in_ok-entry.entry.name (option_to_list c.in_ok-entry.entry.kept)) c.new-names.ensures c.in_ok-entry.ensures.entry in
    let p = err_from_is_err_and c.from_residual-in_err-check_rest.result c.from_residual-in_err-check_rest.ensures.1 in
    rw (p.1, p.2) (rest_fault c.args.bytes.now ps text.begun text.fault read c.index-paragraphs-0.result c.in_ok-entry.entry.name (option_to_list c.in_ok-entry.entry.kept) (take (length ps - 1) (drop 1 ps)) c.in_err-check_rest.field-0.0 first entry (cut_rest ps) c.in_err-check_rest.ensures.fault)

pub returns-clause-note : goal.returns-clause-note
returns-clause-note c =
    let text = c.in_ok-text.text in
    let ps = c.as_slice-paragraphs.result.now in
    let some : (length c.as_slice-paragraphs.result.now == 0) ≡ false = sym c.is_empty.ensures ∙ c.if-is_empty.false in
    let first = head_of ps c.index-paragraphs-0.result some c.index-paragraphs-0.is in
    let read = subst (λ (l : List Located). IsReadTo (lines_of c.args.bytes.now) l text.begun text.fault) (sym c.as_slice-paragraphs.ensures.value) c.in_ok-text.ensures in
    let entry = subst (λ (n : List (List ℕ)). IsEntry n c.index-paragraphs-0.result.paragraph c.in_ok-entry.entry.name (option_to_list c.in_ok-entry.entry.kept)) c.new-names.ensures c.in_ok-entry.ensures.entry in
    note_of c.args.bytes.now ps text.begun text.fault read c.index-paragraphs-0.result c.in_ok-entry.entry.name c.in_ok-entry.entry.kept (take (length ps - 1) (drop 1 ps)) first entry (cut_rest ps) c.in_ok-check_rest.ensures.rest c.in_ok-check_rest.ensures.whole
