use Rattle.std.proofs.Common.{◌<◌, ◌^◌, List, [], sym, subst, length, arith}
use Rattle.std.specs.List.{AllByRecursion}
use Rattle.std.proofs.lemmas.Result.{err_from_is_err_and}
use Rattle.control_fields.specs.Grammar.{paragraphs_of}
use Rattle.control_fields.specs.declared.located.Located.{Located}
use Rattle.status_records.specs.Paragraphs.{Enters}
use Rattle.status_records.specs.Faults.{IsSound}
use Rattle.status_records.proofs.WholeText.{read_sound, text_records, text_apart, text_standing, fault_behind}
use Rattle.status_records.proofs.reading.read_text.Goals as goal

pub read_entries-requires : goal.read_entries-requires
read_entries-requires c =
    let text = c.in_ok-text.text in
    let short : length c.args.bytes.now < 2 ^ 63 = omega arith in
    subst (AllByRecursion IsSound) (sym c.as_slice.ensures.value) (read_sound c.args.bytes.now text.paragraphs.items text.begun text.fault short c.in_ok-text.ensures).0

pub check_end-requires : goal.check_end-requires
check_end-requires c =
    let text = c.in_ok-text.text in
    let short : length c.args.bytes.now < 2 ^ 63 = omega arith in
    (read_sound c.args.bytes.now text.paragraphs.items text.begun text.fault short c.in_ok-text.ensures).1

pub returns-in_err-check_end-clause-fault : goal.returns-in_err-check_end-clause-fault
returns-in_err-check_end-clause-fault c =
    let text = c.in_ok-text.text in
    let table = c.in_ok-table.table in
    let run = subst (λ (l : List Located). Enters [] [] (paragraphs_of l) table.names table.records.items) c.as_slice.ensures.value c.in_ok-table.ensures.entered in
    let p = err_from_is_err_and c.from_residual-in_err-check_end.result c.from_residual-in_err-check_end.ensures.1 in
    rw (p.1, p.2) (fault_behind c.args.bytes.now text.paragraphs.items text.begun text.fault table.names table.records.items c.in_err-check_end.field-0.0 c.in_ok-text.ensures run c.in_err-check_end.ensures.fault)

pub returns-clause-records : goal.returns-clause-records
returns-clause-records c =
    let text = c.in_ok-text.text in
    let table = c.in_ok-table.table in
    let run = subst (λ (l : List Located). Enters [] [] (paragraphs_of l) table.names table.records.items) c.as_slice.ensures.value c.in_ok-table.ensures.entered in
    text_records c.args.bytes.now text.paragraphs.items text.begun text.fault table.names table.records.items c.in_ok-text.ensures c.in_ok-check_end.ensures.none run

pub returns-clause-apart : goal.returns-clause-apart
returns-clause-apart c = text_apart c.as_slice.result.now c.in_ok-table.table.names c.in_ok-table.table.records.items c.in_ok-table.ensures.entered

pub returns-clause-standing : goal.returns-clause-standing
returns-clause-standing c = text_standing c.as_slice.result.now c.in_ok-table.table.names c.in_ok-table.table.records.items c.in_ok-table.ensures.entered
