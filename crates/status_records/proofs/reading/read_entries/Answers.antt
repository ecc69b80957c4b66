use Rattle.std.proofs.Common.{arith}
use Rattle.std.specs.Option.{option_to_list}
use Rattle.std.proofs.lemmas.Result.{IfOk-from_err, err_from_is_err_and}
use Rattle.status_records.specs.Faults.{IsTableFault}
use Rattle.status_records.proofs.Entering.{none_told, table_fault, enters_next}
use Rattle.status_records.proofs.reading.read_entries.Goals as goal

pub returns-in_err-entry-clause-fault : goal.returns-in_err-entry-clause-fault
returns-in_err-entry-clause-fault c =
    let p = err_from_is_err_and c.from_residual.result c.from_residual.ensures.1 in
    rw (p.1, p.2) (table_fault c.args.paragraphs.now c.loop-located.located-index c.located-item.result c.loop-located.table.names c.loop-located.table.records.items c.in_err-entry.field-0.0 (omega arith) c.located-item.is c.loop-located.invariant c.in_err-entry.ensures.fault)

pub returns-in_err-entry-clause-entered : goal.returns-in_err-entry-clause-entered
returns-in_err-entry-clause-entered c = IfOk-from_err c.from_residual.result _ c.from_residual.ensures.0

pub returns-in_err-enter-clause-entered : goal.returns-in_err-enter-clause-entered
returns-in_err-enter-clause-entered c = IfOk-from_err c.from_residual-in_err-enter.result _ c.from_residual-in_err-enter.ensures.0

pub returns-in_err-enter-clause-fault : goal.returns-in_err-enter-clause-fault
returns-in_err-enter-clause-fault c = none_told (IsTableFault c.args.paragraphs.now) tt c.from_residual-in_err-enter.result c.from_residual-in_err-enter.ensures.1

pub loop-located-preserved : goal.loop-located-preserved
loop-located-preserved c =
    enters_next c.args.paragraphs.now c.loop-located.located-index c.located-item.result c.loop-located.table.names c.enter.new.table.names c.loop-located.table.records.items c.enter.new.table.records.items c.in_ok-entry.entry.name (option_to_list c.in_ok-entry.entry.kept)
    (omega arith) c.located-item.is c.loop-located.invariant c.in_ok-entry.ensures.entry c.in_ok-enter.ensures.names c.in_ok-enter.ensures.records
