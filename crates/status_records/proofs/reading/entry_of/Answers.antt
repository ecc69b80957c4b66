use Rattle.std.proofs.Common.{◌∙◌, inl, inr, refl, sym}
use Rattle.std.specs.Option.{option_to_list}
use Rattle.std.proofs.lemmas.Bool.{true≢false}
use Rattle.std.proofs.lemmas.Result.{IfOk-from_err}
use Rattle.status_records.specs.Faults.{IsEntryFault}
use Rattle.status_records.proofs.Entering.{none_told, entry_here}
use Rattle.status_records.proofs.reading.entry_of.Goals as goal

pub returns-then-is_faulty_whole-clause-fault : goal.returns-then-is_faulty_whole-clause-fault
returns-then-is_faulty_whole-clause-fault c = inl (c.is_faulty_whole.ensures.0 c.if-is_faulty_whole.true, refl)

pub first_bad-requires : goal.first_bad-requires
first_bad-requires c = c.requires.lines

pub returns-in_err-line-clause-entry : goal.returns-in_err-line-clause-entry
returns-in_err-line-clause-entry c = IfOk-from_err c.from_residual.result _ c.from_residual.ensures.0

pub returns-in_err-line-clause-fault : goal.returns-in_err-line-clause-fault
returns-in_err-line-clause-fault c = none_told (IsEntryFault c.args.names.now c.args.located.now) tt c.from_residual.result c.from_residual.ensures.1

pub returns-in-Some-clause-fault : goal.returns-in-Some-clause-fault
returns-in-Some-clause-fault c = inr (λ whole. true≢false (sym (c.is_faulty_whole.ensures.1 whole) ∙ c.if-is_faulty_whole.false), rw c.in-Some.is at c.in_ok-line.ensures)

pub read_entry-requires : goal.read_entry-requires
read_entry-requires c = record { written = c.requires.written; readable = rw c.in_default.is at c.in_ok-line.ensures; agree = λ amiss. true≢false (sym (c.is_faulty_whole.ensures.1 (inr (inr amiss))) ∙ c.if-is_faulty_whole.false) }

pub returns-in_err-entry-clause-entry : goal.returns-in_err-entry-clause-entry
returns-in_err-entry-clause-entry c = IfOk-from_err c.from_residual-in_err-entry.result _ c.from_residual-in_err-entry.ensures.0

pub returns-in_err-entry-clause-fault : goal.returns-in_err-entry-clause-fault
returns-in_err-entry-clause-fault c = none_told (IsEntryFault c.args.names.now c.args.located.now) tt c.from_residual-in_err-entry.result c.from_residual-in_err-entry.ensures.1

pub returns-in-Some-2-clause-entry : goal.returns-in-Some-2-clause-entry
returns-in-Some-2-clause-entry c =
    entry_here c.args.names.now c.args.located.now.paragraph c.in-Some-2.entry.name (option_to_list c.in-Some-2.entry.kept) (λ whole. true≢false (sym (c.is_faulty_whole.ensures.1 whole) ∙ c.if-is_faulty_whole.false))
    (rw c.in_default.is at c.in_ok-line.ensures) (rw c.in-Some-2.is at c.in_ok-entry.ensures.some)

pub returns-in-None-clause-fault : goal.returns-in-None-clause-fault
returns-in-None-clause-fault c = inl (inl (rw c.in-None.is at c.in_ok-entry.ensures.none), refl)
