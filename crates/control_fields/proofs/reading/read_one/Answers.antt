use Rattle.std.proofs.Common.{rules}
use Rattle.std.proofs.lemmas.Result.{err_from_is_err_and}
use Rattle.control_fields.specs.Grammar.{lines_of}
use Rattle.control_fields.proofs.Stops.{one_of}
use Rattle.control_fields.proofs.reading.read_one.Goals as goal

pub returns-in_err-read_all-clause-fault : goal.returns-in_err-read_all-clause-fault
returns-in_err-read_all-clause-fault c =
    let p = err_from_is_err_and c.from_residual.result c.from_residual.ensures.1 in
    let stops = c.in_err-read_all.ensures.fault in
    rw (p.1, p.2) (one_of (lines_of c.args.bytes.now) stops.0 c.in_err-read_all.field-0.0 stops.1)

pub returns-in-Some-clause-reads : goal.returns-in-Some-clause-reads
returns-in-Some-clause-reads c = search rules
