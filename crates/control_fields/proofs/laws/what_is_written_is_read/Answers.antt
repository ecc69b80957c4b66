use Rattle.control_fields.proofs.Again.{again, all_again}
use Rattle.control_fields.proofs.Written.{writable, one_line, IsTrimmedMore}
use Rattle.std.proofs.Common.{sym, subst, List, ℕ}
use Rattle.std.specs.List.{AllByRecursion}
use Rattle.control_fields.proofs.laws.what_is_written_is_read.Goals as goal

pub returns-clause-one : goal.returns-clause-one
returns-clause-one c = again

pub returns-clause-all : goal.returns-clause-all
returns-clause-all c = all_again

pub returns-clause-writable : goal.returns-clause-writable
returns-clause-writable c = writable

pub returns-clause-one_line : goal.returns-clause-one_line
returns-clause-one_line c = λ f name no_colon utf8 line ending beginning more. one_line f name no_colon utf8 line ending beginning (subst (λ (l : List (List ℕ)). AllByRecursion IsTrimmedMore l) (sym more) tt)
