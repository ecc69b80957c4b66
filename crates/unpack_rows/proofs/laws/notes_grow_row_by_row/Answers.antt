use Rattle.std.proofs.Common.{refl}
use Rattle.unpack_rows.proofs.Growth.{notes_called, notes_put_back, notes_ready, notes_undone, notes_worked}
use Rattle.unpack_rows.proofs.laws.notes_grow_row_by_row.Goals as goal

pub returns-clause-none : goal.returns-clause-none
returns-clause-none c = λ start incoming kinds. refl

pub returns-clause-ready : goal.returns-clause-ready
returns-clause-ready c = λ start incoming kinds i k within at. notes_ready start incoming kinds i k within at

pub returns-clause-called : goal.returns-clause-called
returns-clause-called c = λ start incoming kinds i ok. notes_called start incoming kinds i ok

pub returns-clause-worked : goal.returns-clause-worked
returns-clause-worked c = λ start incoming kinds i k fault within at is. notes_worked start incoming kinds i k within at is fault

pub returns-clause-undone : goal.returns-clause-undone
returns-clause-undone c = λ start incoming kinds i k fall failed fails low inside at. notes_undone start incoming kinds i k at fall failed low inside fails

pub returns-clause-put_back : goal.returns-clause-put_back
returns-clause-put_back c = λ start incoming kinds i k fall failed low inside at is. notes_put_back start incoming kinds i k at fall failed low inside is
