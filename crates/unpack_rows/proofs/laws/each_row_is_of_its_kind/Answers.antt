use Rattle.unpack_rows.proofs.Matching.{as_many, rows_fit}
use Rattle.unpack_rows.proofs.laws.each_row_is_of_its_kind.Goals as goal

pub returns-clause-fits : goal.returns-clause-fits
returns-clause-fits c = λ start incoming stored tree others are. rows_fit start incoming stored tree others are

pub returns-clause-length : goal.returns-clause-length
returns-clause-length c = λ start incoming stored tree others. as_many start incoming stored tree others
