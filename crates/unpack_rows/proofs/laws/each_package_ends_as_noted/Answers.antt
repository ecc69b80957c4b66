use Rattle.unpack_rows.proofs.Ends.{end_table}
use Rattle.unpack_rows.proofs.laws.each_package_ends_as_noted.Goals as goal

pub returns : goal.returns
returns c = λ start incoming others table ended are q. end_table start incoming others table are ended q
