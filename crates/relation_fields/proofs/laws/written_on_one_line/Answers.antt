use Rattle.relation_fields.proofs.LineSigns.{line_printed, line_front, line_end}
use Rattle.relation_fields.proofs.OneLine.{line_reads}
use Rattle.relation_fields.proofs.laws.written_on_one_line.Goals as goal

pub returns-clause-again : goal.returns-clause-again
returns-clause-again c = line_reads

pub returns-clause-printed : goal.returns-clause-printed
returns-clause-printed c = line_printed

pub returns-clause-front : goal.returns-clause-front
returns-clause-front c = line_front

pub returns-clause-end : goal.returns-clause-end
returns-clause-end c = line_end
