use Rattle.std.proofs.Common.{rules}
use Rattle.relation_fields.proofs.clause.Clause.alternatives.Goals as goal

pub returns : goal.returns
returns c = search rules
