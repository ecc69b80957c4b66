use Rattle.std.proofs.Common.{◌∙◌, arith}
use Rattle.install_order.proofs.BearerLaws.{admits_read}
use Rattle.install_order.proofs.bearers.admits_at.Goals as goal

pub returns : goal.returns
returns c = c.admits_as.ensures ∙ admits_read c.args.trees.now c.args.architectures.now c.args.alternative.now c.args.number c.index-trees-number.result c.index-architectures-number.result (omega arith) c.requires c.index-trees-number.is c.index-architectures-number.is
