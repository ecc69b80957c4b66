use Rattle.std.proofs.Common.{arith, ap, ◌∙◌, length, subst, List}
use Rattle.std.specs.BTreeMap.{get_by_text}
use Rattle.std.proofs.lemmas.List.{take_all}
use Rattle.relation_fields.specs.declared.alternative.Alternative.{Alternative}
use Rattle.install_order.proofs.BearerLaws.{AreFound, found_more}
use Rattle.install_order.proofs.bearers.Bearers.meeters.Goals as goal

pub push_admitted-requires : goal.push_admitted-requires
push_admitted-requires c = ap length c.as_slice-architectures.ensures.value ∙ c.requires.counted

pub loop-alternative-preserved : goal.loop-alternative-preserved
loop-alternative-preserved c =
    let s = c.args.self.now in
    found_more c.args.trees.now s.architectures.items (get_by_text s.index.slots) s.index.rows.items c.alternatives-alternatives.result.now c.loop-alternative.alternative-index c.alternative-item.result c.as_str.result.now c.row-row.result.now c.loop-alternative.list _ c.as_slice-architectures.result.now c.as_slice-architectures.ensures.value (omega arith) c.alternative-item.is c.as_str.ensures c.requires.index c.row-row.ensures c.in_ok-push_admitted.ensures c.loop-alternative.invariant

pub returns : goal.returns
returns c =
    let s = c.args.self.now in
    subst (λ (l : List Alternative). AreFound c.args.trees.now s.architectures.items l c.loop-alternative.list) (take_all c.loop-alternative.alternative-index c.alternatives-alternatives.result.now (omega arith) ∙ c.alternatives-alternatives.ensures) c.loop-alternative.invariant
