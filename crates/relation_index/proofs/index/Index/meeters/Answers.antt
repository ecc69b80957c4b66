use Rattle.std.proofs.Common.{arith, subst, List, ℕ}
use Rattle.std.specs.Prelude.{◌↔◌}
use Rattle.std.specs.BTreeMap.{get_by_text}
use Rattle.std.specs.List.{Contains}
use Rattle.std.proofs.lemmas.List.{take_all}
use Rattle.relation_fields.specs.declared.alternative.Alternative.{Alternative}
use Rattle.relation_index.specs.Packages.{Meets}
use Rattle.relation_index.proofs.BearingLaws.{meets_more}
use Rattle.relation_index.proofs.index.Index.meeters.Goals as goal

pub loop-alternative-preserved : goal.loop-alternative-preserved
loop-alternative-preserved c = meets_more c.args.packages.now (get_by_text c.args.self.now.slots) c.args.self.now.rows.items c.args.clause.now c.loop-alternative.alternative-index c.alternative-item.result c.as_str.result.now c.row.result.now _ _ (omega arith) c.alternative-item.is c.as_str.ensures c.requires.index c.row.ensures c.in_ok-push_admitted.ensures c.loop-alternative.invariant

pub returns : goal.returns
returns c = subst (λ (l : List Alternative). (x : ℕ) → Contains c.loop-alternative.list x ↔ Meets l c.args.packages.now x) (take_all c.loop-alternative.alternative-index c.args.clause.now (omega arith)) c.loop-alternative.invariant
