use Rattle.std.proofs.Common.{arith, subst, sym, List}
use Rattle.std.specs.BTreeMap.{get_by_text}
use Rattle.std.specs.List.{Contains}
use Rattle.std.proofs.lemmas.List.{take_all}
use Rattle.relation_fields.specs.declared.provides.Provided.{Provided}
use Rattle.relation_index.proofs.BearingLaws.{grows_then, entries_more}
use Rattle.install_order.proofs.index.Index.enter_provided.Goals as goal

pub loop-entry-preserved : goal.loop-entry-preserved
loop-entry-preserved c =
    let now = get_by_text c.loop-entry.self.slots in
    let then' = get_by_text c.enter.new.self.slots in
    record {
      grows = grows_then (get_by_text c.args.self.now.slots) now then' c.args.self.now.rows.items c.loop-entry.self.rows.items c.enter.new.self.rows.items c.loop-entry.invariant.grows c.in_ok-enter.ensures.grows;
      entered = entries_more now then' c.loop-entry.self.rows.items c.enter.new.self.rows.items c.args.entries.now c.loop-entry.entry-index c.args.number c.entry-item.result c.as_str.result.now (omega arith) c.entry-item.is c.as_str.ensures c.in_ok-enter.ensures.grows c.in_ok-enter.ensures.entered c.loop-entry.invariant.entered;
    }

pub returns-clause-entered : goal.returns-clause-entered
returns-clause-entered c e m = c.loop-entry.invariant.entered e (subst (λ (l : List Provided). Contains l e) (sym (take_all c.loop-entry.entry-index c.args.entries.now (omega arith))) m)
