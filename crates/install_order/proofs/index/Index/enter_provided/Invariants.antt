use Rattle.std.proofs.Common.{take}
use Rattle.std.specs.BTreeMap.{get_by_text}
use Rattle.std.specs.List.{Contains}
use Rattle.relation_fields.specs.declared.provides.Provided.{Provided}
use Rattle.relation_index.specs.Bearing.{IsEntered, Grows}
use Rattle.install_order.proofs.index.Index.enter_provided.Given as goal

abbrev pub invariant-loop-entry : goal.invariant-loop-entry
invariant-loop-entry l = record {
  grows : Grows (get_by_text l.initial.self.slots) l.initial.self.rows.items (get_by_text l.self.slots) l.self.rows.items;
  entered : (e : Provided) → Contains (take l.entry-index l.entries) e → IsEntered (get_by_text l.self.slots) l.self.rows.items e.name l.number;
}
