use Rattle.std.proofs.Common.{refl, ◌∙◌}
use Rattle.unit_stages.specs.declared.part.Part.TheVariants.{Settle}
use Rattle.configure_engine.proofs.Made.{all_made, first_are, not_empty}
use Rattle.configure_engine.proofs.stages.first_parts.Goals as goal

pub returns : goal.returns
returns c =
    let r = c.args.entry.now in
    let listed = c.args.listed.now in
    let list = c.args.list in
    first_are r listed list.items (Settle list) c.push-3.new.self.items (not_empty list.len list.items c.is_empty.result c.is_empty.ensures c.if-is_empty.false list.ok.0) refl
    (all_made r listed (Settle list) c.in_ok-half.field-0 c.in_ok-half-2.field-0 c.in_ok-settled.settled c.as_slice.result.now c.new-parts.result.items c.push.new.self.items c.push-2.new.self.items c.push_list.new.parts.items c.push-3.new.self.items
    c.new-parts.ensures.items c.in_ok-push.ensures.items c.in_ok-push-2.ensures.items c.in_ok-push_list.ensures c.in_ok-push-3.ensures.items c.in_ok-half.ensures (c.as_slice.ensures.value ∙ c.in_ok-going.ensures) c.in_ok-settled.ensures c.in_ok-half-2.ensures)
