use Rattle.std.proofs.Common.{refl, sym}
use Rattle.control_fields.proofs.Keyed.{last_written}
use Rattle.control_fields.proofs.LastLine.{ends_last}
use Rattle.control_fields.proofs.paragraph.Paragraph.settle.Goals as goal

pub invariant_of-self-2 : goal.invariant_of-self-2
invariant_of-self-2 c = (last_written (λ k. k.items) c.self.inside.fields.entries c.in-Some.last.now c.settle.new.self c.self.invariant (c.in-Some.ensures.found.0 refl) (sym c.in-Some.ensures.value) c.settle.ensures.name).keyed

pub returns : goal.returns
returns c =
    let written = last_written (λ k. k.items) c.self.inside.fields.entries c.in-Some.last.now c.settle.new.self c.self.invariant (c.in-Some.ensures.found.0 refl) (sym c.in-Some.ensures.value) c.settle.ensures.name in
    ends_last (λ k. k.items) c.self.inside.fields.entries _ c.in-Some.last.now c.settle.new.self c.args.self.now written c.self.view_is c.settle.result c.settle.ensures.ok
