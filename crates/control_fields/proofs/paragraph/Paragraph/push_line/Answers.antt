use Rattle.std.proofs.Common.{refl, sym}
use Rattle.control_fields.proofs.Keyed.{last_written}
use Rattle.control_fields.proofs.LastLine.{with_more, line_more, no_line_more}
use Rattle.control_fields.proofs.paragraph.Paragraph.push_line.Goals as goal

pub invariant_of-self-2 : goal.invariant_of-self-2
invariant_of-self-2 c = (last_written (λ k. k.items) c.self.inside.fields.entries c.in-Some.last.now (with_more c.in-Some.last.now c.push.new.self) c.self.invariant (c.in-Some.ensures.found.0 refl) (sym c.in-Some.ensures.value) refl).keyed

pub returns-clause-ok : goal.returns-clause-ok
returns-clause-ok c =
    let written = last_written (λ k. k.items) c.self.inside.fields.entries c.in-Some.last.now (with_more c.in-Some.last.now c.push.new.self) c.self.invariant (c.in-Some.ensures.found.0 refl) (sym c.in-Some.ensures.value) refl in
    line_more (λ k. k.items) c.self.inside.fields.entries _ c.in-Some.last.now c.push.new.self c.args.self.now written c.self.view_is c.push.result c.args.text c.push.ensures.ok

pub returns-clause-err : goal.returns-clause-err
returns-clause-err c =
    let written = last_written (λ k. k.items) c.self.inside.fields.entries c.in-Some.last.now (with_more c.in-Some.last.now c.push.new.self) c.self.invariant (c.in-Some.ensures.found.0 refl) (sym c.in-Some.ensures.value) refl in
    no_line_more (λ k. k.items) c.self.inside.fields.entries _ c.in-Some.last.now c.push.new.self c.args.self.now written c.self.view_is c.push.result c.push.ensures.err
