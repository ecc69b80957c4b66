use Rattle.std.proofs.Common.{◌≡◌, List, subst, false}
use Rattle.std.specs.Prelude.{IfSome, IfNone}
use Rattle.control_fields.specs.Names.{IsFieldCalled, is_called}
use Rattle.control_fields.specs.declared.field.Field.{Field}
use Rattle.control_fields.proofs.Keyed.{get_some, get_none}
use Rattle.control_fields.proofs.paragraph.Paragraph.get.Goals as goal

pub returns-clause-some : goal.returns-clause-some
returns-clause-some c = subst (λ (l : List Field). IfSome c.get.result (λ f. IsFieldCalled c.args.lower.now l f.now)) c.self.view_is (get_some (λ k. k.items) c.args.lower.now c.self.inside.fields.entries c.get.result c.self.invariant c.get.ensures.value)

pub returns-clause-none : goal.returns-clause-none
returns-clause-none c = subst (λ (l : List Field). IfNone c.get.result (is_called c.args.lower.now l ≡ false)) c.self.view_is (get_none (λ k. k.items) c.args.lower.now c.self.inside.fields.entries c.get.result c.self.invariant c.get.ensures.value)
