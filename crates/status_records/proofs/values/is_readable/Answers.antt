use Rattle.std.proofs.Common.{◌∙◌, IsTrue, sym, ap, subst}
use Rattle.std.specs.Prelude.{IfOk, ◌↔◌}
use Rattle.control_fields.specs.Names.{lower}
use Rattle.status_records.specs.declared.values.Kind.{Kind}
use Rattle.status_records.specs.Values.{kind_of, IsReadableAs}
use Rattle.status_records.proofs.values.is_readable.Goals as goal

pub returns-in-Relation : goal.returns-in-Relation
returns-in-Relation c =
    subst (λ (kind : Kind). IfOk c.is_relation.result (λ good. IsTrue good ↔ IsReadableAs kind c.args.field.now))
    (sym c.in-Relation.is ∙ c.kind_of.ensures ∙ ap (λ n. kind_of (lower n)) c.as_slice.ensures) c.is_relation.ensures
