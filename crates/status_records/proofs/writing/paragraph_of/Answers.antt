use Rattle.std.proofs.Common.{[], List, sym, subst, ◌∙◌}
use Rattle.std.proofs.Math.Logic.{∥∥₁_map}
use Rattle.control_fields.specs.Spelling.{AreFields}
use Rattle.control_fields.specs.declared.field.Field.{Field}
use Rattle.status_records.specs.Order.{merged}
use Rattle.status_records.proofs.Rounds.{whole_of, paragraph_written}
use Rattle.status_records.proofs.writing.paragraph_of.Goals as goal

pub merged-requires : goal.merged-requires
merged-requires c =
    let r = c.args.entry.now in
    let own = c.as_slice.ensures.value ∙ c.in_ok-own.ensures.fields in
    ∥∥₁_map (whole_of r) (λ whole. subst (λ (l : List Field). AreFields [] (merged l r.fields)) (sym own) (paragraph_written r whole c.in_ok-own.ensures.parts).are)
