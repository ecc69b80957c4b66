use Rattle.std.proofs.Common.{◌≡◌, Option, Some, List, [], ℕ, ◌∙◌, sym, ap, rules, codes}
use Rattle.std.specs.Option.{option_copied}
use Rattle.std.specs.Str.{bytes_eq}
use Rattle.control_fields.specs.declared.field.Field.{Field}
use Rattle.status_records.specs.Paragraphs.{field_in}
use Rattle.status_records.proofs.Sayings.{found_field}
use Rattle.opening.specs.Architectures.{line_of}
use Rattle.opening.proofs.architectures.is_named.Goals as goal

pub returns-in-Some : goal.returns-in-Some
returns-in-Some c =
    let found : Some c.in-Some.field.now ≡ field_in (codes "package") c.args.fields.now = ap option_copied (sym c.in-Some.is) ∙ found_field c.get.result (codes "package") c.args.fields.now c.get.ensures.some c.get.ensures.none in
    let field : c.eq.result ≡ bytes_eq c.in-Some.field.now.first c.args.name.now = search rules in
    field ∙ ap (λ (o : Option Field). bytes_eq (line_of o) c.args.name.now) found

pub returns-in-None : goal.returns-in-None
returns-in-None c =
    let found = ap option_copied (sym c.in-None.is) ∙ found_field c.get.result (codes "package") c.args.fields.now c.get.ensures.some c.get.ensures.none in
    let none : c.is_empty.result ≡ bytes_eq [] c.args.name.now = search rules in
    none ∙ ap (λ (o : Option Field). bytes_eq (line_of o) c.args.name.now) found
