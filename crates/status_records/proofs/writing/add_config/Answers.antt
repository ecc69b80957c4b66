use Rattle.std.proofs.Common.{◌≡◌, ◌++◌, ◌∷◌, [], ℕ, List, Option, sym, subst, ◌∙◌, codes}
use Rattle.std.specs.Prelude.{OnOk}
use Rattle.status_records.specs.Paragraphs.{line_field, config_field}
use Rattle.status_records.proofs.writing.add_config.Goals as goal

pub returns-in-Some-clause-field : goal.returns-in-Some-clause-field
returns-in-Some-clause-field c =
    subst (λ (v : Option (List ℕ)). OnOk c.push_line.result (c.push_line.new.fields.items ≡ c.args.fields.now.items ++ config_field v)) (sym c.in-Some.is)
    (subst (λ (v : List ℕ). OnOk c.push_line.result (c.push_line.new.fields.items ≡ c.args.fields.now.items ++ line_field (codes "Config-Version") v ∷ [])) (c.as_bytes.ensures.value ∙ c.text.ensures.text) c.push_line.ensures)
