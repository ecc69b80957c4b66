use Rattle.std.proofs.Common.{◌≡◌, Bool, cond, None, sym, subst, ◌∙◌, codes}
use Rattle.std.specs.Prelude.{IfOk}
use Rattle.status_records.specs.Paragraphs.{field_in, line_of}
use Rattle.status_records.proofs.ConffileReading.{version_read}
use Rattle.status_records.proofs.reading.earlier_version.Goals as goal

pub returns-in-Some : goal.returns-in-Some
returns-in-Some c =
    let fs = c.args.fields.now in
    subst (λ (b : Bool). IfOk c.read_version.result (λ version. version ≡ cond b None (line_of (field_in (codes "config-version") fs))))
    (sym (sym c.is_configured_in.ensures ∙ c.if-is_configured_in.false)) (version_read c.read_version.result fs c.in-Some.value.now c.requires c.in-Some.ensures c.read_version.ensures)
