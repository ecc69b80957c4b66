use Rattle.std.proofs.Common.{◌∙◌, refl, sym, rules}
use Rattle.std.specs.Str.{IsUtf8}
use Rattle.control_fields.specs.Names.{IsName}
use Rattle.control_fields.proofs.Cases.{at, takes_field, not_utf8, orphaned, continues, unblank, has_bytes, no_colon, bad_name, twice}
use Rattle.control_fields.proofs.reading.take_line.Goals as goal

pub returns-then-is_err-clause-fault : goal.returns-then-is_err-clause-fault
returns-then-is_err-clause-fault c =
    let bad : IsUtf8 c.args.line.now → ⊥ = search rules in
    (not_utf8 c.args.line.now (at c.args.done.now.items c.args.begun.now.line c.args.begun.now.paragraph) bad, refl)

pub returns-then-is_empty-clause-fault : goal.returns-then-is_empty-clause-fault
returns-then-is_empty-clause-fault c =
    let utf8 : IsUtf8 c.args.line.now = search rules in (
      orphaned c.args.line.now c.trim_end.result.now (at c.args.done.now.items c.args.begun.now.line c.args.begun.now.paragraph) utf8 c.trim_end.ensures c.in-len1-up.len_at_least (sym c.is_blank.ensures ∙ c.if-is_blank.true)
          (sym c.is_empty.ensures ∙ c.if-is_empty.true),
      refl,
    )

pub returns-in-len1-up-clause-takes : goal.returns-in-len1-up-clause-takes
returns-in-len1-up-clause-takes c =
    let utf8 : IsUtf8 c.args.line.now = search rules in
    continues c.args.number c.args.line.now c.trim_end.result.now c.args.done.now.items c.args.begun.now.line c.add_line.new.begun.line c.args.begun.now.paragraph c.add_line.new.begun.paragraph utf8 c.trim_end.ensures c.in-len1-up.len_at_least
    (sym c.is_blank.ensures ∙ c.if-is_blank.true) (sym c.is_empty.ensures ∙ c.if-is_empty.false) c.in_ok-add_line-in-len1-up.ensures.line c.in_ok-add_line-in-len1-up.ensures.paragraph

pub returns-in_default-cut-clause-fault : goal.returns-in_default-cut-clause-fault
returns-in_default-cut-clause-fault c =
    let utf8 : IsUtf8 c.args.line.now = search rules in (
      no_colon c.args.line.now (at c.args.done.now.items c.args.begun.now.line c.args.begun.now.paragraph) utf8 (has_bytes c.args.line.now c.trim_end.result.now c.trim_end.ensures c.in-len1-up.len_at_least)
          (unblank c.args.line.now c.trim_end.result.now c.trim_end.ensures (sym c.is_blank.ensures ∙ c.if-is_blank.false)) c.in_default-cut.ensures.none,
      refl,
    )

pub returns-then-not-is_name-clause-fault : goal.returns-then-not-is_name-clause-fault
returns-then-not-is_name-clause-fault c =
    let utf8 : IsUtf8 c.args.line.now = search rules in
    let bad : IsName c.in-Some.name.now → ⊥ = search rules in (
      bad_name c.args.line.now (at c.args.done.now.items c.args.begun.now.line c.args.begun.now.paragraph) c.in-Some.name.now c.in-Some.value.now utf8
          (record { parts = c.in-Some.ensures.some.0; first = c.in-Some.ensures.some.1 })
          (unblank c.args.line.now c.trim_end.result.now c.trim_end.ensures (sym c.is_blank.ensures ∙ c.if-is_blank.false)) bad,
      refl,
    )

pub returns-then-branch-clause-fault : goal.returns-then-branch-clause-fault
returns-then-branch-clause-fault c =
    let utf8 : IsUtf8 c.args.line.now = search rules in
    let good : IsName c.in-Some.name.now = search rules in (
      twice c.args.line.now (at c.args.done.now.items c.args.begun.now.line c.args.begun.now.paragraph) c.in-Some.name.now c.in-Some.value.now utf8
          (record { parts = c.in-Some.ensures.some.0; first = c.in-Some.ensures.some.1 })
          (unblank c.args.line.now c.trim_end.result.now c.trim_end.ensures (sym c.is_blank.ensures ∙ c.if-is_blank.false)) good (sym c.in_ok-finds-in_default.ensures ∙ c.if-branch.true),
      refl,
    )

pub returns-in_default-clause-takes : goal.returns-in_default-clause-takes
returns-in_default-clause-takes c =
    let utf8 : IsUtf8 c.args.line.now = search rules in
    let good : IsName c.in-Some.name.now = search rules in
    takes_field c.args.number c.args.line.now c.args.done.now.items c.args.done.now.items c.args.begun.now.line c.add_field.new.begun.line c.args.begun.now.paragraph c.add_field.new.begun.paragraph c.in-Some.name.now c.in-Some.value.now utf8
    c.in-Some.ensures.some.0 c.in-Some.ensures.some.1 good (sym c.in_ok-finds-in_default.ensures ∙ c.if-branch.false) refl c.in_ok-add_field-in_default.ensures.line c.in_ok-add_field-in_default.ensures.paragraph
