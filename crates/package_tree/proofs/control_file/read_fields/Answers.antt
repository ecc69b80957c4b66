use Rattle.package_tree.proofs.control_file.read_fields.Goals as goal
use Rattle.std.proofs.Common.{rules, subst}
use Rattle.std.specs.Prelude.{MatchBool}
use Rattle.package_tree.specs.ControlFile.{HasBadValue, HasNoBad}
use Rattle.package_tree.specs.declared.fault.FieldName.TheVariants.{Essential}

pub returns-in_default-2-clause-fault : goal.returns-in_default-2-clause-fault
returns-in_default-2-clause-fault c = (
  (c.in-Some-name_of.name.now, record { field = c.in-Some.package.now; called = c.in-Some.ensures.some; is = c.in-Some-name_of.ensures.0; good = c.in-Some-name_of.ensures.1 }),
  record { field = c.in-Some-get.version.now; called = c.in-Some-get.ensures.some; bad = rw c.in_default-2.is at c.in_ok-version.ensures },
)

pub returns-then-not-has_no_bad_essential-clause-fault : goal.returns-then-not-has_no_bad_essential-clause-fault
returns-then-not-has_no_bad_essential-clause-fault c =
    let version = rw c.in-Some-2.is at c.in_ok-version.ensures in (
      (c.in-Some-name_of.name.now, record { field = c.in-Some.package.now; called = c.in-Some.ensures.some; is = c.in-Some-name_of.ensures.0; good = c.in-Some-name_of.ensures.1 }),
      (c.in-Some-2.version, record { field = c.in-Some-get.version.now; called = c.in-Some-get.ensures.some; is = version.0; good = version.1 }),
      c.if-not-has_no_bad_essential.ensures,
    )

pub returns-in-Some-3-clause-fault : goal.returns-in-Some-3-clause-fault
returns-in-Some-3-clause-fault c =
    let version = rw c.in-Some-2.is at c.in_ok-version.ensures in
    let essential = subst (λ good. MatchBool good (HasNoBad Essential c.args.paragraph.now) (HasBadValue Essential c.args.paragraph.now)) c.if-not-has_no_bad_essential.false c.has_no_bad_essential.ensures in (
      (c.in-Some-name_of.name.now, record { field = c.in-Some.package.now; called = c.in-Some.ensures.some; is = c.in-Some-name_of.ensures.0; good = c.in-Some-name_of.ensures.1 }),
      (c.in-Some-2.version, record { field = c.in-Some-get.version.now; called = c.in-Some-get.ensures.some; is = version.0; good = version.1 }),
      essential,
      rw c.in-Some-3.is at c.in_ok-relation.ensures,
    )

pub returns-in_default-clause-fault : goal.returns-in_default-clause-fault
returns-in_default-clause-fault c = search rules
