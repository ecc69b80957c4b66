use Rattle.std.proofs.Common.{◌++◌, ◌∷◌, [], ◌∙◌, sym, ap, subst, take, List, Some}
use Rattle.std.proofs.lemmas.List.{take_all}
use Rattle.administration.proofs.Within.{taken_more}
use Rattle.status_records.specs.declared.record.Record.{Record}
use Rattle.info_format.specs.Names.{architectures}
use Rattle.info_format.specs.Naming.{IsQualifiedIn}
use Rattle.info_format.specs.declared.naming.Qualified.{Qualified}
use Rattle.info_format.proofs.Packages.{AreFrom, all_qualified, from_more, from_passed, from_start, not_found}
use Rattle.info_format.proofs.naming.packages_of.Goals as goal
use Rattle.info_format.proofs.naming.packages_of.Goals.{in-Some+in_ok-push, in_default}

pub loop-record-init : goal.loop-record-init
loop-record-init c = subst (AreFrom (architectures c.args.database.now.records) []) (sym c.new-found.ensures.items) (from_start (architectures c.args.database.now.records))

pub loop-record-preserved : goal.loop-record-preserved
loop-record-preserved c =
    let arches = architectures c.args.database.now.records in
    let records = c.records-record-items.result.now in
    let i = c.loop-record.record-index in
    let r = c.record-item.result in
    let seen = sym (taken_more records i r c.loop-record-test.true c.record-item.is) in
    elim c.match-branch-2.branch [
      | in-Some+in_ok-push w ↦ subst (λ (s : List Record). AreFrom arches s c.match-branch-2.found.items) seen
          (subst (AreFrom arches (take i records ++ r ∷ [])) (sym (ap (λ v. v.items) w.found-is ∙ w.in_ok-push.ensures.items))
          (from_more c.args.database.now.records (take i records) r c.loop-record.found.items w.in-Some.one c.loop-record.invariant (subst (IsQualifiedIn c.args.database.now.records r.name) w.in-Some.is c.in_ok-one.ensures)))
      | in_default w ↦ subst (λ (s : List Record). AreFrom arches s c.match-branch-2.found.items) seen
          (subst (AreFrom arches (take i records ++ r ∷ [])) (sym (ap (λ v. v.items) w.found-is))
          (from_passed c.args.database.now.records (take i records) r c.loop-record.found.items c.loop-record.invariant (not_found (IsQualifiedIn c.args.database.now.records r.name) c.in_ok-one.field-0 w.in_default.not-Some c.in_ok-one.ensures)))
    ]

pub returns : goal.returns
returns c =
    let table = c.args.database.now.records in
    all_qualified table c.loop-record.found.items
    (subst (λ (seen : List Record). AreFrom (architectures table) seen c.loop-record.found.items) (take_all c.loop-record.record-index c.records-record-items.result.now c.loop-record-test.false ∙ c.records-record-items.ensures) c.loop-record.invariant)
