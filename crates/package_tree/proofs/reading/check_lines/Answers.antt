use Rattle.std.proofs.Common.{◌∙◌, inl, inr, subst, List}
use Rattle.host_core.specs.Paths.{Path}
use Rattle.package_tree.specs.Conffiles.{HasNoEntry, IsFirstOdd, IsOdd}
use Rattle.package_tree.specs.ConffileFaults.{IsAstray, IsFirstAstray, IsFlaggedAndShipped, IsOfBoth}
use Rattle.package_tree.specs.Fault.{fault_of}
use Rattle.package_tree.specs.Shipped.{HasNoPath, IsFirstPath}
use Rattle.package_tree.specs.Tree.{IsReadingFault}
use Rattle.package_tree.specs.declared.conffile_lines.Entry.{Entry}
use Rattle.package_tree.proofs.Judged.{Astray, Shared, flagged_shipped, shipped_flagged, first_as}
use Rattle.package_tree.proofs.Passing.{host_fault, passed_fault}
use Rattle.package_tree.proofs.reading.check_lines.Goals as goal

pub returns-in_err-name-clause-fault : goal.returns-in_err-name-clause-fault
returns-in_err-name-clause-fault g c = λ h.
    let fault = c.in_err-name.field-0.0 in
    passed_fault (IsReadingFault (g.H.Host.state c.args.host.now).world) c.from_residual.result (fault_of fault) c.from_residual.ensures.1 (inr (host_fault fault))

pub returns-in-Some-clause-fault : goal.returns-in-Some-clause-fault
returns-in-Some-clause-fault g c = λ h.
    let w = (g.H.Host.state c.args.host.now).world in
    let mid = c.first_astray.ensures.looks.silent.honest h in
    let told : IsFirstAstray w c.as_slice.result.now c.in-Some.name = subst (Astray w c.as_slice.result.now) c.in-Some.is (c.in_ok-name.ensures.looks.found h) in
    inl (c.requires.control mid, (c.requires.good mid).0, subst (λ (l : List Entry). IsFirstAstray w l c.in-Some.name) (c.as_slice.ensures.value ∙ (c.requires.lines mid).entries) told)

pub returns-in-Some-2-clause-fault : goal.returns-in-Some-2-clause-fault
returns-in-Some-2-clause-fault g c = λ h.
    let w = (g.H.Host.state c.args.host.now).world in
    let mid = c.first_astray.ensures.looks.silent.honest h in
    let good = c.requires.good mid in
    let lines = c.requires.lines mid in
    let none : HasNoEntry (IsAstray w) c.as_slice.result.now = subst (Astray w c.as_slice.result.now) c.in_default.is (c.in_ok-name.ensures.looks.found h) in
    let both : IsFirstPath (IsOfBoth c.as_slice-2.result.now c.args.paths.now) c.in-Some-2.path = subst (Shared c.as_slice-2.result.now c.args.paths.now) c.in-Some-2.is c.in_ok-path.ensures in
    let first = subst (λ (l : List Path). IsFirstPath (IsOfBoth l c.args.paths.now) c.in-Some-2.path) c.as_slice-2.ensures.value both in
    inl (
      c.requires.control mid,
      good.0,
      subst (HasNoEntry (IsAstray w)) (c.as_slice.ensures.value ∙ lines.entries) none,
      first_as (IsOfBoth c.args.lines.now.flagged.items c.args.paths.now) (IsFlaggedAndShipped w) c.in-Some-2.path (flagged_shipped w c.args.paths.now c.args.lines.now good c.requires.texts lines) (shipped_flagged w c.args.paths.now c.args.lines.now good lines c.in-Some-2.path) first,
    )

pub returns-in-Some-first_odd-clause-fault : goal.returns-in-Some-first_odd-clause-fault
returns-in-Some-first_odd-clause-fault g c = λ h.
    let w = (g.H.Host.state c.args.host.now).world in
    let mid = c.first_astray.ensures.looks.silent.honest h in
    let good = c.requires.good mid in
    let lines = c.requires.lines mid in
    let none : HasNoEntry (IsAstray w) c.as_slice.result.now = subst (Astray w c.as_slice.result.now) c.in_default.is (c.in_ok-name.ensures.looks.found h) in
    let apart : HasNoPath (IsOfBoth c.as_slice-2.result.now c.args.paths.now) = subst (Shared c.as_slice-2.result.now c.args.paths.now) c.in_default-2.is c.in_ok-path.ensures in
    let none_of_both : HasNoPath (IsOfBoth c.args.lines.now.flagged.items c.args.paths.now) = subst (λ (l : List Path). HasNoPath (IsOfBoth l c.args.paths.now)) c.as_slice-2.ensures.value apart in
    inl (
      c.requires.control mid,
      good.0,
      subst (HasNoEntry (IsAstray w)) (c.as_slice.ensures.value ∙ lines.entries) none,
      (λ q is. none_of_both q (flagged_shipped w c.args.paths.now c.args.lines.now good c.requires.texts lines q is)),
      subst (λ (l : List Entry). IsFirstOdd l c.in-Some-first_odd.line) (c.as_slice-3.ensures.value ∙ lines.entries) c.in-Some-first_odd.ensures,
    )

pub returns-in-None-clause-good : goal.returns-in-None-clause-good
returns-in-None-clause-good g c = λ h.
    let w = (g.H.Host.state c.args.host.now).world in
    let mid = c.first_astray.ensures.looks.silent.honest h in
    let good = c.requires.good mid in
    let lines = c.requires.lines mid in
    let none : HasNoEntry (IsAstray w) c.as_slice.result.now = subst (Astray w c.as_slice.result.now) c.in_default.is (c.in_ok-name.ensures.looks.found h) in
    let apart : HasNoPath (IsOfBoth c.as_slice-2.result.now c.args.paths.now) = subst (Shared c.as_slice-2.result.now c.args.paths.now) c.in_default-2.is c.in_ok-path.ensures in
    let none_of_both : HasNoPath (IsOfBoth c.args.lines.now.flagged.items c.args.paths.now) = subst (λ (l : List Path). HasNoPath (IsOfBoth l c.args.paths.now)) c.as_slice-2.ensures.value apart in
    record {
      named = subst (HasNoEntry (IsAstray w)) (c.as_slice.ensures.value ∙ lines.entries) none;
      flagged = λ q is. none_of_both q (flagged_shipped w c.args.paths.now c.args.lines.now good c.requires.texts lines q is);
      words = subst (HasNoEntry IsOdd) (c.as_slice-3.ensures.value ∙ lines.entries) c.in-None.ensures;
    }

pub returns-in-None-clause-apart : goal.returns-in-None-clause-apart
returns-in-None-clause-apart g c =
    let apart : HasNoPath (IsOfBoth c.as_slice-2.result.now c.args.paths.now) = subst (Shared c.as_slice-2.result.now c.args.paths.now) c.in_default-2.is c.in_ok-path.ensures in
    subst (λ (l : List Path). HasNoPath (IsOfBoth l c.args.paths.now)) c.as_slice-2.ensures.value apart
