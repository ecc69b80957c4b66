use Rattle.std.proofs.Common.{List, Some, None, inl, inr, subst}
use Rattle.package_tree.specs.ControlLimit.{IsOverTold}
use Rattle.package_tree.specs.Fault.{fault_of}
use Rattle.package_tree.specs.Tree.{IsReadingFault}
use Rattle.package_tree.specs.declared.other_file.OtherFile.{OtherFile}
use Rattle.package_tree.proofs.Overs.{none_over_other, over_told}
use Rattle.package_tree.proofs.Passing.{host_fault, passed_fault}
use Rattle.package_tree.proofs.reading.collect_others.Goals as goal

pub returns-in_err-read_others-clause-fault : goal.returns-in_err-read_others-clause-fault
returns-in_err-read_others-clause-fault g c = λ h.
    let fault = c.in_err-read_others.field-0.0 in
    passed_fault (IsReadingFault (g.H.Host.state c.args.host.now).world) c.from_residual.result (fault_of fault) c.from_residual.ensures.1 (inr (host_fault fault))

pub returns-in-Some-clause-fault : goal.returns-in-Some-clause-fault
returns-in-Some-clause-fault g c = λ h.
    let w = (g.H.Host.state c.args.host.now).world in
    let mid = c.read_others.ensures.silent.honest h in
    let others = c.read_others.new.others.items in
    let told = subst (λ (l : List OtherFile). IsOverTold l (Some c.in-Some.path)) c.as_slice.ensures.value (subst (IsOverTold c.as_slice.result.now) c.in-Some.is c.in_ok-path.ensures) in
    inl (inr (c.requires.control mid, c.requires.paths mid, c.requires.lines mid, inr (c.requires.room mid, over_told w others c.in-Some.path (c.in_ok-read_others.ensures.found h) told)))

pub returns-in-None-clause-found : goal.returns-in-None-clause-found
returns-in-None-clause-found g c = λ h.
    let w = (g.H.Host.state c.args.host.now).world in
    let others = c.read_others.new.others.items in
    let told = subst (λ (l : List OtherFile). IsOverTold l None) c.as_slice.ensures.value (subst (IsOverTold c.as_slice.result.now) c.in-None.is c.in_ok-path.ensures) in
    (c.in_ok-read_others.ensures.found h, none_over_other w others (c.in_ok-read_others.ensures.found h) told)
