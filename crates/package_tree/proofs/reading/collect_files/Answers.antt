use Rattle.std.proofs.Common.{ap, inl, inr, subst, Some, ◌∙◌}
use Rattle.package_tree.specs.declared.collecting.Excess.{Excess}
use Rattle.package_tree.specs.Fault.{fault_of}
use Rattle.package_tree.specs.Tree.{IsReadingFault}
use Rattle.package_tree.proofs.Judged.{Large}
use Rattle.package_tree.proofs.Passing.{host_fault, passed_fault}
use Rattle.package_tree.proofs.reading.collect_files.Goals as goal

pub returns-in_err-path-clause-fault : goal.returns-in_err-path-clause-fault
returns-in_err-path-clause-fault g c = λ h.
    let fault = c.in_err-path.field-0.0 in
    passed_fault (IsReadingFault (g.H.Host.state c.args.host.now).world) c.from_residual.result (fault_of fault) c.from_residual.ensures.1 (inr (host_fault fault))

pub returns-in-Some-Large-clause-fault : goal.returns-in-Some-Large-clause-fault
returns-in-Some-Large-clause-fault g c = λ h.
    let w = (g.H.Host.state c.args.host.now).world in
    let mid = c.collect.ensures.looks.silent.honest h in
    inl (inr (c.requires.control mid, (c.requires.shipped mid).0, c.requires.lines mid, inl (subst (Large w c.collect.new.files.items) (c.in-Some-Large.is ∙ ap (λ (x : Excess). Some x) c.in-Some-Large.field-0-is) (c.in_ok-path.ensures.looks.found h))))

pub returns-in-Some-Many-clause-fault : goal.returns-in-Some-Many-clause-fault
returns-in-Some-Many-clause-fault g c = λ h.
    let w = (g.H.Host.state c.args.host.now).world in
    let mid = c.collect.ensures.looks.silent.honest h in
    inl (c.requires.control mid, (c.requires.shipped mid).0, c.requires.lines mid, (_, subst (Large w c.collect.new.files.items) (c.in-Some-Many.is ∙ ap (λ (x : Excess). Some x) c.in-Some-Many.field-0-is) (c.in_ok-path.ensures.looks.found h)))

pub returns-clause-found : goal.returns-clause-found
returns-clause-found g c = λ h. subst (Large (g.H.Host.state c.args.host.now).world c.collect.new.files.items) c.in-None.is (c.in_ok-path.ensures.looks.found h)
