use Rattle.std.proofs.Common.{◌∙◌, sym, ap, refl, Some}
use Rattle.host_core.specs.declared.node.Access.{Access}
use Rattle.host_core.specs.declared.node.Node.TheVariants.{File}
use Rattle.package_tree.specs.Owners.{root_at}
use Rattle.package_tree.proofs.OthersTaken.{taken_file}
use Rattle.package_tree.proofs.others.push.Goals as goal

pub returns-in_ok-push-in-Some-File : goal.returns-in_ok-push-in-Some-File
returns-in_ok-push-in-Some-File c = taken_file _ _ _ _ _ c.in_ok-push-in-Some-File.ensures.items refl
    (ap (λ (a : Access). Some (File c.in-Some-File.bytes a)) c.own-own.ensures ∙ sym (ap root_at (c.in-Some-File.is ∙ ap Some c.in-Some-File.field-0-is)))
