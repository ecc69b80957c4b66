use Rattle.std.proofs.Common.{List, map, ap, ◌∙◌}
use Rattle.package_tree.specs.declared.other_file.OtherFile.{OtherFile}
use Rattle.unpack_plan.specs.Members.{named_other}
use Rattle.unpack_plan.proofs.Kept.{same_nodes}
use Rattle.unpack_plan.proofs.members.own_members.Goals as goal

pub returns : goal.returns
returns c = record {
  scripts_are = c.in_ok-members.ensures.scripts;
  others_are = λ name is. c.in_ok-members.ensures.others name is ∙ same_nodes c.in_ok-others.others.items c.args.others (c.in_ok-others.ensures ∙ ap (λ (os : List OtherFile). map named_other os) c.into_vec.ensures) name;
}
