use Rattle.std.proofs.Common.{subst, List}
use Rattle.name_tables.proofs.Ordered.{names_in_order}
use Rattle.control_members.specs.Members.{AreInOrder, name_of, names_of}
use Rattle.control_members.specs.declared.member.Member.{Member}
use Rattle.control_members.proofs.members.Members.law.Goals as goal

pub returns : goal.returns
returns c = subst (λ (l : List Member). AreInOrder (names_of l)) c.self.view_is (names_in_order name_of c.self.inside.items c.law.ensures)
