use Rattle.std.proofs.Common.{◌∙◌, sym, ap, List}
use Rattle.name_tables.specs.Tables.{put_value}
use Rattle.control_members.specs.Members.{name_of, member_of}
use Rattle.control_members.specs.declared.member.Member.{Member}
use Rattle.control_members.proofs.Lookup.{already_found, added_found, told_some, told_none}
use Rattle.control_members.proofs.members.Members.add.Goals as goal

pub returns-then-is_some-clause-ok : goal.returns-then-is_some-clause-ok
returns-then-is_some-clause-ok c = λ name.
    let ms = c.args.self.now in
    let found = c.get.ensures ∙ ap (λ (l : List Member). member_of l c.args.member.name) c.self.view_is in
    already_found ms c.args.member name (sym (told_some c.get.result c.is_some.result (member_of ms c.args.member.name) found c.is_some.ensures) ∙ c.if-is_some.true)

pub returns-clause-ok : goal.returns-clause-ok
returns-clause-ok c = λ name.
    let ms = c.args.self.now in
    let found = c.get.ensures ∙ ap (λ (l : List Member). member_of l c.args.member.name) c.self.view_is in
    let none = told_none c.get.result c.is_some.result (member_of ms c.args.member.name) found c.is_some.ensures c.if-is_some.false in
    ap (λ (l : List Member). member_of l name) (c.in_ok-put.ensures.ok ∙ ap (put_value name_of c.args.member) c.self.view_is) ∙ added_found ms c.args.member name none
