use Rattle.std.proofs.Common.{◌∙◌, ap, None, cond}
use Rattle.host_core.specs.declared.call.Script.TheVariants.{Preinst, Postinst, Prerm, Postrm}
use Rattle.control_members.specs.Members.{node_of, member_of}
use Rattle.control_members.proofs.Lookup.{other_stays}
use Rattle.control_members.proofs.members.Members.of.Goals as goal

pub returns-clause-others : goal.returns-clause-others
returns-clause-others c = λ name other.
    other_stays Postrm name _ _ _ other (c.in_ok-add_script-4.ensures name) ∙ other_stays Prerm name _ _ _ other (c.in_ok-add_script-3.ensures name)
    ∙ other_stays Postinst name _ _ _ other (c.in_ok-add_script-2.ensures name) ∙ other_stays Preinst name _ _ _ other (c.in_ok-add_script.ensures name)
    ∙ ap node_of (c.in_ok-members.ensures name ∙ ap (λ b. cond b None (member_of c.args.others.items name)) other)
