use Rattle.std.proofs.Common.{Some, None, cond, sym, ap, ◌∙◌}
use Rattle.std.specs.Str.{bytes_eq}
use Rattle.std.proofs.lemmas.Result.{on_ok_weaker}
use Rattle.host_core.specs.Paths.{Path}
use Rattle.host_core.specs.Outcome.{script_name}
use Rattle.administration.specs.Scripts.{file_of}
use Rattle.control_members.specs.Members.{node_of, member_node}
use Rattle.control_members.specs.Stored.{over}
use Rattle.control_members.proofs.Lookup.{added_node}
use Rattle.control_members.proofs.members.add_script.Goals as goal

pub returns : goal.returns
returns c = on_ok_weaker c.add.result (λ found name.
    ap node_of (found name) ∙ added_node c.args.members.now _ name
    ∙ ap (λ (n : Path). over (member_node c.args.members.now name) (cond (bytes_eq n name) (Some c.in-Some.file.node) None)) (c.in_ok-name.ensures ∙ c.name.ensures)
    ∙ ap (λ o. over (member_node c.args.members.now name) (cond (bytes_eq (script_name c.args.script) name) (file_of o) None)) (sym c.in-Some.is)) c.add.ensures.ok
