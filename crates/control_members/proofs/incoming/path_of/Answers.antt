use Rattle.std.proofs.Common.{◌≡◌, codes, ◌++◌, ◌∙◌, ap, subst, sym, true}
use Rattle.std.specs.String.{string_bytes}
use Rattle.host_core.specs.Paths.{Path, is_path}
use Rattle.control_members.specs.LaidOut.{laid_path}
use Rattle.control_members.proofs.MemberNames.{laid_is_path}
use Rattle.control_members.proofs.incoming.path_of.Goals as goal

pub new-requires : goal.new-requires
new-requires c =
    let e : string_bytes c.push_str.new.self ≡ laid_path c.args.name.now =
    c.in_ok-push_str.ensures.bytes ∙ ap (λ (l : Path). l ++ c.as_str.result.now) c.in_ok-text.ensures.ok ∙ ap (λ (l : Path). codes "/var/lib/dpkg/tmp.ci/" ++ l) c.as_str.ensures in
    subst (λ (p : Path). is_path p ≡ true) (sym e) (laid_is_path c.args.name.now c.requires)
