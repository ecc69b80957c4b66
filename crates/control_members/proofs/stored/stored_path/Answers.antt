use Rattle.std.proofs.Common.{◌≡◌, ◌∷◌, [], ◌++◌, ◌∙◌, codes, append_assoc, subst, sym, true}
use Rattle.std.specs.String.{string_bytes}
use Rattle.host_core.specs.Paths.{Path, is_path}
use Rattle.control_members.specs.Stored.{stored_member_path}
use Rattle.control_members.proofs.MemberNames.{stored_is_path}
use Rattle.control_members.proofs.stored.stored_path.Goals as goal

pub new-requires : goal.new-requires
unfolding lib.Utf8.encode
new-requires c =
    let info = codes "/var/lib/dpkg/info/" in
    let owner = c.args.owner.now in
    let name = c.args.name.now in
    let e : string_bytes c.push_str-2.new.self ≡ stored_member_path owner name =
    rw (c.in_ok-push_str-2.ensures.bytes, c.in_ok-push.ensures.bytes, c.in_ok-push_str.ensures.bytes, c.in_ok-text.ensures.ok, c.as_str.ensures, c.as_str-2.ensures)
    (append_assoc (info ++ owner) (46 ∷ []) name ∙ append_assoc info owner (46 ∷ name)) in
    subst (λ (p : Path). is_path p ≡ true) (sym e) (stored_is_path owner name c.requires.owner c.requires.name)
