use Rattle.std.proofs.Common.{◌≡◌, codes, true, refl, subst, sym}
use Rattle.std.specs.String.{string_bytes}
use Rattle.host_core.specs.Paths.{Path, is_path}
use Rattle.control_members.proofs.MemberNames.{stored_is_path}
use Rattle.trigger_interests.specs.Interests.{triggers_path}
use Rattle.trigger_interests.proofs.interests.triggers_path.Goals as goal

pub new-requires : goal.new-requires
new-requires c =
    let named : string_bytes c.in_ok-format.field-0 ≡ triggers_path c.args.«package».now = c.in_ok-format.ensures.ok in
    subst (λ (p : Path). is_path p ≡ true) (sym named) (stored_is_path c.args.«package».now (codes "triggers") c.requires refl)
