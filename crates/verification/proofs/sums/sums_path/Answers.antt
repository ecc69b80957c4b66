use Rattle.std.proofs.Common.{◌≡◌, ◌∙◌, ℕ, List, codes, true, refl, ap, subst, sym}
use Rattle.std.specs.String.{string_bytes}
use Rattle.host_core.specs.Paths.{Path, is_path}
use Rattle.control_members.proofs.MemberNames.{stored_is_path}
use Rattle.verification.specs.Sums.{sums_path}
use Rattle.verification.proofs.sums.sums_path.Goals as goal

pub new-requires : goal.new-requires
new-requires c =
    let named : string_bytes c.in_ok-format.field-0 ≡ sums_path c.args.name.now = c.in_ok-format.ensures.ok ∙ ap (λ (n : List ℕ). sums_path n) c.as_str-name.ensures in
    subst (λ (p : Path). is_path p ≡ true) (sym named) (stored_is_path c.args.name.now (codes "md5sums") c.requires refl)
