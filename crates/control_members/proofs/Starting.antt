-- A file is written where no directory is in the way.
use Rattle.std.proofs.Common.{◌≡◌, ◌++◌, ◌∷◌, inl, true, IsTrue, Contains, refl, sym, ◌∙◌}
use Rattle.std.proofs.lemmas.List.{append-nil}
use Rattle.host_core.specs.Paths.{Path}
use Rattle.host_core.specs.World.{World, HasParent}
use Rattle.host_core.specs.Tree.{has_slash}
use Rattle.host_core.specs.Events.{Event}
use Rattle.host_core.specs.Host.{State, Since}
use Rattle.texts.specs.PackageNames.{is_package_name}
use Rattle.administration.specs.Places.{info_path}
use Rattle.administration.specs.Files.{IsReplacing}
use Rattle.std.proofs.Common.{false, Bool, nat_eq, ℕ, List, [], ap, ◌||◌}
use Rattle.std.specs.List.{list_any}
use Rattle.std.proofs.lemmas.Bool.{true≢false, eqb-true}
use Rattle.std.proofs.lemmas.Cmp.{nat_eq_equiv}
use Rattle.std.proofs.lemmas.Map.Views.{list_any-from_Contains}
use Rattle.control_members.specs.Names.{is_member_name}
use Rattle.control_members.specs.Stored.{stored_member_path, IsMembersReady}
use Rattle.control_members.specs.declared.member.Member.{Member}
use Rattle.control_members.proofs.MemberNames.{stored_name_plain}

-- nothing has been done
pub since_here : (P : List Event → World → Type 0) (a : State) → (IsTrue a.honest → P [] a.world) → Since P a a
since_here P a here = record { added = []; events = sym (append-nil a.events); honest = λ h. h; world = refl; each = here }

flip_at : (b : ℕ) (s t : Bool) → nat_eq 47 b ≡ s → nat_eq b 47 ≡ t → s ≡ t
flip_at b true true e f = refl
flip_at b false false e f = refl
flip_at b true false e f = sym e ∙ ap (λ x. nat_eq 47 x) (sym (eqb-true 47 b e)) ∙ ap (λ x. nat_eq x 47) (eqb-true 47 b e) ∙ f
flip_at b false true e f = sym e ∙ ap (λ x. nat_eq 47 x) (eqb-true b 47 f)

flipped : (l : Path) → list_any (nat_eq 47) l ≡ has_slash l
flipped [] = refl
flipped (b ∷ bs) = ap (λ t. t || list_any (nat_eq 47) bs) (flip_at b (nat_eq 47 b) (nat_eq b 47) refl refl) ∙ ap (λ t. nat_eq b 47 || t) (flipped bs)

pub no_slash : (name : Path) → has_slash name ≡ false → Contains name 47 → ⊥
no_slash name plain has = true≢false (sym (list_any-from_Contains nat_eq_equiv 47 name has) ∙ flipped name ∙ plain)

pub stored_parent : (owner name : Path) (w : World) → is_package_name owner ≡ true → is_member_name name ≡ true → IsMembersReady owner w → HasParent w (stored_member_path owner name)
stored_parent owner name w named member ready = (info_path, owner ++ 46 ∷ name, refl, no_slash (owner ++ 46 ∷ name) (stored_name_plain owner name named member), ready.info)

pub replacing_here : (owner : Path) (m : Member) (a : State) → (IsTrue a.honest → IsMembersReady owner a.world) → Since (λ so_far. IsReplacing (stored_member_path owner m.name) m.node a.world) a a
replacing_here owner m a ready = since_here _ a (λ h. record { target = inl refl; spare = (ready h).spares m.name m.named; rest = λ q ne_p ne_t. refl })
