-- Conffiles that can be settled stay so where the administration alone is changed.
use Rattle.std.proofs.Common.{◌≡◌, ◌≢◌, ◌||◌, inl, inr, ℕ, true, List, [], ◌∷◌, ◌++◌, codes, nat_eq, ap, ◌∙◌}
use Rattle.std.specs.List.{starts_with}
use Rattle.std.specs.Str.{bytes_eq}
use Rattle.std.proofs.lemmas.Bool.{false_from_ne_true, or_cases, true≢false}
use Rattle.std.proofs.lemmas.Slice.Eq.{bytes_eq-Decides}
use Rattle.host_core.specs.Paths.{Path, is_below_administration}
use Rattle.host_core.specs.World.{World, KeepsBut}
use Rattle.administration.specs.Places.{list_path, status_path, temporary, updates_path}
use Rattle.administration.proofs.Within.{rest_of, starts_with-append}
use Rattle.control_members.specs.Stored.{stored_member_path}
use Rattle.status_db.specs.Held.{is_record_place}
use Rattle.status_records.specs.declared.record.Record.{Record}
use Rattle.unit_stages.specs.PartFitting.{AreSettleable, HaveNoSettle}
use Rattle.unit_stages.specs.Parts.{HasDone}
use Rattle.unit_stages.specs.declared.part.Part.{Part}
use Rattle.unit_stages.specs.declared.part.Part.TheVariants.{Note, Forget, Settle, Remove, RemoveDirectories, Clear, List as Listing, DropList, DropMembers}
use Rattle.unit_stages.proofs.ConffileNames.{all_can_still}

goes_on : (rest : Path) → is_below_administration (codes "/var/lib/dpkg/" ++ rest) ≡ true
goes_on rest = starts_with-append (codes "/var/lib/dpkg/") rest

record_below : (q : Path) → is_record_place q ≡ true → is_below_administration q ≡ true
record_below q is = elim (or_cases (bytes_eq q status_path) (bytes_eq q (temporary status_path) || starts_with nat_eq q (updates_path ++ codes "/")) is) [
  | inl e ↦ ap is_below_administration ((bytes_eq-Decides q status_path).0 e)
  | inr more ↦ elim (or_cases (bytes_eq q (temporary status_path)) (starts_with nat_eq q (updates_path ++ codes "/")) more) [
    | inl e ↦ ap is_below_administration ((bytes_eq-Decides q (temporary status_path)).0 e)
    | inr below ↦ let rest = rest_of q (updates_path ++ codes "/") below in ap is_below_administration rest.1 ∙ goes_on (codes "updates/" ++ rest.0)
  ]
]

-- all outside the administration is as before
abbrev IsInside : World → World → Type 0
IsInside v w = (q : Path) → (is_below_administration q ≡ true → ⊥) → w q ≡ v q

noting_inside : (v w : World) → KeepsBut is_record_place v w → IsInside v w
noting_inside v w rest q out = rest q (false_from_ne_true (is_record_place q) (λ is. out (record_below q is)))

list_apart : (name q : Path) → (is_below_administration q ≡ true → ⊥) → (q ≢ list_path name) × (q ≢ temporary (list_path name))
list_apart name q out = (
  λ e. out (ap is_below_administration e ∙ goes_on (codes "info/" ++ (name ++ codes ".list"))),
  λ e. out (ap is_below_administration e ∙ goes_on ((codes "info/" ++ (name ++ codes ".list")) ++ codes ".dpkg-inst")),
)

member_apart : (owner member q : Path) → (is_below_administration q ≡ true → ⊥) → q ≢ stored_member_path owner member
member_apart owner member q out e = out (ap is_below_administration e ∙ goes_on (codes "info/" ++ (owner ++ 46 ∷ member)))

pub settleable_on : (v w : World) → IsInside v w → (parts : List Part) → AreSettleable parts v → AreSettleable parts w
settleable_on v w same [] can = tt
settleable_on v w same (Note r ∷ parts) can = settleable_on v w same parts can
settleable_on v w same (Forget ∷ parts) can = settleable_on v w same parts can
settleable_on v w same (Settle settled ∷ parts) can = (all_can_still v w same settled.items can.0, can.1)
settleable_on v w same (Remove leaving ∷ parts) can = can
settleable_on v w same (RemoveDirectories leaving ∷ parts) can = can
settleable_on v w same (Clear names ∷ parts) can = can
settleable_on v w same (Listing paths ∷ parts) can = settleable_on v w same parts can
settleable_on v w same (DropList ∷ parts) can = settleable_on v w same parts can
settleable_on v w same (DropMembers keep ∷ parts) can = settleable_on v w same parts can

-- where none is to be settled
pub no_settle : (parts : List Part) (w : World) → HaveNoSettle parts → AreSettleable parts w
no_settle [] w none = tt
no_settle (Note r ∷ parts) w none = no_settle parts w none.1
no_settle (Forget ∷ parts) w none = no_settle parts w none.1
no_settle (Settle settled ∷ parts) w none = absurd (true≢false none.0)
no_settle (Remove leaving ∷ parts) w none = none.1
no_settle (RemoveDirectories leaving ∷ parts) w none = none.1
no_settle (Clear names ∷ parts) w none = none.1
no_settle (Listing paths ∷ parts) w none = no_settle parts w none.1
no_settle (DropList ∷ parts) w none = no_settle parts w none.1
no_settle (DropMembers keep ∷ parts) w none = no_settle parts w none.1

-- behind a part the others can be done
pub settle_rest : (name : List ℕ) (declined : Path → Type 0) (part : Part) (parts : List Part) (rs : List Record) (v w : World) → AreSettleable (part ∷ parts) v → HasDone name declined part rs v w → AreSettleable parts w
settle_rest name declined (Note r) parts rs v w can done = settleable_on v w (noting_inside v w done.rest) parts can
settle_rest name declined Forget parts rs v w can done = settleable_on v w (noting_inside v w done.rest) parts can
settle_rest name declined (Settle settled) parts rs v w can done = no_settle parts w can.1
settle_rest name declined (Remove leaving) parts rs v w can done = no_settle parts w can
settle_rest name declined (RemoveDirectories leaving) parts rs v w can done = no_settle parts w can
settle_rest name declined (Clear names) parts rs v w can done = no_settle parts w can
settle_rest name declined (Listing paths) parts rs v w can done = settleable_on v w (λ q out. (let a = list_apart name q out in done.rest q a.0 a.1)) parts can
settle_rest name declined DropList parts rs v w can done = settleable_on v w (λ q out. done.rest q (list_apart name q out).0) parts can
settle_rest name declined (DropMembers keep) parts rs v w can done = settleable_on v w (λ q out. done.taken.rest q (λ member is. member_apart name member q out)) parts can
