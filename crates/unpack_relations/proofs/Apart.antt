-- The names that an unpack deconfigures or removes are apart.
use Rattle.std.proofs.Common.{◌≡◌, ℕ, ◌<◌, Bool, true, false, List, [], ◌∷◌, ◌++◌, length, get_or, map, is_some, refl, sym, ap, subst, ◌∙◌, arith}
use Rattle.std.specs.List.{All, Contains}
use Rattle.std.specs.Str.{bytes_eq}
use Rattle.std.proofs.lemmas.Bool.{false≢true, not-true}
use Rattle.std.proofs.lemmas.List.{get_or-map, length-map, map-append}
use Rattle.std.proofs.lemmas.List.Elements.{Contains-get_or}
use Rattle.std.proofs.lemmas.Slice.Eq.{bytes_eq-Decides}
use Rattle.dependency_check.specs.declared.plan.Plan.{Plan}
use Rattle.recorded_packages.specs.Packages.{ArePackagesOf}
use Rattle.relation_index.specs.Packages.{AreInNameOrder}
use Rattle.relation_index.specs.declared.package.Package.{Package}
use Rattle.status_records.specs.Records.{record_in}
use Rattle.status_records.specs.declared.record.Record.{Record}
use Rattle.unpack_relations.specs.Beside.{IsBeside, name_at}
use Rattle.unpack_relations.specs.Checks.{names_beside, AreApart, AreBesideApart, AreDistinct, IsCheckedBy, IsPlannedWhere}
use Rattle.unpack_relations.specs.declared.beside.Beside.{Beside}
use Rattle.unpack_relations.specs.declared.checking.Checked.{Checked}
use Rattle.unpack_relations.specs.declared.checking.Checked.TheVariants.{Refused, Planned}
use Rattle.unpack_relations.proofs.Members.{behind, numbers_beside, plan_other, plan_unlike, with_all, with_none, AreUnlike, IsOtherAt, IsSomePlan}
use Rattle.unpack_relations.proofs.Named.{is_recorded, named_apart}
use Rattle.unpack_relations.proofs.Numbered.{name_here, named_dependents}

contains_name : (name : ℕ → List ℕ) (xs : List ℕ) (q : List ℕ) → Contains (map name xs) q → (x : ℕ) × Contains xs x × (name x ≡ q)
contains_name name xs q c =
    let lt : c.0 < length xs = subst (λ n. c.0 < n) (length-map xs name) c.1 in
    (get_or xs c.0 0, Contains-get_or xs c.0 0 lt, sym (get_or-map name xs c.0 0 q lt) ∙ c.2)

-- numbers that are unlike have names that are
names_distinct : (name : ℕ → List ℕ) (xs : List ℕ) → ((x y : ℕ) → Contains xs x → Contains xs y → name x ≡ name y → x ≡ y) → AreUnlike xs → AreDistinct (map name xs)
names_distinct name [] apart unlike = tt
names_distinct name (x ∷ xs) apart unlike = (
  λ c.
      let found = contains_name name xs (name x) c in
      unlike.0 (subst (Contains xs) (apart found.0 x (behind x xs found.0 found.1) (0, omega arith, refl) found.2) found.1),
  names_distinct name xs (λ a b one other. apart a b (behind x xs a one) (behind x xs b other)) unlike.1,
)

other_named : (packages : List Package) (incoming : Package) (x : ℕ) → IsOtherAt packages incoming x → name_at packages x ≡ incoming.name → ⊥
other_named packages incoming x other same =
    let p = other.0 in
    let equal : p.name ≡ incoming.name = sym (name_here packages x p other.1 other.2) ∙ same in
    false≢true (sym (not-true (bytes_eq p.name incoming.name) other.3) ∙ (bytes_eq-Decides p.name incoming.name).1 equal)

module _ (records : List Record) (packages : List Package) (incoming : Package) (plan : Plan) (b : Beside) (are : ArePackagesOf records packages) (is : IsSomePlan packages incoming plan)
    (named : IsBeside packages incoming plan b) where
  names_numbered : names_beside b ≡ map (name_at packages) (numbers_beside plan)
  names_numbered =
      let name = name_at packages in
      let numbers : List ℕ = map (λ d. d.number) plan.dependents.items in
      let dependents : map (λ d. d.name) b.dependents.items ≡ map name numbers = ap (map (λ d. d.name)) named.dependents ∙ named_dependents packages plan.dependents.items in
      let later : map (λ d. d.name) b.dependents.items ++ b.conflicting ≡ map name (numbers ++ plan.conflicting) =
      ap (λ (l : List (List ℕ)). l ++ b.conflicting) dependents ∙ ap (λ (l : List (List ℕ)). map name numbers ++ l) named.conflicting ∙ sym (map-append name numbers plan.conflicting) in
      ap (λ (l : List (List ℕ)). l ++ (map (λ d. d.name) b.dependents.items ++ b.conflicting)) named.broken ∙ ap (λ (l : List (List ℕ)). map name plan.broken ++ l) later
      ∙ sym (map-append name plan.broken (numbers ++ plan.conflicting))

  beside_apart : AreInNameOrder packages → AreApart incoming.name records b
  beside_apart order = record {
    distinct = subst (λ (l : List (List ℕ)). AreDistinct (incoming.name ∷ l)) (sym names_numbered) (
      λ c.
          let found = contains_name (name_at packages) (numbers_beside plan) incoming.name c in
          other_named packages incoming found.0 (plan_other packages incoming plan is found.0 found.1) found.2,
      names_distinct (name_at packages) (numbers_beside plan)
          (λ x y one other same. named_apart packages order x y (plan_other packages incoming plan is x one).1 (plan_other packages incoming plan is y other).1 same)
          (plan_unlike packages incoming plan is),
    );
    recorded = subst (All (λ q. is_some (record_in records q) ≡ true)) (sym names_numbered) (
        λ k d lt.
        let found = contains_name (name_at packages) (numbers_beside plan) (get_or (map (name_at packages) (numbers_beside plan)) k d) (Contains-get_or (map (name_at packages) (numbers_beside plan)) k d lt) in
        subst (λ (q : List ℕ). is_some (record_in records q) ≡ true) found.2 (is_recorded records packages are found.0 (plan_other packages incoming plan is found.0 found.1).1)
        );
  }

plan_where : (ignore : Bool) (packages : List Package) (incoming : Package) (auto_deconfigure : Bool) (plan : Plan) → IsPlannedWhere ignore packages incoming auto_deconfigure plan → IsSomePlan packages incoming plan
plan_where false packages incoming auto_deconfigure plan is = with_all packages incoming plan is.2
plan_where true packages incoming auto_deconfigure plan is = with_none packages incoming auto_deconfigure plan is

pub checked_apart : (records : List Record) (packages : List Package) (incoming : Package) (ignore auto_deconfigure : Bool) (checked : Checked) → AreInNameOrder packages → ArePackagesOf records packages
    → IsCheckedBy ignore packages incoming auto_deconfigure checked → AreBesideApart incoming.name records checked
checked_apart records packages incoming ignore auto_deconfigure (Refused rule) order are by = tt
checked_apart records packages incoming ignore auto_deconfigure (Planned b) order are by = beside_apart records packages incoming by.0 b are (plan_where ignore packages incoming auto_deconfigure by.0 by.1) by.2 order
