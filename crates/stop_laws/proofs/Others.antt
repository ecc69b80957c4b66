-- Places that another package's list has: no script call changes what stands there, and no removal takes it away.
use Rattle.std.proofs.Common.{◌≡◌, ◌||◌, not, ℕ, Bool, true, false, cond, List, [], ◌∷◌, ◌++◌, filter, map, refl, sym, ap, ◌∙◌}
use Rattle.std.specs.List.{list_any}
use Rattle.std.specs.Ordering.{match_ordering, nat_cmp}
use Rattle.std.specs.Cmp.Lexicographic.{slice_cmp}
use Rattle.std.specs.Str.{bytes_eq}
use Rattle.std.specs.declared.cmp.Ordering.{Ordering}
use Rattle.std.specs.declared.cmp.Ordering.TheVariants.{Less, Equal, Greater}
use Rattle.std.proofs.lemmas.Bool.{true≢false}
use Rattle.std.proofs.lemmas.List.Folds.{list_any-append}
use Rattle.std.proofs.lemmas.Map.Lookups.{exact_bytes}
use Rattle.std.proofs.lemmas.Slice.Eq.{bytes_eq-Decides}
use Rattle.host_core.specs.Paths.{Path, is_named_by, is_own, reserved_suffixes}
use Rattle.host_core.specs.World.{World, Avoids, is_kept}
use Rattle.host_core.specs.Events.{Event, changes_of}
use Rattle.diversions.specs.Ways.{place, Ways}
use Rattle.file_lists.specs.Owners.{listed, owners_of, places_in, has_other_owner}
use Rattle.file_lists.specs.Writing.{package_list, with_list}
use Rattle.file_lists.specs.declared.paths.Listed.{Listed}
use Rattle.file_lists.specs.declared.paths.PackageList.{PackageList}
use Rattle.unit_stages.specs.Holding.{Holding}
use Rattle.unit_stages.specs.Running.{AreRunning}
use Rattle.unit_stages.specs.declared.stage.Stage.{Stage}
use Rattle.stop_laws.proofs.Avoiding.{stages_avoid}

both_false : (a b : Bool) → a ≡ false → b ≡ false → a || b ≡ false
both_false true b first second = absurd (true≢false first)
both_false false b first second = second

module _ (ways : Ways) (name : List ℕ) (at : Path) where
  abbrev IsOther : Listed → Bool
  IsOther owner = not (bytes_eq owner.name name)

  -- of the package itself there is no other owner
  own_none : (n : List ℕ) → bytes_eq n name ≡ true → (paths : List Path) → list_any IsOther (map (listed n) paths) ≡ false
  own_none n is [] = refl
  own_none n is (p ∷ paths) = both_false (not (bytes_eq n name)) (list_any IsOther (map (listed n) paths)) (ap not is) (own_none n is paths)

  one_more : (l : PackageList) (ls : List PackageList) → has_other_owner ways (l ∷ ls) name at ≡ (list_any IsOther (map (listed l.name) (filter (λ path. bytes_eq (place ways l.name path) at) l.paths)) || has_other_owner ways ls name at)
  one_more l ls = list_any-append IsOther (map (listed l.name) (filter (λ path. bytes_eq (place ways l.name path) at) l.paths)) (owners_of ways ls at)

  own_more : (n : List ℕ) (paths : List Path) (ls : List PackageList) → bytes_eq n name ≡ true → has_other_owner ways (package_list n paths ∷ ls) name at ≡ has_other_owner ways ls name at
  own_more n paths ls is =
      one_more (package_list n paths) ls
      ∙ ap (λ b. b || has_other_owner ways ls name at) (own_none n is (filter (λ path. bytes_eq (place ways n path) at) paths))

  -- the other owners are the same, whatever the package itself lists
  pub with_owner : (paths : List Path) (ls : List PackageList) → has_other_owner ways (with_list name paths ls) name at ≡ has_other_owner ways ls name at
  with_owner paths [] = own_more name paths [] ((bytes_eq-Decides name name).1 refl)
  with_owner paths (l ∷ ls) = by (slice_cmp nat_cmp name l.name) refl (with_owner paths ls)
    where
      by : (o : Ordering) → slice_cmp nat_cmp name l.name ≡ o → has_other_owner ways (with_list name paths ls) name at ≡ has_other_owner ways ls name at
          → has_other_owner ways (match_ordering o (package_list name paths ∷ l ∷ ls) (package_list name paths ∷ ls) (l ∷ with_list name paths ls)) name at ≡ has_other_owner ways (l ∷ ls) name at
      by Less e rest = own_more name paths (l ∷ ls) ((bytes_eq-Decides name name).1 refl)
      by Equal e rest =
          own_more name paths ls ((bytes_eq-Decides name name).1 refl)
          ∙ sym (own_more l.name l.paths ls ((bytes_eq-Decides l.name name).1 (sym (exact_bytes name l.name e))))
      by Greater e rest =
          one_more l (with_list name paths ls)
          ∙ ap (λ b. list_any IsOther (map (listed l.name) (filter (λ path. bytes_eq (place ways l.name path) at) l.paths)) || b) rest
          ∙ sym (one_more l ls)

  -- a place with an owner is kept

  named_here : (n : List ℕ) (paths : List Path) → list_any IsOther (map (listed n) (filter (λ path. bytes_eq (place ways n path) at) paths)) ≡ true → list_any (is_named_by at) (map (place ways n) paths) ≡ true
  named_here n [] any = any
  named_here n (p ∷ paths) any = by (bytes_eq (place ways n p) at) refl (named_here n paths) any
    where
      first : (a b : Bool) → a ≡ true → a || b ≡ true
      first true b is = refl
      first false b is = absurd (true≢false (sym is))

      later : (a b : Bool) → b ≡ true → a || b ≡ true
      later true b is = refl
      later false b is = is

      by : (b : Bool) → bytes_eq (place ways n p) at ≡ b → (list_any IsOther (map (listed n) (filter (λ path. bytes_eq (place ways n path) at) paths)) ≡ true → list_any (is_named_by at) (map (place ways n) paths) ≡ true) → list_any IsOther (map (listed n) (cond b (p ∷ filter (λ path. bytes_eq (place ways n path) at) paths) (filter (λ path. bytes_eq (place ways n path) at) paths))) ≡ true
          → is_named_by at (place ways n p) || list_any (is_named_by at) (map (place ways n) paths) ≡ true
      by true is rest some =
          first (is_named_by at (place ways n p)) (list_any (is_named_by at) (map (place ways n) paths))
          (first (bytes_eq at (place ways n p)) (list_any (λ suffix. bytes_eq at (place ways n p ++ suffix)) reserved_suffixes) ((bytes_eq-Decides at (place ways n p)).1 (sym ((bytes_eq-Decides (place ways n p) at).0 is))))
      by false is rest some = later (is_named_by at (place ways n p)) (list_any (is_named_by at) (map (place ways n) paths)) (rest some)

  named_in : (ls : List PackageList) → has_other_owner ways ls name at ≡ true → list_any (is_named_by at) (places_in ways ls) ≡ true
  named_in [] any = any
  named_in (l ∷ ls) any =
      list_any-append (is_named_by at) (map (place ways l.name) l.paths) (places_in ways ls)
      ∙ either (list_any IsOther (map (listed l.name) (filter (λ path. bytes_eq (place ways l.name path) at) l.paths))) (has_other_owner ways ls name at) (sym (one_more l ls) ∙ any) (named_here l.name l.paths) (named_in ls)
    where
      either : (a b : Bool) → a || b ≡ true → (a ≡ true → list_any (is_named_by at) (map (place ways l.name) l.paths) ≡ true) → (b ≡ true → list_any (is_named_by at) (places_in ways ls) ≡ true)
          → list_any (is_named_by at) (map (place ways l.name) l.paths) || list_any (is_named_by at) (places_in ways ls) ≡ true
      either true b is first second = ap (λ c. c || list_any (is_named_by at) (places_in ways ls)) (first refl)
      either false b is first second = by (list_any (is_named_by at) (map (place ways l.name) l.paths)) (second is)
        where
          by : (c : Bool) → list_any (is_named_by at) (places_in ways ls) ≡ true → c || list_any (is_named_by at) (places_in ways ls) ≡ true
          by true there = refl
          by false there = there

  pub owner_kept : (ls : List PackageList) → has_other_owner ways ls name at ≡ true → is_kept (places_in ways ls) at ≡ true
  owner_kept ls any = by (is_own at) (named_in ls any)
    where
      by : (b : Bool) → list_any (is_named_by at) (places_in ways ls) ≡ true → b || list_any (is_named_by at) (places_in ways ls) ≡ true
      by true there = refl
      by false there = there

-- the calls of a run leave such places alone
pub others_avoided : (name : List ℕ) (ways : Ways) (stages : List Stage) (h : Holding) (old : World) (so_far : List Event) (now : World) → AreRunning name ways stages h old so_far now → Avoids (has_other_owner ways h.lists name) (changes_of so_far)
others_avoided name ways stages h old so_far now running =
    stages_avoid name ways (has_other_owner ways h.lists name)
    (λ (ls : List PackageList). (q : Path) → has_other_owner ways ls name q ≡ has_other_owner ways h.lists name q)
    (λ ls same q is. owner_kept ways name q ls (same q ∙ is))
    (λ paths ls same q. with_owner ways name q paths ls ∙ same q)
    stages h old so_far now (λ q. refl) running
