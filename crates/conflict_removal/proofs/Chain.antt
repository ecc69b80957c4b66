-- Removals, one after another.
use Rattle.std.proofs.Common.{◌≡◌, ◌≢◌, ◌<◌, ◌+◌, ℕ, List, [], ◌∷◌, ◌++◌, Option, Some, None, Contains, length, get_or, take, drop, refl, sym, ap, subst, ◌∙◌, take-append-drop}
use Rattle.std.proofs.lemmas.List.{drop_more, take_more}
use Rattle.std.proofs.lemmas.List.Elements.{Contains-append_left, Contains-push}
use Rattle.host_core.specs.Host.{State}
use Rattle.host_core.specs.declared.call.Call.{Call}
use Rattle.diversions.specs.Ways.{Ways}
use Rattle.status_records.specs.Records.{record_in}
use Rattle.status_records.specs.declared.record.Record.{Record}
use Rattle.unit_stages.specs.Holding.{Holding}
use Rattle.undo_rows.specs.declared.rows.Called.{Called}
use Rattle.conflict_removal.specs.Removals.{HaveBeenRemoved, IsRemovedOrGone, first_failed}

-- the first call of several that failed

first_alone : (own : Option Call) → own ≡ first_failed own None
first_alone None = refl
first_alone (Some call) = refl

first_of_three : (a b c : Option Call) → first_failed (first_failed a b) c ≡ first_failed a (first_failed b c)
first_of_three None b c = refl
first_of_three (Some call) b c = refl

-- one more
module _ (ways : Ways) (name : List ℕ) (own : Option Call) (after : Holding) (t : State) (now : List Called) where
  pub removed_more : (names : List (List ℕ)) (failed : Option Call) (before mid : Holding) (s m : State) (told between : List Called) → HaveBeenRemoved ways names failed before mid s m told between
      → IsRemovedOrGone ways name own mid after m t between now → HaveBeenRemoved ways (names ++ name ∷ []) (first_failed failed own) before after s t told now
  removed_more [] failed before mid s m told between none one = (
    own,
    None,
    after,
    t,
    now,
    ap (λ (f : Option Call). first_failed f own) none.0 ∙ first_alone own,
    subst (λ (l : List Called). IsRemovedOrGone ways name own before after s t l now) none.3
        (subst (λ (x : State). IsRemovedOrGone ways name own before after x t between now) none.2
        (subst (λ (h : Holding). IsRemovedOrGone ways name own h after m t between now) none.1 one)),
    (refl, refl, refl, refl),
  )
  removed_more (first ∷ names) failed before mid s m told between some one = (
    some.0,
    first_failed some.1 own,
    some.2,
    some.3,
    some.4,
    ap (λ (f : Option Call). first_failed f own) some.5 ∙ first_of_three some.0 some.1 own,
    some.6,
    removed_more names some.1 some.2 mid some.3 m some.4 between some.7 one,
  )

-- the names that are done, the next, and those that are left
module _ (names : List (List ℕ)) (i : ℕ) (name default : List ℕ) (within : i < length names) (is : name ≡ get_or names i default) where
  pub names_split : names ≡ take i names ++ name ∷ drop (i + 1) names
  names_split = sym (take-append-drop i names) ∙ ap (λ (l : List (List ℕ)). take i names ++ l) (drop_more names i default within ∙ ap (λ (x : List ℕ). x ∷ drop (i + 1) names) (sym is))

  pub names_more : take (i + 1) names ≡ take i names ++ name ∷ []
  names_more = take_more names i default within ∙ ap (λ (x : List ℕ). take i names ++ x ∷ []) (sym is)

  -- records of others are as before
  pub others_more : (before mid after : List Record) → ((q : List ℕ) → (Contains (take i names) q → ⊥) → record_in mid q ≡ record_in before q) → ((q : List ℕ) → q ≢ name → record_in after q ≡ record_in mid q)
      → (q : List ℕ) → (Contains (take (i + 1) names) q → ⊥) → record_in after q ≡ record_in before q
  others_more before mid after first second q away =
      let outside : Contains (take i names ++ name ∷ []) q → ⊥ = subst (λ (l : List (List ℕ)). Contains l q → ⊥) names_more away in
      second q (λ same. outside (subst (λ (x : List ℕ). Contains (take i names ++ name ∷ []) x) (sym same) (Contains-push (take i names) name)))
      ∙ first q (λ among. outside (Contains-append_left (take i names) (name ∷ []) q among))
