-- What an unpack displaces are packages that let it take paths of theirs.
use Rattle.std.proofs.Common.{◌≡◌, inl, inr, ℕ, Bool, true, false, cond, List, [], ◌∷◌, Option, Contains, filter, map, subst, arith}
use Rattle.std.proofs.lemmas.List.Elements.{Contains-append_cases, Contains-append_left, Contains-append_right}
use Rattle.disappearance.specs.Runs.{HaveDisappeared}
use Rattle.disappearance.specs.Units.{IsDecided}
use Rattle.disappearance.specs.declared.losing.Losing.{Losing}
use Rattle.displaced_packages.specs.Displacing.{HaveBeenDisplaced}
use Rattle.displaced_packages.specs.Losing.{is_spared, losing_beside, losing_of}
use Rattle.diversions.specs.Ways.{Ways}
use Rattle.file_lists.specs.declared.paths.PackageList.{PackageList}
use Rattle.host_core.specs.Host.{State}
use Rattle.host_core.specs.declared.call.Call.{Call}
use Rattle.unit_stages.specs.Holding.{Holding}
use Rattle.unpack_relations.specs.declared.beside.Beside.{Beside}
use Rattle.undo_rows.specs.declared.rows.Called.{Called}
use Rattle.dpkg_session.specs.Units.{yielding}

pub none_among : (names : List (List ℕ)) (q : List ℕ) → names ≡ [] → Contains names q → ⊥
none_among names q none has = let here : Contains [] q = subst (λ (l : List (List ℕ)). Contains l q) none has in omega (arith, here.1)

module _ (incoming version : List ℕ) (ways : Ways) where
  one_of : (l : Losing) (more own : List (List ℕ)) (failed : Option Call) (before after : Holding) (s t : State) (told now : List Called) (q : List ℕ) → IsDecided incoming version ways l own failed before after s t told now → Contains own q → Contains (l.name ∷ more) q
  one_of l more own failed before after s t told now q (IsDecided.disappeared is gone) has = Contains-append_left (l.name ∷ []) more q (subst (λ (ns : List (List ℕ)). Contains ns q) is has)
  one_of l more own failed before after s t told now q (IsDecided.stayed is none stayed) has = absurd (none_among own q is has)

  gone_among : (losing : List Losing) (names : List (List ℕ)) (failed : Option Call) (before after : Holding) (s t : State) (told now : List Called) (q : List ℕ) → HaveDisappeared incoming version ways losing names failed before after s t told now
      → Contains names q → Contains (map (λ (l : Losing). l.name) losing) q
  gone_among [] names failed before after s t told now q is has = absurd (none_among names q is.0 has)
  gone_among (l ∷ ls) names failed before after s t told now q is has =
      let rest = map (λ (x : Losing). x.name) ls in
      elim (Contains-append_cases is.own is.more q (subst (λ (ns : List (List ℕ)). Contains ns q) is.are has)) [
        | inl own ↦ one_of l rest is.own is.first before is.mid s is.m told is.between q is.decided own
        | inr more ↦ Contains-append_right (l.name ∷ []) rest q (gone_among ls is.more is.next is.mid after is.m t is.between now q is.further more)
      ]

losing_among : (lists : List PackageList) (test : List ℕ → Bool) (names : List (List ℕ)) (q : List ℕ) → Contains (map (λ (l : Losing). l.name) (map (losing_of lists) (filter test names))) q → Contains names q
losing_among lists test [] q has = has
losing_among lists test (x ∷ names) q has = by (test x) (losing_among lists test names q) has
  where
    by : (b : Bool) → (Contains (map (λ (l : Losing). l.name) (map (losing_of lists) (filter test names))) q → Contains names q)
        → Contains (map (λ (l : Losing). l.name) (map (losing_of lists) (cond b (x ∷ filter test names) (filter test names)))) q → Contains (x ∷ names) q
    by true further there = elim (Contains-append_cases (x ∷ []) (map (λ (l : Losing). l.name) (map (losing_of lists) (filter test names))) q there) [
      | inl here ↦ Contains-append_left (x ∷ []) names q here
      | inr more ↦ Contains-append_right (x ∷ []) names q (further more)
    ]
    by false further there = Contains-append_right (x ∷ []) names q (further there)

pub displaced_yield : (incoming version : List ℕ) (ways : Ways) (lists : List PackageList) (beside : Beside) (losing : List Losing) (conflicting names : List (List ℕ)) (failed : Option Call) (before after : Holding) (s t : State) (told now : List Called)
    → losing ≡ losing_beside lists beside → conflicting ≡ beside.conflicting → HaveBeenDisplaced incoming version ways losing conflicting names failed before after s t told now → (q : List ℕ) → Contains names q → Contains (yielding beside) q
displaced_yield incoming version ways lists beside losing conflicting names failed before after s t told now losing_is conflicting_is is q has =
    let gone = is.gone in
    let removed = gone.removed in
    elim (Contains-append_cases gone.gone conflicting q (subst (λ (ns : List (List ℕ)). Contains ns q) removed.names_are has)) [
      | inl own ↦ Contains-append_right beside.conflicting beside.replaced q (losing_among lists (is_spared beside.conflicting) beside.replaced q
          (subst (λ (ls : List Losing). Contains (map (λ (l : Losing). l.name) ls) q) losing_is (gone_among incoming version ways losing gone.gone gone.lost before gone.mid s gone.m told gone.between q gone.disappeared own)))
      | inr other ↦ Contains-append_left beside.conflicting beside.replaced q (subst (λ (ns : List (List ℕ)). Contains ns q) conflicting_is other)
    ]
