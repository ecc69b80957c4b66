-- A file of another package through the whole unit of a session's unpack.
use Rattle.std.proofs.Common.{◌≡◌, ◌≢◌, inl, inr, ℕ, zero, suc, Bool, true, false, cond, List, [], ◌∷◌, ◌++◌, Option, Some, None, IsTrue, Contains, filter, length, map, refl, sym, ap, subst, ◌∙◌, arith}
use Rattle.std.specs.Prelude.{not}
use Rattle.std.proofs.lemmas.List.Elements.{Contains-append_left, Contains-append_right}
use Rattle.host_core.specs.Paths.{Path}
use Rattle.host_core.specs.World.{World}
use Rattle.host_core.specs.Host.{State}
use Rattle.host_core.specs.declared.call.Call.{Call}
use Rattle.undo_rows.specs.Transcripts.{Ended, Committed, Unwound}
use Rattle.undo_rows.specs.Ended.{ended_as}
use Rattle.undo_rows.specs.declared.rows.Called.{Called}
use Rattle.undo_rows.specs.declared.unwinding.Unwinding.{Unwinding}
use Rattle.disappearance.specs.declared.losing.Losing.{Losing}
use Rattle.displaced_packages.specs.Displacing.{HaveBeenDisplaced}
use Rattle.displaced_packages.specs.Losing.{is_spared, losing_beside, losing_of}
use Rattle.diversions.specs.Ways.{Ways}
use Rattle.file_lists.specs.declared.paths.Listed.{Listed}
use Rattle.file_lists.specs.declared.paths.PackageList.{PackageList}
use Rattle.package_tree.specs.declared.package.Package.{Package}
use Rattle.package_files.specs.declared.work.Work.{Work}
use Rattle.removal_run.specs.Units.{holding_of}
use Rattle.status_db.specs.Recorded.{Recorded}
use Rattle.stop_laws.proofs.Others.{owner_kept}
use Rattle.unit_reports.specs.Held.{Held, places_of}
use Rattle.unit_reports.specs.declared.report.Unit.{Unit as AUnit}
use Rattle.unpack_commit.specs.Takeover.{losers, taken_places, yields_of}
use Rattle.unpack_commit.specs.Commit.{committed_lists}
use Rattle.unpack_relations.specs.declared.beside.Beside.{Beside}
use Rattle.unpack_plan.specs.Planned.{Planned, IsPlanned}
use Rattle.unpack_rows.specs.Kinds.{kinds_of}
use Rattle.unpack_rows.specs.Stages.{Stage, Unwritten, Wrote, Restored, stage_of}
use Rattle.unpack_rows.specs.declared.rows.OtherPackage.{OtherPackage}
use Rattle.unpack_rows.specs.declared.rows.Present.{Present}
use Rattle.unpack_steps.specs.Task.{lists_at}
use Rattle.unpack_engine.specs.Units.{Given, Ground, HasCarriedOut, HasUnpacked, changes, end_lists, ground_of, job_of, last_place, other_yields, package_name, task_from, unit_losers}
use Rattle.unpack_engine.proofs.Losing.{among_kept}
use Rattle.unpack_laws.specs.InHand.{unit_name, unit_yields}
use Rattle.unpack_laws.proofs.Passing.{own_is}
use Rattle.dpkg_session.specs.Units.{HasDisplaced, HasUnpackedBeside, HasUnpackedWhole, IsUnpacked, all_yielding, displacing_by, given_by, held_with, yielding}
use Rattle.kept_files.specs.Kept.{IsHeldFile as IsHeldIn, IsHeldPlace, IsPackagePlace}
use Rattle.kept_files.proofs.Aside.{other_owner}
use Rattle.kept_files.proofs.Unpacks.{unit_leaves}
use Rattle.kept_in_commands.proofs.Owners.{Owns, owns_with, owns_without}
use Rattle.kept_in_commands.proofs.Stages.{Passes, passes_same}
use Rattle.kept_in_commands.proofs.Displaced.{displaced_passes}
use Rattle.kept_in_commands.specs.Commands.{Has, IsHeldFile}

-- the lists of the engine's unit have the place still
module _ (g : Given) (places : List Path) (q : Path) (x : Listed) (owns : Owns g.ways q x g.lists) (other : x.name ≢ unit_name g) (stays : Contains (unit_yields g) x.name → ⊥) where
  module _ (stored : Present) (p : Planned) (plan : IsPlanned (job_of g stored) p) where
    abbrev here : Ground
    here = ground_of g places

    abbrev own : List ℕ
    own = package_name here p

    unnamed : x.name ≢ own
    unnamed e = other (e ∙ own_is g stored p plan places)

    owns_then : (begun : State) (stage : Stage) → Owns g.ways q x (lists_at (task_from here p begun) stage)
    owns_then begun Unwritten = owns
    owns_then begun Wrote = owns_with g.ways q x own unnamed p.union g.lists owns
    owns_then begun Restored = owns_with g.ways q x own unnamed p.listed _ (owns_with g.ways q x own unnamed p.union g.lists owns)

    no_loser : (works : List Work) (lists : List PackageList) → Contains (unit_losers here p works lists) x.name → ⊥
    no_loser works lists has = stays (among_kept _ here.yields x.name (among_kept _ (other_yields here p) x.name has))

    owns_end : (ended : Ended) (works : List Work) (lists : List PackageList) → Owns g.ways q x lists → Owns g.ways q x (end_lists here p ended works lists)
    owns_end Committed works lists has =
        owns_without g.ways q x (taken_places works) (unit_losers here p works lists) _ (no_loser works lists) (owns_with g.ways q x own unnamed p.new_list lists has)
    owns_end (Unwound fall failed) works lists has = has

    owns_out : (ended : Ended) (after : Recorded) (lists : List PackageList) (old new : State) (told now : List Called) → HasCarriedOut here p ended after lists old new told now → Owns g.ways q x lists
    owns_out ended after lists old new told now out =
        subst (Owns g.ways q x) (sym out.lists_are)
        (owns_end ended out.mid.works out.mid.lists (subst (Owns g.ways q x) (sym out.ran.rows_end.lists) (owns_then out.ran.begun (stage_of (kinds_of p.found p.others) (last_place here p ended)))))

  pub unit_owns : (ended : Ended) (after : Recorded) (lists : List PackageList) (old new : State) (told now : List Called) → HasUnpacked g places ended after lists old new told now → Owns g.ways q x lists
  unit_owns ended after lists old new told now unit = owns_out unit.plan_for.stored unit.plan unit.plan_for.planned ended after lists old new told now unit.carried_out

losing_named : (lists : List PackageList) (names : List (List ℕ)) (l : Losing) → Contains (map (losing_of lists) names) l → Contains names l.name
losing_named lists [] l there = absurd (omega (arith, there.1))
losing_named lists (n ∷ names) l (zero, lt, at) = (zero, omega arith, ap (λ (y : Losing). y.name) at)
losing_named lists (n ∷ names) l (suc k, lt, at) = Contains-append_right (n ∷ []) names l.name (losing_named lists names l (k, omega (arith, lt), at))

module _ (p : Package) (beside : Beside) (before : Held) (q : Path) where
  -- by the rows of other packages that the unit has
  at_place : (others : List OtherPackage) → IsHeldPlace (given_by p before before.ways [] (all_yielding p beside before)) q → IsHeldPlace (given_by p before before.ways others (all_yielding p beside before)) q
  at_place others place = record { held = place.held; stays = place.stays }

  in_engine : (others : List OtherPackage) (w : World) → IsHeldFile p beside before w q → IsHeldIn (given_by p before before.ways others (all_yielding p beside before)) (places_of before) w q
  in_engine others w held = record {
    place = at_place others held.place;
    packaged = held.packaged;
    stands = held.stands;
    kept = owner_kept before.ways p.name q before.lists (other_owner before.ways before.lists p.name q held.place.held);
  }

  module _ (packaged : IsPackagePlace q) (place : IsHeldPlace (given_by p before before.ways [] (all_yielding p beside before)) q) where
    abbrev x : Listed
    x = place.held.owner

    no_yield : (n : List ℕ) → Contains (yielding beside) n → x.name ≡ n → ⊥
    no_yield n has e = place.stays (subst (λ (m : List ℕ). Contains (yields_of before.records.records ++ all_yielding p beside before) m) (sym e) (Contains-append_right (yields_of before.records.records) (all_yielding p beside before) n (Contains-append_left (yielding beside) _ n has)))

    not_conflicting : Contains beside.conflicting x.name → ⊥
    not_conflicting has = no_yield x.name (Contains-append_left beside.conflicting beside.replaced x.name has) refl

    not_losing : (lists : List PackageList) (l : Losing) → Contains (losing_beside lists beside) l → x.name ≢ l.name
    not_losing lists l has =
        no_yield l.name (Contains-append_right beside.conflicting beside.replaced l.name (among_kept (is_spared beside.conflicting) beside.replaced l.name (losing_named lists (filter (is_spared beside.conflicting) beside.replaced) l has)))

    behind : (unwinding : Option Unwinding) (displaced : List (List ℕ)) (failed : Option Call) (mid after : Held) (m t : State) (told now : List Called) → mid.ways ≡ before.ways → Owns before.ways q x mid.lists
        → HasDisplaced unwinding (displacing_by p beside before.lists) displaced failed mid after m t told now → Passes q before.ways x (holding_of after) m t
    behind (Some u) displaced failed mid after m t told now ways owns none = passes_same q before.ways x (holding_of mid) (holding_of after) m t (ap holding_of none.held) none.here owns
    behind None displaced failed mid after m t told now ways owns has =
        displaced_passes q packaged before.ways x p.name p.version (losing_beside before.lists beside) beside.conflicting displaced (not_losing before.lists) not_conflicting failed (holding_of mid) (holding_of after) m t told now owns
        (subst (λ (v : Ways). HaveBeenDisplaced p.name p.version v (losing_beside before.lists beside) beside.conflicting displaced failed (holding_of mid) (holding_of after) m t told now) ways has)

  module _ (after : Held) (u : AUnit) (s t : State) (unit : IsUnpacked p beside before after u s t) (same : after.ways ≡ before.ways) where
    abbrev whole : HasUnpackedWhole p beside before unit.unwinding unit.displaced unit.failed after s t [] u.calls.items
    whole = unit.unpacked

    -- its files went by the diversions of before
    abbrev by_before : HasUnpackedBeside p beside before before.ways (places_of before) unit.unwinding whole.records whole.lists s whole.m [] whole.between
    by_before = subst (λ (v : Ways). HasUnpackedBeside p beside before v (places_of before) unit.unwinding whole.records whole.lists s whole.m [] whole.between) same whole.unpacked

    mid_owns : (packaged : IsPackagePlace q) (place : IsHeldPlace (given_by p before before.ways [] (all_yielding p beside before)) q) → Owns before.ways q place.held.owner whole.lists
    mid_owns packaged place =
        unit_owns (given_by p before before.ways by_before.others (all_yielding p beside before)) (places_of before) q place.held.owner place.held.lies place.held.other place.stays (ended_as unit.unwinding) whole.records whole.lists s whole.m [] whole.between by_before.unpacked

    passes : (packaged : IsPackagePlace q) (place : IsHeldPlace (given_by p before before.ways [] (all_yielding p beside before)) q) → Passes q before.ways place.held.owner (holding_of after) whole.m t
    passes packaged place =
        behind packaged place unit.unwinding unit.displaced unit.failed (held_with after.ways whole.records whole.lists) after whole.m t whole.between u.calls.items same (mid_owns packaged place) whole.behind

    pub unit_keeps : IsTrue t.honest → IsHeldFile p beside before s.world q → t.world q ≡ s.world q
    unit_keeps honest held =
        let passed = passes held.packaged held.place in
        passed.leaves honest
        ∙ unit_leaves (given_by p before before.ways by_before.others (all_yielding p beside before)) (places_of before) (ended_as unit.unwinding) whole.records whole.lists s whole.m [] whole.between q by_before.unpacked (passed.honest honest)
        (in_engine by_before.others s.world held)

    -- whatever stands there
    pub place_stays : (packaged : IsPackagePlace q) (place : IsHeldPlace (given_by p before before.ways [] (all_yielding p beside before)) q) → Has after q place.held.owner
    place_stays packaged place = subst (λ (v : Ways). Owns v q place.held.owner after.lists) (sym same) ((passes packaged place).owns)

    pub unit_has : (held : IsHeldFile p beside before s.world q) → Has after q held.place.held.owner
    unit_has held = place_stays held.packaged held.place
