-- What a unit finds and leaves: records that stand, `info` in which no opening refuses anything, and no `tmp.ci`; and that the next
-- opening can read all of it at each moment between.
use Rattle.std.proofs.Common.{◌≡◌, inl, inr, ℕ, zero, suc, IsTrue, true, List, [], ◌∷◌, ◌++◌, Option, Some, None, Contains, is_some, refl, sym, ap, subst, ◌∙◌, arith}
use Rattle.texts.specs.PackageNames.{is_package_name}
use Rattle.host_core.proofs.Nodes.{directory_stands, none_stands, none_there}
use Rattle.host_core.specs.Events.{Event}
use Rattle.host_core.specs.Host.{State}
use Rattle.host_core.specs.Paths.{Path}
use Rattle.host_core.specs.Tree.{IsTree}
use Rattle.host_core.specs.World.{World, IsDirectory}
use Rattle.host_core.specs.declared.call.Call.{Call}
use Rattle.administration.proofs.WholeFiles.{no_directory_none}
use Rattle.administration.proofs.Within.{within_is}
use Rattle.administration.specs.Places.{tmp_path, is_within}
use Rattle.configure_engine.specs.Units.{Given as Configuring, IsAmidUnit as IsAmidConfiguring}
use Rattle.control_members.specs.LaidOut.{IsIncoming, laid_path}
use Rattle.diversions.specs.Ways.{Ways}
use Rattle.file_lists.specs.Info.{AreLoose}
use Rattle.file_lists.specs.Owners.{paths_of}
use Rattle.removal_engine.proofs.Tables.{is_named}
use Rattle.removal_engine.specs.Units.{Given as Removing, IsAmidUnit as IsAmidRemoving}
use Rattle.status_db.proofs.NotedWorlds.{found_named}
use Rattle.status_db.specs.Held.{CanOpenRecords, HasRecords}
use Rattle.status_records.specs.Records.{AreStanding, record_in}
use Rattle.status_records.specs.declared.record.Record.{Record}
use Rattle.unit_stages.specs.Holding.{Holding}
use Rattle.unit_stages.specs.Running.{AreRunning}
use Rattle.unit_stages.specs.Runs.{HaveRun}
use Rattle.unit_stages.specs.declared.stage.Stage.{Stage}
use Rattle.undo_rows.specs.declared.rows.Called.{Called}
use Rattle.unpack_engine.proofs.EndRecords.{has_name}
use Rattle.held_administration.specs.Order.{record_names}
use Rattle.reopening.proofs.Entries.{IsSafe, safe_quiet}
use Rattle.reopening.proofs.Inside.{IsQuiet, quiet_then}
use Rattle.reopening.proofs.Parts.{AreOf, IsCalm, calm_here, calm_then}
use Rattle.reopening.proofs.Removals.{configure_plan_safe, removal_plan_safe}
use Rattle.reopening.proofs.Stages.{AreSafeStages, run_calm, run_of, running_calm, running_of}
use Rattle.reopening.proofs.Steps.{AreGood}
use Rattle.reopening.proofs.Unpacks.{opened_by}
use Rattle.reopening.specs.Opens.{CanBeOpened}

-- records that stand, of packages of these names

pub of_standing : (names : List (List ℕ)) (rs : List Record) → AreOf names rs → AreStanding rs
of_standing names [] all = tt
of_standing names (r ∷ rs) all = (all.0.stands, of_standing names rs all.1)

pub of_names : (names : List (List ℕ)) (rs : List Record) → AreOf names rs → (q : List ℕ) → Contains (record_names rs) q → Contains names q
of_names names [] all q has = absurd (omega (arith, has.1))
of_names names (r ∷ rs) all q (zero, lt, e) = subst (Contains names) e all.0.named
of_names names (r ∷ rs) all q (suc k, lt, e) = of_names names rs all.1 q (k, omega (arith, lt), e)

pub of_more : (names more : List (List ℕ)) (rs : List Record) → ((q : List ℕ) → Contains names q → Contains more q) → AreOf names rs → AreOf more rs
of_more names more [] wider all = tt
of_more names more (r ∷ rs) wider all = (record { stands = all.0.stands; named = wider r.name all.0.named }, of_more names more rs wider all.1)

first_of : (x : List ℕ) (xs : List (List ℕ)) → Contains (x ∷ xs) x
first_of x xs = (zero, omega arith, refl)

later_of : (x : List ℕ) (xs : List (List ℕ)) (q : List ℕ) → Contains xs q → Contains (x ∷ xs) q
later_of x xs q (k, lt, e) = (suc k, omega (arith, lt), e)

pub of_own : (rs : List Record) → AreStanding rs → AreOf (record_names rs) rs
of_own [] all = tt
of_own (r ∷ rs) all =
    (record { stands = all.0; named = first_of r.name (record_names rs) }, of_more (record_names rs) (r.name ∷ record_names rs) rs (later_of r.name (record_names rs)) (of_own rs all.1))

pub of_from : (names : List (List ℕ)) (rs : List Record) → AreStanding rs → ((q : List ℕ) → Contains (record_names rs) q → Contains names q) → AreOf names rs
of_from names [] all known = tt
of_from names (r ∷ rs) all known =
    (record { stands = all.0; named = known r.name (first_of r.name (record_names rs)) }, of_from names rs all.1 (λ q has. known q (later_of r.name (record_names rs) q has)))

-- nothing is left in `tmp.ci`

abbrev pub IsEmptied : World → Type 0
IsEmptied w = (q : Path) → is_within tmp_path q ≡ true → w q ≡ None

pub emptied_tree : (w : World) → IsTree w → w tmp_path ≡ None → IsEmptied w
emptied_tree w tree none q within = elim (within_is tmp_path q within) [
  | inl is ↦ ap w is ∙ none
  | inr more ↦ ap w more.1 ∙ none_there (w (tmp_path ++ 47 ∷ more.0)) (λ some. no_directory_none (subst IsDirectory none (tree tmp_path more.0 some)))
]

pub emptied_incoming : (w : World) → IsEmptied w → IsIncoming w
emptied_incoming w empty = record {
  place = λ loose. none_stands (w tmp_path) (empty tmp_path refl) loose.0;
  named = λ name plain some. absurd (none_stands (w (laid_path name)) (empty (laid_path name) refl) some);
  loose = λ name plain is. none_stands (w (laid_path name)) (empty (laid_path name) refl) (directory_stands (w (laid_path name)) is);
}

-- what is found: these records stand, of packages of these names, and since a world in which no opening refuses anything all was quiet
pub record IsHeld (names : List (List ℕ)) (ways : Ways) (rs : List Record) (w : World) : Type 0 where
  pub all : AreOf names rs
  pub base : World
  pub safe : IsSafe names ways base
  pub quiet : IsQuiet base w
  pub empty : IsEmptied w
  pub has : HasRecords w rs

pub held_safe : (names : List (List ℕ)) (ways : Ways) (rs : List Record) (w : World) → IsHeld names ways rs w → AreLoose w → IsSafe names ways w
held_safe names ways rs w held loose = safe_quiet names ways held.base w held.quiet held.safe loose

pub held_opens : (names : List (List ℕ)) (ways : Ways) (rs : List Record) (w : World) → IsHeld names ways rs w → CanOpenRecords w → AreLoose w → CanBeOpened w
held_opens names ways rs w held opens loose =
    opened_by names ways rs w held.has opens (of_standing names rs held.all) (of_names names rs held.all) (held_safe names ways rs w held loose) (emptied_incoming w held.empty)

pub held_same : (names : List (List ℕ)) (ways : Ways) (rs : List Record) (v w : World) → w ≡ v → IsHeld names ways rs v → IsHeld names ways rs w
held_same names ways rs v w same held = subst (IsHeld names ways rs) (sym same) held

-- stages of a package that is recorded
module _ (names : List (List ℕ)) (held_entries : Ways) (name : List ℕ) (named : is_package_name name ≡ true) (has : Contains names name) (ways : Ways) where
  -- where all was calm before them
  pub stages_amid : (stages : List Stage) (h : Holding) (old : World) (so_far : List Event) (now : World) → AreSafeStages name stages → (first : World) → IsCalm first old → IsHeld names held_entries h.records first → AreRunning name ways stages h old so_far now → CanBeOpened now
  stages_amid stages h old so_far now safe first before held running =
      let calm = calm_then first old now before (running_calm name named ways stages h old so_far now safe running) in
      let all = running_of name named ways names has stages h old so_far now safe held.all running in
      opened_by names held_entries running.table now running.opens.records running.opens.opens (of_standing names running.table all) (of_names names running.table all)
      (safe_quiet names held_entries held.base now (quiet_then held.base first now held.quiet calm.quiet) held.safe running.opens.loose) (emptied_incoming now (λ q within. calm.tmp q within ∙ held.empty q within))

  pub stages_open : (stages : List Stage) (h : Holding) (old : World) (so_far : List Event) (now : World) → AreSafeStages name stages → IsHeld names held_entries h.records old → AreRunning name ways stages h old so_far now → CanBeOpened now
  stages_open stages h old so_far now safe held running = stages_amid stages h old so_far now safe old (calm_here old) held running

  pub stages_held : (stages : List Stage) (failed : Option Call) (before after : Holding) (s t : State) (told now : List Called) → AreSafeStages name stages → IsHeld names held_entries before.records s.world → HaveRun name ways stages failed before after s t told now
      → IsTrue t.honest → HasRecords t.world after.records → IsHeld names held_entries after.records t.world
  stages_held stages failed before after s t told now safe held run honest stands =
      let calm = run_calm name named ways stages failed before after s t told now safe run honest in
      record {
        all = run_of name named ways names has stages failed before after s t told now safe run held.all;
        base = held.base;
        safe = held.safe;
        quiet = quiet_then held.base s.world t.world held.quiet calm.quiet;
        empty = λ q within. calm.tmp q within ∙ held.empty q within;
        has = stands;
      }

-- a package whose record is found
pub found_has : (names : List (List ℕ)) (rs : List Record) → AreOf names rs → (name : List ℕ) (r : Record) → record_in rs name ≡ Some r → Contains names name
found_has names rs all name r found = of_names names rs all name (has_name rs name r found)

pub found_is_named : (rs : List Record) (name : List ℕ) (r : Record) → record_in rs name ≡ Some r → is_package_name name ≡ true
found_is_named rs name r found = found_named name rs (ap is_some found)

module _ (names : List (List ℕ)) (held_entries : Ways) where
  -- the unit that configures a package
  pub configuring_opens : (g : Configuring) (old : World) (so_far : List Event) (now : World) → IsHeld names held_entries g.before.records old → CanBeOpened old → AreGood (paths_of g.before.lists g.name) → IsAmidConfiguring g old so_far now → CanBeOpened now
  configuring_opens g old so_far now held opens good (inl still) = subst CanBeOpened (sym still.0) opens
  configuring_opens g old so_far now held opens good (inr amid) =
      let plan = amid.plan in
      stages_open names held_entries g.name (found_is_named g.before.records g.name plan.entry plan.found) (found_has names g.before.records held.all g.name plan.entry plan.found) g.ways amid.stages g.before old so_far now
      (configure_plan_safe plan.entry g.policy (paths_of g.before.lists g.name) old true amid.stages g.name (is_named g.before.records g.name plan.entry plan.found) good plan.plan) held amid.running

  -- the unit that removes or purges one
  pub removing_opens : (g : Removing) (old : World) (so_far : List Event) (now : World) → IsHeld names held_entries g.before.records old → (now ≡ old → CanBeOpened now) → IsAmidRemoving g old so_far now → CanBeOpened now
  removing_opens g old so_far now held opens (inl still) = opens still.0
  removing_opens g old so_far now held opens (inr amid) =
      let plan = amid.plan in
      stages_open names held_entries g.name (found_is_named g.before.records g.name plan.entry plan.found) (found_has names g.before.records held.all g.name plan.entry plan.found) g.ways amid.stages g.before old so_far now
      (removal_plan_safe g.ways g.before.lists plan.entry g.extent old true amid.stages g.name (is_named g.before.records g.name plan.entry plan.found) plan.plan) held amid.running
