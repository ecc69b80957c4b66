-- Units put together.
use Rattle.std.proofs.Common.{◌≡◌, ◌≢◌, ℕ, ◌<◌, Bool, List, [], Option, Some, Result, Ok, Err, length, map, sym, ap, subst, ◌∙◌}
use Rattle.std.specs.Prelude.{IfOk, IsTrue}
use Rattle.std.specs.List.{All}
use Rattle.std.proofs.lemmas.List.{get_or-map, length-map}
use Rattle.conffiles.specs.Settling.{CanSettle}
use Rattle.conffiles.specs.declared.decisions.ConfPolicy.{ConfPolicy}
use Rattle.configure_engine.specs.Obstacles.{IsObstacle, names_of_all}
use Rattle.configure_engine.specs.Units.{CanConfigure, Given, HasCalled, IsWaiting}
use Rattle.configure_engine.specs.Waiting.{settling_places}
use Rattle.diversions.specs.Ways.{Ways}
use Rattle.dependency_check.specs.Waiting.{Waiting}
use Rattle.dependency_sets.proofs.StrikingLaws.{in_range}
use Rattle.host_core.specs.Host.{State, Silent}
use Rattle.host_core.specs.World.{World}
use Rattle.host_core.specs.declared.call.Call.{Call}
use Rattle.relation_index.specs.Packages.{those}
use Rattle.relation_index.specs.declared.package.Package.{Package}
use Rattle.status_records.specs.Records.{record_in}
use Rattle.status_records.specs.declared.record.Record.{Record}
use Rattle.unit_reports.specs.Held.{Held}
use Rattle.unit_reports.specs.Units.{HasNoCalls}
use Rattle.unit_reports.specs.declared.report.Unit.{Unit as AUnit}
use Rattle.unit_stages.specs.Holding.{Holding}
use Rattle.undo_rows.specs.declared.rows.Called.{Called}
use Rattle.configure_run.specs.LeftOver.{IsNumbered}
use Rattle.configure_run.specs.Starting.{AreNamedApart, AreWaiting, IsEven, name_at}
use Rattle.configure_run.specs.Turns.{ConfiguresToDisk, HasCalledFor, HasCalledToDisk, HasObstacle, IsUnit, IsUnitFor, after_turn}
use Rattle.configure_run.proofs.Moments.{silent_here}
use Rattle.configure_run.proofs.Progress.{packages_after, still_waits}

pub ok_so : {T E : Type 0} (r : Result T E) (P Q : T → Type 0) → ((x : T) → P x → Q x) → IfOk r P → IfOk r Q
ok_so (Ok x) P Q so holds = so x holds
ok_so (Err e) P Q so holds = tt

-- from the list of calls that a unit began with, and as it tells it

pub disk_as : (g : Given) (failed : Option Call) (after : Holding) (s t : State) (old now told : List Called) → old ≡ [] → told ≡ now → ConfiguresToDisk g failed after s t old now → ConfiguresToDisk g failed after s t [] told
disk_as g failed after s t old now told empty same is = subst (λ l. ConfiguresToDisk g failed after s t l told) empty (subst (ConfiguresToDisk g failed after s t old) (sym same) is)

pub called_as : (g : Given) (s t : State) (old now told : List Called) → old ≡ [] → told ≡ now → HasCalledToDisk g s t old now → HasCalledToDisk g s t [] told
called_as g s t old now told empty same is = subst (λ l. HasCalledToDisk g s t l told) empty (subst (HasCalledToDisk g s t old) (sym same) is)

-- no call was made

pub no_calls : (u : AUnit) (s : State) → u.calls.items ≡ [] → HasNoCalls u s s
no_calls u s none = record { silent = silent_here s; told = none }

pub called_nothing : (policy : ConfPolicy) (name : List ℕ) (before : Held) (u : AUnit) (s t : State) → Silent s t → (IsTrue t.honest → t.world ≡ s.world) → u.calls.items ≡ [] → HasCalledFor policy name before u s t
called_nothing policy name before u s t silent same none = record {
  looked = t;
  quiet = silent;
  same = same;
  called = record { left = t; called = HasCalled.unplanned (silent_here t) none; quiet = silent_here t };
}

-- the conffiles of the record that a name has

pub obstacle_is : (ways : Ways) (records : List Record) (name : List ℕ) (w : World) (entry : Record) (found : Option (List ℕ)) → Some entry ≡ record_in records name → IsObstacle w (names_of_all (settling_places ways entry)) found → HasObstacle ways records name w found
obstacle_is ways records name w entry found is obstacle = record { entry = entry; recorded = sym is; obstacle = obstacle }

same_entry : (a b : Record) → Some a ≡ Some b → a ≡ b
same_entry a b e = cc

pub clear_is : (ways : Ways) (records : List Record) (name : List ℕ) (w : World) (entry : Record) → Some entry ≡ record_in records name → All (λ x. CanSettle x w) (settling_places ways entry) → CanConfigure ways records name w
clear_is ways records name w entry is all r found = subst (λ (q : Record). All (λ x. CanSettle x w) (settling_places ways q)) (same_entry entry r (is ∙ found)) all

-- the package of a number

pub numbered_name : (packages : List Package) (x : ℕ) (p : Package) → IsNumbered packages x p → name_at packages x ≡ p.name
numbered_name packages x p at = get_or-map (λ (q : Package). q.name) packages x p [] at.within ∙ ap (λ (q : Package). q.name) at.here

pub those_within : (test : Package → Bool) (packages : List Package) (y : ℕ) → IsTrue (those test packages y) → y < length packages
those_within test packages y is = subst (λ n. y < n) (length-map packages test) (in_range (map test packages) y is)

-- the others still wait

waiting_still : (before after : List Record) (name : List ℕ) → record_in after name ≡ record_in before name → IsWaiting before name → IsWaiting after name
waiting_still before after name same is = record { entry = is.entry; found = same ∙ is.found; state = is.state; flag = is.flag }

others_for : (policy : ConfPolicy) (name : List ℕ) (before after : Held) (u : AUnit) (s t : State) → IsUnitFor policy name before after u s t → (q : List ℕ) → q ≢ name → record_in after.records.records q ≡ record_in before.records.records q
others_for policy name before after u s t (IsUnitFor.obstructed path found refused) q apart = ap (λ (h : Held). record_in h.records.records q) refused.held
others_for policy name before after u s t (IsUnitFor.configured looked looks quiet found is) q apart = is.ended.others q apart

pub others : (policy : ConfPolicy) (packages : List Package) (p : Package) (before after : Held) (u : AUnit) (s t : State) → IsUnit policy packages p before after u s t → (q : List ℕ) → q ≢ p.name → record_in after.records.records q ≡ record_in before.records.records q
others policy packages p before after u s t (IsUnit.broken y first refused) q apart = ap (λ (h : Held). record_in h.records.records q) refused.held
others policy packages p before after u s t (IsUnit.unbroken none is) q apart = others_for policy p.name before after u s t is q apart

pub waiting_behind : (policy : ConfPolicy) (q : Waiting) (x : ℕ) (p : Package) (done : Bool) (before after : Held) (u : AUnit) (s t : State) → IsEven q → AreNamedApart q.packages → IsNumbered q.packages x p → AreWaiting q before.records.records
    → IsUnit policy q.packages p before after u s t → AreWaiting (after_turn done x q) after.records.records
waiting_behind policy q x p done before after u s t even named at wait is y waits =
    let still = still_waits done x y q waits in
    let within : y < length q.packages = subst (λ n. y < n) even.waiting (in_range q.waiting y still.1) in
    let apart : name_at q.packages y ≢ p.name = λ same. still.0 (named y x within at.within (same ∙ sym (numbered_name q.packages x p at))) in
    subst (λ (ps : List Package). IsWaiting after.records.records (name_at ps y)) (sym (packages_after done x q))
    (waiting_still before.records.records after.records.records (name_at q.packages y) (others policy q.packages p before after u s t is (name_at q.packages y) apart) (wait y still.1))
