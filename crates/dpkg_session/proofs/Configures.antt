-- What a configure carries over.
use Rattle.std.proofs.Common.{◌≡◌, ℕ, Bool, true, false, cond, List, [], ◌∷◌, ◌++◌, Option, Some, None, refl, sym, ap, subst, ◌∙◌}
use Rattle.std.specs.Str.{bytes_eq}
use Rattle.std.proofs.lemmas.Slice.Eq.{bytes_eq-Decides}
use Rattle.std.specs.Prelude.{is_some, IfSome}
use Rattle.std.proofs.lemmas.List.{append-nil}
use Rattle.conffiles.specs.declared.decisions.ConfPolicy.{ConfPolicy}
use Rattle.dependency_check.specs.Waiting.{Waiting}
use Rattle.conffiles.specs.declared.entries.Settled.{Settled}
use Rattle.configure_engine.specs.Settled.{settled}
use Rattle.configure_engine.specs.Stages.{AreConfigureStages, AreFirstParts, SettlesThese, half, list_parts}
use Rattle.configure_engine.specs.Waiting.{going_paths}
use Rattle.host_core.specs.Paths.{Path}
use Rattle.host_core.specs.Host.{State, Reads, Since}
use Rattle.host_core.proofs.Moments.{since_start}
use Rattle.relation_index.specs.declared.package.Package.{Package}
use Rattle.status_records.specs.Records.{record_in}
use Rattle.status_records.specs.declared.record.Record.{Record}
use Rattle.unit_stages.specs.declared.part.Part.{Part}
use Rattle.unit_stages.specs.declared.part.Part.TheVariants.{Note, Forget, Settle, Remove, RemoveDirectories, Clear, List as Listing, DropList, DropMembers}
use Rattle.unit_reports.specs.Held.{Held}
use Rattle.unit_reports.specs.declared.report.Report.{Report}
use Rattle.unit_reports.specs.declared.report.Unit.{Unit as AUnit}
use Rattle.unit_runs.specs.Turns.{TurnsTo}
use Rattle.name_sets.specs.Names.{each_once}
use Rattle.configure_run.specs.Early.{AreRefused, AreSomeRefused, early_refusals}
use Rattle.configure_run.specs.Run.{HasRun, IsAmidRun, IsConfigureRun}
use Rattle.configure_run.specs.Turns.{ConfiguresTo, IsConfigured, IsUnit, IsUnitFor}
use Rattle.configure_run.specs.declared.options.ConfigureOptions.{ConfigureOptions}
use Rattle.dpkg_session.specs.Diversions.{HasBroken, IsBrokenDiversion}
use Rattle.dpkg_session.proofs.Carries.{Carries, carries_here, carries_reads, carries_refused, carries_stages, carries_then}
use Rattle.unit_stages.specs.declared.stage.Stage.{Stage}
use Rattle.dpkg_session.proofs.Keeping.{AreOwn, IsOwn}
use Rattle.dpkg_session.proofs.Staying.{AreOwnStages}
use Rattle.dpkg_session.proofs.Told.{no_calls}

-- the record that is found has the name

abbrev or_record : Record → Option Record → Record
or_record r None = r
or_record r (Some s) = s

one_record : (r s : Record) → Some r ≡ Some s → r ≡ s
one_record r s e = ap (or_record r) e

-- it has that name
pub is_named : (rs : List Record) (name : List ℕ) (r : Record) → record_in rs name ≡ Some r → r.name ≡ name
is_named [] name r found = cc
is_named (x ∷ rs) name r found = by (bytes_eq x.name name) refl (is_named rs name r) found
  where
    by : (b : Bool) → bytes_eq x.name name ≡ b → (record_in rs name ≡ Some r → r.name ≡ name) → cond b (Some x) (record_in rs name) ≡ Some r → r.name ≡ name
    by true same rest is = ap (λ (s : Record). s.name) (sym (one_record x r is)) ∙ (bytes_eq-Decides x.name name).0 same
    by false other rest is = rest is

-- the stages of configuring note records of the package, and change no place of the administration beside

settle_own : (name : List ℕ) (list : List Settled) (part : Part) → SettlesThese list part → IsOwn name part
settle_own name list (Note r) is = absurd is
settle_own name list Forget is = tt
settle_own name list (Settle settled) is = tt
settle_own name list (Remove leaving) is = absurd is
settle_own name list (RemoveDirectories leaving) is = absurd is
settle_own name list (Clear names) is = absurd is
settle_own name list (Listing paths) is = tt
settle_own name list DropList is = tt
settle_own name list (DropMembers keep_postrm) is = tt

listed_own : (name : List ℕ) (going listed : List Path) (rest : List Part) → AreOwn name rest → AreOwn name (list_parts going listed ++ rest)
listed_own name [] listed rest own = own
listed_own name (q ∷ going) listed rest own = (tt, own)

first_own : (r : Record) (name : List ℕ) → r.name ≡ name → (listed : List Path) (decisions : List Settled) (parts : List Part) → AreFirstParts r listed decisions parts → AreOwn name parts
first_own r name own listed [] parts are = subst (AreOwn name) (sym are) ((own, refl), tt)
first_own r name own listed (e ∷ es) parts are =
    subst (AreOwn name) (sym are.2) ((own, refl), (settle_own name (e ∷ es) are.0 are.1, listed_own name (going_paths r) listed (Note (half (settled r)) ∷ []) ((own, refl), tt)))

plan_own : (r : Record) (name : List ℕ) → r.name ≡ name → (listed : List Path) (decisions : List Settled) (stored : Bool) (stages : List Stage) → AreConfigureStages r listed decisions stored stages → AreOwnStages name stages
plan_own r name own listed decisions stored stages is =
    subst (AreOwnStages name) (sym is.are) (
      record { parts = first_own r name own listed decisions is.first.parts.items is.parts; restore = subst (AreOwn name) (sym is.no_restore) tt },
      (record { parts = subst (AreOwn name) (sym is.installs) ((own, refl), tt); restore = subst (AreOwn name) (sym is.no_restore_either) tt }, tt),
    )

configured_carries : (policy : ConfPolicy) (name : List ℕ) (before after : Held) (u : AUnit) (s t : State) → IsConfigured policy name before after u s t → Carries before after s t
configured_carries policy name before after u s t is =
    let whole = is.configured.unit in
    let plan = whole.plan in
    carries_stages name whole.stages is.failed before after s is.configured.left t [] u.calls.items (ap is_some plan.found)
    (plan_own plan.entry name (is_named before.records.records name plan.entry plan.found) _ plan.plan.decisions plan.plan.stored whole.stages plan.plan.stages_are) whole.run is.configured.flushed is.order is.ways

for_carries : (policy : ConfPolicy) (name : List ℕ) (before after : Held) (u : AUnit) (s t : State) → IsUnitFor policy name before after u s t → Carries before after s t
for_carries policy name before after u s t (IsUnitFor.obstructed path there refused) = carries_refused _ name before after u s t refused
for_carries policy name before after u s t (IsUnitFor.configured looked looks quiet none is) =
    carries_then before before after s looked t (carries_reads before s looked looks) (configured_carries policy name before after u looked t is)

unit_carries : (policy : ConfPolicy) (packages : List Package) (p : Package) (before after : Held) (u : AUnit) (s t : State) → IsUnit policy packages p before after u s t → Carries before after s t
unit_carries policy packages p before after u s t (IsUnit.broken y first refused) = carries_refused _ p.name before after u s t refused
unit_carries policy packages p before after u s t (IsUnit.unbroken none is) = for_carries policy p.name before after u s t is

turns_carry : (options : ConfigureOptions) (silent : ℕ → Bool) (start : Waiting) (before : Held) (s : State) (us : List AUnit) (q : Waiting) (after : Held) (t : State) → ConfiguresTo options silent start before s us q after t → Carries before after s t
turns_carry options silent start before s us q after t TurnsTo.begun = carries_here before s
turns_carry options silent start before s us q after t (TurnsTo.turned done u mid_q later mid ends m end come turn) =
    carries_then before mid after s m t (turns_carry options silent start before s done mid_q mid m come) (unit_carries options.policy mid_q.packages turn.p mid after u m t turn.is)

pub configure_carries : (names : List (List ℕ)) (options : ConfigureOptions) (us : List AUnit) (before after : Held) (s t : State) → IsConfigureRun names options us before after s t → Carries before after s t
configure_carries names options us before after s t run =
    let turned = run.turns.turned in
    carries_then before before after s run.looked t (carries_reads before s run.looked run.begins.looks)
    (turns_carry options run.silent run.start before run.looked turned.turned run.turns.q after t turned.come)

-- there was no memory for the names

reads_here : (s : State) → Reads s s
reads_here s = record { honest = λ h. h; world = refl; added = []; failed = tt; events = sym (append-nil s.events) }

none_refused : (names : List (List ℕ)) (before : Held) (us : List AUnit) → us ≡ [] → AreSomeRefused (early_refusals before.records.records (each_once names)) us
none_refused names before us none = record { done = []; rest = early_refusals before.records.records (each_once names); are = refl; refused = subst (AreRefused []) (sym none) tt }

pub not_begun : (names : List (List ℕ)) (options : ConfigureOptions) (before : Held) (s : State) (report : Report) → HasBroken report → is_some report.last ≡ true → HasRun names options report.units.items report.last before s s
not_begun names options before s report broken some = by report.last broken some
  where
    by : (last : Option AUnit) → IfSome last (λ u. (report.units.items ≡ []) × IsBrokenDiversion u) → is_some last ≡ true → HasRun names options report.units.items last before s s
    by None is none = cc
    by (Some u) is there = HasRun.refusing (none_refused names before report.units.items is.0) (reads_here s) (record { broken = is.1.broken; untouched = is.1.touched; none = no_calls u s is.1.calls })

pub still_moments : (names : List (List ℕ)) (options : ConfigureOptions) (before : Held) (s : State) → Since (IsAmidRun names options before s) s s
still_moments names options before s = since_start (IsAmidRun names options before s) s (IsAmidRun.beginning (record { same = refl; quiet = refl }))
