-- Units tell each package whose record they change.
use Rattle.std.proofs.Common.{◌≡◌, ◌≢◌, ◌⊎◌, inl, inr, ℕ, Bool, true, false, List, [], ◌∷◌, ◌++◌, map, Option, Some, None, Result, Ok, Err, refl, sym, ap, subst, ◌∙◌}
use Rattle.std.specs.Str.{bytes_eq}
use Rattle.std.proofs.lemmas.Bool.{true≢false, or_left, or_right}
use Rattle.std.proofs.lemmas.Grind.{flat_map-append}
use Rattle.std.proofs.lemmas.List.Folds.{list_any-append}
use Rattle.std.proofs.lemmas.Slice.Eq.{bytes_eq-Decides}
use Rattle.conffiles.specs.declared.decisions.ConfPolicy.{ConfPolicy}
use Rattle.host_core.specs.Host.{State}
use Rattle.package_tree.specs.declared.fault.TreeFault.{TreeFault}
use Rattle.package_tree.specs.declared.package.Package.{Package as Tree}
use Rattle.record_changes.specs.Activated.{has_name, pending_text}
use Rattle.relation_index.specs.declared.package.Package.{Package}
use Rattle.status_records.specs.Records.{record_in}
use Rattle.status_records.specs.Words.{is_installed}
use Rattle.status_records.specs.declared.record.Record.{Record}
use Rattle.trigger_turns.specs.Turns.{names_told, names_touched}
use Rattle.trigger_watch.specs.Names.{is_among}
use Rattle.unit_reports.specs.Held.{Held}
use Rattle.unit_reports.specs.Units.{touched_at}
use Rattle.unit_reports.specs.declared.refusal.Rule.{Rule}
use Rattle.unit_reports.specs.declared.report.Touched.{Touched}
use Rattle.unit_reports.specs.declared.report.Unit.{Unit as AUnit}
use Rattle.unit_runs.specs.Turns.{TurnsTo}
use Rattle.configure_run.specs.Run.{IsConfigureRun}
use Rattle.configure_run.specs.Turns as configuring
use Rattle.configure_run.specs.declared.options.ConfigureOptions.{ConfigureOptions}
use Rattle.removal_run.specs.Run.{IsRemovalRun, waiting_for}
use Rattle.removal_run.specs.Turns as removing
use Rattle.removal_run.specs.declared.options.RemovalOptions.{RemovalOptions}
use Rattle.unpack_relations.specs.declared.checking.Checked.TheVariants.{Planned, Refused}
use Rattle.unpack_relations.specs.declared.beside.Beside.{Beside}
use Rattle.unpack_relations.specs.declared.options.UnpackOptions.{UnpackOptions}
use Rattle.dpkg_session.specs.Installs.{IsInstall, packages_done}
use Rattle.dpkg_session.specs.Overriding.{taken_with}
use Rattle.dpkg_session.specs.Rereading.{with_ways}
use Rattle.dpkg_session.specs.Run.{IsRun}
use Rattle.dpkg_session.specs.Touched.{Differs}
use Rattle.dpkg_session.specs.Units.{IsTakenUnit, IsUnitOf, IsUnpacked}
use Rattle.dpkg_session.specs.declared.report.Candidate.{Candidate}
use Rattle.kept_activations.specs.Commands.{IsTold, KeepsUntold}
use Rattle.kept_activations.specs.Pending.{IsPending, IsUnfinished}
use Rattle.kept_activations.proofs.Changing.{one_record}
use Rattle.kept_activations.proofs.Ours.{contains_any}
use Rattle.kept_activations.proofs.Passing.{other_name}

-- what some units tell, more do

pub told_left : (us vs : List AUnit) (owner : List ℕ) → IsTold us owner → IsTold (us ++ vs) owner
told_left us vs owner told =
    ap (λ (l : List (List ℕ)). is_among l owner) (flat_map-append names_touched us vs) ∙ list_any-append (bytes_eq owner) (names_told us) (names_told vs)
    ∙ or_left (is_among (names_told us) owner) (is_among (names_told vs) owner) told

pub told_right : (us vs : List AUnit) (owner : List ℕ) → IsTold vs owner → IsTold (us ++ vs) owner
told_right us vs owner told =
    ap (λ (l : List (List ℕ)). is_among l owner) (flat_map-append names_touched us vs) ∙ list_any-append (bytes_eq owner) (names_told us) (names_told vs)
    ∙ or_right (is_among (names_told us) owner) (is_among (names_told vs) owner) told

keeps_left : (us vs : List AUnit) (old new : List Record) → KeepsUntold us old new → KeepsUntold (us ++ vs) old new
keeps_left us vs old new keeps = λ owner trigger pending. by owner trigger (keeps owner trigger pending)
  where
    by : (owner trigger : List ℕ) → IsPending new owner trigger ⊎ IsTold us owner → IsPending new owner trigger ⊎ IsTold (us ++ vs) owner
    by owner trigger (inl still) = inl still
    by owner trigger (inr told) = inr (told_left us vs owner told)

keeps_right : (us vs : List AUnit) (old new : List Record) → KeepsUntold vs old new → KeepsUntold (us ++ vs) old new
keeps_right us vs old new keeps = λ owner trigger pending. by owner trigger (keeps owner trigger pending)
  where
    by : (owner trigger : List ℕ) → IsPending new owner trigger ⊎ IsTold vs owner → IsPending new owner trigger ⊎ IsTold (us ++ vs) owner
    by owner trigger (inl still) = inl still
    by owner trigger (inr told) = inr (told_right us vs owner told)

pub keeps_then : (us vs : List AUnit) (first mid last : List Record) → KeepsUntold us first mid → KeepsUntold vs mid last → KeepsUntold (us ++ vs) first last
keeps_then us vs first mid last one other = λ owner trigger pending. by owner trigger (one owner trigger pending)
  where
    by : (owner trigger : List ℕ) → IsPending mid owner trigger ⊎ IsTold us owner → IsPending last owner trigger ⊎ IsTold (us ++ vs) owner
    by owner trigger (inl still) = keeps_right us vs mid last other owner trigger still
    by owner trigger (inr told) = inr (told_left us vs owner told)

keeps_same : (us : List AUnit) (before after : Held) → after ≡ before → KeepsUntold us before.records.records after.records.records
keeps_same us before after same = λ owner trigger pending. inl (subst (λ (h : Held). IsPending h.records.records owner trigger) (sym same) pending)

-- a unit that tells the one package whose record it changes

told_unit : (u : AUnit) (owner : List ℕ) → is_among (names_touched u) owner ≡ true → IsTold (u ∷ []) owner
told_unit u owner among = list_any-append (bytes_eq owner) (names_touched u) [] ∙ or_left (is_among (names_touched u) owner) false among

touched_one : (u : AUnit) (records : List Record) (name : List ℕ) → u.touched.items ≡ touched_at records name ∷ [] → is_among (names_touched u) name ≡ true
touched_one u records name are =
    ap (λ (ts : List Touched). is_among (map (λ (t : Touched). t.«package») ts) name) are ∙ or_left (bytes_eq name name) false ((bytes_eq-Decides name name).1 refl)

keeps_named : (name : List ℕ) (u : AUnit) (old new : List Record) → ((q : List ℕ) → q ≢ name → record_in new q ≡ record_in old q) → is_among (names_touched u) name ≡ true → KeepsUntold (u ∷ []) old new
keeps_named name u old new others told = λ owner trigger pending. by owner trigger pending (bytes_eq name owner) refl
  where
    by : (owner trigger : List ℕ) → IsPending old owner trigger → (b : Bool) → bytes_eq name owner ≡ b → IsPending new owner trigger ⊎ IsTold (u ∷ []) owner
    by owner trigger pending true e = inr (told_unit u owner (subst (λ (n : List ℕ). is_among (names_touched u) n ≡ true) ((bytes_eq-Decides name owner).0 e) told))
    by owner trigger pending false e = inl (record { entry = pending.entry; found = others owner (other_name name owner e) ∙ pending.found; installed = pending.installed; named = pending.named })

-- turn after turn
turns_keep : {L : Type 0} (turn : L → Held → AUnit → L → Held → State → State → Type 0) → ((q : L) (before : Held) (u : AUnit) (later : L) (after : Held) (s t : State) → turn q before u later after s t → KeepsUntold (u ∷ []) before.records.records after.records.records)
    → (start : L) (before : Held) (s : State) (us : List AUnit) (q : L) (after : Held) (t : State) → TurnsTo turn start before s us q after t → KeepsUntold us before.records.records after.records.records
turns_keep turn each start before s us q after t TurnsTo.begun = λ owner trigger pending. inl pending
turns_keep turn each start before s us q after t (TurnsTo.turned first u mid_q later mid end m last come one) =
    keeps_then first (u ∷ []) before.records.records mid.records.records after.records.records (turns_keep turn each start before s first mid_q mid m come) (each mid_q mid u q after m t one)

-- configuring

configured_for : (policy : ConfPolicy) (name : List ℕ) (before after : Held) (u : AUnit) (s t : State) → configuring.IsUnitFor policy name before after u s t → KeepsUntold (u ∷ []) before.records.records after.records.records
configured_for policy name before after u s t (configuring.IsUnitFor.obstructed path has refused) = keeps_same (u ∷ []) before after refused.held
configured_for policy name before after u s t (configuring.IsUnitFor.configured looked reads silent clear is) =
    keeps_named name u before.records.records after.records.records is.ended.others (touched_one u after.records.records name is.answers.touched)

configured_unit : (policy : ConfPolicy) (packages : List Package) (p : Package) (before after : Held) (u : AUnit) (s t : State) → configuring.IsUnit policy packages p before after u s t → KeepsUntold (u ∷ []) before.records.records after.records.records
configured_unit policy packages p before after u s t (configuring.IsUnit.broken y first refused) = keeps_same (u ∷ []) before after refused.held
configured_unit policy packages p before after u s t (configuring.IsUnit.unbroken none is) = configured_for policy p.name before after u s t is

pub configured_keep : (names : List (List ℕ)) (options : ConfigureOptions) (us : List AUnit) (before after : Held) (s t : State) → IsConfigureRun names options us before after s t → KeepsUntold us before.records.records after.records.records
configured_keep names options us before after s t run =
    let turned = run.turns.turned in
    let left = run.turns.left_over in
    let keeps = turns_keep (configuring.IsTurn options run.silent) (λ q h u later g m n turn. configured_unit options.policy q.packages turn.p h g u m n turn.is) run.start before run.looked turned.turned run.turns.q after t turned.come in
    subst (λ (vs : List AUnit). KeepsUntold vs before.records.records after.records.records) (sym left.grown)
    (keeps_left run.turns.front left.more before.records.records after.records.records
    (subst (λ (vs : List AUnit). KeepsUntold vs before.records.records after.records.records) (sym turned.are) (keeps_right run.first turned.turned before.records.records after.records.records keeps)))

-- removals

pub removed_keep : (names : List (List ℕ)) (options : RemovalOptions) (us : List AUnit) (before after : Held) (s t : State) → IsRemovalRun names options us before after s t → KeepsUntold us before.records.records after.records.records
removed_keep names options us before after s t run =
    let runs = run.runs in
    let keeps = turns_keep (removing.IsTurn options runs.packages) (λ q h u later g m n turn. keeps_named turn.name u h.records.records g.records.records turn.others (touched_one u g.records.records turn.name turn.is.is.answers.touched))
    (waiting_for options.extents names before) before s runs.removed runs.waiting after t runs.turns in
    subst (λ (vs : List AUnit). KeepsUntold vs before.records.records after.records.records) (sym runs.units)
    (keeps_right run.refused (runs.removed ++ runs.left) before.records.records after.records.records (keeps_left runs.removed runs.left before.records.records after.records.records keeps))

-- unpacks

touched_names : (records : List Record) (names : List (List ℕ)) → map (λ (t : Touched). t.«package») (map (touched_at records) names) ≡ names
touched_names records [] = refl
touched_names records (name ∷ names) = ap (λ (l : List (List ℕ)). name ∷ l) (touched_names records names)

-- a record that can't differ has what the one before had
still_pending : (owner trigger : List ℕ) (old new : List Record) → (Differs old new owner → ⊥) → IsPending old owner trigger → IsPending new owner trigger
still_pending owner trigger old new same pending = by (record_in new owner) refl
  where
    no_record : (r : Record) → ◌≡◌ {A = Option Record} None (Some r) → ⊥
    no_record r e = cc e

    by_tests : (r : Record) → record_in new owner ≡ Some r → (a b : Bool) → is_installed r.state ≡ a → has_name (pending_text r.triggers.pending) trigger ≡ b → IsPending new owner trigger
    by_tests r found true true installed named = record { entry = r; found = found; installed = installed; named = named }
    by_tests r found true false installed other =
        absurd (same (λ is. true≢false (sym pending.named ∙ ap (λ (x : Record). has_name (pending_text x.triggers.pending) trigger) (one_record pending.entry r (record_in new owner) (is ∙ pending.found) found) ∙ other)))
    by_tests r found false b less named =
        absurd (same (λ is. true≢false (sym pending.installed ∙ ap (λ (x : Record). is_installed x.state) (one_record pending.entry r (record_in new owner) (is ∙ pending.found) found) ∙ less)))

    by : (o : Option Record) → record_in new owner ≡ o → IsPending new owner trigger
    by None none = absurd (same (λ is. no_record pending.entry (sym none ∙ is ∙ pending.found)))
    by (Some r) found = by_tests r found (is_installed r.state) (has_name (pending_text r.triggers.pending) trigger) refl refl

unpacked_unit : (p : Tree) (beside : Beside) (before after : Held) (u : AUnit) (s t : State) → IsUnpacked p beside before after u s t → KeepsUntold (u ∷ []) before.records.records after.records.records
unpacked_unit p beside before after u s t is = λ owner trigger pending. by owner trigger pending (is_among is.names owner) refl
  where
    told_names : names_touched u ≡ is.names
    told_names = ap (map (λ (x : Touched). x.«package»)) is.answers.touched ∙ touched_names after.records.records is.names

    by : (owner trigger : List ℕ) → IsPending before.records.records owner trigger → (b : Bool) → is_among is.names owner ≡ b → IsPending after.records.records owner trigger ⊎ IsTold (u ∷ []) owner
    by owner trigger pending true e = inr (told_unit u owner (ap (λ (l : List (List ℕ)). is_among l owner) told_names ∙ e))
    by owner trigger pending false e =
        inl (still_pending owner trigger before.records.records after.records.records
        (λ differs. true≢false (sym (contains_any (bytes_eq owner) is.names owner ((is.changed.exact owner).1 (inr differs)) ((bytes_eq-Decides owner owner).1 refl)) ∙ e)) pending)

unpacked_taken : (allowed : UnpackOptions) (name : List ℕ) (taken : Result Tree Rule) (before after : Held) (u : AUnit) (s t : State) → IsTakenUnit allowed name taken before after u s t → KeepsUntold (u ∷ []) before.records.records after.records.records
unpacked_taken allowed name (Err rule) before after u s t unit = keeps_same (u ∷ []) before after unit.held
unpacked_taken allowed name (Ok p) before after u s t (Refused rule, decided, unit) = keeps_same (u ∷ []) before after unit.held
unpacked_taken allowed name (Ok p) before after u s t (Planned beside, decided, unit) = unpacked_unit p beside before after u s t unit

unpacked_one : (allowed : UnpackOptions) (label : List ℕ) (tree : Result Tree TreeFault) (before after : Held) (u : AUnit) (s t : State) → IsUnitOf allowed label tree before after u s t → KeepsUntold (u ∷ []) before.records.records after.records.records
unpacked_one allowed label (Err fault) before after u s t unit = keeps_same (u ∷ []) before after unit.held
unpacked_one allowed label (Ok p) before after u s t (ways, read, (overrides, are, unit)) = unpacked_taken allowed p.name (taken_with overrides p) (with_ways before ways) after u s t unit

pub unpacked_keep : (allowed : UnpackOptions) (cs : List Candidate) (us : List AUnit) (before after : Held) (s t : State) → IsRun allowed cs us before after s t → KeepsUntold us before.records.records after.records.records
unpacked_keep allowed [] [] before after s t run = keeps_same [] before after run.1
unpacked_keep allowed [] (u ∷ us) before after s t run = absurd run
unpacked_keep allowed (c ∷ cs) [] before after s t run = absurd run
unpacked_keep allowed (c ∷ cs) (u ∷ us) before after s t (m, mid, unit, rest) =
    keeps_then (u ∷ []) us before.records.records mid.records.records after.records.records (unpacked_one allowed c.label c.tree before mid u s m unit.is) (unpacked_keep allowed cs us mid after m t rest)

pub installed_keep : (allowed : UnpackOptions) (cs : List Candidate) (options : ConfigureOptions) (unpacked configured : List AUnit) (before after : Held) (s t : State) → IsInstall allowed cs options unpacked configured before after s t
    → KeepsUntold (unpacked ++ configured) before.records.records after.records.records
installed_keep allowed cs options unpacked configured before after s t is =
    let behind = is.configures in
    keeps_then unpacked configured before.records.records is.mid.records.records after.records.records (unpacked_keep allowed cs unpacked before is.mid s is.m is.unpacks)
    (configured_keep (packages_done cs unpacked) options configured (with_ways is.mid behind.0) after behind.1 t behind.3)

-- that is what is assumed of units
pub keeps_leaves : (us : List AUnit) (old new : List Record) → KeepsUntold us old new → (owner trigger : List ℕ) → IsPending old owner trigger → IsPending new owner trigger ⊎ (IsTold us owner ⊎ IsUnfinished new owner)
keeps_leaves us old new keeps owner trigger pending = by (keeps owner trigger pending)
  where
    by : IsPending new owner trigger ⊎ IsTold us owner → IsPending new owner trigger ⊎ (IsTold us owner ⊎ IsUnfinished new owner)
    by (inl still) = inl still
    by (inr told) = inr (inl told)
