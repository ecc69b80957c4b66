-- How far configuring is at each moment, conffile by conffile.
use Rattle.std.proofs.Common.{◌≡◌, ◌⊎◌, inl, inr, ℕ, zero, suc, false, List, [], ◌∷◌, ◌++◌, Option, Some, Contains, refl, sym, ap, subst, ◌∙◌, arith}
use Rattle.std.specs.List.{AllZip, list_any}
use Rattle.std.proofs.lemmas.Bool.{false_from_ne_true}
use Rattle.std.proofs.lemmas.List.Elements.{All-contains, Contains-append_cases, Contains-append_right}
use Rattle.host_core.specs.Paths.{Path, is_below_administration}
use Rattle.host_core.specs.World.{World, Change, changed}
use Rattle.host_core.specs.Events.{Event, IsDeniedIn, changes_of}
use Rattle.host_core.proofs.Scripts.{changed-append, changed_at, no_change}
use Rattle.host_core.specs.Suffixes.{suffix_text}
use Rattle.host_core.specs.declared.suffix.Suffix.TheVariants.{New, Old, Dist}
use Rattle.conffiles.specs.Settling.{AreSettled, AreSettling, ConffileFiles, HasSettled, IsBetween, IsDecided, IsFirstSettling, IsShippedAs, IsUntouched, files_at, is_conffile_name, is_name_of_some, settled_files}
use Rattle.conffiles.specs.declared.decisions.ConfPolicy.{ConfPolicy}
use Rattle.conffiles.specs.declared.decisions.Decision.{Decision}
use Rattle.conffiles.specs.declared.entries.Settled.{Settled}
use Rattle.diversions.specs.Ways.{Ways}
use Rattle.file_lists.specs.Owners.{paths_of}
use Rattle.status_records.specs.Conffiles.{recorded_digest}
use Rattle.status_db.specs.Held.{HasRecords}
use Rattle.status_db.specs.Recorded.{Recorded}
use Rattle.status_records.specs.Records.{put_record, record_in}
use Rattle.status_records.specs.declared.record.Record.{Record}
use Rattle.held_administration.specs.Order.{IsInOrder}
use Rattle.unit_stages.proofs.ConffileNames.{beside_outside, home_outside}
use Rattle.undo_rows.specs.declared.rows.Row.{Row}
use Rattle.removal_engine.specs.Stages.{Deed}
use Rattle.removal_engine.proofs.Deeds.{deeds_records}
use Rattle.removal_engine.proofs.Tables.{one_record, put_own}
use Rattle.configure_engine.specs.Decided.{AreDecided, IsDecidedOf, decided_paths}
use Rattle.configure_engine.specs.Settled.{settled}
use Rattle.configure_engine.specs.Stages.{half}
use Rattle.configure_engine.specs.Units.{Given, IsAmid, IsAmidUnit}
use Rattle.configure_engine.specs.Waiting.{going_paths, pending_digest, place_of, settling_paths, settling_places}
use Rattle.configure_engine.proofs.NothingSettled.{no_paths}
use Rattle.stop_laws.specs.Configuring.{AreOthersSame, IsAtStep, IsConffileAmid, IsConffileSettled, IsHalfRecord, IsScriptedElsewhere, IsSettledRecord, IsWaitingRecord, is_settling_name}
use Rattle.stop_laws.specs.Left.{IsRecorded}
use Rattle.stop_laws.proofs.ConfigureStages.{first_deeds, last_deeds, names_of_decided, stage_with, then_all, then_deeds}
use Rattle.stop_laws.proofs.Configures.{Never, amid_at, decisions_then, elsewhere_list, elsewhere_spare, elsewhere_unnoted, named, paths_then}
use Rattle.stop_laws.proofs.Moments.{All as AllDeeds, AllDone, Amid, AmidStages, Done, IsCalled, IsInside}
use Rattle.stop_laws.proofs.Noted.{stages_good}
use Rattle.stop_laws.proofs.Taken.{IsSet, Sets, all_done_keep, amid_keeps, stages_set}

-- changes one after another

elsewhere_then : (first second : Change) (u v w : World) → IsScriptedElsewhere first u v → IsScriptedElsewhere second v w → IsScriptedElsewhere (first ++ second) u w
elsewhere_then first second u v w before then q out =
    then q out ∙ changed_at second v (changed first u) q (before q out) ∙ ap (λ (x : World). x q) (sym (changed-append first second u))

abbrev IsSameElsewhere : World → World → Type 0
IsSameElsewhere v w = IsScriptedElsewhere [] v w

-- what is decided of a path

module _ (r : Record) (policy : ConfPolicy) (ways : Ways) (old : World) where
  decided_at : (paths : List Path) (list : List Settled) (x : Path) → AllZip (IsDecidedOf r policy ways old) paths list → Contains paths x → (e : Settled) × Contains list e × IsDecidedOf r policy ways old x e
  decided_at [] list x each has = absurd (omega (arith, has.1))
  decided_at (p ∷ ps) [] x each has = absurd each
  decided_at (p ∷ ps) (e ∷ es) x each (zero, lt, is) = (e, (zero, omega arith, refl), subst (λ (q : Path). IsDecidedOf r policy ways old q e) is each.0)
  decided_at (p ∷ ps) (e ∷ es) x each (suc k, lt, is) =
      let more = decided_at ps es x each.1 (k, omega (arith, lt), is) in
      (more.0, Contains-append_right (e ∷ []) es more.0 more.1, more.2)

-- the files of a conffile, where nothing but the administration is changed
same_files : (e : Settled) (v w : World) → IsSameElsewhere v w → files_at w e.path ≡ files_at v e.path
same_files e v w same = λ i. record { home = home i; shipped = shipped i; backup = backup i; dist = dist i }
  where
    home : w e.path ≡ v e.path
    home = same e.path (false_from_ne_true (is_below_administration e.path) (home_outside e.path e.ships))

    shipped : w (e.path ++ suffix_text New) ≡ v (e.path ++ suffix_text New)
    shipped = same (e.path ++ suffix_text New) (false_from_ne_true (is_below_administration (e.path ++ suffix_text New)) (beside_outside e.path e.ships New))

    backup : w (e.path ++ suffix_text Old) ≡ v (e.path ++ suffix_text Old)
    backup = same (e.path ++ suffix_text Old) (false_from_ne_true (is_below_administration (e.path ++ suffix_text Old)) (beside_outside e.path e.ships Old))

    dist : w (e.path ++ suffix_text Dist) ≡ v (e.path ++ suffix_text Dist)
    dist = same (e.path ++ suffix_text Dist) (false_from_ne_true (is_below_administration (e.path ++ suffix_text Dist)) (beside_outside e.path e.ships Dist))

-- one of a list that is being settled is on its way
settling_between : (list : List Settled) (v w : World) → AreSettling list v w → (e : Settled) → Contains list e → IsBetween (files_at v e.path) (settled_files e.decision (files_at v e.path)) (files_at w e.path)
settling_between list v w settling e has = elim (Contains-append_cases settling.front settling.back e (subst (λ (l : List Settled). Contains l e) settling.is has)) [
  | inl before ↦ inr (inr (inr (All-contains (HasSettled v w) settling.front e settling.settled before).files))
  | inr behind ↦ first settling.back settling.next behind
]
  where
    first : (back : List Settled) → IsFirstSettling v w back → Contains back e → IsBetween (files_at v e.path) (settled_files e.decision (files_at v e.path)) (files_at w e.path)
    first [] next there = absurd (omega (arith, there.1))
    first (b ∷ bs) next (zero, lt, is) = subst (λ (x : Settled). IsBetween (files_at v x.path) (settled_files x.decision (files_at v x.path)) (files_at w x.path)) is next.0.files
    first (b ∷ bs) next (suc k, lt, is) = inl (All-contains (IsUntouched v w) bs e next.1 (k, omega (arith, lt), is)).files

module _ (g : Given) (r : Record) (own_named : r.name ≡ g.name) (old : World) (decisions : List Settled) (paths : decided_paths decisions ≡ settling_places g.ways r) (each : AreDecided r g.policy g.ways old decisions) (declined : Path → Type 0) where
  -- of each path that is to be settled, by what is decided of it
  by_decided : (P : Path → Type 0) → ((x : Path) (e : Settled) → Contains decisions e → IsDecidedOf r g.policy g.ways old x e → P x) → (x : Path) → Contains (settling_paths g.ways r) x → P x
  by_decided P all x has =
      let one = decided_at r g.policy g.ways old (settling_paths g.ways r) decisions x each has in
      all x one.0 one.1 one.2

  decided_so : (x : Path) (e : Settled) → IsDecidedOf r g.policy g.ways old x e → IsDecided (recorded_digest r.conffiles x) (pending_digest r.pending x) g.policy (files_at old (place_of g.ways x)) e.decision
  decided_so x e is = subst (λ (p : Path). IsDecided (recorded_digest r.conffiles x) (pending_digest r.pending x) g.policy (files_at old p) e.decision) is.place is.decided

  amid_so : (now : World) (x : Path) (e : Settled) → IsDecidedOf r g.policy g.ways old x e → IsBetween (files_at old e.path) (settled_files e.decision (files_at old e.path)) (files_at now e.path) → IsConffileAmid g r old now x
  amid_so now x e is between = record {
    decision = e.decision;
    decided = decided_so x e is;
    between = subst (λ (p : Path). IsBetween (files_at old p) (settled_files e.decision (files_at old p)) (files_at now p)) is.place between;
  }

  abbrev EachAmid : World → Type 0
  EachAmid now = (x : Path) → Contains (settling_paths g.ways r) x → IsConffileAmid g r old now x

  abbrev EachSettled : World → Type 0
  EachSettled done = (x : Path) → Contains (settling_paths g.ways r) x → IsConffileSettled g r old done x

  untouched_each : (now : World) → IsSameElsewhere old now → EachAmid now
  untouched_each now same = by_decided (IsConffileAmid g r old now) (λ x e has is. amid_so now x e is (inl (same_files e old now same)))

  settling_each : (mid now : World) → IsSameElsewhere old mid → AreSettling decisions mid now → EachAmid now
  settling_each mid now same settling = by_decided (IsConffileAmid g r old now)
      (λ x e has is. amid_so now x e is (subst (λ (f : ConffileFiles). IsBetween f (settled_files e.decision f) (files_at now e.path)) (same_files e old mid same) (settling_between decisions mid now settling e has)))

  settled_files_at : (mid done : World) → IsSameElsewhere old mid → AreSettled decisions mid done → (e : Settled) → Contains decisions e → files_at done e.path ≡ settled_files e.decision (files_at old e.path)
  settled_files_at mid done same all e has = (All-contains (HasSettled mid done) decisions e all.each has).files ∙ ap (settled_files e.decision) (same_files e old mid same)

  settled_each : (mid done : World) → IsSameElsewhere old mid → AreSettled decisions mid done → EachSettled done
  settled_each mid done same all = by_decided (IsConffileSettled g r old done) (λ x e has is. record {
    decision = e.decision;
    decided = decided_so x e is;
    files = subst (λ (p : Path). files_at done p ≡ settled_files e.decision (files_at old p)) is.place (settled_files_at mid done same all e has);
  })

  behind_each : (mid done now : World) → IsSameElsewhere old mid → AreSettled decisions mid done → IsSameElsewhere done now → EachAmid now
  behind_each mid done now same all since =
      by_decided (IsConffileAmid g r old now) (λ x e has is. amid_so now x e is (inr (inr (inr (same_files e done now since ∙ settled_files_at mid done same all e has)))))

  no_name : (q : Path) → is_settling_name g.ways r q ≡ false → is_name_of_some decisions q ≡ false
  no_name q none = names_of_decided decisions q ∙ ap (λ (l : List Path). list_any (λ x. is_conffile_name x q) l) paths ∙ none

  others_settling : (mid now : World) → IsSameElsewhere old mid → AreSettling decisions mid now → AreOthersSame g.ways r old now
  others_settling mid now same settling q out none = settling.rest q (no_name q none) ∙ same q out

  others_settled : (mid done : World) → IsSameElsewhere old mid → AreSettled decisions mid done → AreOthersSame g.ways r old done
  others_settled mid done same has q out none = has.rest q (no_name q none) ∙ same q out

  -- records

  recorded_by : (P : Option Record → Type 0) (rs : List Record) (now : World) → HasRecords now rs → P (record_in rs g.name) → IsRecorded g.name P now
  recorded_by P rs now has own = record { table = rs; records = has; own = own }

  noted_same : (c : Record) (rs : List Record) (v w : World) → Done g.name declined (Deed.Notes c) rs v w → IsSameElsewhere v w
  noted_same c rs v w done q out = done.rest q (elsewhere_unnoted q out)

  module _ (rs : List Record) (found : record_in rs g.name ≡ Some r) where
    abbrev halved : List Record
    halved = put_record (half r) rs

    own_halved : IsHalfRecord r (record_in halved g.name)
    own_halved = put_own (half r) rs g.name own_named

    own_settled : IsSettledRecord g.ways r (record_in (put_record (half (settled r)) halved) g.name)
    own_settled = IsSettledRecord.settled_half (put_own (half (settled r)) halved g.name own_named)

    abbrev AtStep : Change → World → Type 0
    AtStep change now = IsAtStep g r old change now

    -- before anything is settled
    note_amid : (now : World) → Amid g.name declined (Deed.Notes (half r) ∷ []) rs old now → AtStep [] now
    note_amid now (inl here) = IsAtStep.waiting refl (elim here.records [
      | inl before ↦ recorded_by (IsWaitingRecord r) rs now before (inl found)
      | inr after ↦ recorded_by (IsWaitingRecord r) halved now after (inr own_halved)
    ]) (λ q out. here.may.rest q (elsewhere_unnoted q out))
    note_amid now (inr behind) =
        IsAtStep.waiting refl (recorded_by (IsWaitingRecord r) halved now behind.further.records (inr own_halved)) (λ q out. ap (λ (x : World). x q) behind.further.same ∙ behind.done.rest q (elsewhere_unnoted q out))

    -- what follows the conffiles

    then_outside : (q : Path) → is_below_administration q ≡ false → AllDeeds (Sets g.name q Never) (then_deeds r (paths_of g.before.lists g.name) (going_paths r))
    then_outside q out =
        then_all (Sets g.name q Never) r (paths_of g.before.lists g.name) ((λ e. elsewhere_spare q out g.name e), λ e. elsewhere_list q out g.name e) (elsewhere_unnoted q out)

    kept_or_never : (v w : World) (q : Path) → (w q ≡ v q) ⊎ ⊥ → w q ≡ v q
    kept_or_never v w q (inl same) = same
    kept_or_never v w q (inr none) = absurd none

    then_same : (v w : World) → Amid g.name declined (then_deeds r (paths_of g.before.lists g.name) (going_paths r)) halved v w → IsSameElsewhere v w
    then_same v w amid q out = kept_or_never v w q (amid_keeps g.name q Never declined (then_deeds r (paths_of g.before.lists g.name) (going_paths r)) halved v w (then_outside q out) amid)

    done_same : (v w : World) → AllDone g.name declined (then_deeds r (paths_of g.before.lists g.name) (going_paths r)) halved v w → IsSameElsewhere v w
    done_same v w done q out = kept_or_never v w q (all_done_keep g.name q Never declined (then_deeds r (paths_of g.before.lists g.name) (going_paths r)) halved v w (then_outside q out) done)

    abbrev Either : World → Type 0
    Either now = HasRecords now halved ⊎ HasRecords now (put_record (half (settled r)) halved)

    last_note : (v now : World) → Amid g.name declined (Deed.Notes (half (settled r)) ∷ []) halved v now → Either now
    last_note v now (inl here) = here.records
    last_note v now (inr behind) = inr behind.further.records

    then_records : (had going : List Path) (v now : World) → Amid g.name declined (then_deeds r had going) halved v now → Either now
    then_records had [] v now amid = last_note v now amid
    then_records had (q ∷ going) v now (inl here) = elim here.records [ inl is ↦ inl is | inr is ↦ inl is ]
    then_records had (q ∷ going) v now (inr behind) = last_note behind.mid now behind.further

    then_table : (had going : List Path) → deeds_records g.name (then_deeds r had going) halved ≡ put_record (half (settled r)) halved
    then_table had [] = refl
    then_table had (q ∷ going) = refl

    -- conffiles, and what follows them
    settling_amid : (mid now : World) → IsSameElsewhere old mid → Amid g.name declined (Deed.Settles decisions ∷ then_deeds r (paths_of g.before.lists g.name) (going_paths r)) halved mid now → AtStep [] now
    settling_amid mid now same (inl here) =
        IsAtStep.settling refl (elim here.records [ inl is ↦ recorded_by (IsHalfRecord r) halved now is own_halved | inr is ↦ recorded_by (IsHalfRecord r) halved now is own_halved ]) (settling_each mid now same here.may) (others_settling mid now same here.may)
    settling_amid mid now same (inr behind) =
        let since = then_same behind.mid now behind.further in
        elim (then_records (paths_of g.before.lists g.name) (going_paths r) behind.mid now behind.further) [
          | inl before ↦ IsAtStep.settling refl (recorded_by (IsHalfRecord r) halved now before own_halved) (behind_each mid behind.mid now same behind.done since) (λ q out none. since q out ∙ others_settled mid behind.mid same behind.done q out none)
          | inr after ↦ IsAtStep.settled_then (recorded_by (IsSettledRecord g.ways r) (put_record (half (settled r)) halved) now after own_settled) behind.mid (settled_each mid behind.mid same behind.done) (others_settled mid behind.mid same behind.done) since
        ]

    first_amid : (list : List Settled) → list ≡ decisions → (now : World) → Amid g.name declined (first_deeds r (paths_of g.before.lists g.name) list) rs old now → AtStep [] now
    first_amid [] is now amid = note_amid now amid
    first_amid (e ∷ es) is now (inl here) = note_amid now (inl here)
    first_amid (e ∷ es) is now (inr behind) =
        settling_amid behind.mid now (noted_same (half r) rs old behind.mid behind.done)
        (subst (λ (l : List Settled). Amid g.name declined (Deed.Settles l ∷ then_deeds r (paths_of g.before.lists g.name) (going_paths r)) halved behind.mid now) is behind.further)

    -- all done before the call
    record IsReady (table : List Record) (ready : World) : Type 0 where
      done : World
      all : EachSettled done
      others : AreOthersSame g.ways r old done
      since : IsSameElsewhere done ready
      own : IsSettledRecord g.ways r (record_in table g.name)

    none_in : {X : Type 0} (x : Path) → [] ≡ decisions → Contains (settling_paths g.ways r) x → X
    none_in x is has =
        let one = decided_at r g.policy g.ways old (settling_paths g.ways r) decisions x each has in
        let none = subst (λ (l : List Settled). Contains l one.0) (sym is) one.1 in
        absurd (omega (arith, none.1))

    first_done : (list : List Settled) → list ≡ decisions → (ready : World) → AllDone g.name declined (first_deeds r (paths_of g.before.lists g.name) list) rs old ready → IsReady (deeds_records g.name (first_deeds r (paths_of g.before.lists g.name) list) rs) ready
    first_done [] is ready done = record {
      done = ready;
      all = λ x has. none_in x is has;
      others = λ q out none. ap (λ (w : World). w q) done.2 ∙ done.1.rest q (elsewhere_unnoted q out);
      since = λ q out. refl;
      own = IsSettledRecord.nothing (no_paths g.ways r (sym paths ∙ sym (ap decided_paths is))) own_halved;
    }
    first_done (e ∷ es) is ready done =
        let same = noted_same (half r) rs old done.0 done.1 in
        let settles = subst (λ (l : List Settled). AreSettled l done.0 done.2.0) is done.2.1 in
        record {
          done = done.2.0;
          all = settled_each done.0 done.2.0 same settles;
          others = others_settled done.0 done.2.0 same settles;
          since = done_same done.2.0 ready done.2.2;
          own = subst (λ (l : List Record). IsSettledRecord g.ways r (record_in l g.name)) (sym (then_table (paths_of g.before.lists g.name) (going_paths r))) own_settled;
        }

    abbrev first_table : List Record
    first_table = deeds_records g.name (first_deeds r (paths_of g.before.lists g.name) decisions) rs

    ready_step : (ready now : World) (change : Change) → IsReady first_table ready → IsRecorded g.name (IsSettledRecord g.ways r) now → IsScriptedElsewhere change ready now → AtStep change now
    ready_step ready now change is recorded then = IsAtStep.settled_then recorded is.done is.all is.others (elsewhere_then [] change is.done ready now is.since then)

    inside_step : (row : Row) (change : Change) (now : World) → IsInside g.name declined (stage_with (first_deeds r (paths_of g.before.lists g.name) decisions) row) rs old change now → AtStep change now
    inside_step row change now (IsInside.in_parts none amid) = subst (λ (c : Change). AtStep c now) (sym none) (first_amid decisions refl now amid)
    inside_step row change now (IsInside.in_calls ready done (IsCalled.on_calls same has)) =
        let is = first_done decisions refl ready done in
        ready_step ready now change is (recorded_by (IsSettledRecord g.ways r) first_table now has is.own) (λ q out. ap (λ (w : World). w q) same)
    inside_step row change now (IsInside.in_calls ready done (IsCalled.on_restore called same over)) =
        let is = first_done decisions refl ready done in
        ready_step ready now change is (recorded_by (IsSettledRecord g.ways r) first_table now over.records is.own) (λ q out. ap (λ (w : World). w q) (over.same ∙ same))

    -- behind the call
    last_same : (row : Row) (table : List Record) (start : World) (late : Change) (now : World) → AmidStages g.name declined (stage_with (last_deeds r) row ∷ []) table start late now → IsScriptedElsewhere late start now
    last_same row table start late now amid q out =
        by (stages_set g.name q Never declined (stage_with (last_deeds r) row ∷ []) table start late now (((elsewhere_unnoted q out, tt), tt), tt) amid)
      where
        by : IsSet g.name q Never late start now → now q ≡ changed late start q
        by (IsSet.stood is) = is
        by (IsSet.left early more are mid has is) = absurd has

    stages_step : (first second : Row) (change : Change) (now : World) → AmidStages g.name declined (stage_with (first_deeds r (paths_of g.before.lists g.name) decisions) first ∷ stage_with (last_deeds r) second ∷ []) rs old change now → AtStep change now
    stages_step first second change now (inl before) =
        IsAtStep.waiting before.none (recorded_by (IsWaitingRecord r) rs now before.records (inl found)) (λ q out. ap (λ (w : World). w q) before.same)
    stages_step first second change now (inr (inl inside)) = inside_step first change now inside
    stages_step first second change now (inr (inr passed)) =
        let is = first_done decisions refl passed.ready passed.done in
        let standing = stages_good g.name first_table (IsSettledRecord g.ways r) declined (stage_with (last_deeds r) second ∷ []) first_table (changed passed.early passed.ready) passed.late now ((((own_named, IsSettledRecord.installed refl), tt), tt), tt) (record { own = is.own; others = λ q other. refl }) passed.further in
        ready_step passed.ready now change is
        (record { table = standing.table; records = standing.records; own = standing.good.own })
        (subst (λ (c : Change). IsScriptedElsewhere c passed.ready now) (sym passed.changes)
        (elsewhere_then passed.early passed.late passed.ready (changed passed.early passed.ready) now (λ q out. refl) (last_same second first_table (changed passed.early passed.ready) passed.late now passed.further)))

  -- before the call each conffile is on its way, or at either end
  each_amid : (now : World) → IsAtStep g r old [] now → EachAmid now
  each_amid now (IsAtStep.waiting none is same) = untouched_each now same
  each_amid now (IsAtStep.settling none is all others) = all
  each_amid now (IsAtStep.settled_then is done all others since) = λ x has.
      let one = all x has in
      record {
        decision = one.decision;
        decided = one.decided;
        between = inr (inr (inr (by_decided (λ (y : Path). files_at now (place_of g.ways y) ≡ files_at done (place_of g.ways y))
            (λ y e there is. subst (λ (p : Path). files_at now p ≡ files_at done p) is.place (same_files e done now since)) x has
            ∙ one.files)));
      }

-- at each moment of a unit

module _ (g : Given) (r : Record) (found : record_in g.before.records g.name ≡ Some r) (old now : World) (so_far : List Event) where
  module _ (amid : IsAmid g old so_far now) where
    each_decided : AreDecided r g.policy g.ways old (decisions_then g r found old now so_far amid)
    each_decided = subst (λ (e : Record). AreDecided e g.policy g.ways old amid.plan.plan.decisions) (one_record amid.plan.entry r (sym amid.plan.found ∙ found)) (amid.plan.plan.decided refl)

    step_amid : IsAtStep g r old (changes_of so_far) now
    step_amid =
        stages_step g r (named g r found) old (decisions_then g r found old now so_far amid) (paths_then g r found old now so_far amid) each_decided (IsDeniedIn so_far) g.before.records found
        amid.plan.plan.stages_are.first.row amid.plan.plan.stages_are.second.row (changes_of so_far) now (amid_at g r found old now so_far amid)

    conffiles_amid : changes_of so_far ≡ [] → (x : Path) → Contains (settling_paths g.ways r) x → IsConffileAmid g r old now x
    conffiles_amid none =
        each_amid g r (named g r found) old (decisions_then g r found old now so_far amid) (paths_then g r found old now so_far amid) each_decided (IsDeniedIn so_far) now (subst (λ (c : Change). IsAtStep g r old c now) none step_amid)

  pub configure_steps : (d : Recorded) → IsInOrder d g.before.lists old → d.records ≡ g.before.records → IsAmidUnit g old so_far now → IsAtStep g r old (changes_of so_far) now
  configure_steps d order same (inl looks) =
      IsAtStep.waiting (no_change so_far looks.1)
      (record { table = g.before.records; records = subst (λ (w : World). HasRecords w g.before.records) (sym looks.0) (subst (HasRecords old) same order.kept.holds); own = inl found })
      (λ q out. ap (λ (w : World). w q) looks.0)
  configure_steps d order same (inr amid) = step_amid amid

  -- to decide and to settle again ends alike
  abbrev pub EndsAlike : Type 0
  EndsAlike = (recorded shipped : Option (List ℕ)) (policy : ConfPolicy) (before files : ConffileFiles) (first again : Decision) → IsShippedAs shipped before → IsDecided recorded shipped policy before first → IsBetween before (settled_files first before) files
      → IsDecided recorded shipped policy files again → settled_files again files ≡ settled_files first before

  pub configure_again : EndsAlike → (x : Path) (first again : Decision) → changes_of so_far ≡ [] → Contains (settling_paths g.ways r) x → IsShippedAs (pending_digest r.pending x) (files_at old (place_of g.ways x)) → IsDecided (recorded_digest r.conffiles x) (pending_digest r.pending x) g.policy (files_at old (place_of g.ways x)) first
      → IsDecided (recorded_digest r.conffiles x) (pending_digest r.pending x) g.policy (files_at now (place_of g.ways x)) again → IsAmidUnit g old so_far now → settled_files again (files_at now (place_of g.ways x)) ≡ settled_files first (files_at old (place_of g.ways x))
  configure_again alike x first again none has ship decided again_decided (inl looks) =
      alike (recorded_digest r.conffiles x) (pending_digest r.pending x) g.policy (files_at old (place_of g.ways x)) (files_at now (place_of g.ways x)) first again ship decided (inl (ap (λ (w : World). files_at w (place_of g.ways x)) looks.0)) again_decided
  configure_again alike x first again none has ship decided again_decided (inr amid) =
      let one = conffiles_amid amid none x has in
      alike (recorded_digest r.conffiles x) (pending_digest r.pending x) g.policy (files_at old (place_of g.ways x)) (files_at now (place_of g.ways x)) one.decision again ship one.decided one.between again_decided
      ∙ alike (recorded_digest r.conffiles x) (pending_digest r.pending x) g.policy (files_at old (place_of g.ways x)) (files_at old (place_of g.ways x)) first one.decision ship decided (inl refl) one.decided
