-- Aliases that are read before a unit: path by path there are more, and what was only looked at is no part of what the unit does.
use Rattle.std.specs.Prelude.{IsTrue}
use Rattle.std.proofs.Common.{◌≡◌, ◌⊎◌, ◌+◌, ◌<◌, inl, inr, ℕ, Bool, true, List, [], ◌∷◌, ◌++◌, Option, Result, Ok, Err, get_or, length, map, take, refl, sym, ap, subst, ◌∙◌, arith}
use Rattle.std.proofs.lemmas.List.{append-nil, take_more}
use Rattle.aliases.specs.Aliases.{Alias}
use Rattle.aliases.specs.Reading.{AreAliasesIn, Grows, IsWhole}
use Rattle.diversions.specs.Diverted.{Diverted}
use Rattle.file_lists.specs.Followed.{AreWhole, GrowAlong, HasMoreAliases}
use Rattle.file_lists.specs.declared.paths.PackageList.{PackageList}
use Rattle.host_core.specs.Events.{Event, Did, Finished, Cut, Failed, Denied, faults_of, follow_all}
use Rattle.diversions.specs.Changes.{HasAdded, HasRemoved}
use Rattle.diversions.specs.Refusals.{add_answer, remove_answer}
use Rattle.diversions.specs.Ways.{Ways}
use Rattle.diversions.specs.declared.refusal.Answer.{Answer}
use Rattle.diversions.specs.declared.refusal.Answer.TheVariants as answered
use Rattle.diversions.specs.declared.refusal.Seen.{Seen}
use Rattle.unpack_relations.specs.declared.options.UnpackOptions.{UnpackOptions}
use Rattle.dpkg_session.specs.Diversions.{IsDiverted, IsFlushed, IsUndiverted, LeavesAnswer, asked_entry}
use Rattle.dpkg_session.specs.declared.asked.Diverting.{Diverting}
use Rattle.dpkg_session.specs.declared.asked.Undiverting.{Undiverting}
use Rattle.host_core.specs.Host.{AllFailed, AtEachMoment, AtEachMomentOf, NoFault, Reads, Silent, State, Throughout}
use Rattle.host_core.specs.Loss.{IsAnswered}
use Rattle.host_core.specs.Paths.{Path}
use Rattle.host_core.specs.World.{World}
use Rattle.host_core.specs.declared.call.Call.{Call}
use Rattle.host_core.proofs.Counted.{faults_of-append}
use Rattle.host_core.proofs.Moments.{reads_then, silent_then, since_reads, since_weaker_if}
use Rattle.package_tree.specs.declared.package.Package.{Package}
use Rattle.stat_overrides.specs.Overrides.{overrides_of}
use Rattle.stat_overrides.specs.declared.table.Overrides.{Overrides}
use Rattle.status_db.specs.Recorded.{Recorded}
use Rattle.undo_rows.specs.Ended.{ended_as}
use Rattle.undo_rows.specs.declared.rows.Called.{Called}
use Rattle.undo_rows.specs.declared.unwinding.Unwinding.{Unwinding}
use Rattle.unit_reports.specs.Held.{Held}
use Rattle.unit_reports.specs.Units.{HasNoCalls}
use Rattle.unit_reports.specs.declared.refusal.Rule.{Rule}
use Rattle.unit_reports.specs.declared.report.Unit.{Unit as AUnit}
use Rattle.unpack_relations.specs.declared.beside.Beside.{Beside}
use Rattle.unpack_relations.specs.declared.checking.Checked.{Checked}
use Rattle.unpack_relations.specs.declared.checking.Checked.TheVariants.{Planned, Refused}
use Rattle.dpkg_session.specs.Growth.{AreAdded, KeepsEntries, with_more}
use Rattle.dpkg_session.specs.Rereading.{HasRead, with_ways}
use Rattle.dpkg_session.specs.Overriding.{AreOverrides, taken_with}
use Rattle.dpkg_session.specs.Run.{IsAmidOverridden, IsAmidPackage, IsAmidTaken}
use Rattle.dpkg_session.specs.Units.{HasCalledBeside, HasCalledBy, HasCalledDecided, HasCalledOverridden, HasCalledPackage, HasCalledTaken, HasCalledWhole, HasUnpackedBeside, HasUnpackedWhole, HaveRows, IsOverriddenUnit, IsPackageUnit, IsTakenUnit, IsUnitBy, all_yielding, given_by}
use Rattle.unpack_engine.specs.Units.{IsTableIn}
use Rattle.dpkg_session.proofs.Looking.{called_from, failed_from, goes_from, none_failed, unpacked_from}

-- only aliases are more
pub more_keeps : (honest : Bool) (w : World) (old new : Diverted) → HasMoreAliases honest w old new → KeepsEntries old new
more_keeps honest w old new more = more.kept ∙ ap (λ (l : List Alias). record old { ways = record old.ways { aliases = l } }) (sym (ap (λ (d : Diverted). d.ways.aliases) more.kept))

-- once they were read above paths
pub added_along : (honest : Bool) (w : World) (paths : List Path) (old new : Diverted) → HasMoreAliases honest w old new → (IsTrue honest → GrowAlong w paths old.ways.aliases new.ways.aliases)
    → (IsTrue honest → AreAliasesIn w old.ways.aliases → AreWhole w paths new.ways.aliases) → (added : List Alias) × (new.ways ≡ with_more old.ways added) × (IsTrue honest → AreAdded w paths old.ways.aliases added)
added_along honest w paths old new more along whole =
    let grew : new.ways.aliases ≡ old.ways.aliases ++ more.added = ap (λ (d : Diverted). d.ways.aliases) more.kept in (
      more.added,
      ap (λ (d : Diverted). d.ways) more.kept,
      λ h. record {
        along = subst (λ (l : List Alias). GrowAlong w paths old.ways.aliases l) grew (along h);
        whole = λ each. subst (λ (l : List Alias). AreWhole w paths l) grew (whole h each);
      },
    )

-- as many as before are the same
none_more : (old added : List Alias) → length (old ++ added) ≡ length old → added ≡ []
none_more [] [] same = refl
none_more [] (a ∷ added) same = absurd (omega (arith, same))
none_more (a ∷ old) added same = none_more old added (omega (arith, same))

pub none_came : (honest : Bool) (w : World) (old new : Diverted) → HasMoreAliases honest w old new → length new.ways.aliases ≡ length old.ways.aliases → new ≡ old
none_came honest w old new more same =
    more.kept ∙ ap (λ (l : List Alias). record old { ways = record old.ways { aliases = old.ways.aliases ++ l } })
    (none_more old.ways.aliases more.added (sym (ap (λ (d : Diverted). length d.ways.aliases) more.kept) ∙ same))
    ∙ ap (λ (l : List Alias). record old { ways = record old.ways { aliases = l } }) (append-nil old.ways.aliases)

-- what was only looked at

no_failures : (es : List Event) → AllFailed es → faults_of es ≡ 0 → es ≡ []
no_failures [] all none = refl
no_failures (Did step ∷ es) all none = elim all [ ]
no_failures (Finished ran ∷ es) all none = elim all [ ]
no_failures (Cut call change ∷ es) all none = elim all [ ]
no_failures (Failed ∷ es) all none = absurd (omega (arith, none))
no_failures (Denied path ∷ es) all none = elim all [ ]

pub events_same : (s m : State) → Reads s m → NoFault s m → m.events ≡ s.events
events_same s m reads same =
    reads.events ∙ ap (λ (l : List Event). s.events ++ l) (no_failures reads.added reads.failed (omega (arith, ap faults_of reads.events, faults_of-append s.events reads.added, same.faults))) ∙ append-nil s.events

pub moments_from : (P : World → List Event → World → Type 0) (s m t : State) → Reads s m → NoFault s m → AtEachMomentOf P m t → AtEachMomentOf P s t
moments_from P s m t reads same since = record {
  added = since.added;
  events = since.events ∙ ap (λ (l : List Event). l ++ since.added) (events_same s m reads same);
  honest = λ h. reads.honest (since.honest h);
  world = since.world ∙ ap (follow_all since.added) reads.world;
  each = λ h. subst (λ (w : World). Throughout (P w) w since.added) reads.world (since.each h);
}

pub answered_from : (s m t : State) → Reads s m → IsAnswered m t → IsAnswered s t
answered_from s m t reads (inl disk) = inl disk
answered_from s m t reads (inr looked) = inr (reads_then s m t reads looked)

module _ (s m : State) (reads : Reads s m) (silent : Silent s m) where
  no_calls_from : (u : AUnit) (t : State) → HasNoCalls u m t → HasNoCalls u s t
  no_calls_from u t none = record { silent = silent_then s m t silent none.silent; told = none.told }

  beside_from : (p : Package) (beside : Beside) (h : Held) (late : Ways) (places : List Path) (unwinding : Option Unwinding) (after : Recorded) (lists : List PackageList) (t : State) (told now : List Called)
      → HasUnpackedBeside p beside h late places unwinding after lists m t told now → HasUnpackedBeside p beside h late places unwinding after lists s t told now
  beside_from p beside h late places unwinding after lists t told now is = record {
    others = is.others;
    have_rows = subst (λ (w : World). HaveRows p beside h.records.records w t.honest is.others) reads.world is.have_rows;
    unpacked = unpacked_from (given_by p h late is.others (all_yielding p beside h)) places s m reads silent t told now (ended_as unwinding) after lists is.unpacked;
    cause = failed_from (given_by p h late is.others (all_yielding p beside h)) places s m reads silent t unwinding is.cause;
    table = goes_from (given_by p h late is.others (all_yielding p beside h)) places s m reads silent t unwinding is.table;
    file = λ honest. subst (λ (w : World). (late ≡ h.ways) ⊎ IsTableIn w h.ways late) reads.world (is.file honest);
  }

  whole_from : (p : Package) (beside : Beside) (h : Held) (unwinding : Option Unwinding) (displaced : List (List ℕ)) (failed : Option Call) (after : Held) (t : State) (told now : List Called)
      → HasUnpackedWhole p beside h unwinding displaced failed after m t told now → HasUnpackedWhole p beside h unwinding displaced failed after s t told now
  whole_from p beside h unwinding displaced failed after t told now is = record {
    records = is.records;
    lists = is.lists;
    m = is.m;
    between = is.between;
    unpacked = beside_from p beside h _ _ unwinding is.records is.lists is.m told is.between is.unpacked;
    ready = is.ready;
    behind = is.behind;
  }

  unit_from : (p : Package) (decision : Checked) (h after : Held) (u : AUnit) (t : State) → IsUnitBy p decision h after u m t → IsUnitBy p decision h after u s t
  unit_from p (Refused rule) h after u t is = record { refused = is.refused; held = is.held; silent = silent_then s m t silent is.silent; world = λ honest. is.world honest ∙ reads.world }
  unit_from p (Planned beside) h after u t is = record {
    unwinding = is.unwinding;
    displaced = is.displaced;
    failed = is.failed;
    names = is.names;
    unpacked = whole_from p beside h is.unwinding is.displaced is.failed after t [] u.calls.items is.unpacked;
    order = is.order;
    changed = is.changed;
    answers = is.answers;
    deconfigured = is.deconfigured;
  }

  called_whole_from : (p : Package) (beside : Beside) (h : Held) (t : State) (told now : List Called) → HasCalledWhole p beside h m t told now → HasCalledWhole p beside h s t told now
  called_whole_from p beside h t told now (inl (HasCalledBeside.looking quiet same)) = inl (HasCalledBeside.looking (silent_then s m t silent quiet) same)
  called_whole_from p beside h t told now (inl (HasCalledBeside.calling others rows called)) =
      inl (HasCalledBeside.calling others (subst (λ (w : World). HaveRows p beside h.records.records w t.honest others) reads.world rows) (called_from (given_by p h h.ways others (all_yielding p beside h)) [] s m reads silent t told now called))
  called_whole_from p beside h t told now (inr is) = inr (record {
    late = is.late;
    records = is.records;
    lists = is.lists;
    m = is.m;
    between = is.between;
    unpacked = beside_from p beside h is.late _ _ is.records is.lists is.m told is.between is.unpacked;
    called = is.called;
  })

  called_by_from : (p : Package) (decision : Checked) (h : Held) (u : AUnit) (t : State) → HasCalledBy p decision h u m t → HasCalledBy p decision h u s t
  called_by_from p (Refused rule) h u t none = no_calls_from u t none
  called_by_from p (Planned beside) h u t called = called_whole_from p beside h t [] u.calls.items called

  called_decided_from : (auto : UnpackOptions) (p : Package) (h : Held) (u : AUnit) (t : State) → HasCalledDecided auto p h u m t → HasCalledDecided auto p h u s t
  called_decided_from auto p h u t (inl none) = inl (no_calls_from u t none)
  called_decided_from auto p h u t (inr (decision, decided, called)) = inr (decision, decided, called_by_from p decision h u t called)

  -- by what the overrides make of a package

  taken_unit_from : (auto : UnpackOptions) (name : List ℕ) (taken : Result Package Rule) (h after : Held) (u : AUnit) (t : State) → IsTakenUnit auto name taken h after u m t → IsTakenUnit auto name taken h after u s t
  taken_unit_from auto name (Err rule) h after u t is = record { refused = is.refused; held = is.held; silent = silent_then s m t silent is.silent; world = λ honest. is.world honest ∙ reads.world }
  taken_unit_from auto name (Ok q) h after u t (decision, decided, by) = (decision, decided, unit_from q decision h after u t by)

  called_taken_from : (auto : UnpackOptions) (taken : Result Package Rule) (h : Held) (u : AUnit) (t : State) → HasCalledTaken auto taken h u m t → HasCalledTaken auto taken h u s t
  called_taken_from auto (Err rule) h u t none = no_calls_from u t none
  called_taken_from auto (Ok q) h u t called = called_decided_from auto q h u t called

  overrides_from : (read : Result Overrides ℕ) (honest : Bool) → AreOverrides read m.world honest → AreOverrides read s.world honest
  overrides_from read honest are = λ h. subst (λ (w : World). read ≡ overrides_of w) reads.world (are h)

  overridden_unit_from : (auto : UnpackOptions) (p : Package) (h after : Held) (u : AUnit) (t : State) → IsOverriddenUnit auto p h after u m t → IsOverriddenUnit auto p h after u s t
  overridden_unit_from auto p h after u t (read, are, is) = (read, overrides_from read t.honest are, taken_unit_from auto p.name (taken_with read p) h after u t is)

  called_overridden_from : (auto : UnpackOptions) (p : Package) (h : Held) (u : AUnit) (t : State) → HasCalledOverridden auto p h u m t → HasCalledOverridden auto p h u s t
  called_overridden_from auto p h u t (inl none) = inl (no_calls_from u t none)
  called_overridden_from auto p h u t (inr (read, are, called)) = inr (read, overrides_from read t.honest are, called_taken_from auto (taken_with read p) h u t called)

  -- the unit of a package, once the overrides were read
  module _ (auto : UnpackOptions) (p : Package) (h : Held) (read : Result Overrides ℕ) (are : AreOverrides read s.world m.honest) (u : AUnit) (t : State) (falls : IsTrue t.honest → IsTrue m.honest) where
    pub overridden_unit : (after : Held) → IsTakenUnit auto p.name (taken_with read p) h after u m t → IsOverriddenUnit auto p h after u s t
    overridden_unit after is = (read, (λ yes. are (falls yes)), taken_unit_from auto p.name (taken_with read p) h after u t is)

    pub overridden_called : HasCalledTaken auto (taken_with read p) h u m t → HasCalledOverridden auto p h u s t
    overridden_called is = inr (read, (λ yes. are (falls yes)), called_taken_from auto (taken_with read p) h u t is)

    pub overridden_moments : NoFault s m → AtEachMomentOf (IsAmidTaken auto (taken_with read p) h) m t → AtEachMomentOf (IsAmidOverridden auto p h) s t
    overridden_moments counts since =
        since_weaker_if (IsAmidTaken auto (taken_with read p) h s.world) (IsAmidOverridden auto p h s.world) s t
        (λ yes so_far now amid. inr (read, (λ true_now. are (falls yes)), amid))
        (moments_from (IsAmidTaken auto (taken_with read p) h) s m t reads counts since)

  -- the unit of a package, once the table was read again, and the aliases above its paths
  module _ (auto : UnpackOptions) (p : Package) (before mid : Held) (ways : Ways) (same : mid ≡ with_ways before ways) (read : HasRead p before ways s.world m.honest) (u : AUnit) (t : State) (falls : IsTrue t.honest → IsTrue m.honest) where
    pub package_unit : (after : Held) → IsOverriddenUnit auto p mid after u m t → IsPackageUnit auto p before after u s t
    package_unit after is =
        (ways, (λ h. read (falls h)), overridden_unit_from auto p (with_ways before ways) after u t (subst (λ (h : Held). IsOverriddenUnit auto p h after u m t) same is))

    pub package_called : HasCalledOverridden auto p mid u m t → HasCalledPackage auto p before u s t
    package_called is = inr (ways, (λ h. read (falls h)), called_overridden_from auto p (with_ways before ways) u t (subst (λ (h : Held). HasCalledOverridden auto p h u m t) same is))

    pub package_moments : NoFault s m → AtEachMomentOf (IsAmidOverridden auto p mid) m t → AtEachMomentOf (IsAmidPackage auto p before) s t
    package_moments counts since =
        since_weaker_if (IsAmidOverridden auto p (with_ways before ways) s.world) (IsAmidPackage auto p before s.world) s t
        (λ h so_far now amid. inr (ways, (λ yes. read (falls h)), amid))
        (moments_from (IsAmidOverridden auto p (with_ways before ways)) s m t reads counts (subst (λ (h : Held). AtEachMomentOf (IsAmidOverridden auto p h) m t) same since))

-- the moments of a change of the diversions, once the aliases above its paths were read
pub diverting_moments : (P : World → World → Type 0) (Q : World → World → Type 0) (s m t : State) → Reads s m → NoFault s m → (IsTrue t.honest → (now : World) → P s.world now → Q s.world now) → AtEachMoment P m t → AtEachMoment Q s t
diverting_moments P Q s m t reads counts so since = since_weaker_if _ _ s t (λ h so_far now is. so h now is) (moments_from (λ old so_far. P old) s m t reads counts since)

pub diverting_looked : (P : World → World → Type 0) (s m : State) → Reads s m → P s.world s.world → AtEachMoment P s m
diverting_looked P s m reads here = since_reads (λ so_far. P s.world) s m reads (λ es all. here)

-- an answer of a change, once it was looked

pub flushed_from : (answer : Answer) (s m t : State) → Reads s m → IsFlushed answer m t → IsFlushed answer s t
flushed_from answered.Done s m t reads disk = disk
flushed_from (answered.Refused refusal) s m t reads looked = reads_then s m t reads looked

left_from : (answer : Answer) (P : World → World → Type 0) (s m t : State) → m.world ≡ s.world → LeavesAnswer answer P m.world t.world → LeavesAnswer answer P s.world t.world
left_from answer P s m t same left = subst (λ (w : World). LeavesAnswer answer P w t.world) same left

pub diverted_from : (asked : Diverting) (seen : Seen) (before after : Ways) (u : AUnit) (s m t : State) → Reads s m → IsDiverted asked seen before after u m t → IsDiverted asked seen before after u s t
diverted_from asked seen before after u s m t reads is = record {
  answer = is.answer;
  shipped = is.shipped;
  unit = is.unit;
  first = λ h. subst (λ (w : World). is.answer ≡ add_answer w before (asked_entry asked) asked.rename seen) reads.world (is.first h);
  table = is.table;
  left = λ h. left_from is.answer (HasAdded before (asked_entry asked) asked.rename seen) s m t reads.world (is.left h);
  flushed = flushed_from is.answer s m t reads is.flushed;
}

pub undiverted_from : (asked : Undiverting) (before after : Ways) (u : AUnit) (s m t : State) → Reads s m → IsUndiverted asked before after u m t → IsUndiverted asked before after u s t
undiverted_from asked before after u s m t reads is = record {
  answer = is.answer;
  shipped = is.shipped;
  unit = is.unit;
  first = λ h. subst (λ (w : World). is.answer ≡ remove_answer w before asked.path asked.owner asked.rename) reads.world (is.first h);
  table = is.table;
  left = λ h. left_from is.answer (HasRemoved before asked.path asked.rename) s m t reads.world (is.left h);
  flushed = flushed_from is.answer s m t reads is.flushed;
}

-- it was broken off while it looked

pub looked_overridden : (auto : UnpackOptions) (p : Package) (before : Held) (s m : State) → Reads s m → AtEachMomentOf (IsAmidOverridden auto p before) s m
looked_overridden auto p before s m reads = since_reads (IsAmidOverridden auto p before s.world) s m reads (λ es all. inl (refl, none_failed es all))

pub looked_moments : (auto : UnpackOptions) (p : Package) (before : Held) (s m : State) → Reads s m → AtEachMomentOf (IsAmidPackage auto p before) s m
looked_moments auto p before s m reads = since_reads (IsAmidPackage auto p before s.world) s m reads (λ es all. inl (refl, none_failed es all))
