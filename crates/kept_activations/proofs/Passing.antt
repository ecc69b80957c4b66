-- What is pending through the turns in which triggers are processed.
use Rattle.std.proofs.Common.{◌≡◌, ◌≢◌, ◌⊎◌, inl, inr, ℕ, Bool, true, false, List, [], ◌∷◌, ◌++◌, Option, None, Some, IsTrue, refl, sym, ap, subst, ◌∙◌}
use Rattle.std.specs.Prelude.{IsSome, is_some}
use Rattle.std.specs.Str.{bytes_eq}
use Rattle.std.proofs.lemmas.Bool.{true≢false}
use Rattle.std.proofs.lemmas.Slice.Eq.{bytes_eq-Decides}
use Rattle.host_core.specs.Host.{State}
use Rattle.record_changes.specs.Turns as changes
use Rattle.record_changes.specs.declared.change.RecordChange.{RecordChange}
use Rattle.status_records.specs.Records.{record_in}
use Rattle.status_records.specs.Words.{is_installed}
use Rattle.status_records.specs.declared.record.Record.{Record}
use Rattle.trigger_chains.specs.declared.wishes.Wish.{Wish}
use Rattle.trigger_run.specs.Names.{once}
use Rattle.trigger_run.specs.Turns as processing
use Rattle.trigger_run.specs.Units.{IsUnitOf, RunsProcessing}
use Rattle.dpkg_session.specs.Rereading.{with_ways}
use Rattle.unit_reports.specs.Held.{Held}
use Rattle.unit_reports.specs.declared.report.Report.{Report}
use Rattle.unit_reports.specs.declared.report.Unit.{Unit as AUnit}
use Rattle.unit_runs.specs.Turns.{TurnsTo}
use Rattle.trigger_turns.specs.Settled.{HasProcessedPending, HasSettled}
use Rattle.trigger_turns.specs.Turns.{AreTurned, HasChanged, HasProcessedNamed, HasTurned, IsQuiet, IsTurn}
use Rattle.kept_activations.specs.Pending.{IsPending, IsUnfinished}
use Rattle.kept_activations.specs.Processing.{IsKept, IsProcessed}
use Rattle.kept_activations.proofs.Changing.{one_record, pending_through, unfinished_through}

-- from what is held, and a state, to others, by these units
pub record Passes (us : List AUnit) (before after : Held) (s t : State) : Type 0 where
  pub kept : (owner trigger : List ℕ) → IsPending before.records.records owner trigger → IsKept after.records.records us owner trigger
  pub unfinished : (owner : List ℕ) → IsUnfinished before.records.records owner → IsUnfinished after.records.records owner
  pub falls : IsTrue t.honest → IsTrue s.honest

pub processed_left : (us vs : List AUnit) (owner trigger : List ℕ) → IsProcessed us owner trigger → IsProcessed (us ++ vs) owner trigger
processed_left [] vs owner trigger is = absurd is
processed_left (u ∷ us) vs owner trigger (inl is) = inl is
processed_left (u ∷ us) vs owner trigger (inr is) = inr (processed_left us vs owner trigger is)

pub processed_right : (us vs : List AUnit) (owner trigger : List ℕ) → IsProcessed vs owner trigger → IsProcessed (us ++ vs) owner trigger
processed_right [] vs owner trigger is = is
processed_right (u ∷ us) vs owner trigger is = inr (processed_right us vs owner trigger is)

kept_right : (us vs : List AUnit) (rs : List Record) (owner trigger : List ℕ) → IsKept rs vs owner trigger → IsKept rs (us ++ vs) owner trigger
kept_right us vs rs owner trigger (inl pending) = inl pending
kept_right us vs rs owner trigger (inr (inl is)) = inr (inl (processed_right us vs owner trigger is))
kept_right us vs rs owner trigger (inr (inr less)) = inr (inr less)

pub passes_here : (h : Held) (s : State) → Passes [] h h s s
passes_here h s = record { kept = λ owner trigger pending. inl pending; unfinished = λ owner less. less; falls = λ honest. honest }

pub passes_then : (us vs : List AUnit) (a b c : Held) (s m t : State) → Passes us a b s m → Passes vs b c m t → Passes (us ++ vs) a c s t
passes_then us vs a b c s m t first second = record {
  kept = λ owner trigger pending. by owner trigger (first.kept owner trigger pending);
  unfinished = λ owner less. second.unfinished owner (first.unfinished owner less);
  falls = λ honest. first.falls (second.falls honest);
}
  where
    by : (owner trigger : List ℕ) → IsKept b.records.records us owner trigger → IsKept c.records.records (us ++ vs) owner trigger
    by owner trigger (inl pending) = kept_right us vs c.records.records owner trigger (second.kept owner trigger pending)
    by owner trigger (inr (inl is)) = inr (inl (processed_left us vs owner trigger is))
    by owner trigger (inr (inr less)) = inr (inr (second.unfinished owner less))

-- it was only looked at before, or behind
pub passes_from : (us : List AUnit) (a b : Held) (s m t : State) → (IsTrue m.honest → IsTrue s.honest) → Passes us a b m t → Passes us a b s t
passes_from us a b s m t falls passes = record { kept = passes.kept; unfinished = passes.unfinished; falls = λ honest. falls (passes.falls honest) }

pub passes_to : (us : List AUnit) (a b : Held) (s m t : State) → Passes us a b s m → (IsTrue t.honest → IsTrue m.honest) → Passes us a b s t
passes_to us a b s m t passes falls = record { kept = passes.kept; unfinished = passes.unfinished; falls = λ honest. passes.falls (falls honest) }

-- changes of records

record Changes (before after : Held) : Type 0 where
  pending : (owner trigger : List ℕ) → IsPending before.records.records owner trigger → IsPending after.records.records owner trigger ⊎ IsUnfinished after.records.records owner
  unfinished : (owner : List ℕ) → IsUnfinished before.records.records owner → IsUnfinished after.records.records owner

changes_run : (start : List RecordChange) (before : Held) (s : State) (us : List AUnit) (q : List RecordChange) (after : Held) (t : State) → TurnsTo changes.IsTurn start before s us q after t → Changes before after
changes_run start before s us q after t TurnsTo.begun = record { pending = λ owner trigger pending. inl pending; unfinished = λ owner less. less }
changes_run start before s us q after t (TurnsTo.turned first u mid_q later mid end m last come turn) = more (changes_run start before s first mid_q mid m come)
  where
    more : Changes before mid → Changes before after
    more so_far = record {
      pending = λ owner trigger pending. by owner trigger (so_far.pending owner trigger pending);
      unfinished = λ owner less. unfinished_through turn.asked mid after u m t turn.is owner (so_far.unfinished owner less);
    }
      where
        by : (owner trigger : List ℕ) → IsPending mid.records.records owner trigger ⊎ IsUnfinished mid.records.records owner → IsPending after.records.records owner trigger ⊎ IsUnfinished after.records.records owner
        by owner trigger (inl pending) = pending_through turn.asked mid after u m t turn.is owner trigger pending
        by owner trigger (inr less) = inr (unfinished_through turn.asked mid after u m t turn.is owner less)

pub changed_passes : (asked : List RecordChange) (done : Report) (before after : Held) (s t : State) → HasChanged asked done before after s t → done.last ≡ None → (us : List AUnit) → Passes us before after s t
changed_passes asked done before after s t changed none us = record {
  kept = λ owner trigger pending. by owner trigger (run.pending owner trigger pending);
  unfinished = run.unfinished;
  falls = changed.any_moment.honest;
}
  where
    run : Changes before after
    run = changes_run asked before s done.units.items [] after t (changed.whole (ap is_some none))

    by : (owner trigger : List ℕ) → IsPending after.records.records owner trigger ⊎ IsUnfinished after.records.records owner → IsKept after.records.records us owner trigger
    by owner trigger (inl pending) = inl pending
    by owner trigger (inr less) = inr (inr less)

-- the unit of a package whose triggers are processed

record Processes (us : List AUnit) (before after : Held) : Type 0 where
  kept : (owner trigger : List ℕ) → IsPending before.records.records owner trigger → IsKept after.records.records us owner trigger
  unfinished : (owner : List ℕ) → IsUnfinished before.records.records owner → IsUnfinished after.records.records owner

pub other_name : (name owner : List ℕ) → bytes_eq name owner ≡ false → owner ≢ name
other_name name owner e = λ same. absurd (true≢false (sym ((bytes_eq-Decides name owner).1 (sym same)) ∙ e))

unit_processes : (name : List ℕ) (before after : Held) (u : AUnit) (s t : State) → IsUnitOf name before after u s t → Processes (u ∷ []) before after
unit_processes name before after u s t (IsUnitOf.passed_over let_be quiet same here) = record {
  kept = λ owner trigger pending. inl (subst (λ (h : Held). IsPending h.records.records owner trigger) (sym same) pending);
  unfinished = λ owner less. subst (λ (h : Held). IsUnfinished h.records.records owner) (sym same) less;
}
unit_processes name before after u s t (IsUnitOf.processed ready runs) = record {
  kept = λ owner trigger pending. kept_by owner trigger pending (bytes_eq name owner) refl;
  unfinished = λ owner less. less_by owner less (bytes_eq name owner) refl;
}
  where
    kept_by : (owner trigger : List ℕ) → IsPending before.records.records owner trigger → (b : Bool) → bytes_eq name owner ≡ b → IsKept after.records.records (u ∷ []) owner trigger
    kept_by owner trigger pending true e =
        let here = (bytes_eq-Decides name owner).0 e in
        inr (inl (inl (record { before = before; after = after; s = s; t = t; pending = pending; processed = subst (λ (n : List ℕ). RunsProcessing n before after u s t) here runs })))
    kept_by owner trigger pending false e =
        inl (record { entry = pending.entry; found = runs.is.ended.others owner (other_name name owner e) ∙ pending.found; installed = pending.installed; named = pending.named })

    no_less : (entry other : Record) (o : Option Record) → o ≡ Some entry → o ≡ Some other → is_installed entry.state ≡ true → is_installed other.state ≡ false → ⊥
    no_less entry other o first second installed less = true≢false (sym installed ∙ ap (λ (r : Record). is_installed r.state) (one_record entry other o first second) ∙ less)

    less_by : (owner : List ℕ) → IsUnfinished before.records.records owner → (b : Bool) → bytes_eq name owner ≡ b → IsUnfinished after.records.records owner
    less_by owner less true e =
        let here = (bytes_eq-Decides name owner).0 e in
        absurd (no_less ready.pending.entry less.entry (record_in before.records.records owner)
        (subst (λ (n : List ℕ). record_in before.records.records n ≡ Some ready.pending.entry) here ready.pending.found) less.found (ap is_installed ready.pending.state) less.less)
    less_by owner less false e = record { entry = less.entry; found = runs.is.ended.others owner (other_name name owner e) ∙ less.found; less = less.less }

processes_then : (us vs : List AUnit) (a b c : Held) → Processes us a b → Processes vs b c → Processes (us ++ vs) a c
processes_then us vs a b c first second = record {
  kept = λ owner trigger pending. by owner trigger (first.kept owner trigger pending);
  unfinished = λ owner less. second.unfinished owner (first.unfinished owner less);
}
  where
    by : (owner trigger : List ℕ) → IsKept b.records.records us owner trigger → IsKept c.records.records (us ++ vs) owner trigger
    by owner trigger (inl pending) = kept_right us vs c.records.records owner trigger (second.kept owner trigger pending)
    by owner trigger (inr (inl is)) = inr (inl (processed_left us vs owner trigger is))
    by owner trigger (inr (inr less)) = inr (inr (second.unfinished owner less))

processes_run : (start : List (List ℕ)) (before : Held) (s : State) (us : List AUnit) (q : List (List ℕ)) (after : Held) (t : State) → TurnsTo processing.IsTurn start before s us q after t → Processes us before after
processes_run start before s us q after t TurnsTo.begun = record { kept = λ owner trigger pending. inl pending; unfinished = λ owner less. less }
processes_run start before s us q after t (TurnsTo.turned first u mid_q later mid end m last come turn) =
    processes_then first (u ∷ []) before mid after (processes_run start before s first mid_q mid m come) (unit_processes turn.name mid after u m t turn.is)

pub named_passes : (names : List (List ℕ)) (done : Report) (before after : Held) (s t : State) → HasProcessedNamed names done before after s t → done.last ≡ None → Passes done.units.items before after s t
named_passes names done before after s t is none = record { kept = run.kept; unfinished = run.unfinished; falls = is.any_moment.honest }
  where
    run : Processes done.units.items before after
    run = (let whole = is.whole (ap is_some none) in let by = processes_run (once names) (with_ways before whole.0) whole.1 done.units.items [] after t whole.3 in record { kept = by.kept; unfinished = by.unfinished })

-- turns

quiet_falls : (takes : Bool) (h : Held) (s t : State) → IsQuiet takes h s t → IsTrue t.honest → IsTrue s.honest
quiet_falls true h s t looks honest = looks.reads.honest honest
quiet_falls false h s t here honest = subst (λ (x : State). IsTrue x.honest) here honest

turn_passes : (wishes : List Wish) (takes : Bool) (us : List AUnit) (later : List Wish) (still : Bool) (before after : Held) (s t : State) → IsTurn wishes takes us later still before after s t → Passes us before after s t
turn_passes wishes takes us later still before after s t (IsTurn.given_up name done given none are left on) = changed_passes _ done before after s t given.changed none us
turn_passes wishes takes us later still before after s t (IsTurn.alone name done m is none quiet are left on) =
    subst (λ (vs : List AUnit). Passes vs before after s t) (sym are)
    (passes_to done.units.items before after s m t (named_passes (name ∷ []) done before after s m is.processed none) (quiet_falls takes after m t quiet))
turn_passes wishes takes us later still before after s t (IsTurn.taken_in name done noted mid m noting is none on asked asked_none emptied are left) =
    subst (λ (vs : List AUnit). Passes vs before after s t) (sym are)
    (passes_then done.units.items noted.units.items before mid after s m t (named_passes (name ∷ []) done before mid s m is.processed none)
    (passes_to noted.units.items mid after m noting t
    (passes_from noted.units.items mid after m asked.looked noting asked.looks.reads.honest (changed_passes asked.changes noted mid after asked.looked noting asked.changed asked_none noted.units.items))
    emptied.any_moment.honest))

turned_passes : (wishes : List Wish) (takes : Bool) (before : Held) (s : State) (n : ℕ) (us : List AUnit) (later : List Wish) (still : Bool) (after : Held) (t : State) → AreTurned wishes takes before s n us later still after t → Passes us before after s t
turned_passes wishes takes before s n us later still after t AreTurned.begun = passes_here before s
turned_passes wishes takes before s n us later still after t (AreTurned.turned k first others mid more takes_on on between end m last so_far turn) =
    passes_then first others before between after s m t (turned_passes wishes takes before s k first mid takes_on between m so_far) (turn_passes mid takes_on others later still between after m t turn)

none_some : (u : AUnit) (o : Option AUnit) → o ≡ None → o ≡ Some u → ⊥
none_some u o none some = (let e : ◌≡◌ {A = Option AUnit} None (Some u) = sym none ∙ some in cc e)

has_turned_passes : (wishes : List Wish) (takes : Bool) (done : Report) (before after : Held) (s t : State) → HasTurned wishes takes done before after s t → done.last ≡ None → Passes done.units.items before after s t
has_turned_passes wishes takes done before after s t (HasTurned.over n later still turned bound last) none = turned_passes wishes takes before s n done.units.items later still after t turned
has_turned_passes wishes takes done before after s t (HasTurned.broken n us others mid takes_on between m u bound turned broken are last) none = absurd (none_some u done.last none last)

settled_passes : (us : List AUnit) (done : Report) (before after : Held) (s t : State) → HasSettled us done before after s t → done.last ≡ None → (vs : List AUnit) → Passes vs before after s t
settled_passes us done before after s t (HasSettled.noted noted changed are last) none vs = changed_passes _ noted before after s t changed (sym last ∙ none) vs
settled_passes us done before after s t (HasSettled.unnoted u blind are last) none vs = absurd (none_some u done.last none last)

settled_units : (us : List AUnit) (done : Report) (before after : Held) (s t : State) → HasSettled us done before after s t → done.last ≡ None → (vs : List AUnit) × (done.units.items ≡ us ++ vs)
settled_units us done before after s t (HasSettled.noted noted changed are last) none = (noted.units.items, are)
settled_units us done before after s t (HasSettled.unnoted u blind are last) none = absurd (none_some u done.last none last)

some_false : (o : Option AUnit) → IsSome o → o ≡ None → ⊥
some_false None is e = true≢false (sym is)
some_false (Some u) is e = cc e

pub pending_passes : (wishes : List Wish) (takes : Bool) (done : Report) (before after : Held) (s t : State) → HasProcessedPending wishes takes done before after s t → done.last ≡ None → Passes done.units.items before after s t
pending_passes wishes takes done before after s t (HasProcessedPending.broken turned some) none = absurd (some_false done.last some none)
pending_passes wishes takes done before after s t (HasProcessedPending.settled turned mid m is turned_none settled) none =
    let more = settled_units turned.units.items done mid after m t settled none in
    subst (λ (vs : List AUnit). Passes vs before after s t) (sym more.1)
    (passes_then turned.units.items more.0 before mid after s m t (has_turned_passes wishes takes turned before mid s m is turned_none) (settled_passes turned.units.items done mid after m t settled none more.0))
