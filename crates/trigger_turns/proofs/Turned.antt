-- Triggers that are processed turn after turn.
use Rattle.std.proofs.Common.{map, ◌≡◌, ◌∙◌, ◌+◌, ◌<◌, ◌≤◌, ◌⊎◌, inl, inr, ℕ, zero-add, Bool, true, false, List, [], ◌∷◌, ◌++◌, Option, Some, None, Result, Ok, Err, ap, append-nil, append_assoc, arith, length, lit<, refl, subst, sym}
use Rattle.std.specs.Prelude.{◌==◌, IfErr, MatchOption, OnOk, is_some, option_map}
use Rattle.host_core.proofs.Moments.{reads_then, silent_then}
use Rattle.std.proofs.lemmas.Bool.{eqb-true}
use Rattle.std.proofs.lemmas.List.{length_push}
use Rattle.host_core.specs.Host.{Counts, State}
use Rattle.host_core.specs.Looks.{Looks}
use Rattle.host_core.specs.World.{World}
use Rattle.host_core.specs.declared.fault.HostFault.{HostFault}
use Rattle.host_core.specs.declared.fault.HostFault.TheVariants.{Device, NoMemory, Declined}
use Rattle.dpkg_session.specs.Activated.{change_by}
use Rattle.dpkg_session.specs.Rereading.{BehindReading, IsUnread}
use Rattle.record_changes.specs.Run as changing
use Rattle.record_changes.specs.Turns as changes
use Rattle.record_changes.specs.declared.change.RecordChange.{RecordChange}
use Rattle.status_records.specs.declared.record.Record.{Record}
use Rattle.trigger_chains.specs.Steps.{new_steps}
use Rattle.trigger_chains.specs.Wishes.{chain_behind, first_looped, first_package, mine, with_wishes, without}
use Rattle.trigger_chains.specs.declared.steps.Step.{Step}
use Rattle.trigger_chains.specs.declared.wishes.Wish.{Wish}
use Rattle.trigger_journal.specs.Asked.{asked_of}
use Rattle.trigger_journal.specs.Requests.{requests_of}
use Rattle.trigger_run.specs.Names.{once}
use Rattle.trigger_run.specs.Run as processing
use Rattle.trigger_run.specs.Turns as turns
use Rattle.unit_reports.specs.Held.{Held}
use Rattle.unit_reports.specs.Units.{breakage_of}
use Rattle.unit_reports.specs.declared.report.Report.{Report}
use Rattle.unit_reports.specs.declared.report.Unit.{Unit as AUnit}
use Rattle.unit_runs.specs.Turns.{TurnsTo}
use Rattle.trigger_turns.specs.Told.{AreTold, AreToldInTurns, HaveBeenTold}
use Rattle.trigger_turns.specs.Turns.{AddsAsked, AddsReport, AddsTurn, EndsWith, Follows, HasChanged, HasEmptied, HasProcessedTurn, IsAsked, IsBlind, IsBrokenBehind, AreTurned, HasTurned, IsBrokenTurn, IsFull, IsPrepared, IsSingle, IsTurn, IsCutOff, IsWay, NotesThose, RunsTurn, TakesIn, answered, giving_up, most_turns, pending_steps}
use Rattle.trigger_turns.specs.declared.wishing.Prepared.{Prepared}
use Rattle.trigger_turns.specs.declared.wishing.Way.{Way}
use Rattle.trigger_turns.specs.declared.wishing.Way.TheVariants as way
use Rattle.trigger_turns.proofs.Steps.{counts_then}

-- What was told

module _ {W : Type 0} (tells : W → AUnit → State → W → Type 0) where
  turns_then : (old mid new : W) (us vs : List AUnit) → AreToldInTurns tells old us mid → AreToldInTurns tells mid vs new → AreToldInTurns tells old (us ++ vs) new
  turns_then old mid new us vs first AreToldInTurns.nothing = subst (λ (l : List AUnit). AreToldInTurns tells old l mid) (sym (append-nil us)) first
  turns_then old mid new us vs first (AreToldInTurns.then ws others at end told last) =
      subst (λ (l : List AUnit). AreToldInTurns tells old l end) (append_assoc us ws others) (AreToldInTurns.then (us ++ ws) others at end (turns_then old mid at us ws first told) last)

  pub told_same : (us vs : List AUnit) (w : W) → vs ≡ us → HaveBeenTold tells us vs w w
  told_same us vs w same = record { more = []; grown = same ∙ sym (append-nil us); told = AreToldInTurns.nothing }

  pub told_once : (us vs others : List AUnit) (old new : W) → vs ≡ us ++ others → AreTold tells old others new → HaveBeenTold tells us vs old new
  told_once us vs others old new grown told = record { more = others; grown = grown; told = AreToldInTurns.then [] others old new AreToldInTurns.nothing told }

  pub told_then : (us vs ws : List AUnit) (old mid new : W) → HaveBeenTold tells us vs old mid → HaveBeenTold tells vs ws mid new → HaveBeenTold tells us ws old new
  told_then us vs ws old mid new first later = record {
    more = first.more ++ later.more;
    grown = later.grown ∙ ap (λ (l : List AUnit). l ++ later.more) first.grown ∙ append_assoc us first.more later.more;
    told = turns_then old mid new first.more later.more first.told later.told;
  }

  pub told_on : (us vs : List AUnit) (old mid new : W) → AreToldInTurns tells old us mid → HaveBeenTold tells us vs mid new → AreToldInTurns tells old vs new
  told_on us vs old mid new first later = subst (λ (l : List AUnit). AreToldInTurns tells old l new) (sym later.grown) (turns_then old mid new us later.more first later.told)

-- How many units there are

module _ {A : Type 0} (turn : List A → Held → AUnit → List A → Held → State → State → Type 0)
    (one : (q later : List A) (before after : Held) (u : AUnit) (s t : State) → turn q before u later after s t → length q ≡ length later + 1)
    (start : List A) (before : Held) (s : State) where
  turned_length : (us : List AUnit) (q : List A) (after : Held) (t : State) → TurnsTo turn start before s us q after t → length us + length q ≡ length start
  turned_length us q after t TurnsTo.begun = zero-add (length start)
  turned_length us q after t (TurnsTo.turned vs u p later mid end m x come is) =
      let rest = turned_length vs p mid m come in
      let fewer = one p later mid end u m x is in
      let more = length_push vs u in
      omega (arith, rest, fewer, more)

one_change : (q later : List RecordChange) (before after : Held) (u : AUnit) (s t : State) → changes.IsTurn q before u later after s t → length q ≡ length later + 1
one_change q later before after u s t is = let all = ap length is.first in omega (arith, all)

one_name : (q later : List (List ℕ)) (before after : Held) (u : AUnit) (s t : State) → turns.IsTurn q before u later after s t → length q ≡ length later + 1
one_name q later before after u s t is = let all = ap length is.first in omega (arith, all)

-- no more than changes
pub changes_short : (asked : List RecordChange) (us : List AUnit) (last : Option AUnit) (before : Held) (s t : State) → changing.HasRun asked us last before s t → length us ≤ length asked
changes_short asked us last before s t run =
    let all = turned_length changes.IsTurn one_change asked before s us run.left run.after run.end run.turns in
    omega (arith, all)

once_one : (names : List (List ℕ)) → length names ≡ 1 → length (once names) ≡ 1
once_one [] e = e
once_one (name ∷ []) e = refl
once_one (name ∷ other ∷ names) e = absurd (omega (arith, e))

-- at most one for one name
pub names_short : (names : List (List ℕ)) (us : List AUnit) (last : Option AUnit) (before : Held) (s end : State) → length names ≡ 1
    → IsUnread us last s end ⊎ BehindReading (λ h m. processing.HasRun names us last h m end) before s → length us ≤ 1
names_short names us last before s end one (inl unread) = let none = ap length unread.units in omega (arith, none)
names_short names us last before s end one (inr behind) =
    let run = behind.3 in
    let all = turned_length turns.IsTurn one_name (once names) _ behind.1 us run.left run.after run.end run.turns in
    let single = once_one names one in
    omega (arith, all, single)

-- Ends

pub ends_open : {T : Type 0} (r : Result T AUnit) (last : Option AUnit) (closed : Bool) → EndsWith r last → closed ≡ is_some last → OnOk r (closed ≡ false)
ends_open (Ok x) last closed ends is = is ∙ ap is_some ends
ends_open (Err u) last closed ends is = tt

-- a look in vain, as one for something else
pub counts_else : (T U : Type 0) (s t : State) (fault : HostFault) → Counts {T = T} s t (Err fault) → Counts {T = U} s t (Err fault)
counts_else T U s t Device counts = counts
counts_else T U s t NoMemory counts = counts
counts_else T U s t Declined counts = counts

pub looks_else : {T U : Type 0} (P : T → World → Type 0) (Q : U → World → Type 0) (s t : State) (fault : HostFault) → Looks {T = T} (Err fault) P s t → Looks {T = U} (Err fault) Q s t
looks_else {T} {U} P Q s t fault look = record { found = λ h. tt; reads = look.reads; silent = look.silent; counts = counts_else T U s t fault look.counts }

-- the same look, for what is to be known of what it found
pub looks_weaker : {T : Type 0} (x : T) (P Q : T → World → Type 0) (s t : State) → ((w : World) → P x w → Q x w) → Looks (Ok x) P s t → Looks (Ok x) Q s t
looks_weaker x P Q s t so look = record { found = λ h. so s.world (look.found h); reads = look.reads; silent = look.silent; counts = look.counts }

-- What the journal asks for

pub asked_then : {V A : Type 0} (items : V → List RecordChange) (records other : List Record) (v w : World) (found asked : List A) → other ≡ records → v ≡ w → found ≡ asked → (x : Option V) → MatchOption x (found ≡ []) (λ c. items c ≡ map change_by (asked_of v other []))
    → MatchOption x (asked ≡ []) (λ c. items c ≡ map change_by (asked_of w records []))
asked_then items records other v w found asked same is e None none = sym e ∙ none
asked_then items records other v w found asked same is e (Some c) all =
    all ∙ ap (λ (u : World). map change_by (asked_of u other [])) is ∙ ap (λ (rs : List Record). map change_by (asked_of w rs [])) same

pub asked_some_of : {V A : Type 0} (items : V → List RecordChange) (records : List Record) (found : List A) (w : World) (x : Option V) → MatchOption x ⊥ (λ c. items c ≡ map change_by (asked_of w records []))
    → MatchOption x (found ≡ []) (λ c. items c ≡ map change_by (asked_of w records []))
asked_some_of items records found w None none = absurd none
asked_some_of items records found w (Some c) all = all

-- nothing was looked at, since it is known
pub looks_known : {T : Type 0} (x : T) (P : T → World → Type 0) (s : State) → P x s.world → Looks (Ok x) P s s
looks_known x P s known = record {
  found = λ h. known;
  reads = record { honest = λ x. x; world = refl; added = []; failed = tt; events = sym (append-nil s.events) };
  silent = record { honest = λ x. x; scripts = refl };
  counts = record { faults = refl; denials = omega arith };
}

-- the same look, for what is to be known of what it found
pub looks_as_found : {T : Type 0} (r : Result T HostFault) (P Q : T → World → Type 0) (s t : State) → ((w : World) (x : T) → P x w → Q x w) → Looks r P s t → Looks r Q s t
looks_as_found (Ok x) P Q s t so look = record { found = λ h. so s.world x (look.found h); reads = look.reads; silent = look.silent; counts = look.counts }
looks_as_found (Err fault) P Q s t so look = record { found = λ h. tt; reads = look.reads; silent = look.silent; counts = look.counts }

-- a list without length
pub none_in : {A : Type 0} (l : List A) → (length l == 0) ≡ true → l ≡ []
none_in [] empty = refl
none_in (x ∷ l) empty = absurd (omega (arith, eqb-true (length (x ∷ l)) 0 empty))

-- no look was made behind another, for want of memory
pub blind_here : (u : AUnit) (h : Held) (s : State) → IsCutOff (breakage_of NoMemory) u → IsBlind u h h s s
blind_here u h s unbegun = record {
  fault = NoMemory;
  reads = record { honest = λ x. x; world = refl; added = []; failed = tt; events = sym (append-nil s.events) };
  silent = record { honest = λ x. x; scripts = refl };
  counts = record { faults = refl; denials = omega arith };
  unbegun = unbegun;
  held = refl;
}

pub blind_as : {T : Type 0} (P : T → World → Type 0) (u : AUnit) (before after : Held) (s t : State) (fault : HostFault) → Looks {T = T} (Err fault) P s t → IsCutOff (breakage_of fault) u → after ≡ before → IsBlind u before after s t
blind_as {T} P u before after s t fault look unbegun held = record {
  fault = fault;
  reads = look.reads;
  silent = look.silent;
  counts = counts_else T (Unit {0}) s t fault look.counts;
  unbegun = unbegun;
  held = held;
}

blind_then : {T : Type 0} (x : T) (P : T → World → Type 0) (u : AUnit) (before after : Held) (s m t : State) → Looks (Ok x) P s m → IsBlind u before after m t → IsBlind u before after s t
blind_then x P u before after s m t look blind = record {
  fault = blind.fault;
  reads = reads_then s m t look.reads blind.reads;
  silent = silent_then s m t look.silent blind.silent;
  counts = counts_then s m t blind.fault look.counts blind.counts;
  unbegun = blind.unbegun;
  held = blind.held;
}

-- what was looked at is noted
pub asked_noted : (changes : List RecordChange) (old new : List AUnit) (before mid after : Held) (s m t : State) (r : Result Bool AUnit) → mid ≡ before
    → Looks (Ok (Some changes)) (λ found w. IsAsked before.records.records w found) s m → NotesThose changes old new mid after m t r → AddsAsked old new before after s t r
asked_noted changes old new before mid after s m t r same look noted = by r (subst (λ (h : Held). NotesThose changes old new h after m t r) same noted)
  where
    by : (r : Result Bool AUnit) → NotesThose changes old new before after m t r → AddsAsked old new before after s t r
    by (Ok true) (done, changed, grown, last) = (done, record { changes = changes; looked = m; looks = look; changed = changed }, grown, last)
    by (Ok false) none = absurd none
    by (Err u) (inl (blind, grown)) = ([], IsBrokenBehind.blind refl (blind_then _ _ u before after s m t look blind), grown ∙ sym (append-nil old))
    by (Err u) (inr (done, changed, grown, last)) = (done.units.items, IsBrokenBehind.unnoted done (record { changes = changes; looked = m; looks = look; changed = changed }) refl last, grown)

-- Turns

-- behind a package that was processed
pub turn_behind : (name : List ℕ) (wishes : List Wish) (takes : Bool) (done : Report) (old mid new : List AUnit) (before held after : Held) (s m t : State) (later : List Wish) (still : Bool) (chain : List Step) (others : List Wish) (r : Result (Unit {0}) AUnit)
    → HasProcessedTurn name wishes done before held s m → done.last ≡ None → mid ≡ old ++ done.units.items → chain ≡ chain_behind (mine name wishes) → others ≡ without name wishes
    → Follows takes chain others mid new held after m t later still r → AddsTurn wishes takes later still old new before after s t r
turn_behind name wishes false done old mid new before held after s m t later still chain others (Ok x) turn last grown chained left (same, here, none, late, shut) =
    (done.units.items, none ∙ grown, subst (λ (h : Held). IsTurn wishes false done.units.items later still before h s t) (sym same) (IsTurn.alone name done m turn last here refl (late ∙ left) shut))
turn_behind name wishes false done old mid new before held after s m t later still chain others (Err u) turn last grown chained left none = absurd none
turn_behind name wishes true done old mid new before held after s m t later still chain others (Ok x) turn last grown chained left (TakesIn.quiet look same none late open_still) =
    (done.units.items, none ∙ grown, subst (λ (h : Held). IsTurn wishes true done.units.items later still before h s t) (sym same) (IsTurn.alone name done m turn last look refl (late ∙ left) open_still))
turn_behind name wishes true done old mid new before held after s m t later still chain others (Ok x) turn last grown chained left (TakesIn.taken noted noting asked ended more emptied late) =
    let added = new_steps (pending_steps held.records.records) (pending_steps after.records.records) in (
      done.units.items ++ noted.units.items,
      more ∙ ap (λ (l : List AUnit). l ++ noted.units.items) grown ∙ append_assoc old done.units.items noted.units.items,
      IsTurn.taken_in name done noted held m noting turn last refl asked ended emptied refl
          (late ∙ ap (λ (c : List Step). with_wishes c others added) chained ∙ ap (λ (ws : List Wish). with_wishes (chain_behind (mine name wishes)) ws added) left),
    )
turn_behind name wishes true done old mid new before held after s m t later still chain others (Err u) turn last grown chained left (us, broken, more) =
    (done.units.items ++ us, more ∙ ap (λ (l : List AUnit). l ++ us) grown ∙ append_assoc old done.units.items us, IsBrokenTurn.behind name done held m us turn last refl broken refl)

-- a package whose processing was broken off
pub turn_unprocessed : (T : Type 0) (name : List ℕ) (wishes : List Wish) (takes : Bool) (done : Report) (old new : List AUnit) (before after : Held) (s t : State) (later : List Wish) (still : Bool) (u : AUnit)
    → HasProcessedTurn name wishes done before after s t → done.last ≡ Some u → new ≡ old ++ done.units.items → AddsTurn {T = T} wishes takes later still old new before after s t (Err u)
turn_unprocessed T name wishes takes done old new before after s t later still u turn last grown = (done.units.items, grown, IsBrokenTurn.unprocessed name done turn refl last)

-- one that was given up
pub turn_given_up : (name : List ℕ) (wishes : List Wish) (takes : Bool) (old new : List AUnit) (before after : Held) (s t : State) (others : List Wish) (r : Result (Unit {0}) AUnit) (trigger : List ℕ)
    → first_package wishes ≡ Some name → first_looped (mine name wishes) ≡ Some trigger → others ≡ without name wishes
    → AddsReport (λ done. HasChanged (giving_up name trigger ∷ []) done before after s t) old new r → AddsTurn wishes takes others takes old new before after s t r
turn_given_up name wishes takes old new before after s t others (Ok x) trigger first looped left (done, changed, grown, last) =
    (done.units.items, grown, IsTurn.given_up name done (record { trigger = trigger; first = first; looped = looped; changed = changed }) last refl left refl)
turn_given_up name wishes takes old new before after s t others (Err u) trigger first looped left (done, changed, grown, last) =
    (done.units.items, grown, IsBrokenTurn.not_given_up name done (record { trigger = trigger; first = first; looped = looped; changed = changed }) refl last)

-- nothing of a turn was begun
pub turn_unbegun : (wishes : List Wish) (takes : Bool) (old new : List AUnit) (h : Held) (s : State) (later : List Wish) (still : Bool) (u : AUnit) → new ≡ old → IsCutOff (breakage_of NoMemory) u → RunsTurn wishes takes later still old new h h s s (Err u)
turn_unbegun wishes takes old new h s later still u same unbegun = ([], same ∙ sym (append-nil old), IsBrokenTurn.unbegun refl (blind_here u h s unbegun))

pub wished_none : (wishes : List Wish) → first_package wishes ≡ None → wishes ≡ []
wished_none [] none = refl
wished_none (wish ∷ wishes) none = cc

-- what was noted is taken in
pub taken_then : (chain : List Step) (wishes : List Wish) (old mid : List AUnit) (before after final : Held) (s m t : State) (steps : List Step) (later : List Wish) (still : Bool) → AddsAsked old mid before after s m (Ok true) → final ≡ after → HasEmptied still m t
    → steps ≡ pending_steps before.records.records → later ≡ with_wishes chain wishes (new_steps steps (pending_steps after.records.records)) → TakesIn chain wishes old mid before final s t later still
taken_then chain wishes old mid before after final s m t steps later still (noted, asked, grown, last) same emptied are late =
    subst (λ (h : Held). TakesIn chain wishes old mid before h s t later still) (sym same)
    (TakesIn.taken noted m asked last grown emptied (late ∙ ap (λ (l : List Step). with_wishes chain wishes (new_steps l (pending_steps after.records.records))) are))

-- the journal couldn't be emptied
pub full_then : (old mid : List AUnit) (before after final : Held) (s m t : State) (u : AUnit) → AddsAsked old mid before after s m (Ok true) → final ≡ after → IsFull u m t → (us : List AUnit) × IsBrokenBehind us u before final s t × (mid ≡ old ++ us)
full_then old mid before after final s m t u (noted, asked, grown, last) same full =
    (noted.units.items, subst (λ (h : Held). IsBrokenBehind noted.units.items u before h s t) (sym same) (IsBrokenBehind.full noted m asked refl last full), grown)

-- the next turn, whose package was named
pub runs_turn : (wishes : List Wish) (takes : Bool) (later : List Wish) (still : Bool) (old new : List AUnit) (before after : Held) (s t : State) (r : Result (Unit {0}) AUnit) → AddsTurn wishes takes later still old new before after s t r → RunsTurn wishes takes later still old new before after s t (answered r)
runs_turn wishes takes later still old new before after s t (Ok x) adds = adds
runs_turn wishes takes later still old new before after s t (Err u) adds = adds

pub notes_those : (changes : List RecordChange) (old new : List AUnit) (before after : Held) (s t : State) (r : Result (Unit {0}) AUnit) → AddsReport (λ done. HasChanged changes done before after s t) old new r → NotesThose changes old new before after s t (answered r)
notes_those changes old new before after s t (Ok x) adds = adds
notes_those changes old new before after s t (Err u) adds = inr adds

pub answered_open : (r : Result (Unit {0}) AUnit) (P : Type 0) → OnOk r P → OnOk (answered r) P
answered_open (Ok x) P p = p
answered_open (Err u) P p = tt

pub follows_noted : (chain : List Step) (wishes : List Wish) (old mid : List AUnit) (before after final : Held) (s m t : State) (steps : List Step) (later : List Wish) (still : Bool) (r : Result (Unit {0}) AUnit) → AddsAsked old mid before after s m (Ok true) → final ≡ after
    → steps ≡ pending_steps before.records.records → OnOk r (HasEmptied still m t) → OnOk r (later ≡ with_wishes chain wishes (new_steps steps (pending_steps after.records.records))) → IfErr r (λ u. IsFull u m t) → Follows true chain wishes old mid before final s t later still r
follows_noted chain wishes old mid before after final s m t steps later still (Ok x) asked same are emptied late full = taken_then chain wishes old mid before after final s m t steps later still asked same emptied are late
follows_noted chain wishes old mid before after final s m t steps later still (Err u) asked same are emptied late full = full_then old mid before after final s m t u asked same full

pub follows_none : (takes : Bool) (chain : List Step) (wishes : List Wish) (units : List AUnit) (h : Held) (s : State) → takes ≡ false → Follows takes chain wishes units units h h s s wishes takes (Ok tt)
follows_none false chain wishes units h s shut = (refl, refl, refl, refl, refl)
follows_none true chain wishes units h s shut = cc

pub way_single : (name : List ℕ) (wishes : List Wish) (w : Way) → IsWay name wishes w → IsSingle w
way_single name wishes (way.GiveUp changes) is = ap length is.2
way_single name wishes (way.Process names chain) is = ap length is.1

pub turned_none : (wishes : List Wish) (takes : Bool) (u : AUnit) (h : Held) (s : State) (done : Report) → done.units.items ≡ [] → done.last ≡ Some u → IsCutOff (breakage_of NoMemory) u → HasTurned wishes takes done h h s s
turned_none wishes takes u h s done none last unbegun = HasTurned.broken 0 [] [] wishes takes h s u (lit< tt) AreTurned.begun (IsBrokenTurn.unbegun refl (blind_here u h s unbegun)) none last

-- what was found of the journal, as it is spoken of
shown : {V : Type 0} (items : V → List RecordChange) (records : List Record) (w : World) (x : Option V) → MatchOption x (requests_of w ≡ []) (λ c. items c ≡ map change_by (asked_of w records [])) → IsAsked records w (option_map items x)
shown items records w None none = none
shown items records w (Some c) some = some

pub looks_shown : {V : Type 0} (items : V → List RecordChange) (records : List Record) (x : Option V) (s t : State) → Looks (Ok x) (λ found w. MatchOption found (requests_of w ≡ []) (λ c. items c ≡ map change_by (asked_of w records []))) s t
    → Looks (Ok (option_map items x)) (λ found w. IsAsked records w found) s t
looks_shown items records x s t look = record { found = λ h. shown items records s.world x (look.found h); reads = look.reads; silent = look.silent; counts = look.counts }

pub looks_shown_as : {V : Type 0} (items : V → List RecordChange) (records : List Record) (x y : Option V) (s t : State) → x ≡ y → Looks (Ok x) (λ found w. MatchOption found (requests_of w ≡ []) (λ c. items c ≡ map change_by (asked_of w records []))) s t
    → Looks (Ok (option_map items y)) (λ found w. IsAsked records w found) s t
looks_shown_as items records x y s t same look = subst (λ o. Looks (Ok (option_map items o)) (λ found w. IsAsked records w found) s t) same (looks_shown items records x s t look)

-- what was prepared, or that nothing is wished for
pub prepared_of : (wishes : List Wish) (found : Option Prepared) (next : Prepared) → found ≡ Some next → MatchOption found (first_package wishes ≡ None) (IsPrepared wishes) → IsPrepared wishes next
prepared_of wishes found next is matches = subst (λ o. MatchOption o (first_package wishes ≡ None) (IsPrepared wishes)) is matches

pub unprepared_of : (wishes : List Wish) (found : Option Prepared) → found ≡ None → MatchOption found (first_package wishes ≡ None) (IsPrepared wishes) → first_package wishes ≡ None
unprepared_of wishes found is matches = subst (λ o. MatchOption o (first_package wishes ≡ None) (IsPrepared wishes)) is matches

-- one turn more

pub more_turned : (wishes : List Wish) (takes : Bool) (before : Held) (s : State) (n : ℕ) (old new : List AUnit) (mid later : List Wish) (takes_on still : Bool) (between after : Held) (m t : State) → AreTurned wishes takes before s n old mid takes_on between m
    → RunsTurn mid takes_on later still old new between after m t (Ok true) → AreTurned wishes takes before s (n + 1) new later still after t
more_turned wishes takes before s n old new mid later takes_on still between after m t so_far (us, grown, turn) =
    subst (λ (l : List AUnit). AreTurned wishes takes before s (n + 1) l later still after t) (sym grown) (AreTurned.turned n old us mid later takes_on still between after m t so_far turn)

pub over_early : (wishes : List Wish) (takes : Bool) (before : Held) (s : State) (old new : List AUnit) (n : ℕ) (mid : List Wish) (takes_on : Bool) (between after : Held) (m t : State) (later : List Wish) (still : Bool) (done : Report) → AreTurned wishes takes before s n old mid takes_on between m → n < most_turns
    → RunsTurn mid takes_on later still old new between after m t (Ok false) → done.units.items ≡ new → done.last ≡ None → HasTurned wishes takes done before after s t
over_early wishes takes before s old new n mid takes_on between after m t later still done so_far short (none, held, here, same) units last =
    subst (λ (h : Held). HasTurned wishes takes done before h s t) (sym held) (subst (λ (x : State). HasTurned wishes takes done before between s x) (sym here)
    (HasTurned.over n mid takes_on (subst (λ (l : List AUnit). AreTurned wishes takes before s n l mid takes_on between m) (sym (units ∙ same)) so_far) (inl (short, none)) last))

pub turned_broken : (wishes : List Wish) (takes : Bool) (before : Held) (s : State) (old new : List AUnit) (n : ℕ) (mid : List Wish) (takes_on : Bool) (between after : Held) (m t : State) (later : List Wish) (still : Bool) (u : AUnit) (done : Report) → AreTurned wishes takes before s n old mid takes_on between m → n < most_turns
    → RunsTurn mid takes_on later still old new between after m t (Err u) → done.units.items ≡ new → done.last ≡ Some u → HasTurned wishes takes done before after s t
turned_broken wishes takes before s old new n mid takes_on between after m t later still u done so_far short (us, grown, turn) units last =
    HasTurned.broken n old us mid takes_on between m u short so_far turn (units ∙ grown) last
