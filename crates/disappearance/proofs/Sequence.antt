-- Packages that disappear one after another.
use Rattle.std.proofs.Common.{◌≡◌, ◌<◌, ◌+◌, inl, inr, IsTrue, ℕ, suc, Bool, true, false, cond, List, [], ◌∷◌, ◌++◌, add-one, drop, get_or, length, map, take, Contains, Option, Some, None, refl, sym, ap, subst, ◌∙◌, append_assoc, arith}
use Rattle.std.specs.Str.{bytes_eq}
use Rattle.std.proofs.Math.Seq.{drop-cons}
use Rattle.std.proofs.lemmas.List.{append-nil, take-append-drop}
use Rattle.std.proofs.lemmas.List.Elements.{Contains-append_cases, Contains-append_left, Contains-append_right, Contains-push, Contains-push_cases}
use Rattle.administration.proofs.Within.{taken_more}
use Rattle.host_core.specs.Host.{State, Since}
use Rattle.host_core.proofs.Moments.{since_then, since_weaker_if}
use Rattle.host_core.specs.declared.call.Call.{Call}
use Rattle.diversions.specs.Ways.{Ways}
use Rattle.file_lists.specs.declared.paths.PackageList.{PackageList}
use Rattle.removal_engine.proofs.Tables.{drop_other, drop_own}
use Rattle.status_records.specs.Records.{drop_record, record_in}
use Rattle.status_db.specs.Recorded.{Recorded}
use Rattle.status_records.specs.declared.record.Record.{Record}
use Rattle.status_records.proofs.Tables.{record_in-drop_record}
use Rattle.held_administration.specs.Order.{IsInOrder}
use Rattle.unit_stages.proofs.Keeping.{order_opens}
use Rattle.unit_stages.proofs.Tellings.{nothing_done}
use Rattle.unit_stages.specs.Holding.{Holding}
use Rattle.undo_rows.specs.declared.rows.Called.{Called}
use Rattle.disappearance.specs.Runs.{AreLeft, HasCalledNext, HaveCalled, HaveDisappeared, IsAmidDisappearances, IsAmidNext, first_failed}
use Rattle.disappearance.specs.Units.{HasCalledOne, IsAmidOne, IsAmidUnit, IsDecided}
use Rattle.disappearance.specs.declared.losing.Losing.{Losing}
use Rattle.disappearance.proofs.Plans.{gone_records}

-- the first call that failed

failed_last : (o : Option Call) → o ≡ first_failed o None
failed_last None = refl
failed_last (Some call) = refl

failed_assoc : (a b c : Option Call) → first_failed (first_failed a b) c ≡ first_failed a (first_failed b c)
failed_assoc None b c = refl
failed_assoc (Some call) b c = refl

abbrev pub names_of : List Losing → List (List ℕ)
names_of ls = map (λ l. l.name) ls

none_in : (q : List ℕ) → Contains {X = List ℕ} [] q → ⊥
none_in q has = omega (arith, has.1)

-- a record that isn't there stays away
dropped_none : (name : List ℕ) (rs : List Record) (q : List ℕ) → record_in rs q ≡ None → record_in (drop_record name rs) q ≡ None
dropped_none name rs q none = record_in-drop_record name rs q ∙ by (bytes_eq name q)
  where
    by : (b : Bool) → cond b None (record_in rs q) ≡ None
    by true = refl
    by false = none

module _ (incoming version : List ℕ) (ways : Ways) where
  pub none_yet : (h : Holding) (s : State) (told : List Called) → HaveDisappeared incoming version ways [] [] None h h s s told told
  none_yet h s told = (refl, refl, refl {a = h}, refl {a = s}, refl {a = told})

  -- one more is decided
  decided_last : (done : List Losing) (l : Losing) (names own : List (List ℕ)) (failed next : Option Call) (before mid after : Holding) (s m t : State) (told between now : List Called)
      → HaveDisappeared incoming version ways done names failed before mid s m told between → IsDecided incoming version ways l own next mid after m t between now
      → HaveDisappeared incoming version ways (done ++ l ∷ []) (names ++ own) (first_failed failed next) before after s t told now
  decided_last [] l names own failed next before mid after s m t told between now run decided = record {
    own = own;
    more = [];
    are = ap (λ (ns : List (List ℕ)). ns ++ own) run.0 ∙ sym (append-nil own);
    first = next;
    next = None;
    failed_is = ap (λ (o : Option Call). first_failed o next) run.1 ∙ failed_last next;
    mid = after;
    m = t;
    between = now;
    decided = subst (λ (h : Holding). IsDecided incoming version ways l own next h after s t told now) run.2
        (subst (λ (x : State). IsDecided incoming version ways l own next mid after x t told now) run.3
        (subst (λ (x : List Called). IsDecided incoming version ways l own next mid after m t x now) run.4 decided));
    further = none_yet after t now;
  }
  decided_last (x ∷ done) l names own failed next before mid after s m t told between now run decided = record {
    own = run.own;
    more = run.more ++ own;
    are = ap (λ (ns : List (List ℕ)). ns ++ own) run.are ∙ append_assoc run.own run.more own;
    first = run.first;
    next = first_failed run.next next;
    failed_is = ap (λ (o : Option Call). first_failed o next) run.failed_is ∙ failed_assoc run.first run.next next;
    mid = run.mid;
    m = run.m;
    between = run.between;
    decided = run.decided;
    further = decided_last done l run.more own run.next next run.mid mid after run.m m t run.between between now run.further decided;
  }

  -- at first

  next_start : (losing : List Losing) (h : Holding) (s : State) → IsAmidNext incoming version ways losing h s [] s.world
  next_start [] h s = (refl, refl)
  next_start (l ∷ ls) h s = IsAmidOne.looking refl refl

  pub amid_start : (losing : List Losing) (d : Recorded) (ls : List PackageList) (h : Holding) (s : State) (told : List Called) → (IsTrue s.honest → IsInOrder d ls s.world) → Since (IsAmidDisappearances incoming version ways losing h s) s s
  amid_start losing d ls h s told order = record {
    added = [];
    events = sym (append-nil s.events);
    honest = λ honest. honest;
    world = refl;
    each = λ honest. record {
      done = [];
      left = losing;
      are = refl;
      names = [];
      failed = None;
      mid = h;
      m = s;
      told = told;
      between = told;
      disappeared = none_yet h s told;
      honest = honest;
      front = [];
      rest = [];
      split = refl;
      events = sym (append-nil s.events);
      next = next_start losing h s;
      opens = (d.records, order_opens d ls s.world (order honest));
    };
  }

  -- one more of them
  module _ (losing : List Losing) (i : ℕ) (l : Losing) (lt : i < length losing) (at : l ≡ get_or losing i l) (names : List (List ℕ)) (failed : Option Call) (before mid : Holding) (s m : State) (told between : List Called)
      (run : HaveDisappeared incoming version ways (take i losing) names failed before mid s m told between) where
    from_here : drop i losing ≡ l ∷ drop (i + 1) losing
    from_here = drop-cons losing i l lt ∙ ap (λ p. p ∷ drop (suc i) losing) (sym at) ∙ ap (λ n. l ∷ drop n losing) (sym (add-one i))

    pub decided_more : (own all : List (List ℕ)) (next : Option Call) (after : Holding) (t : State) (now : List Called) → all ≡ names ++ own → IsDecided incoming version ways l own next mid after m t between now
        → HaveDisappeared incoming version ways (take (i + 1) losing) all (first_failed failed next) before after s t told now
    decided_more own all next after t now are decided =
        subst (λ (ns : List (List ℕ)). HaveDisappeared incoming version ways (take (i + 1) losing) ns (first_failed failed next) before after s t told now) (sym are)
        (subst (λ (ls : List Losing). HaveDisappeared incoming version ways ls (names ++ own) (first_failed failed next) before after s t told now) (sym (taken_more losing i l lt at))
        (decided_last (take i losing) l names own failed next before mid after s m t told between now run decided))

    pub amid_more : (t : State) → Since (IsAmidDisappearances incoming version ways losing before s) s m → Since (IsAmidUnit incoming version ways l mid m) m t
        → Since (IsAmidDisappearances incoming version ways losing before s) s t
    amid_more t first second = since_then (IsAmidDisappearances incoming version ways losing before s) s m t first
        (since_weaker_if (IsAmidUnit incoming version ways l mid m) (λ so_far. IsAmidDisappearances incoming version ways losing before s (first.added ++ so_far)) m t
        (λ honest so_far now is. record {
          done = take i losing;
          left = drop i losing;
          are = sym (take-append-drop i losing);
          names = names;
          failed = failed;
          mid = mid;
          m = m;
          told = told;
          between = between;
          disappeared = run;
          honest = second.honest honest;
          front = first.added;
          rest = so_far;
          split = refl;
          events = first.events;
          next = subst (λ (ls : List Losing). IsAmidNext incoming version ways ls mid m so_far now) (sym from_here) is.unit;
          opens = is.opens;
        }) second)

    pub told_more : (t : State) (now : List Called) → HasCalledOne incoming version ways l mid m t between now → HaveCalled incoming version ways losing before s t told now
    told_more t now next = record {
      done = take i losing;
      left = drop i losing;
      are = sym (take-append-drop i losing);
      names = names;
      failed = failed;
      mid = mid;
      m = m;
      between = between;
      disappeared = run;
      called = subst (λ (ls : List Losing). HasCalledNext incoming version ways ls mid m t between now) (sym from_here) next;
    }

  -- in the end
  pub told_all : (losing : List Losing) (names : List (List ℕ)) (failed : Option Call) (before after : Holding) (s t : State) (told now : List Called) → HaveDisappeared incoming version ways losing names failed before after s t told now
      → HaveCalled incoming version ways losing before s t told now
  told_all losing names failed before after s t told now run = record {
    done = losing;
    left = [];
    are = sym (append-nil losing);
    names = names;
    failed = failed;
    mid = after;
    m = t;
    between = now;
    disappeared = run;
    called = (nothing_done t, refl);
  }

  -- the records that are left

  decided_left : (l : Losing) (own : List (List ℕ)) (failed : Option Call) (before after : Holding) (s t : State) (told now : List Called) → IsDecided incoming version ways l own failed before after s t told now
      → AreLeft own before.records after.records × ((q : List ℕ) → record_in before.records q ≡ None → record_in after.records q ≡ None) × ((q : List ℕ) → Contains own q → l.name ≡ q)
  decided_left l own failed before after s t told now (IsDecided.stayed none unfailed stayed) = (
    record {
      gone = λ q has. absurd (none_in q (subst (λ (ns : List (List ℕ)). Contains ns q) none has));
      others = λ q apart. ap (λ (h : Holding). record_in h.records q) stayed.same;
    },
    λ q gone. ap (λ (h : Holding). record_in h.records q) stayed.same ∙ gone,
    λ q has. absurd (none_in q (subst (λ (ns : List (List ℕ)). Contains ns q) none has)),
  )
  decided_left l own failed before after s t told now (IsDecided.disappeared is has) =
      let run = has.run in
      let dropped = gone_records l.name ways has.gone has.plan.stages.entry has.plan.stages.goes before after run.mid t now now run.taken in
      let named : (q : List ℕ) → Contains own q → l.name ≡ q = (λ q among. one_named q (subst (λ (ns : List (List ℕ)). Contains ns q) is among)) in
      let apart : (q : List ℕ) → (Contains own q → ⊥) → q ≡ l.name → ⊥ = (λ q not same. not (subst (λ (ns : List (List ℕ)). Contains ns q) (sym is) (subst (λ (n : List ℕ). Contains (l.name ∷ []) n) (sym same) (Contains-push [] l.name)))) in (
        record {
          gone = λ q among. ap (λ (rs : List Record). record_in rs q) dropped ∙ ap (record_in (drop_record l.name before.records)) (sym (named q among)) ∙ drop_own l.name before.records;
          others = λ q not. ap (λ (rs : List Record). record_in rs q) dropped ∙ drop_other l.name before.records q (apart q not);
        },
        λ q gone. ap (λ (rs : List Record). record_in rs q) dropped ∙ dropped_none l.name before.records q gone,
        named,
      )
    where
      one_named : (q : List ℕ) → Contains (l.name ∷ []) q → l.name ≡ q
      one_named q among = elim (Contains-push_cases [] l.name q among) [ inl none ↦ absurd (none_in q none) | inr same ↦ same ]

  -- of all
  pub run_left_records : (losing : List Losing) (names : List (List ℕ)) (failed : Option Call) (before after : Holding) (s t : State) (told now : List Called) → HaveDisappeared incoming version ways losing names failed before after s t told now
      → AreLeft names before.records after.records × ((q : List ℕ) → record_in before.records q ≡ None → record_in after.records q ≡ None) × ((q : List ℕ) → Contains names q → Contains (names_of losing) q)
  run_left_records [] names failed before after s t told now run = (
    record {
      gone = λ q has. absurd (none_in q (subst (λ (ns : List (List ℕ)). Contains ns q) run.0 has));
      others = λ q apart. ap (λ (h : Holding). record_in h.records q) run.2;
    },
    λ q gone. ap (λ (h : Holding). record_in h.records q) run.2 ∙ gone,
    λ q has. absurd (none_in q (subst (λ (ns : List (List ℕ)). Contains ns q) run.0 has)),
  )
  run_left_records (l ∷ ls) names failed before after s t told now run =
      let one = decided_left l run.own run.first before run.mid s run.m told run.between run.decided in
      let rest = run_left_records ls run.more run.next run.mid after run.m t run.between now run.further in
      let among : (q : List ℕ) → Contains names q → Contains (run.own ++ run.more) q = (λ q has. subst (λ (ns : List (List ℕ)). Contains ns q) run.are has) in
      let apart : (q : List ℕ) → (Contains names q → ⊥) → Contains (run.own ++ run.more) q → ⊥ = (λ q not has. not (subst (λ (ns : List (List ℕ)). Contains ns q) (sym run.are) has)) in (
        record {
          gone = λ q has. elim (Contains-append_cases run.own run.more q (among q has)) [ inl here ↦ rest.1 q (one.0.gone q here) | inr later ↦ rest.0.gone q later ];
          others = λ q not. rest.0.others q (λ has. apart q not (Contains-append_right run.own run.more q has)) ∙ one.0.others q (λ has. apart q not (Contains-append_left run.own run.more q has));
        },
        λ q gone. rest.1 q (one.1 q gone),
        λ q has. elim (Contains-append_cases run.own run.more q (among q has)) [
          | inl here ↦ Contains-append_left (l.name ∷ []) (names_of ls) q (subst (λ (n : List ℕ). Contains (l.name ∷ []) n) (one.2 q here) (Contains-push [] l.name))
          | inr later ↦ Contains-append_right (l.name ∷ []) (names_of ls) q (rest.2 q later)
        ],
      )
