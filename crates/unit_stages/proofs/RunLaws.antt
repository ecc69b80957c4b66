-- What runs of stages leave, and how they go on.
use Rattle.std.proofs.Common.{◌≡◌, ◌⊎◌, inl, inr, IsTrue, ℕ, Bool, true, false, List, [], ◌∷◌, ◌++◌, Option, Some, None, refl, sym, ap, subst, ◌∙◌, append_assoc}
use Rattle.std.specs.Prelude.{Result, Ok, Err, IfOk}
use Rattle.std.proofs.lemmas.List.{append-nil}
use Rattle.host_core.specs.Paths.{Path}
use Rattle.host_core.specs.World.{World, changed}
use Rattle.host_core.specs.Events.{Event, IsDeniedIn, Ran, changes_of, follow, follow_all}
use Rattle.host_core.specs.Host.{State, Silent, Since, Throughout, Calls, WasDenied, finished}
use Rattle.host_core.specs.Loss.{IsLater}
use Rattle.host_core.proofs.Moments.{since_start, since_then, since_weaker}
use Rattle.host_core.proofs.Scripts.{calls_of-finished, changed-append, silent_added}
use Rattle.host_core.specs.declared.call.Call.{Call}
use Rattle.undo_rows.specs.Transcript.{Makes, Tries, UndoesAny, UndoesRow}
use Rattle.undo_rows.specs.declared.rows.Called.{Called}
use Rattle.undo_rows.specs.declared.rows.Owner.{Owner}
use Rattle.undo_rows.specs.declared.rows.Row.{Row}
use Rattle.undo_rows.specs.Telling.{Made}
use Rattle.undo_rows.proofs.Tellings.{made_between, made_none, made_then, made_weaker}
use Rattle.diversions.specs.Ways.{Ways}
use Rattle.unit_stages.specs.declared.part.Part.{Part}
use Rattle.unit_stages.specs.Calls.{AreCallsOf, Fails}
use Rattle.unit_stages.specs.Ends.{IsLeftBy}
use Rattle.unit_stages.specs.Holding.{Holding, after_parts}
use Rattle.unit_stages.specs.Running.{ArePast, IsPast}
use Rattle.unit_stages.specs.Runs.{DoesParts, HasCalled, HasFallen, HasPassed, HasRestored, HasUndone, HaveRun, kept_by}
use Rattle.unit_stages.specs.declared.stage.Stage.{Stage}
use Rattle.unit_stages.proofs.Callings.{failed_call}
use Rattle.unit_stages.proofs.Denied.{denied_in, parts_wider}
use Rattle.unit_stages.proofs.Tellings.{nothing_done}

none_some : (call : Call) → None ≡ Some call → ⊥
none_some call e = cc

-- later moments

always : (w : World) (es : List Event) → Throughout (λ so_far v. Unit {0}) w es
always w [] = tt
always w (e ∷ es) = (tt, λ d cut. tt, always (follow e w) es)

pub later : (P : List Event → World → Type 0) (a b : State) → Since P a b → IsLater a b
later P a b since = since_weaker P (λ so_far w. Unit {0}) a b (λ so_far w is. tt) since

pub later_same : (a : State) → IsLater a a
later_same a = since_start (λ so_far v. Unit {0}) a tt

pub later_then : (a b c : State) → IsLater a b → IsLater b c → IsLater a c
later_then a b c first second = since_then (λ so_far v. Unit {0}) a b c first second

calls_later : (kept : Path → Bool) (ts : List Ran) (a b : State) → Calls kept ts a b → IsLater a b
calls_later kept ts a b made = record { added = finished ts; events = made.goes.events; honest = made.goes.honest; world = made.goes.world; each = λ h. always a.world (finished ts) }

pub follow_finished : (ts : List Ran) (w : World) → follow_all (finished ts) w ≡ changed (changes_of (finished ts)) w
follow_finished [] w = refl
follow_finished (t ∷ ts) w = follow_finished ts (changed t.change w) ∙ sym (changed-append t.change (changes_of (finished ts)) w)

module _ (name : List ℕ) (ways : Ways) where
  restored_silent : (owners : List Owner) (restore : List Part) (before after : Holding) (s t : State) → HasRestored name ways owners restore before after s t → Silent s t
  restored_silent owners restore before after s t (HasRestored.restored none does is) = does.silent
  restored_silent owners restore before after s t (HasRestored.left some same is) = subst (Silent s) (sym same) (nothing_done s)

  restored_later : (owners : List Owner) (restore : List Part) (before after : Holding) (s t : State) → HasRestored name ways owners restore before after s t → IsLater s t
  restored_later owners restore before after s t (HasRestored.restored none does is) = does.later
  restored_later owners restore before after s t (HasRestored.left some same is) = subst (IsLater s) (sym same) (later_same s)

  -- the calls of a stage

  passed_made : (stage : Stage) (h : Holding) (s t : State) (told now : List Called) → HasPassed name ways stage h s t told now → Made (λ ts. Tries stage.row ts true) s t told now
  passed_made stage h s t told now passed =
      made_between (λ ts. Tries stage.row ts true) (kept_by ways (after_parts name stage.parts.items h)) s passed.ready t t told now passed.parts.silent passed.calls (nothing_done t)

  undone_made : (row : Row) (restore : List Part) (before after : Holding) (s t : State) (told now : List Called) → HasUndone name ways row restore before after s t told now → Made (UndoesAny row []) s t told now
  undone_made row restore before after s t told now undone =
      made_weaker (λ ts. UndoesRow row [] ts undone.owners) (UndoesAny row []) s t told now (λ ts is. (undone.owners, is))
      (made_between (λ ts. UndoesRow row [] ts undone.owners) (kept_by ways before) s s undone.undone t told now (nothing_done s) undone.undo
      (restored_silent undone.owners restore before after undone.undone t undone.restored))

  fallen_made : (row : Row) (restore : List Part) (failed : Option Call) (before after : Holding) (s t : State) (told now : List Called)
      → HasFallen name ways row restore failed before after s t told now → Made (Fails row failed) s t told now
  fallen_made row restore failed before after s t told now fell =
      made_then (λ ts. Tries row ts false) (Fails row failed) (λ past ts. UndoesAny row [] ts) s fell.tried t told fell.so_far now
      (λ x y p q. record { call = fell.call; answer = fell.answer; forward = fell.forward; own = x; back = y; are = refl; tries = p; undoes = q })
      (made_between (λ ts. Tries row ts false) (kept_by ways before) s s fell.tried fell.tried told fell.so_far (nothing_done s) fell.calls (nothing_done fell.tried))
      (undone_made row restore before after fell.tried t fell.so_far now fell.undo)

  behind_made : (P : List Ran → Type 0) (a b c : State) (told now : List Called) → Silent a b → Made P b c told now → Made P a c told now
  behind_made P a b c told now silent made = record {
    ts = made.ts;
    has = made.has;
    honest = λ h. silent.honest (made.honest h);
    scripts = made.scripts ∙ ap (λ (l : List Event). l ++ finished made.ts) silent.scripts;
    tells = made.tells;
  }

  -- the calls of a run
  pub run_made : (stages : List Stage) (failed : Option Call) (before after : Holding) (s t : State) (told now : List Called) → HaveRun name ways stages failed before after s t told now → Made (AreCallsOf stages failed) s t told now
  run_made [] failed before after s t told now run =
      subst (λ x. Made (AreCallsOf [] failed) s x told now) (sym run.2)
      (subst (λ x. Made (AreCallsOf [] failed) s s told x) (sym run.3) (made_none (AreCallsOf [] failed) s s told (run.0, refl) (nothing_done s)))
  run_made (stage ∷ stages) failed before after s t told now (inl passed) =
      made_then (λ ts. Tries stage.row ts true) (AreCallsOf (stage ∷ stages) failed) (λ past ts. AreCallsOf stages failed ts) s passed.mid t told passed.more now
      (λ x y p q. inl (record { own = x; more = y; are = refl; tries = p; rest = q }))
      (passed_made stage before s passed.mid told passed.more passed.passed)
      (run_made stages failed (after_parts name stage.parts.items before) after passed.mid t passed.more now passed.further)
  run_made (stage ∷ stages) failed before after s t told now (inr failing) =
      made_weaker (Fails stage.row failed) (AreCallsOf (stage ∷ stages) failed) s t told now (λ ts fails. inr fails)
      (behind_made (Fails stage.row failed) s failing.ready t told now failing.parts.silent
      (fallen_made stage.row stage.restore.items failed (after_parts name stage.parts.items before) after failing.ready t told now failing.fell))

  -- a run is later

  pub undone_later : (row : Row) (restore : List Part) (before after : Holding) (s t : State) (told now : List Called) → HasUndone name ways row restore before after s t told now → IsLater s t
  undone_later row restore before after s t told now undone =
      later_then s undone.undone t (calls_later _ undone.undo.0 s undone.undone undone.undo.1) (restored_later undone.owners restore before after undone.undone t undone.restored)

  pub run_later : (stages : List Stage) (failed : Option Call) (before after : Holding) (s t : State) (told now : List Called) → HaveRun name ways stages failed before after s t told now → IsLater s t
  run_later [] failed before after s t told now run = subst (IsLater s) (sym run.2) (later_same s)
  run_later (stage ∷ stages) failed before after s t told now (inl passed) =
      let one = passed.passed in
      later_then s passed.mid t
      (later_then s one.ready passed.mid one.parts.later (calls_later _ one.calls.0 one.ready passed.mid one.calls.1))
      (run_later stages failed (after_parts name stage.parts.items before) after passed.mid t passed.more now passed.further)
  run_later (stage ∷ stages) failed before after s t told now (inr failing) =
      let fell = failing.fell in
      later_then s failing.ready t failing.parts.later
      (later_then failing.ready fell.tried t (calls_later _ fell.calls.0 failing.ready fell.tried fell.calls.1)
      (undone_later stage.row stage.restore.items (after_parts name stage.parts.items before) after fell.tried t fell.so_far now fell.undo))

  -- the records and lists that it leaves

  restored_left : (owners : List Owner) (restore : List Part) (before after : Holding) (s t : State) → HasRestored name ways owners restore before after s t → (after ≡ before) ⊎ (after ≡ after_parts name restore before)
  restored_left owners restore before after s t (HasRestored.restored none does is) = inr is
  restored_left owners restore before after s t (HasRestored.left some same is) = inl is

  pub run_left : (stages : List Stage) (failed : Option Call) (before after : Holding) (s t : State) (told now : List Called) → HaveRun name ways stages failed before after s t told now → IsLeftBy name stages failed before after
  run_left [] None before after s t told now run = run.1
  run_left [] (Some call) before after s t told now run = absurd (none_some call (sym run.0))
  run_left (stage ∷ stages) None before after s t told now (inl passed) = run_left stages None (after_parts name stage.parts.items before) after passed.mid t passed.more now passed.further
  run_left (stage ∷ stages) None before after s t told now (inr failing) = absurd (none_some failing.fell.call failing.fell.answer)
  run_left (stage ∷ stages) (Some call) before after s t told now (inl passed) =
      let rest = run_left stages (Some call) (after_parts name stage.parts.items before) after passed.mid t passed.more now passed.further in
      record {
        front = stage ∷ rest.front;
        stage = rest.stage;
        back = rest.back;
        are = ap (λ (l : List Stage). stage ∷ l) rest.are;
        forward = rest.forward;
        left = rest.left;
      }
  run_left (stage ∷ stages) (Some call) before after s t told now (inr failing) =
      let undone = failing.fell.undo in
      record {
        front = [];
        stage = stage;
        back = stages;
        are = refl;
        forward = failing.fell.forward ∙ sym failing.fell.answer;
        left = restored_left undone.owners stage.restore.items (after_parts name stage.parts.items before) after undone.undone t undone.restored;
      }

  -- a run behind stages that passed
  pub run_on : (front back : List Stage) (failed : Option Call) (before mid after : Holding) (s m t : State) (told more now : List Called)
      → HaveRun name ways front None before mid s m told more → HaveRun name ways back failed mid after m t more now → HaveRun name ways (front ++ back) failed before after s t told now
  run_on [] back failed before mid after s m t told more now first second =
      subst (λ x. HaveRun name ways back failed before after s t x now) first.3
      (subst (λ x. HaveRun name ways back failed before after x t more now) first.2
      (subst (λ x. HaveRun name ways back failed x after m t more now) first.1 second))
  run_on (stage ∷ front) back failed before mid after s m t told more now (inl passed) second = inl (record {
    mid = passed.mid;
    more = passed.more;
    passed = passed.passed;
    further = run_on front back failed (after_parts name stage.parts.items before) mid after passed.mid m t passed.more more now passed.further second;
  })
  run_on (stage ∷ front) back failed before mid after s m t told more now (inr failing) second = absurd (none_some failing.fell.call failing.fell.answer)

  -- behind a stage that failed none is run
  pub run_ended : (front back : List Stage) (call : Call) (before after : Holding) (s t : State) (told now : List Called)
      → HaveRun name ways front (Some call) before after s t told now → HaveRun name ways (front ++ back) (Some call) before after s t told now
  run_ended [] back call before after s t told now run = absurd (none_some call (sym run.0))
  run_ended (stage ∷ front) back call before after s t told now (inl passed) = inl (record {
    mid = passed.mid;
    more = passed.more;
    passed = passed.passed;
    further = run_ended front back call (after_parts name stage.parts.items before) after passed.mid t passed.more now passed.further;
  })
  run_ended (stage ∷ front) back call before after s t told now (inr failing) = inr failing

  -- stages that passed, as the events and the worlds show it

  passed_past : (stage : Stage) (h : Holding) (s t : State) (told now : List Called) (passed : HasPassed name ways stage h s t told now) → IsTrue t.honest
      → IsPast name ways stage h s.world (passed.parts.later.added ++ finished passed.calls.0) t.world
  passed_past stage h s t told now passed honest =
      let made = passed.calls.1 in
      let ts = passed.calls.0 in
      record {
        before = passed.parts.later.added;
        calls = finished ts;
        events = refl;
        quiet = silent_added s passed.ready passed.parts.later.added passed.parts.silent passed.parts.later.events;
        ready = passed.ready.world;
        done = parts_wider name (WasDenied s passed.ready) (IsDeniedIn passed.parts.later.added) (λ p is. denied_in s passed.ready passed.parts.later.added p passed.parts.later.events is)
            stage.parts.items h.records s.world passed.ready.world (passed.parts.done (made.goes.honest honest));
        scripts = record { world = made.goes.world ∙ follow_finished ts passed.ready.world; avoids = made.avoids honest };
        passes = subst (λ l. Tries stage.row l true) (sym (calls_of-finished ts)) passed.calls.2.0;
      }

  pub run_past : (stages : List Stage) (before after : Holding) (s t : State) (told now : List Called) → HaveRun name ways stages None before after s t told now → IsTrue t.honest
      → (added : List Event) × (t.events ≡ s.events ++ added) × ArePast name ways stages before s.world added t.world
  run_past [] before after s t told now run honest = ([], ap (λ x. x.events) run.2 ∙ sym (append-nil s.events), (refl, ap (λ x. x.world) run.2))
  run_past (stage ∷ stages) before after s t told now (inl passed) honest =
      let one = passed.passed in
      let later = run_later stages None (after_parts name stage.parts.items before) after passed.mid t passed.more now passed.further in
      let rest = run_past stages (after_parts name stage.parts.items before) after passed.mid t passed.more now passed.further honest in
      let own = one.parts.later.added ++ finished one.calls.0 in (
        own ++ rest.0,
        after_two s.events one.ready.events passed.mid.events t.events one.parts.later.added (finished one.calls.0) rest.0 one.parts.later.events one.calls.1.goes.events rest.1,
        record { own = own; more = rest.0; events = refl; mid = passed.mid.world; past = passed_past stage before s passed.mid told passed.more one (later.honest honest); further = rest.2 },
      )
    where
      after_two : (a b c d x y z : List Event) → b ≡ a ++ x → c ≡ b ++ y → d ≡ c ++ z → d ≡ a ++ ((x ++ y) ++ z)
      after_two a b c d x y z first second third = third ∙ ap (λ (l : List Event). l ++ z) (second ∙ ap (λ (l : List Event). l ++ y) first ∙ append_assoc a x y) ∙ append_assoc a (x ++ y) z
  run_past (stage ∷ stages) before after s t told now (inr failing) honest = absurd (none_some failing.fell.call failing.fell.answer)

  -- a call that failed and its undo
  pub fell_by : (row : Row) (restore : List Part) (before after : Holding) (s tried t : State) (told so_far now : List Called) → Makes (kept_by ways before) (λ ts. Tries row ts false) s tried told so_far
      → HasUndone name ways row restore before after tried t so_far now → HasCalled name ways row restore row.forward before after s t told now
  fell_by row restore before after s tried t told so_far now calls undone =
      let call = failed_call row calls.0 calls.2.0 in
      HasCalled.fell (record { call = call.0; answer = call.1; forward = call.1; tried = tried; so_far = so_far; calls = calls; undo = undone })

  -- a stage by its parts and its calls
  pub stage_ran : (stage : Stage) (failed : Option Call) (before mid after : Holding) (s ready t : State) (told now : List Called) → mid ≡ after_parts name stage.parts.items before
      → DoesParts name stage.parts.items before s ready → HasCalled name ways stage.row stage.restore.items failed mid after ready t told now → HaveRun name ways (stage ∷ []) failed before after s t told now
  stage_ran stage failed before mid after s ready t told now is parts (HasCalled.succeeded none same calls) = inl (record {
    mid = t;
    more = now;
    passed = record { ready = ready; parts = parts; calls = subst (λ h. Makes (kept_by ways h) (λ ts. Tries stage.row ts true) ready t told now) is calls };
    further = (none, same ∙ is, refl, refl);
  })
  stage_ran stage failed before mid after s ready t told now is parts (HasCalled.fell fell) = inr (record {
    ready = ready;
    parts = parts;
    fell = subst (λ h. HasFallen name ways stage.row stage.restore.items failed h after ready t told now) is fell;
  })

-- of an answer one thing holds, and so another
pub if_ok_one : {T E : Type 0} (result : Result T E) (P R : T → Type 0) → ((x : T) → P x → R x) → IfOk result P → IfOk result R
if_ok_one (Ok x) P R so p = so x p
if_ok_one (Err e) P R so p = tt
