-- The calls that units tell are those of the host's own list.
use Rattle.std.proofs.Common.{◌≡◌, ℕ, List, [], ◌∷◌, ◌++◌, append_assoc, ap, refl, subst, sym, ◌∙◌}
use Rattle.std.proofs.lemmas.List.{append-nil}
use Rattle.conffiles.specs.declared.decisions.ConfPolicy.{ConfPolicy}
use Rattle.configure_engine.specs.Units.{Given, HasCalled}
use Rattle.undo_rows.proofs.Tellings.{begun_calls}
use Rattle.dependency_check.specs.Waiting.{Waiting}
use Rattle.host_core.specs.Events.{calls_of as calls_in}
use Rattle.host_core.specs.Host.{State, Silent, calls}
use Rattle.host_core.proofs.Scripts.{calls_of-scripts}
use Rattle.unit_reports.proofs.Telling.{calls_both}
use Rattle.unit_reports.specs.Held.{Held}
use Rattle.unit_reports.specs.Units.{HasNoCalls, calls_of}
use Rattle.unit_reports.specs.declared.report.Unit.{Unit as AUnit}
use Rattle.unit_stages.specs.Calls.{MayRunStages}
use Rattle.undo_rows.proofs.Makes.{tells_none, tells_then}
use Rattle.undo_rows.specs.Transcript.{TellsAll}
use Rattle.undo_rows.specs.declared.rows.Called.{Called}
use Rattle.configure_run.specs.Early.{AreRefused, AreSomeRefused}
use Rattle.configure_run.specs.LeftOver.{AreLeftOver, HaveRefusedLeft, HaveRefusedSomeLeft}
use Rattle.configure_run.specs.Turns.{HasCalledFor}
use Rattle.unit_reports.specs.declared.refusal.Refusal.{Refusal}

-- no call has ended
pub silent_calls : (s t : State) → Silent s t → calls t ≡ calls s
silent_calls s t silent = sym (calls_of-scripts t.events) ∙ ap calls_in silent.scripts ∙ calls_of-scripts s.events

-- where no script was called no call is told
pub tells_silent : (s t : State) (told now : List Called) → Silent s t → now ≡ told → TellsAll s t told now
tells_silent s t told now silent same = tells_none s t told now (silent_calls s t silent) same

-- it made no call
pub tells_no_more : (a b : State) (old now own : List Called) → TellsAll a b old now → own ≡ [] → TellsAll a b old (now ++ own)
tells_no_more a b old now own told none = subst (λ l. TellsAll a b old (now ++ l)) (sym none) (subst (TellsAll a b old) (sym (append-nil now)) told)

-- refused units tell no call

pub refused_calls : (rs : List Refusal) (us : List AUnit) → AreRefused rs us → calls_of us ≡ []
refused_calls [] [] are = refl
refused_calls [] (u ∷ us) are = absurd are
refused_calls (r ∷ rs) [] are = absurd are
refused_calls (r ∷ rs) (u ∷ us) are = ap (λ l. l ++ calls_of us) are.0.calls ∙ refused_calls rs us are.1

pub left_over_calls : (q : Waiting) (xs : List ℕ) (us : List AUnit) → AreLeftOver q xs us → calls_of us ≡ []
left_over_calls q [] [] are = refl
left_over_calls q [] (u ∷ us) are = absurd are
left_over_calls q (x ∷ xs) [] are = absurd are
left_over_calls q (x ∷ xs) (u ∷ us) are = ap (λ l. l ++ calls_of us) are.0.refused.calls ∙ left_over_calls q xs us are.1

pub more_without_calls : (us more new : List AUnit) → new ≡ us ++ more → calls_of more ≡ [] → calls_of new ≡ calls_of us
more_without_calls us more new grown none = ap calls_of grown ∙ calls_both us more ∙ ap (λ l. calls_of us ++ l) none ∙ append-nil (calls_of us)

-- those of a unit, whatever its answer

called_tells : (g : Given) (s t : State) (told now : List Called) → HasCalled g s t told now → TellsAll s t told now
called_tells g s t told now (HasCalled.unplanned silent same) = tells_silent s t told now silent same
called_tells g s t told now (HasCalled.planned stages plan begun) = let made = begun_calls (MayRunStages stages) s t told now begun in (made.0, made.2, made.3.1)

pub called_for_tells : (policy : ConfPolicy) (name : List ℕ) (before : Held) (u : AUnit) (s t : State) → HasCalledFor policy name before u s t → TellsAll s t [] u.calls.items
called_for_tells policy name before u s t for =
    let disk = for.called in
    tells_then s for.looked t [] [] u.calls.items (tells_silent s for.looked [] [] for.quiet refl)
    (tells_then for.looked disk.left t [] u.calls.items u.calls.items (called_tells _ for.looked disk.left [] u.calls.items disk.called) (tells_silent disk.left t u.calls.items u.calls.items disk.quiet refl))

no_calls_tell : (u : AUnit) (s t : State) → HasNoCalls u s t → TellsAll s t [] u.calls.items
no_calls_tell u s t none = tells_silent s t [] u.calls.items none.silent none.told

pub refused_left_calls : (q : Waiting) (old new : List AUnit) → HaveRefusedLeft q old new → calls_of new ≡ calls_of old
refused_left_calls q old new all = more_without_calls old all.more new all.grown (left_over_calls q all.numbers all.more all.left_over)

pub some_left_calls : (q : Waiting) (old new : List AUnit) → HaveRefusedSomeLeft q old new → calls_of new ≡ calls_of old
some_left_calls q old new (HaveRefusedSomeLeft.none same) = ap calls_of same
some_left_calls q old new (HaveRefusedSomeLeft.some done rest more listed grown are) = more_without_calls old more new grown (left_over_calls q done more are)

pub some_refused_calls : (refusals : List Refusal) (us : List AUnit) → AreSomeRefused refusals us → calls_of us ≡ []
some_refused_calls refusals us some = refused_calls some.done us some.refused
