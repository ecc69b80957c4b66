-- What is assumed of calls, and how they ended.
use Rattle.std.proofs.Common.{◌≡◌, ◌∙◌, List, [], ◌∷◌, ◌++◌, map, Result, Ok, Err, refl, sym, ap, subst, append_assoc}
use Rattle.std.proofs.lemmas.List.{append-nil, map-append}
use Rattle.host_core.specs.Events.{Event, Did, Finished, Cut, Failed, Denied, Ran, calls_of, follow_all}
use Rattle.host_core.specs.Host.{ran_of}
use Rattle.host_core.specs.Unsynced.{IsSettled}
use Rattle.host_core.specs.World.{World, Barrier}
use Rattle.host_core.specs.declared.call.Call.{Call}
use Rattle.host_core.specs.declared.call.Outcome.{Outcome}
use Rattle.host_core.specs.declared.fault.HostFault.{HostFault}
use Rattle.host_core.specs.declared.fault.HostFault.TheVariants.{Device, NoMemory, Declined}
use Rattle.host_core.proofs.Losses.{settled_none, settled_event}
use Rattle.host_overlay.specs.Doings.{event_of, told_for}
use Rattle.host_overlay.specs.Failing.{outcome_of, left_of, left_by, runs_of, foretell, foretold, named_by, assumed_in, made_in, left_in, GoAsForetold}
use Rattle.host_overlay.specs.Layers.{failures_of}
use Rattle.host_overlay.specs.declared.done.Done.{Done}
use Rattle.host_overlay.specs.declared.failing.AssumedFailure.{AssumedFailure}

-- the calls end as these events foretell, and this is assumed behind them
pub record IsForeseen (es : List Event) (left : List AssumedFailure) : Type 0 where
  pub went : GoAsForetold es
  pub rest : left ≡ left_in es

calls_more : (es : List Event) (e : Event) → calls_of (es ++ e ∷ []) ≡ calls_of es ++ calls_of (e ∷ [])
calls_more [] e = refl
calls_more (Did s ∷ es) e = calls_more es e
calls_more (Finished ran ∷ es) e = ap (λ (l : List Ran). ran ∷ l) (calls_more es e)
calls_more (Cut call change ∷ es) e = calls_more es e
calls_more (Failed ∷ es) e = calls_more es e
calls_more (Denied path ∷ es) e = calls_more es e

assumed_more : (es : List Event) (e : Event) → assumed_in (e ∷ []) ≡ [] → assumed_in (es ++ e ∷ []) ≡ assumed_in es
assumed_more [] e none = none
assumed_more (Did s ∷ es) e none = refl
assumed_more (Finished ran ∷ es) e none = refl
assumed_more (Cut call change ∷ es) e none = ap (λ (l : List AssumedFailure). named_by call ∷ l) (assumed_more es e none)
assumed_more (Failed ∷ es) e none = refl
assumed_more (Denied path ∷ es) e none = refl

left_more : (failing : List AssumedFailure) (cs : List Call) (call : Call) → left_by failing (cs ++ call ∷ []) ≡ left_of (left_by failing cs) call
left_more failing [] call = refl
left_more failing (c ∷ cs) call = left_more (left_of failing c) cs call

runs_more : (failing : List AssumedFailure) (cs : List Call) (call : Call) → runs_of failing (cs ++ call ∷ []) ≡ runs_of failing cs ++ ran_of call (outcome_of (left_by failing cs) call) [] ∷ []
runs_more failing [] call = refl
runs_more failing (c ∷ cs) call = ap (λ (l : List Ran). ran_of c (outcome_of failing c) [] ∷ l) (runs_more (left_of failing c) cs call)

-- events that make the same calls, and foretell the same
alike : (es new : List Event) (left : List AssumedFailure) → assumed_in new ≡ assumed_in es → calls_of new ≡ calls_of es → IsForeseen es left → IsForeseen new left
alike es new left assumed calls seen =
    let made : made_in new ≡ made_in es = ap (map (λ (ran : Ran). ran.call)) calls in
    record {
      went = calls ∙ seen.went ∙ ap (λ (fs : List AssumedFailure). runs_of fs (made_in es)) (sym assumed) ∙ ap (runs_of (assumed_in new)) (sym made);
      rest = seen.rest ∙ ap (λ (fs : List AssumedFailure). left_by fs (made_in es)) (sym assumed) ∙ ap (left_by (assumed_in new)) (sym made);
    }

-- what is no call
pub foreseen_on : (es new : List Event) (e : Event) (left : List AssumedFailure) → assumed_in (e ∷ []) ≡ [] → calls_of (e ∷ []) ≡ [] → new ≡ es ++ e ∷ [] → IsForeseen es left → IsForeseen new left
foreseen_on es new e left none silent is seen =
    alike es new left (ap assumed_in is ∙ assumed_more es e none) (ap calls_of is ∙ calls_more es e ∙ ap (λ (l : List Ran). calls_of es ++ l) silent ∙ append-nil (calls_of es)) seen

pub foreseen_same : (es new : List Event) (left : List AssumedFailure) → new ≡ es → IsForeseen es left → IsForeseen new left
foreseen_same es new left is seen = alike es new left (ap assumed_in is) (ap calls_of is) seen

-- a failure of the device below
pub foreseen_looked : {T : Type 0} (r : Result T HostFault) (es new : List Event) (left : List AssumedFailure) → new ≡ es ++ failures_of r → IsForeseen es left → IsForeseen new left
foreseen_looked (Ok x) es new left is seen = foreseen_same es new left (is ∙ append-nil es) seen
foreseen_looked (Err Device) es new left is seen = foreseen_on es new Failed left refl refl is seen
foreseen_looked (Err NoMemory) es new left is seen = foreseen_same es new left (is ∙ append-nil es) seen
foreseen_looked (Err Declined) es new left is seen = foreseen_same es new left (is ∙ append-nil es) seen

-- a call that ended as it was assumed to
pub foreseen_call : (es new : List Event) (call : Call) (outcome : Outcome) (left after : List AssumedFailure) → new ≡ es ++ Finished (ran_of call outcome []) ∷ [] → outcome ≡ outcome_of left call → after ≡ left_of left call
    → IsForeseen es left → IsForeseen new after
foreseen_call es new call outcome left after is ends goes seen =
    let ran : Ran = ran_of call outcome [] in
    let assumed : assumed_in new ≡ assumed_in es = ap assumed_in is ∙ assumed_more es (Finished ran) refl in
    let calls : calls_of new ≡ calls_of es ++ ran ∷ [] = ap calls_of is ∙ calls_more es (Finished ran) in
    let made : made_in new ≡ made_in es ++ call ∷ [] = ap (map (λ (r : Ran). r.call)) calls ∙ map-append (λ (r : Ran). r.call) (calls_of es) (ran ∷ []) in
    let fs : List AssumedFailure = assumed_in es in
    let now : ran ≡ ran_of call (outcome_of (left_in es) call) [] = ap (λ (o : Outcome). ran_of call o []) (ends ∙ ap (λ (l : List AssumedFailure). outcome_of l call) seen.rest) in
    record {
      went = calls ∙ ap (λ (l : List Ran). l ++ ran ∷ []) seen.went ∙ ap (λ (r : Ran). runs_of fs (made_in es) ++ r ∷ []) now ∙ sym (runs_more fs (made_in es) call)
          ∙ ap (runs_of fs) (sym made) ∙ ap (λ (l : List AssumedFailure). runs_of l (made_in new)) (sym assumed);
      rest = goes ∙ ap (λ (l : List AssumedFailure). left_of l call) seen.rest ∙ sym (left_more fs (made_in es) call) ∙ ap (left_by fs) (sym made) ∙ ap (λ (l : List AssumedFailure). left_by l (made_in new)) (sym assumed);
    }

-- what is foretold

pub told_foretold : (failing : List AssumedFailure) → map event_of (map told_for failing) ≡ map foretell failing
told_foretold [] = refl
told_foretold (f ∷ fs) = ap (λ (l : List Event). foretell f ∷ l) (told_foretold fs)

assumed_foretold : (failing : List AssumedFailure) → assumed_in (foretold failing) ≡ failing
assumed_foretold [] = refl
assumed_foretold (f ∷ fs) = ap (λ (l : List AssumedFailure). f ∷ l) (assumed_foretold fs)

calls_foretold : (failing : List AssumedFailure) → calls_of (foretold failing) ≡ []
calls_foretold [] = refl
calls_foretold (f ∷ fs) = calls_foretold fs

pub idle_foretold : (failing : List AssumedFailure) (w : World) → follow_all (foretold failing) w ≡ w
idle_foretold [] w = refl
idle_foretold (f ∷ fs) w = idle_foretold fs w

settled_more : (failing : List AssumedFailure) (es : List Event) → IsSettled es → IsSettled (es ++ foretold failing)
settled_more [] es settled = settled_event es (Did Barrier) tt settled
settled_more (f ∷ fs) es settled = subst IsSettled (append_assoc es (foretell f ∷ []) (foretold fs)) (settled_more fs (es ++ foretell f ∷ []) (settled_event es (foretell f) tt settled))

pub settled_foretold : (failing : List AssumedFailure) → IsSettled (foretold failing)
settled_foretold failing = settled_more failing [] settled_none

pub foreseen_none : IsForeseen [] []
foreseen_none = record { went = refl; rest = refl }

pub foreseen_first : (failing : List AssumedFailure) → IsForeseen (foretold failing) failing
foreseen_first failing = record {
  went = calls_foretold failing ∙ ap (λ (rs : List Ran). runs_of (assumed_in (foretold failing)) (map (λ (ran : Ran). ran.call) rs)) (sym (calls_foretold failing));
  rest = sym (assumed_foretold failing) ∙ ap (λ (rs : List Ran). left_by (assumed_in (foretold failing)) (map (λ (ran : Ran). ran.call) rs)) (sym (calls_foretold failing));
}
