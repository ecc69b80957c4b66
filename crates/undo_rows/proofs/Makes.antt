-- How lists of calls that were made go on.
use Rattle.std.proofs.Common.{◌≡◌, inl, inr, Bool, List, [], ◌∷◌, ◌++◌, map, Result, Ok, Err, OnOk, IsErrAnd, refl, sym, ap, subst, ◌∙◌, append_assoc}
use Rattle.std.proofs.lemmas.List.{append-nil, map-append}
use Rattle.host_core.specs.Paths.{Path}
use Rattle.host_core.specs.Events.{Ran}
use Rattle.host_core.specs.Host.{Counts, Runs, Same, State, Since, OnlyScripts, calls}
use Rattle.host_core.proofs.Moments.{since_start}
use Rattle.host_core.proofs.Scripts.{calls_none, calls_one, calls_then, only_start}
use Rattle.host_core.specs.declared.call.Call.{Call}
use Rattle.host_core.specs.declared.call.Outcome.{Outcome}
use Rattle.host_core.specs.declared.call.Outcome.TheVariants.{Killed}
use Rattle.host_core.specs.declared.fault.HostFault.{HostFault}
use Rattle.host_core.specs.declared.fault.HostFault.TheVariants.{Device, NoMemory, Declined}
use Rattle.undo_rows.specs.declared.rows.Called.{Called}
use Rattle.undo_rows.specs.Transcript.{told_of, Begins, BrokeOff, IsCall, IsNext, IsOne, Makes, TellsAll}

pub makes_none : (kept : Path → Bool) (P : List Ran → Type 0) (a : State) (told : List Called) → P [] → Makes kept P a a told told
makes_none kept P a told here = ([], calls_none kept a, (here, sym (append-nil told)))

pub makes_weaker : (kept : Path → Bool) (P Q : List Ran → Type 0) (a b : State) (told now : List Called) → ((ts : List Ran) → P ts → Q ts) → Makes kept P a b told now → Makes kept Q a b told now
makes_weaker kept P Q a b told now so made = (made.0, made.1, (so made.0 made.2.0, made.2.1))

pub makes_then : (kept : Path → Bool) (P Q R : List Ran → Type 0) (a b c : State) (told more now : List Called) → ((x y : List Ran) → P x → Q y → R (x ++ y)) → Makes kept P a b told more → Makes kept Q b c more now → Makes kept R a c told now
makes_then kept P Q R a b c told more now both first second = (
  first.0 ++ second.0,
  calls_then kept first.0 second.0 a b c first.1 second.1,
  (both first.0 second.0 first.2.0 second.2.0, second.2.1 ∙ ap (λ (l : List Called). l ++ map told_of second.0) first.2.1 ∙ append_assoc told (map told_of first.0) (map told_of second.0) ∙ ap (λ (l : List Called). told ++ l) (sym (map-append told_of first.0 second.0))),
)

-- the told calls and the host's own list, in step

pub tells_none : (a b : State) (told now : List Called) → calls b ≡ calls a → now ≡ told → TellsAll a b told now
tells_none a b told now same kept = ([], same ∙ sym (append-nil (calls a)), kept ∙ sym (append-nil told))

pub tells_then : (a b c : State) (told more now : List Called) → TellsAll a b told more → TellsAll b c more now → TellsAll a c told now
tells_then a b c told more now first second = (
  first.0 ++ second.0,
  second.1 ∙ ap (λ (l : List Ran). l ++ second.0) first.1 ∙ append_assoc (calls a) first.0 second.0,
  second.2 ∙ ap (λ (l : List Called). l ++ map told_of second.0) first.2 ∙ append_assoc told (map told_of first.0) (map told_of second.0) ∙ ap (λ (l : List Called). told ++ l) (sym (map-append told_of first.0 second.0)),
)

-- where nothing was called

pub moments_none : (kept : Path → Bool) (a : State) → Since (OnlyScripts kept a.world) a a
moments_none kept a = since_start (OnlyScripts kept a.world) a (only_start kept a.world)

-- the first of some calls, whatever the answer

same_start : (a : State) → Same a a
same_start a = record { honest = λ h. h; world = refl; events = refl }

next_of : (call : Call) (more rest : List Ran) → IsNext call more → IsNext call (more ++ rest)
next_of call more rest next = (next.0, next.1 ++ rest, ap (λ (l : List Ran). l ++ rest) next.2, next.3)

still_off : (kept : Path → Bool) (more rest : List Ran) (a b : State) → BrokeOff kept more a b → BrokeOff kept (more ++ rest) a b
still_off kept more rest a b (BrokeOff.before same) = BrokeOff.before same
still_off kept more rest a b (BrokeOff.failed goes) = BrokeOff.failed goes
still_off kept more rest a b (BrokeOff.within call change next avoids goes) = BrokeOff.within call change (next_of call more rest next) avoids goes

module _ (kept : Path → Bool) (P : List Ran → Type 0) where
  pub begins_off : (a b : State) (told now : List Called) (more : List Ran) → now ≡ told → P more → BrokeOff kept more a b → Begins kept P a b told now
  begins_off a b told now more same here off = record { ts = []; more = more; first_of = here; last = a; made = calls_none kept a; rest = off; tells = same ∙ sym (append-nil told) }

  pub begins_none : (a : State) (told now : List Called) (more : List Ran) → now ≡ told → P more → Begins kept P a a told now
  begins_none a told now more same here = begins_off a a told now more same here (BrokeOff.before (same_start a))

  pub begins_whole : (a b : State) (told now : List Called) → Makes kept P a b told now → Begins kept P a b told now
  begins_whole a b told now made = record {
    ts = made.0;
    more = [];
    first_of = subst P (sym (append-nil made.0)) made.2.0;
    last = b;
    made = made.1;
    rest = BrokeOff.before (same_start b);
    tells = made.2.1;
  }

  pub begins_weaker : (Q : List Ran → Type 0) (a b : State) (told now : List Called) → ((ts : List Ran) → P ts → Q ts) → Begins kept P a b told now → Begins kept Q a b told now
  begins_weaker Q a b told now so begun = record { ts = begun.ts; more = begun.more; first_of = so (begun.ts ++ begun.more) begun.first_of; last = begun.last; made = begun.made; rest = begun.rest; tells = begun.tells }

  -- where such calls can go on to be others
  pub begins_more : (Q : List Ran → Type 0) (a b : State) (told now : List Called) → ((ts : List Ran) → P ts → (more : List Ran) × Q (ts ++ more)) → Begins kept P a b told now → Begins kept Q a b told now
  begins_more Q a b told now so begun =
      let goes = so (begun.ts ++ begun.more) begun.first_of in
      record {
        ts = begun.ts;
        more = begun.more ++ goes.0;
        first_of = subst Q (append_assoc begun.ts begun.more goes.0) goes.1;
        last = begun.last;
        made = begun.made;
        rest = still_off kept begun.more goes.0 begun.last b begun.rest;
        tells = begun.tells;
      }

pub begins_then : (kept : Path → Bool) (P Q R : List Ran → Type 0) (a b c : State) (told more now : List Called) → ((x y : List Ran) → P x → Q y → R (x ++ y)) → Makes kept P a b told more → Begins kept Q b c more now → Begins kept R a c told now
begins_then kept P Q R a b c told more now both first second = record {
  ts = first.0 ++ second.ts;
  more = second.more;
  first_of = subst R (sym (append_assoc first.0 second.ts second.more)) (both first.0 (second.ts ++ second.more) first.2.0 second.first_of);
  last = second.last;
  made = calls_then kept first.0 second.ts a b second.last first.1 second.made;
  rest = second.rest;
  tells = second.tells ∙ ap (λ (l : List Called). l ++ map told_of second.ts) first.2.1 ∙ append_assoc told (map told_of first.0) (map told_of second.ts) ∙ ap (λ (l : List Called). told ++ l) (sym (map-append told_of first.0 second.ts));
}

abbrev pub killed : Call → Ran
killed call = record { call = call; outcome = Killed; change = [] }

pub some_call : (call : Call) → IsCall call (killed call ∷ [])
some_call call = (Killed, (killed call, refl, refl, refl))

-- a call of which no outcome was told
off_by : (kept : Path → Bool) (call : Call) (fault : HostFault) (a b : State) → Runs kept call a b (Err fault) → BrokeOff kept (killed call ∷ []) a b
off_by kept call Device a b (inl goes) = BrokeOff.failed goes
off_by kept call Device a b (inr more) = BrokeOff.within call more.0 (killed call, [], refl, refl) more.1 more.2
off_by kept call NoMemory a b same = BrokeOff.before same
off_by kept call Declined a b never = absurd never

pub begins_failed : (kept : Path → Bool) (call : Call) (fault : HostFault) (a b : State) (told now : List Called) → Runs kept call a b (Err fault) → now ≡ told → Begins kept (IsCall call) a b told now
begins_failed kept call fault a b told now runs same = begins_off kept (IsCall call) a b told now (killed call ∷ []) same (some_call call) (off_by kept call fault a b runs)

-- one call

module _ (kept : Path → Bool) (call : Call) (outcome : Outcome) (a b : State) (told now : List Called) where
  pub makes_one : Runs kept call a b (Ok outcome) → now ≡ told ++ record { call = call; outcome = outcome } ∷ [] → Makes kept (IsOne call outcome) a b told now
  makes_one runs grown =
      let one = calls_one kept call outcome a b runs in
      (one.0 ∷ [], one.3, ((one.0, refl, one.1, one.2), grown ∙ ap (λ c. told ++ record { call = c; outcome = outcome } ∷ []) (sym one.1) ∙ ap (λ o. told ++ record { call = one.0.call; outcome = o } ∷ []) (sym one.2)))

  pub begins_call : Runs kept call a b (Ok outcome) → now ≡ told ++ record { call = call; outcome = outcome } ∷ [] → Begins kept (IsCall call) a b told now
  begins_call runs grown = begins_weaker kept (IsOne call outcome) (IsCall call) a b told now (λ ts one. (outcome, one)) (begins_whole kept (IsOne call outcome) a b told now (makes_one runs grown))

-- the answer after a `?`

pub no_value : {T : Type 0} (P : Type 0) (Q : HostFault → Type 0) (r : Result T HostFault) → IsErrAnd r Q → OnOk r P
no_value P Q (Ok x) told = absurd told
no_value P Q (Err fault) told = tt

pub counts_told : {T : Type 0} (U : Type 0) (a b : State) (given : HostFault) (r : Result T HostFault) → IsErrAnd r (λ e. e ≡ given) → Counts {T = U} a b (Err given) → Counts a b r
counts_told U a b given (Ok x) told counts = absurd told
counts_told U a b Device (Err Device) is counts = counts
counts_told U a b NoMemory (Err Device) is counts = absurd cc
counts_told U a b Declined (Err Device) is counts = absurd cc
counts_told U a b Device (Err NoMemory) is counts = absurd cc
counts_told U a b Device (Err Declined) is counts = absurd cc
counts_told U a b NoMemory (Err NoMemory) is counts = counts
counts_told U a b Declined (Err Declined) is counts = counts
counts_told U a b NoMemory (Err Declined) is counts = absurd cc
counts_told U a b Declined (Err NoMemory) is counts = absurd cc
