-- How calls that were made and told go on.
use Rattle.std.proofs.Common.{◌≡◌, inl, inr, Bool, List, [], ◌∷◌, ◌++◌, map, refl, sym, ap, subst, ◌∙◌, append_assoc}
use Rattle.std.proofs.lemmas.List.{append-nil, map-append}
use Rattle.host_core.specs.Paths.{Path}
use Rattle.host_core.specs.Events.{Ran, Event, Finished, Cut, scripts_of, calls_of}
use Rattle.host_core.specs.Host.{State, Silent, Falls, Calls, calls, finished}
use Rattle.host_core.proofs.Moments.{scripts_of-append}
use Rattle.host_core.proofs.Scripts.{calls_of-append, calls_of-finished, calls_of-scripts}
use Rattle.undo_rows.specs.declared.rows.Called.{Called}
use Rattle.undo_rows.specs.Transcript.{told_of, BrokeOff, Begins, Makes, Tells}
use Rattle.undo_rows.specs.Telling.{Begun, IsCutShort, Made}

scripts_of-finished : (ts : List Ran) → scripts_of (finished ts) ≡ finished ts
scripts_of-finished [] = refl
scripts_of-finished (t ∷ ts) = ap (λ (l : List Event). Finished t ∷ l) (scripts_of-finished ts)

-- the host's own list of calls has grown by these
pub calls_more : (ts : List Ran) (a b : State) → scripts_of b.events ≡ scripts_of a.events ++ finished ts → calls b ≡ calls a ++ ts
calls_more ts a b is =
    sym (calls_of-scripts b.events) ∙ ap calls_of is ∙ calls_of-append (scripts_of a.events) (finished ts)
    ∙ ap (λ (l : List Ran). l ++ calls_of (finished ts)) (calls_of-scripts a.events) ∙ ap (λ (l : List Ran). calls a ++ l) (calls_of-finished ts)

-- what was told in two parts
told_then : (x y : List Ran) (told more now : List Called) → Tells x told more → Tells y more now → Tells (x ++ y) told now
told_then x y told more now first second =
    second ∙ ap (λ (l : List Called). l ++ map told_of y) first ∙ append_assoc told (map told_of x) (map told_of y) ∙ ap (λ (l : List Called). told ++ l) (sym (map-append told_of x y))

-- the scripts of two parts
scripts_then : (x : List Ran) (y : List Event) (a b c : State) → scripts_of b.events ≡ scripts_of a.events ++ finished x → scripts_of c.events ≡ scripts_of b.events ++ y → scripts_of c.events ≡ scripts_of a.events ++ (finished x ++ y)
scripts_then x y a b c first second = second ∙ ap (λ (l : List Event). l ++ y) first ∙ append_assoc (scripts_of a.events) (finished x) y

module _ (P : List Ran → Type 0) where
  pub made_none : (a b : State) (told : List Called) → P [] → Silent a b → Made P a b told told
  made_none a b told here silent = record { ts = []; has = here; honest = silent.honest; scripts = silent.scripts ∙ sym (append-nil (scripts_of a.events)); tells = sym (append-nil told) }

  pub made_weaker : (Q : List Ran → Type 0) (a b : State) (told now : List Called) → ((ts : List Ran) → P ts → Q ts) → Made P a b told now → Made Q a b told now
  made_weaker Q a b told now so made = record { ts = made.ts; has = so made.ts made.has; honest = made.honest; scripts = made.scripts; tells = made.tells }

  -- calls alone, between two parts that make none
  pub made_between : (kept : Path → Bool) (a b c d : State) (told now : List Called) → Silent a b → Makes kept P b c told now → Silent c d → Made P a d told now
  made_between kept a b c d told now before made behind = record {
    ts = made.0;
    has = made.2.0;
    honest = λ h. before.honest (made.1.goes.honest (behind.honest h));
    scripts = behind.scripts ∙ ap scripts_of made.1.goes.events ∙ scripts_of-append b.events (finished made.0)
        ∙ ap (λ (l : List Event). scripts_of b.events ++ l) (scripts_of-finished made.0) ∙ ap (λ (l : List Event). l ++ finished made.0) before.scripts;
    tells = made.2.1;
  }

  pub made_behind : (a b c : State) (told now : List Called) → Made P a b told now → Silent b c → Made P a c told now
  made_behind a b c told now made behind = record { ts = made.ts; has = made.has; honest = λ h. made.honest (behind.honest h); scripts = behind.scripts ∙ made.scripts; tells = made.tells }

  -- the second part may know the calls of before it
  pub made_then : (R : List Ran → Type 0) (Q : List Ran → List Ran → Type 0) (a b c : State) (told more now : List Called) → ((x y : List Ran) → P x → Q (calls a ++ x) y → R (x ++ y)) → Made P a b told more → Made (Q (calls b)) b c more now → Made R a c told now
  made_then R Q a b c told more now both first second = record {
    ts = first.ts ++ second.ts;
    has = both first.ts second.ts first.has (subst (λ l. Q l second.ts) (calls_more first.ts a b first.scripts) second.has);
    honest = λ h. first.honest (second.honest h);
    scripts = scripts_then first.ts (finished second.ts) a b c first.scripts second.scripts ∙ ap (λ (l : List Event). scripts_of a.events ++ l) (sym (map-append Finished first.ts second.ts));
    tells = told_then first.ts second.ts told more now first.tells second.tells;
  }

  -- the first of some calls

  pub begun_none : (a b : State) (told : List Called) (more : List Ran) → P more → Silent a b → Begun P a b told told
  begun_none a b told more here silent = record {
    ts = [];
    more = more;
    first_of = here;
    honest = silent.honest;
    cut = [];
    scripts = silent.scripts ∙ sym (append-nil (scripts_of a.events));
    cut_short = inl refl;
    tells = sym (append-nil told);
  }

  pub begun_whole : (a b : State) (told now : List Called) → Made P a b told now → Begun P a b told now
  begun_whole a b told now made = record {
    ts = made.ts;
    more = [];
    first_of = subst P (sym (append-nil made.ts)) made.has;
    honest = made.honest;
    cut = [];
    scripts = made.scripts ∙ ap (λ (l : List Event). scripts_of a.events ++ l) (sym (append-nil (finished made.ts)));
    cut_short = inl refl;
    tells = made.tells;
  }

  pub begun_weaker : (Q : List Ran → Type 0) (a b : State) (told now : List Called) → ((ts : List Ran) → P ts → Q ts) → Begun P a b told now → Begun Q a b told now
  begun_weaker Q a b told now so begun = record {
    ts = begun.ts;
    more = begun.more;
    first_of = so (begun.ts ++ begun.more) begun.first_of;
    honest = begun.honest;
    cut = begun.cut;
    scripts = begun.scripts;
    cut_short = begun.cut_short;
    tells = begun.tells;
  }

still_cut : (more rest : List Ran) (cut : List Event) → IsCutShort more cut → IsCutShort (more ++ rest) cut
still_cut more rest cut (inl none) = inl none
still_cut more rest cut (inr is) =
    let next = is.2 in
    inr (is.0, is.1, (next.0, next.1 ++ rest, ap (λ (l : List Ran). l ++ rest) next.2, next.3), is.3)

module _ (P Q : List Ran → Type 0) where
  -- where such calls can go on to be others
  pub begun_more : (a b : State) (told now : List Called) → ((ts : List Ran) → P ts → (more : List Ran) × Q (ts ++ more)) → Begun P a b told now → Begun Q a b told now
  begun_more a b told now so begun =
      let goes = so (begun.ts ++ begun.more) begun.first_of in
      record {
        ts = begun.ts;
        more = begun.more ++ goes.0;
        first_of = subst Q (append_assoc begun.ts begun.more goes.0) goes.1;
        honest = begun.honest;
        cut = begun.cut;
        scripts = begun.scripts;
        cut_short = still_cut begun.more goes.0 begun.cut begun.cut_short;
        tells = begun.tells;
      }

  pub begun_then : (R : List Ran → Type 0) (a b c : State) (told more now : List Called) → ((x y : List Ran) → P x → Q y → R (x ++ y)) → Made P a b told more → Begun Q b c more now → Begun R a c told now
  begun_then R a b c told more now both first second = record {
    ts = first.ts ++ second.ts;
    more = second.more;
    first_of = subst R (sym (append_assoc first.ts second.ts second.more)) (both first.ts (second.ts ++ second.more) first.has second.first_of);
    honest = λ h. first.honest (second.honest h);
    cut = second.cut;
    scripts = scripts_then first.ts (finished second.ts ++ second.cut) a b c first.scripts second.scripts
        ∙ ap (λ (l : List Event). scripts_of a.events ++ l) (sym (append_assoc (finished first.ts) (finished second.ts) second.cut))
        ∙ ap (λ (l : List Event). scripts_of a.events ++ (l ++ second.cut)) (sym (map-append Finished first.ts second.ts));
    cut_short = second.cut_short;
    tells = told_then first.ts second.ts told more now first.tells second.tells;
  }

-- how the calls of a row broke off, between two parts that make none

module _ (kept : Path → Bool) (P : List Ran → Type 0) (a b d : State) (told now : List Called) where
  begun_by : (e : State) (ts more : List Ran) (cut : List Event) → P (ts ++ more) → Tells ts told now → IsCutShort more cut → Silent a b → Calls kept ts b e → Falls e d → scripts_of d.events ≡ scripts_of e.events ++ cut → Begun P a d told now
  begun_by e ts more cut here tells short before made honest is = record {
    ts = ts;
    more = more;
    first_of = here;
    honest = λ h. before.honest (made.goes.honest (honest h));
    cut = cut;
    scripts = is ∙ ap (λ (l : List Event). l ++ cut) (ap scripts_of made.goes.events ∙ scripts_of-append b.events (finished ts)
        ∙ ap (λ (l : List Event). scripts_of b.events ++ l) (scripts_of-finished ts) ∙ ap (λ (l : List Event). l ++ finished ts) before.scripts)
        ∙ append_assoc (scripts_of a.events) (finished ts) cut;
    cut_short = short;
    tells = tells;
  }

  broken : (c e : State) (ts more : List Ran) → P (ts ++ more) → Tells ts told now → Silent a b → Calls kept ts b e → BrokeOff kept more e c → Silent c d → Begun P a d told now
  broken c e ts more here tells before made (BrokeOff.before same) behind =
      begun_by e ts more [] here tells (inl refl) before made (λ h. same.honest (behind.honest h)) (behind.scripts ∙ ap scripts_of same.events ∙ sym (append-nil (scripts_of e.events)))
  broken c e ts more here tells before made (BrokeOff.failed goes) behind =
      begun_by e ts more [] here tells (inl refl) before made (λ h. goes.honest (behind.honest h)) (behind.scripts ∙ ap scripts_of goes.events ∙ scripts_of-append e.events _)
  broken c e ts more here tells before made (BrokeOff.within call change next avoids goes) behind =
      begun_by e ts more (Cut call change ∷ []) here tells (inr (call, change, next, refl)) before made (λ h. goes.honest (behind.honest h)) (behind.scripts ∙ ap scripts_of goes.events ∙ scripts_of-append e.events _)

  pub begun_between : (c : State) → Silent a b → Begins kept P b c told now → Silent c d → Begun P a d told now
  begun_between c before begun behind = broken c begun.last begun.ts begun.more begun.first_of begun.tells before begun.made begun.rest behind

-- the host's own list of calls has grown by those that were made

pub made_calls : (P : List Ran → Type 0) (a b : State) (told now : List Called) → Made P a b told now → (ts : List Ran) × (calls b ≡ calls a ++ ts) × (P ts × Tells ts told now)
made_calls P a b told now made = (made.ts, calls_more made.ts a b made.scripts, (made.has, made.tells))

cut_calls : (more : List Ran) (cut : List Event) → IsCutShort more cut → calls_of cut ≡ []
cut_calls more cut (inl none) = ap calls_of none
cut_calls more cut (inr is) = ap calls_of is.3

pub begun_calls : (P : List Ran → Type 0) (a b : State) (told now : List Called) → Begun P a b told now → (ts more : List Ran) × (calls b ≡ calls a ++ ts) × (P (ts ++ more) × Tells ts told now)
begun_calls P a b told now begun = (
  begun.ts,
  begun.more,
  sym (calls_of-scripts b.events) ∙ ap calls_of begun.scripts ∙ calls_of-append (scripts_of a.events) (finished begun.ts ++ begun.cut)
      ∙ ap (λ (l : List Ran). l ++ calls_of (finished begun.ts ++ begun.cut)) (calls_of-scripts a.events)
      ∙ ap (λ (l : List Ran). calls a ++ l) (calls_of-append (finished begun.ts) begun.cut ∙ ap (λ (l : List Ran). l ++ calls_of begun.cut) (calls_of-finished begun.ts)
      ∙ ap (λ (l : List Ran). begun.ts ++ l) (cut_calls begun.more begun.cut begun.cut_short) ∙ append-nil begun.ts),
  (begun.first_of, begun.tells),
)
