-- Lists of rows, and what a row has that fails.
use Rattle.std.proofs.Common.{◌≡◌, ℕ, ◌+◌, Bool, IsTrue, false, List, [], ◌∷◌, ◌++◌, Option, Some, None, IsSome, Result, Ok, Err, IfOk, length, refl, sym, ap, subst, ◌∙◌, arith, append_assoc, length-append, get_or}
use Rattle.std.proofs.lemmas.List.{append-nil, get_or_append_left, get_or_at}
use Rattle.host_core.specs.Paths.{Path}
use Rattle.host_core.specs.World.{World}
use Rattle.host_core.specs.Events.{Event, Ran}
use Rattle.host_core.specs.Host.{State, Silent, OnlyScripts}
use Rattle.host_core.specs.declared.call.Call.{Call}
use Rattle.undo_rows.specs.declared.rows.Row.{Row}
use Rattle.undo_rows.specs.declared.fall.StepFault.{StepFault}
use Rattle.undo_rows.specs.declared.fall.Fall.{Fall}
use Rattle.undo_rows.specs.Transcript.{Goes, Tries}
use Rattle.undo_rows.specs.Place.{Fit}
use Rattle.undo_rows.specs.Stops.{AtEachStop}
use Rattle.undo_rows.proofs.Stops.{stops_then}
use Rattle.undo_rows.specs.declared.stopped.Stopped.{Stopped}
use Rattle.undo_rows.specs.declared.unwinding.Unwinding.{Unwinding}
use Rattle.undo_rows.specs.Ended.{IsCauseOf, cause_of, failure_of, forward_of, row_at}

pub nothing_done : (a : State) → Silent a a
nothing_done a = record { honest = λ h. h; scripts = refl }

pub where_ok : {T E : Type 0} (P Q : T → Type 0) (result : Result T E) → ((x : T) → P x → Q x) → IfOk result P → IfOk result Q
where_ok P Q (Ok x) so is = so x is
where_ok P Q (Err e) so is = tt

-- rows behind others, parted
pub behind : (there rows xs ys : List Row) → rows ≡ xs ++ ys → there ++ rows ≡ (there ++ xs) ++ ys
behind there rows xs ys are = ap (λ (l : List Row). there ++ l) are ∙ sym (append_assoc there xs ys)

pub behind_one : (there xs : List Row) (row : Row) → length (there ++ xs) + 1 ≡ length (there ++ (xs ++ row ∷ []))
behind_one there xs row = sym (length-append (there ++ xs) (row ∷ [])) ∙ ap length (append_assoc there xs (row ∷ []))

module _ (fits : ℕ → Row → Type 0) (rows xs : List Row) where
  -- where rows fit, so do the first of them
  pub fit_front : (ys : List Row) → rows ≡ xs ++ ys → Fit fits rows → Fit fits xs
  fit_front ys are fit i row within is =
      fit i row (omega (arith, ap length are, length-append xs ys)) (is ∙ sym (get_or_append_left xs ys row i within) ∙ ap (λ (l : List Row). get_or l i row) (sym are))

  -- and each in its place
  pub fit_at : (row : Row) (ys : List Row) → rows ≡ xs ++ row ∷ ys → Fit fits rows → fits (length xs) row
  fit_at row ys are fit =
      fit (length xs) row (omega (arith, ap length are, length-append xs (row ∷ ys))) (sym (get_or_at xs row ys row (length xs) refl) ∙ ap (λ (l : List Row). get_or l (length xs) row) (sym are))

pub row_at-here : (xs : List Row) (row : Row) (ys : List Row) → row_at (xs ++ row ∷ ys) (length xs) ≡ Some row
row_at-here [] row ys = refl
row_at-here (x ∷ xs) row ys = row_at-here xs row ys

some_call : (forward : Option Call) (call : Call) → forward ≡ Some call → IsSome forward
some_call None call is = cc
some_call (Some other) call is = refl

-- a row of calls fails only by its forward call
tried : (row : Row) (ts : List Ran) (ok : Bool) → Tries row ts ok → ok ≡ false → IsSome row.forward
tried row ts ok (Tries.absent none) fails = cc
tried row ts ok (Tries.done t is succeeds) fails = cc
tried row ts ok (Tries.failed t is fails-t none) fails = some_call row.forward t.call is
tried row ts ok (Tries.fell_back t u same is fails-t falls ends) fails = some_call row.forward t.call is

module _ (gives : List Ran → Option StepFault → Type 0) (past : List Ran) (row : Row) (fall : Fall) where
  went : (ts : List Ran) (how : Option Fall) → Goes gives past row ts how → how ≡ Some fall → fall.fault ≡ None → IsSome row.forward
  went ts how (Goes.wrote files is) same none = cc
  went ts how (Goes.clashed fault other files is has) same none = cc
  went ts how (Goes.succeeded own calls tries) same none = cc
  went ts how (Goes.failed own other calls tries has) same none = tried row own false tries refl

  -- where no step fault is told, a row that failed has a forward call
  pub has_forward : (ts : List Ran) → Goes gives past row ts (Some fall) → fall.fault ≡ None → IsSome row.forward
  has_forward ts goes = went ts (Some fall) goes refl

module _ (Task : Type 0) (stops : Task → List Event → World → Type 0) (t u : Task) (same : u ≡ t) where
  -- a part that has the same task
  pub next_part : (a b c : State) → AtEachStop (stops t) a b → AtEachStop (stops u) b c → AtEachStop (stops t) a c
  next_part a b c first second = stops_then (stops t) a b c first (subst (λ x. AtEachStop (stops x) b c) same second)

-- nothing was done yet, and what runs may be cut off
pub at_once : (stops : List Event → World → Type 0) (kept : Path → Bool) (a : State) → (IsTrue a.honest → (more : List Event) (v : World) → OnlyScripts kept a.world more v → stops (a.events ++ more) v) → AtEachStop stops a a
at_once stops kept a law = record {
  added = [];
  events = sym (append-nil a.events);
  honest = λ h. h;
  world = refl;
  each = λ h. law h [] a.world (record { world = refl; avoids = tt });
}

module _ (stopped : Stopped) (rows before after : List Row) (row : Row) (are : rows ≡ before ++ row ∷ after) where
  -- the rows up to the one that failed
  pub up_to : before ++ row ∷ after ≡ (before ++ row ∷ []) ++ after
  up_to = sym (append_assoc before (row ∷ []) after)

  pub fit_stack : (fits : ℕ → Row → Type 0) (stack : List Row) → stack ≡ before ++ row ∷ [] → Fit fits rows → Fit fits stack
  fit_stack fits stack is fit = subst (λ l. Fit fits l) (sym is) (fit_front fits rows (before ++ row ∷ []) after (are ∙ up_to) fit)

  -- for what it failed
  pub failed_for : (u : Unwinding) → stopped.fall.row ≡ length before → stopped.forward ≡ row.forward → u.fall ≡ stopped.fall → cause_of stopped.fall.fault stopped.forward ≡ Some u.failure → IsCauseOf rows (Some u)
  failed_for u at called same cause =
      let fault = stopped.fall.fault in
      ap (λ (f : Fall). failure_of rows f.row f.fault) same
      ∙ ap (λ (i : ℕ). failure_of rows i fault) at
      ∙ ap (λ (l : List Row). failure_of l (length before) fault) are
      ∙ ap (λ (o : Option Row). cause_of fault (forward_of o)) (row_at-here before row after)
      ∙ ap (λ (o : Option Call). cause_of fault o) (sym called)
      ∙ cause
