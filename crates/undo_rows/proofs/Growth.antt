-- How what may be called for rows grows by one row.
use Rattle.std.proofs.Common.{◌≡◌, List, [], ◌∷◌, ◌++◌, Option, Some, None, length, refl, sym, ap, subst, ◌∙◌, append_assoc}
use Rattle.std.proofs.lemmas.List.{append-nil}
use Rattle.host_core.specs.Events.{Ran}
use Rattle.undo_rows.specs.declared.rows.Row.{Row}
use Rattle.undo_rows.specs.declared.rows.Owner.{Owner}
use Rattle.undo_rows.specs.declared.rows.Owner.TheVariants.{Files, Package}
use Rattle.undo_rows.specs.declared.fall.StepFault.{StepFault}
use Rattle.undo_rows.specs.declared.fall.Fall.{Fall}
use Rattle.undo_rows.specs.Transcript.{Goes, Succeed}
use Rattle.undo_rows.specs.Transcripts.{Anyhow, Committed, Ended, Legal, MayRun, MayStep, MayUnwind, Unwound}
use Rattle.undo_rows.proofs.Rowwise.{may_succeed}
use Rattle.undo_rows.proofs.Undone.{may_unwind}

module _ (F : List Ran → Option StepFault → Type 0) where
  pub succeed_append : (past : List Ran) (l m : List Row) (x y : List Ran) → Succeed F past l x → Succeed F (past ++ x) m y → Succeed F past (l ++ m) (x ++ y)
  succeed_append past [] m x y none second =
      subst (λ t. Succeed F past m (t ++ y)) (sym none) (subst (λ p. Succeed F p m y) (ap (λ (t : List Ran). past ++ t) none ∙ append-nil past) second)
  succeed_append past (r ∷ l) m x y first second = (
    first.0,
    first.1 ++ y,
    ap (λ (t : List Ran). t ++ y) first.2 ∙ append_assoc first.0 first.1 y,
    first.3,
    succeed_append (past ++ first.0) l m first.1 y first.4 (subst (λ p. Succeed F p m y) (ap (λ (t : List Ran). past ++ t) first.2 ∙ sym (append_assoc past first.0 first.1)) second),
  )

  pub succeed_push : (past : List Ran) (l : List Row) (row : Row) (x own : List Ran) → Succeed F past l x → Goes F (past ++ x) row own None → Succeed F past (l ++ row ∷ []) (x ++ own)
  succeed_push past l row x own first one = succeed_append past l (row ∷ []) x own first (own, [], sym (append-nil own), one, refl)

  -- the number of the row that fails is whatever is told
  goes_at : (past : List Ran) (row : Row) (ts : List Ran) (fall other : Fall) → other.fault ≡ fall.fault → Goes F past row ts (Some fall) → Goes F past row ts (Some other)
  goes_at past row ts fall other same (Goes.clashed fault f files gives is) = Goes.clashed fault other files gives (same ∙ is)
  goes_at past row ts fall other same (Goes.failed t f calls tries is) = Goes.failed ts other calls tries (same ∙ is)

-- where more is said of the file row's fault
module _ (F G : List Ran → Option StepFault → Type 0) where
  pub goes_onto : (p q : List Ran) → ((fault : Option StepFault) → F p fault → G q fault) → (row : Row) (ts : List Ran) (fall : Option Fall) → Goes F p row ts fall → Goes G q row ts fall
  goes_onto p q so row ts fall (Goes.wrote files gives) = Goes.wrote files (so None gives)
  goes_onto p q so row ts fall (Goes.clashed fault f files gives is) = Goes.clashed fault f files (so (Some fault) gives) is
  goes_onto p q so row ts fall (Goes.succeeded t calls tries) = Goes.succeeded ts calls tries
  goes_onto p q so row ts fall (Goes.failed t f calls tries is) = Goes.failed ts f calls tries is

  pub succeed_weaker : ((past : List Ran) (fault : Option StepFault) → F past fault → G past fault) → (past : List Ran) (rows : List Row) (ts : List Ran) → Succeed F past rows ts → Succeed G past rows ts
  succeed_weaker so past [] ts none = none
  succeed_weaker so past (row ∷ rows) ts all = (all.0, all.1, all.2, goes_onto past past (so past) row all.0 None all.3, succeed_weaker so (past ++ all.0) rows all.1 all.4)

  pub legal_weaker : ((past : List Ran) (fault : Option StepFault) → F past fault → G past fault) → (past : List Ran) (ended : Ended) (rows : List Row) (ts : List Ran) → Legal F past ended rows ts → Legal G past ended rows ts
  legal_weaker so past Committed rows ts all = succeed_weaker so past rows ts all
  legal_weaker so past (Unwound fall failed) rows ts is = record {
    before = is.before;
    row = is.row;
    after = is.after;
    rows_are = is.rows_are;
    fell_at = is.fell_at;
    forward = is.forward;
    last = is.last;
    back = is.back;
    calls_are = is.calls_are;
    succeed = succeed_weaker so past is.before is.forward is.succeed;
    fails = goes_onto (past ++ is.forward) (past ++ is.forward) (so (past ++ is.forward)) is.row is.last (Some fall) is.fails;
    undoes = is.undoes;
  }

-- where nothing is said of it

module _ (F : List Ran → Option StepFault → Type 0) (p : List Ran) where
  pub goes_anyhow : (q : List Ran) (row : Row) (ts : List Ran) (fall : Option Fall) → Goes F p row ts fall → Goes Anyhow q row ts fall
  goes_anyhow q row ts fall goes = goes_onto F Anyhow p q (λ fault is. tt) row ts fall goes

pub succeed_anyhow : (F : List Ran → Option StepFault → Type 0) (p q : List Ran) (rows : List Row) (ts : List Ran) → Succeed F p rows ts → Succeed Anyhow q rows ts
succeed_anyhow F p q [] ts none = none
succeed_anyhow F p q (row ∷ rows) ts all = (all.0, all.1, all.2, goes_anyhow F p q row all.0 None all.3, succeed_anyhow F (p ++ all.0) (q ++ all.0) rows all.1 all.4)

-- all rows can succeed
passes_by : (row : Row) (owner : Owner) → row.owner ≡ owner → (past : List Ran) → (own : List Ran) × Goes Anyhow past row own None
passes_by row Files is past = ([], Goes.wrote is tt)
passes_by row (Package name) is past = let some = may_succeed row in (some.0, Goes.succeeded some.0 (λ files. cc) some.1)

may_succeed_all : (rows : List Row) (past : List Ran) → (ts : List Ran) × Succeed Anyhow past rows ts
may_succeed_all [] past = ([], refl)
may_succeed_all (row ∷ rows) past =
    let own = passes_by row row.owner refl past in
    let rest = may_succeed_all rows (past ++ own.0) in
    (own.0 ++ rest.0, (own.0, rest.0, refl, own.1, rest.1))

-- rows that succeeded, and then any others
pub may_run_on : (rows after : List Row) (ts : List Ran) → Succeed Anyhow [] rows ts → (more : List Ran) × MayRun (rows ++ after) (ts ++ more)
may_run_on rows after ts all = let rest = may_succeed_all after ts in (rest.0, (Committed, succeed_append Anyhow [] rows after ts rest.0 all rest.1))

-- rows that succeeded, one that failed, and the undo of these
pub may_unwind_of : (rows after : List Row) (row : Row) (x y back : List Ran) (fall : Fall) → Succeed Anyhow [] rows x → Goes Anyhow [] row y (Some fall) → MayUnwind (rows ++ row ∷ []) back → MayRun (rows ++ row ∷ after) (x ++ y ++ back)
may_unwind_of rows after row x y back fall all fails undo =
    let other : Fall = record { row = length rows; fault = fall.fault } in (
      Unwound other undo.0,
      record {
        before = rows;
        row = row;
        after = after;
        rows_are = refl;
        fell_at = refl;
        forward = x;
        last = y;
        back = back;
        calls_are = refl;
        succeed = all;
        fails = goes_at Anyhow x row y fall other refl (goes_anyhow Anyhow [] x row y (Some fall) fails);
        undoes = undo.1;
      },
    )

steps_on : (rows after : List Row) (row : Row) (x y : List Ran) (fall : Option Fall) → Succeed Anyhow [] rows x → Goes Anyhow [] row y fall → (more : List Ran) × MayRun (rows ++ row ∷ after) ((x ++ y) ++ more)
steps_on rows after row x y None all one =
    let rest = may_succeed_all after (x ++ y) in (
      rest.0,
      subst (MayRun (rows ++ row ∷ after)) (sym (append_assoc x y rest.0))
          (Committed, succeed_append Anyhow [] rows (row ∷ after) x (y ++ rest.0) all (y, rest.0, refl, goes_anyhow Anyhow [] x row y None one, rest.1)),
    )
steps_on rows after row x y (Some fall) all one =
    let undo = may_unwind (rows ++ row ∷ []) in
    (undo.0, may_unwind_of rows after row x y undo.0 fall all one undo.1)

-- rows that succeeded, one that was stepped through, and then what may come
pub may_step_on : (rows after : List Row) (row : Row) (x y : List Ran) → Succeed Anyhow [] rows x → MayStep row y → (more : List Ran) × MayRun (rows ++ row ∷ after) ((x ++ y) ++ more)
may_step_on rows after row x y all one = steps_on rows after row x y one.0 all one.1

pub may_have_run : (F : List Ran → Option StepFault → Type 0) (past : List Ran) (ended : Ended) (rows : List Row) (ts : List Ran) → Legal F past ended rows ts → MayRun rows ts
may_have_run F past Committed rows ts all = (Committed, succeed_anyhow F past [] rows ts all)
may_have_run F past (Unwound fall failed) rows ts is = (
  Unwound fall failed,
  record {
    before = is.before;
    row = is.row;
    after = is.after;
    rows_are = is.rows_are;
    fell_at = is.fell_at;
    forward = is.forward;
    last = is.last;
    back = is.back;
    calls_are = is.calls_are;
    succeed = succeed_anyhow F past [] is.before is.forward is.succeed;
    fails = goes_anyhow F (past ++ is.forward) is.forward is.row is.last (Some fall) is.fails;
    undoes = is.undoes;
  },
)
