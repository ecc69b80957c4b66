-- Which runs of rows are lines of a page.
use Rattle.std.proofs.Common.{◌≡◌, ℕ, List, [], ◌∷◌, ◌++◌, Option, Some, length, map, refl, sym, ap, subst, ◌∙◌, append_assoc}
use Rattle.std.proofs.lemmas.List.{append-nil}
use Rattle.host_core.specs.Events.{Ran}
use Rattle.undo_rows.specs.declared.rows.Row.{Row}
use Rattle.undo_rows.specs.declared.fall.StepFault.{StepFault}
use Rattle.undo_rows.specs.declared.fall.Fall.{Fall}
use Rattle.undo_rows.specs.Transcript.{Goes, Succeed}
use Rattle.undo_rows.specs.declared.failed.Failed.{Failed}
use Rattle.undo_rows.specs.Transcripts.{Anyhow, Ended, Committed, Legal, Unwound}
use Rattle.undo_rows.specs.Undoing.{UndoesAll}
use Rattle.policy_page.specs.Answers.{Answer, answer_of}
use Rattle.policy_page.specs.Lines.{IsLine, Line}
use Rattle.policy_page.proofs.Rows.{Are, joined, parted}

-- of each row with those before it
abbrev pub AtEach : (List Row → Row → Type 0) → List Row → List Row → Type 0
AtEach P front [] = Unit {0}
AtEach P front (r ∷ rs) = P front r × AtEach P (front ++ r ∷ []) rs

at_each : (P : List Row → Row → Type 0) (rows front : List Row) → AtEach P front rows → (before : List Row) (row : Row) (after : List Row) → rows ≡ before ++ row ∷ after → P (front ++ before) row
at_each P [] front all [] row after e = cc
at_each P [] front all (b ∷ bs) row after e = cc
at_each P (r ∷ rs) front all [] row after e =
    let same : r ≡ row = cc in
    subst (λ x. P x row) (sym (append-nil front)) (subst (P front) same all.0)
at_each P (r ∷ rs) front all (b ∷ bs) row after e =
    let same : r ≡ b = cc in
    let others : rs ≡ bs ++ row ∷ after = cc in
    subst (λ x. P x row) (append_assoc front (r ∷ []) bs ∙ (λ i. front ++ same i ∷ bs)) (at_each P rs (front ++ r ∷ []) all.1 bs row after others)

module _ {L : Type 0} (page : L → Line) where
  -- where this row is reached and fails, that is a line
  abbrev pub Falls : List Row → Row → Type 0
  Falls before row =
      (fall : Fall) (failed : List Failed) (forward last back ts : List Ran) → fall.row ≡ length before
      → Succeed Anyhow [] before forward → Goes Anyhow forward row last (Some fall) → UndoesAll 0 (before ++ row ∷ []) back failed
      → ts ≡ forward ++ last ++ back → (l : L) × IsLine (page l) (Unwound fall failed) ts

  pub each_line : (rows : List Row) → ((ts : List Ran) → Succeed Anyhow [] rows ts → (l : L) × IsLine (page l) Committed ts) → AtEach Falls [] rows → (ended : Ended) (ts : List Ran) → Legal Anyhow [] ended rows ts → (l : L) × IsLine (page l) ended ts
  each_line rows on falls Committed ts run = on ts run
  each_line rows on falls (Unwound fall failed) ts u =
      at_each Falls rows [] falls u.before u.row u.after u.rows_are fall failed u.forward u.last u.back ts u.fell_at u.succeed u.fails u.undoes u.calls_are

-- the calls in three parts
pub three : (a b c : List Answer) (forward last back ts : List Ran) → ts ≡ forward ++ last ++ back → Are forward a → Are last b → Are back c → Are ts (a ++ (b ++ c))
three a b c forward last back ts is f l k =
    ap (map answer_of) (is ∙ append_assoc forward last back) ∙ joined forward (last ++ back) a (b ++ c) f (joined last back b c l k)

-- and in two
pub two : (a b : List Answer) (own more ts : List Ran) → ts ≡ own ++ more → Are own a → Are more b → Are ts (a ++ b)
two a b own more ts is o m = ap (map answer_of) is ∙ joined own more a b o m

pub alone : (a : List Answer) (own more ts : List Ran) → ts ≡ own ++ more → more ≡ [] → Are own a → Are ts a
alone a own more ts is none o = ap (map answer_of) (is ∙ ap (λ l. own ++ l) none ∙ append-nil own) ∙ o

pub is_line : (line : Line) (n : ℕ) (fault : Option StepFault) (fs : List Failed) → line.end.ended ≡ Unwound (record { row = n; fault = fault }) fs → (fall : Fall) (failed : List Failed) (ts : List Ran) → fall.row ≡ n → fall.fault ≡ fault → failed ≡ fs → Are ts line.calls → IsLine line (Unwound fall failed) ts
is_line line n fault fs e fall failed ts r f g calls = record { calls = calls; ends = (λ i. Unwound (record { row = r i; fault = f i }) (g i)) ∙ sym e }

-- a run that is undone, in three parts
pub unwinds : (before : List Row) (row : Row) (after : List Row) (fall : Fall) (failed : List Failed) (a b c : List Answer) → fall.row ≡ length before → ((forward : List Ran) → Are forward a → Succeed Anyhow [] before forward) → ((past last : List Ran) → Are last b → Goes Anyhow past row last (Some fall)) → ((back : List Ran) → Are back c → UndoesAll 0 (before ++ row ∷ []) back failed) → (ts : List Ran) → Are ts (a ++ (b ++ c)) → Legal Anyhow [] (Unwound fall failed) (before ++ row ∷ after) ts
unwinds before row after fall failed a b c at go fall_down undo ts are =
    let first = parted a (b ++ c) ts are in
    let then = parted b c first.1 first.4 in
    record {
      before = before;
      row = row;
      after = after;
      rows_are = refl;
      fell_at = at;
      forward = first.0;
      last = then.0;
      back = then.1;
      calls_are = first.2 ∙ ap (λ l. first.0 ++ l) then.2 ∙ sym (append_assoc first.0 then.0 then.1);
      succeed = go first.0 first.3;
      fails = fall_down first.0 then.0 then.3;
      undoes = undo then.1 then.4;
    }
