-- What a run of stages tells, and which record it leaves.
use Rattle.std.proofs.Common.{◌≡◌, ◌≢◌, ◌⊎◌, inl, inr, ℕ, List, [], ◌∷◌, ◌++◌, Option, Some, None, map, refl, sym, ap, subst, ◌∙◌, append_assoc}
use Rattle.std.proofs.lemmas.List.{append-nil, map-append}
use Rattle.host_core.specs.Events.{Ran}
use Rattle.host_core.specs.Host.{State}
use Rattle.host_core.specs.declared.call.Call.{Call}
use Rattle.undo_rows.specs.declared.rows.Called.{Called}
use Rattle.undo_rows.specs.declared.rows.Owner.{Owner}
use Rattle.undo_rows.specs.Transcript.{Tells, told_of}
use Rattle.status_records.specs.declared.record.Record.{Record}
use Rattle.status_records.specs.Records.{record_in}
use Rattle.diversions.specs.Ways.{Ways}
use Rattle.unit_stages.specs.Parts.{parts_records}
use Rattle.unit_stages.specs.declared.part.Part.{Part}
use Rattle.unit_stages.specs.Holding.{Holding, after_parts}
use Rattle.unit_stages.specs.Runs.{HasFailed, HasRestored, HaveRun}
use Rattle.unit_stages.specs.declared.stage.Stage.{Stage}
use Rattle.policy_page.specs.Answers.{answer_of, fails, works}
use Rattle.policy_page.proofs.Rows.{Are, joined}
use Rattle.removal_page.specs.Lines.{Line}
use Rattle.removal_page.proofs.Rows.{failed, never_fails, tried, tried_quiet, undone, undone_quietly}
use Rattle.removal_page.proofs.Steps.{Ended, FitAll, Fits, Step, behind, ended-left, ended-right, failing, lines}

-- calls that are told one after another
pub tells_then : (ts us : List Ran) (told more now : List Called) → Tells ts told more → Tells us more now → Tells (ts ++ us) told now
tells_then ts us told more now first second =
    second ∙ ap (λ l. l ++ map told_of us) first ∙ append_assoc told (map told_of ts) (map told_of us) ∙ ap (λ l. told ++ l) (sym (map-append told_of ts us))

module _ (name : List ℕ) (records : List Record) (fell : Option Call) where
  -- behind a call that succeeded
  behind_ended : (call : Call) (ls : List Line) (own : List Ran) (told more now : List Called) → Are own (works call ∷ []) → Tells own told more → Ended ls name fell records more now → Ended (behind call ls) name fell records told now
  behind_ended call [] own told more now first tells none = absurd none
  behind_ended call (l ∷ ls) own told more now first tells (inl here) = inl (record {
    ts = own ++ here.ts;
    is = record { calls = joined own here.ts (works call ∷ []) l.calls first here.is.calls; ends = here.is.ends };
    tells = tells_then own here.ts told more now tells here.tells;
    left = here.left;
  })
  behind_ended call (l ∷ ls) own told more now first tells (inr later) = inr (behind_ended call ls own told more now first tells later)

  -- nothing was called before
  silent_ended : (ls : List Line) (own : List Ran) (told more now : List Called) → own ≡ [] → Tells own told more → Ended ls name fell records more now → Ended ls name fell records told now
  silent_ended ls own told more now silent tells ended =
      subst (λ (l : List Called). Ended ls name fell records l now) (tells ∙ ap (λ (ts : List Ran). told ++ map told_of ts) silent ∙ append-nil told) ended

-- the record where a call failed
restored_is : (name : List ℕ) (ways : Ways) (restore : List Part) (owners : List Owner) (before after : Holding) (s t : State) (left restored : Option Record) → record_in before.records name ≡ left → record_in (parts_records name restore before.records) name ≡ restored
    → HasRestored name ways owners restore before after s t → ((owners ≡ []) × (record_in after.records name ≡ restored)) ⊎ ((owners ≢ []) × (record_in after.records name ≡ left))
restored_is name ways restore owners before after s t left restored is done (HasRestored.restored none does same) = inl (none, ap (λ (h : Holding). record_in h.records name) same ∙ done)
restored_is name ways restore owners before after s t left restored is done (HasRestored.left some stays same) = inr (some, ap (λ (h : Holding). record_in h.records name) same ∙ is)

-- where a call fails
failing_ended : (name : List ℕ) (ways : Ways) (stage : Stage) (call : Call) (undo : Option Call) (left restored : Option Record) → stage.row.forward ≡ Some call → stage.row.fallback ≡ None → stage.row.undo ≡ undo
    → ((rs : List Record) → record_in (parts_records name stage.parts.items rs) name ≡ left) → ((rs : List Record) → record_in (parts_records name stage.restore.items (parts_records name stage.parts.items rs)) name ≡ restored)
    → (fell : Option Call) (before after : Holding) (s t : State) (told now : List Called) → HasFailed name ways stage fell before after s t told now
    → Ended (failing call undo left restored) name fell after.records told now
failing_ended name ways stage call undo left restored forward alone back leaves restores fell before after s t told now f = by undo back
  where
    fell_for : fell ≡ Some call
    fell_for = f.fell.answer ∙ sym f.fell.forward ∙ forward

    first : Are f.fell.calls.0 (fails call ∷ [])
    first = failed stage.row call forward alone f.fell.calls.0 f.fell.calls.2.0

    tells : Tells (f.fell.calls.0 ++ f.fell.undo.undo.0) told now
    tells = tells_then f.fell.calls.0 f.fell.undo.undo.0 told f.fell.so_far now f.fell.calls.2.1 f.fell.undo.undo.2.1

    ends : ((f.fell.undo.owners ≡ []) × (record_in after.records name ≡ restored)) ⊎ ((f.fell.undo.owners ≢ []) × (record_in after.records name ≡ left))
    ends = restored_is name ways stage.restore.items f.fell.undo.owners (after_parts name stage.parts.items before) after f.fell.undo.undone t left restored (leaves before.records) (restores before.records) f.fell.undo.restored

    well : {A : Type 0} → f.fell.undo.owners ≡ [] → ((record_in after.records name ≡ restored) → A) → A
    well {A} none go = elim ends [ inl is ↦ go is.1 | inr is ↦ absurd (is.0 none) ]

    badly : {A : Type 0} → f.fell.undo.owners ≢ [] → ((record_in after.records name ≡ left) → A) → A
    badly {A} some go = elim ends [ inl is ↦ absurd (some is.0) | inr is ↦ go is.1 ]

    by : (undo : Option Call) → stage.row.undo ≡ undo → Ended (failing call undo left restored) name fell after.records told now
    by None none =
        let quiet = undone_quietly stage.row none f.fell.undo.owners f.fell.undo.undo.0 f.fell.undo.undo.2.0 in
        inl (well quiet.1 (λ is. record {
          ts = f.fell.calls.0 ++ f.fell.undo.undo.0;
          is = record { calls = ap (λ (l : List Ran). map answer_of (f.fell.calls.0 ++ l)) quiet.0 ∙ ap (map answer_of) (append-nil f.fell.calls.0) ∙ first; ends = fell_for };
          tells = tells;
          left = is;
        }))
    by (Some undo) is = elim (undone stage.row undo is f.fell.undo.owners f.fell.undo.undo.0 f.fell.undo.undo.2.0) [
      | inl good ↦ inl (well good.0 (λ left. record {
        ts = f.fell.calls.0 ++ f.fell.undo.undo.0;
        is = record { calls = joined f.fell.calls.0 f.fell.undo.undo.0 _ _ first good.1; ends = fell_for };
        tells = tells;
        left = left;
      }))
      | inr bad ↦ inr (inl (badly bad.0 (λ left. record {
        ts = f.fell.calls.0 ++ f.fell.undo.undo.0;
        is = record { calls = joined f.fell.calls.0 f.fell.undo.undo.0 _ _ first bad.1; ends = fell_for };
        tells = tells;
        left = left;
      })))
    ]

-- what a run of stages tells and leaves is one of the lines of their steps
pub ended_lines : (name : List ℕ) (ways : Ways) (steps : List Step) (stages : List Stage) → FitAll name steps stages
    → (o : Option Record) (fell : Option Call) (before after : Holding) (s t : State) (told now : List Called) → record_in before.records name ≡ o
    → HaveRun name ways stages fell before after s t told now → Ended (lines o steps) name fell after.records told now
ended_lines name ways [] [] fit o fell before after s t told now found run = inl (record {
  ts = [];
  is = record { calls = refl; ends = run.0 };
  tells = run.3 ∙ sym (append-nil told);
  left = ap (λ (h : Holding). record_in h.records name) run.1 ∙ found;
})
ended_lines name ways [] (x ∷ xs) fit o fell before after s t told now found run = absurd fit
ended_lines name ways (p ∷ ps) [] fit o fell before after s t told now found run = absurd fit
ended_lines name ways (p ∷ ps) (x ∷ xs) (Fits.quiet stage left none leaves, rest) o fell before after s t told now found (inl passed) =
    silent_ended name after.records fell (lines left ps) passed.passed.calls.0 told passed.more now (tried_quiet x.row none passed.passed.calls.0 passed.passed.calls.2.0) passed.passed.calls.2.1
    (ended_lines name ways ps xs rest left fell (after_parts name x.parts.items before) after passed.mid t passed.more now (leaves before.records) passed.further)
ended_lines name ways (p ∷ ps) (x ∷ xs) (Fits.quiet stage left none leaves, rest) o fell before after s t told now found (inr f) = absurd (never_fails x.row none f.fell.calls.0 f.fell.calls.2.0)
ended_lines name ways (p ∷ ps) (x ∷ xs) (Fits.calls stage call undo left restored forward alone back leaves restores, rest) o fell before after s t told now found (inl passed) =
    ended-right (failing call undo left restored) (behind call (lines left ps)) name fell after.records told now
    (behind_ended name after.records fell call (lines left ps) passed.passed.calls.0 told passed.more now (tried x.row call forward alone passed.passed.calls.0 passed.passed.calls.2.0) passed.passed.calls.2.1
    (ended_lines name ways ps xs rest left fell (after_parts name x.parts.items before) after passed.mid t passed.more now (leaves before.records) passed.further))
ended_lines name ways (p ∷ ps) (x ∷ xs) (Fits.calls stage call undo left restored forward alone back leaves restores, rest) o fell before after s t told now found (inr f) =
    ended-left (failing call undo left restored) (behind call (lines left ps)) name fell after.records told now (failing_ended name ways x call undo left restored forward alone back leaves restores fell before after s t told now f)
