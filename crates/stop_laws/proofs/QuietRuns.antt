-- A run of one stage that is nothing but its call: script calls, and nothing else.
use Rattle.std.proofs.Common.{◌≡◌, inl, inr, ℕ, Bool, true, List, [], ◌∷◌, ◌++◌, Option, IsTrue, map, refl, sym, ap, subst, ◌∙◌, append_assoc}
use Rattle.std.proofs.lemmas.List.{append-nil}
use Rattle.host_core.specs.Paths.{Path}
use Rattle.host_core.specs.World.{Avoids, Change, changed}
use Rattle.host_core.specs.Events.{Event, Ran, changes_of}
use Rattle.host_core.specs.Host.{Calls, State, finished}
use Rattle.host_core.proofs.Scripts.{Avoids-append, changed-append, changes_of-append, no_change, silent_added}
use Rattle.host_core.specs.declared.call.Call.{Call}
use Rattle.diversions.specs.Ways.{Ways}
use Rattle.undo_rows.specs.declared.rows.Called.{Called}
use Rattle.undo_rows.specs.declared.rows.Owner.{Owner}
use Rattle.undo_rows.specs.declared.rows.Row.{Row}
use Rattle.unit_stages.specs.declared.part.Part.{Part}
use Rattle.unit_stages.specs.Holding.{Holding, after_parts}
use Rattle.unit_stages.specs.Runs.{DoesParts, HasFallen, HasRestored, HasUndone, HaveRun, kept_by}
use Rattle.unit_stages.specs.declared.stage.Stage.{Stage}
use Rattle.unit_stages.proofs.RunLaws.{follow_finished, undone_later}
use Rattle.removal_engine.specs.Stages.{deed}
use Rattle.stop_laws.proofs.Avoiding.{avoids_less}

-- from one state of the host to a later one script calls alone came, which left these places alone
pub record RanScripts (kept : Path → Bool) (s t : State) : Type 0 where
  pub added : List Event
  pub events : t.events ≡ s.events ++ added
  pub world : t.world ≡ changed (changes_of added) s.world
  pub avoids : Avoids kept (changes_of added)

scripts_then : (kept : Path → Bool) (a b c : State) → RanScripts kept a b → RanScripts kept b c → RanScripts kept a c
scripts_then kept a b c first second = record {
  added = first.added ++ second.added;
  events = second.events ∙ ap (λ (l : List Event). l ++ second.added) first.events ∙ append_assoc a.events first.added second.added;
  world = second.world ∙ ap (changed (changes_of second.added)) first.world ∙ sym (changed-append (changes_of first.added) (changes_of second.added) a.world)
      ∙ ap (λ (c : Change). changed c a.world) (sym (changes_of-append first.added second.added));
  avoids = subst (Avoids kept) (sym (changes_of-append first.added second.added)) (Avoids-append kept (changes_of first.added) (changes_of second.added) first.avoids second.avoids);
}

no_scripts : (kept : Path → Bool) (s : State) → RanScripts kept s s
no_scripts kept s = record { added = []; events = sym (append-nil s.events); world = refl; avoids = tt }

module _ (name : List ℕ) (ways : Ways) (kept : Path → Bool) (h : Holding) (keeps : (q : Path) → kept q ≡ true → kept_by ways h q ≡ true) where
  calls_ran : (ts : List Ran) (s t : State) → Calls (kept_by ways h) ts s t → IsTrue t.honest → RanScripts kept s t
  calls_ran ts s t made honest = record {
    added = finished ts;
    events = made.goes.events;
    world = made.goes.world ∙ follow_finished ts s.world;
    avoids = avoids_less kept (kept_by ways h) keeps (changes_of (finished ts)) (made.avoids honest);
  }

  parts_ran : (parts : List Part) → parts ≡ [] → (s t : State) → DoesParts name parts h s t → IsTrue t.honest → RanScripts kept s t
  parts_ran parts none s t does honest =
      let quiet = no_change does.later.added (silent_added s t does.later.added does.silent does.later.events) in
      record {
        added = does.later.added;
        events = does.later.events;
        world = (subst (λ (ps : List Part). DoesParts name ps h s t) none does).done honest ∙ ap (λ (c : Change). changed c s.world) (sym quiet);
        avoids = subst (Avoids kept) (sym quiet) tt;
      }

  restored_ran : (owners : List Owner) (restore : List Part) → restore ≡ [] → (after : Holding) (s t : State) → HasRestored name ways owners restore h after s t → IsTrue t.honest → RanScripts kept s t
  restored_ran owners restore none after s t (HasRestored.restored all does is) honest = parts_ran restore none s t does honest
  restored_ran owners restore none after s t (HasRestored.left some same is) honest = subst (λ (x : State). RanScripts kept s x) (sym same) (no_scripts kept s)

  restored_honest : (owners : List Owner) (restore : List Part) (after : Holding) (s t : State) → HasRestored name ways owners restore h after s t → IsTrue t.honest → IsTrue s.honest
  restored_honest owners restore after s t (HasRestored.restored all does is) honest = does.silent.honest honest
  restored_honest owners restore after s t (HasRestored.left some same is) honest = subst (λ (x : State). IsTrue x.honest) same honest

  undone_ran : (row : Row) (restore : List Part) → restore ≡ [] → (after : Holding) (s t : State) (told now : List Called) → HasUndone name ways row restore h after s t told now → IsTrue t.honest → RanScripts kept s t
  undone_ran row restore none after s t told now undone honest =
      scripts_then kept s undone.undone t
      (calls_ran undone.undo.0 s undone.undone undone.undo.1 (restored_honest undone.owners restore after undone.undone t undone.restored honest))
      (restored_ran undone.owners restore none after undone.undone t undone.restored honest)

  fallen_ran : (row : Row) (restore : List Part) → restore ≡ [] → (failed : Option Call) (after : Holding) (s t : State) (told now : List Called) → HasFallen name ways row restore failed h after s t told now → IsTrue t.honest → RanScripts kept s t
  fallen_ran row restore none failed after s t told now fell honest =
      scripts_then kept s fell.tried t
      (calls_ran fell.calls.0 s fell.tried fell.calls.1 ((undone_later name ways row restore h after fell.tried t fell.so_far now fell.undo).honest honest))
      (undone_ran row restore none after fell.tried t fell.so_far now fell.undo honest)

  -- the run of a stage without parts
  pub quiet_ran : (stage : Stage) → stage.parts.items ≡ [] → stage.restore.items ≡ [] → (failed : Option Call) (after : Holding) (s t : State) (told now : List Called) → HaveRun name ways (stage ∷ []) failed h after s t told now → IsTrue t.honest → RanScripts kept s t
  quiet_ran stage no_parts no_restore failed after s t told now (inl passed) honest =
      let one = passed.passed in
      let here = subst (λ (x : State). IsTrue x.honest) passed.further.2 honest in
      let calls = subst (λ (g : Holding). Calls (kept_by ways g) one.calls.0 one.ready passed.mid) (ap (λ (ps : List Part). after_parts name ps h) no_parts) one.calls.1 in
      subst (λ (x : State). RanScripts kept s x) (sym passed.further.2)
      (scripts_then kept s one.ready passed.mid (parts_ran stage.parts.items no_parts s one.ready one.parts (calls.goes.honest here)) (calls_ran one.calls.0 one.ready passed.mid calls here))
  quiet_ran stage no_parts no_restore failed after s t told now (inr failing) honest =
      let fell = subst (λ (g : Holding). HasFallen name ways stage.row stage.restore.items failed g after failing.ready t told now) (ap (λ (ps : List Part). after_parts name ps h) no_parts) failing.fell in
      let tried = (undone_later name ways stage.row stage.restore.items h after fell.tried t fell.so_far now fell.undo).honest honest in
      scripts_then kept s failing.ready t
      (parts_ran stage.parts.items no_parts s failing.ready failing.parts (fell.calls.1.goes.honest tried))
      (fallen_ran stage.row stage.restore.items no_restore failed after failing.ready t told now fell honest)

-- parts that do nothing are none
pub no_deeds : (parts : List Part) → map deed parts ≡ [] → parts ≡ []
no_deeds [] is = refl
no_deeds (part ∷ parts) is = absurd cc
