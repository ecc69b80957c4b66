-- The hooks of an unpack's rows: each leads to the next place.
use Rattle.std.proofs.Common.{◌≡◌, inr, ℕ, ◌+◌, ◌<◌, ◌≤◌, Bool, true, false, cond, ◌||◌, List, [], ◌++◌, Option, Result, Ok, Err, OnOk, length, get_or, refl, sym, ap, subst, ◌∙◌, arith}
use Rattle.std.proofs.lemmas.Bool.{true≢false}
use Rattle.std.proofs.lemmas.List.{append-nil}
use Rattle.host_core.specs.Paths.{Path}
use Rattle.host_core.specs.World.{World}
use Rattle.host_core.specs.Host.{State, AtEachMoment, Leaves, Silent}
use Rattle.host_core.specs.declared.fault.HostFault.{HostFault}
use Rattle.undo_rows.specs.declared.fall.Fall.{Fall}
use Rattle.undo_rows.specs.declared.rows.Owner.{Owner}
use Rattle.undo_rows.specs.declared.failed.Failed.{Failed}
use Rattle.undo_rows.specs.Place.{Back, Forward, Place, Ready, blamed, called}
use Rattle.undo_rows.specs.Stops.{AtEachStop}
use Rattle.status_db.specs.Noting.{IsNoted, IsNoting}
use Rattle.status_db.specs.Recorded.{Recorded}
use Rattle.unpack_rows.specs.Failures.{has_failed}
use Rattle.unpack_rows.specs.Kinds.{owner_of}
use Rattle.unpack_rows.specs.Notes.{listed, note_before, note_undone, noted, notes_at}
use Rattle.unpack_rows.specs.Stages.{is_files, stage_of}
use Rattle.unpack_rows.specs.declared.kinds.RowKind.{RowKind}
use Rattle.unpack_rows.specs.declared.notes.Note.{Note}
use Rattle.unpack_rows.proofs.Growth.{notes_called, notes_put_back, notes_ready, notes_undone}
use Rattle.unpack_rows.proofs.Staging.{stage_called, stage_spared, stage_undone}
use Rattle.unpack_steps.specs.At.{AreFound, At, Holding, IsAt, IsWithin, Stops}
use Rattle.unpack_steps.specs.Clearing.{HasCleared, MayClear}
use Rattle.unpack_steps.specs.Notable.{IsNotable}
use Rattle.unpack_steps.specs.Stays.{clear_here}
use Rattle.unpack_steps.specs.Task.{IsFileRow, Task, has_gone, kinds, name}
use Rattle.unpack_steps.proofs.Going.{gone_called, gone_prepared}
use Rattle.unpack_steps.proofs.Hooks.{Agrees, at_moves, at_noted, noting_stops}
use Rattle.unpack_steps.proofs.Notables.{before_notable, undone_notable}
use Rattle.unpack_steps.proofs.RowKinds.{kind_at}

-- what was to go is gone
pub clear_next : (gone goes : Bool) (owner : Path) (old now : World) → (gone ≡ true → goes ≡ true) → HasCleared goes owner old now → MayClear gone goes owner old now
clear_next true true owner old now so has = has
clear_next true false owner old now so same = absurd (true≢false (sym (so refl)))
clear_next false true owner old now so has = record { list = inr has.list; members = λ member is. inr (has.members member is); rest = has.rest }
clear_next false false owner old now so same = same

-- A note leads from one place to another.
abbrev pub Leads : Task → Bool → Holding → State → Place → Place → Option Note → Type 0
Leads t gone g s p r entry = IsWithin (length (kinds t)) r × (stage_of (kinds t) r ≡ stage_of (kinds t) p) × (AreFound t p g.works → AreFound t r g.works)
    × (notes_at t.found t.incoming (kinds t) r ≡ notes_at t.found t.incoming (kinds t) p ++ listed entry)
    × Agrees t gone p × Agrees t gone r

module _ (t : Task) (gone : Bool) (g : Holding) (s u : State) (p r : Place) (entry : Option Note) (at : IsAt t gone g s p) (leads : Leads t gone g s p r entry) (silent : Silent s u) where
  pub noted_place : {T : Type 0} (result : Result T HostFault) (now : Recorded) → AtEachMoment (IsNoting g.database.records (noted g.database.records (listed entry))) s u → OnOk result (now.records ≡ noted g.database.records (listed entry)) → OnOk result (now.closed ≡ false)
      → Leaves result (IsNoted now) s u → OnOk result (IsAt t gone (record g { database = now }) u r)
  noted_place (Ok x) now since is opened has = at_noted t gone g s p r leads.0 leads.1 leads.2 at u entry leads.3 silent now (λ so_far. IsNoting g.database.records (noted g.database.records (listed entry)) s.world) is opened since has
  noted_place (Err e) now since is opened has = tt

  pub noted_moments : AtEachMoment (IsNoting g.database.records (noted g.database.records (listed entry))) s u → AtEachStop (Stops t) s u
  noted_moments since = noting_stops t gone g s p r leads.0 leads.1 leads.2 at u entry leads.3 silent leads.4 leads.5 since

-- before the call of a row
module _ (t : Task) (g : Holding) (s : State) (i : ℕ) (k : RowKind) (within : i < length (kinds t)) (is : k ≡ get_or (kinds t) i k) where
  pub prepared : Leads t (has_gone t (Ready i)) g s (Forward i) (Ready i) (note_before t.found t.incoming k)
  prepared = (
    within,
    refl,
    (λ e. e),
    notes_ready t.found t.incoming (kinds t) i k within is,
    (λ base has. clear_next (has_gone t (Forward i)) (has_gone t (Ready i)) (name t) t.start.world base (gone_prepared t i) has),
    (λ base has. clear_here (has_gone t (Ready i)) (has_gone t (Ready i)) (name t) t.start.world base has),
  )

  -- after it, where nothing is noted
  pub concluded : (ok : Bool) → is_files k ≡ false → At t g s (Ready i) → At t g s (called i ok)
  concluded true calls at = subst (λ gone. IsAt t gone g s (called i true)) (sym (gone_called t i true)) (at_moves t (has_gone t (Ready i)) g s (Ready i) (called i true) (omega (arith, within)) (stage_called (kinds t) i k within is calls true) (λ e. e) at (notes_called t.found t.incoming (kinds t) i true))
  concluded false calls at = at_moves t (has_gone t (Ready i)) g s (Ready i) (called i false) (omega arith, within) (stage_called (kinds t) i k within is calls false) (λ e. tt) at (notes_called t.found t.incoming (kinds t) i false)

  -- after the undo of a row
  module _ (fall : Fall) (fails : Bool) (failed : List Failed) (owner : Owner) (whose : owner ≡ owner_of (name t) k) (calls : is_files k ≡ false) (at : At t g s (Back (i + 1) fall failed)) where
    low : i ≤ fall.row
    low = omega (arith, at.within.0)

    abbrev gone_back : Bool
    gone_back = has_gone t (Back (i + 1) fall failed)

    undone_notes : (b : Bool) → (fails || has_failed i owner failed) ≡ b → notes_at t.found t.incoming (kinds t) (Back i fall (blamed fails i owner failed)) ≡ notes_at t.found t.incoming (kinds t) (Back (i + 1) fall failed) ++ cond b [] (listed (note_undone t.found t.incoming k))
    undone_notes b asked =
        ap (λ o. notes_at t.found t.incoming (kinds t) (Back i fall (blamed fails i o failed))) whose
        ∙ notes_undone t.found t.incoming (kinds t) i k is fall failed low at.within.1 fails
        ∙ ap (λ x. notes_at t.found t.incoming (kinds t) (Back (i + 1) fall failed) ++ cond x [] (listed (note_undone t.found t.incoming k))) (ap (λ o. fails || has_failed i o failed) (sym whose) ∙ asked)

    undone_stage : stage_of (kinds t) (Back i fall (blamed fails i owner failed)) ≡ stage_of (kinds t) (Back (i + 1) fall failed)
    undone_stage = stage_undone (kinds t) i k within is calls fall failed (blamed fails i owner failed)

    pub spared : (fails || has_failed i owner failed) ≡ true → At t g s (Back i fall (blamed fails i owner failed))
    spared asked = at_moves t (has_gone t (Back (i + 1) fall failed)) g s (Back (i + 1) fall failed) (Back i fall (blamed fails i owner failed)) (omega (arith, low), at.within.1) undone_stage (λ e. tt) at
        (undone_notes true asked ∙ append-nil (notes_at t.found t.incoming (kinds t) (Back (i + 1) fall failed)))

    pub undone : (fails || has_failed i owner failed) ≡ false → Leads t (has_gone t (Back (i + 1) fall failed)) g s (Back (i + 1) fall failed) (Back i fall (blamed fails i owner failed)) (note_undone t.found t.incoming k)
    undone asked = (
      (omega (arith, low), at.within.1),
      undone_stage,
      (λ e. tt),
      undone_notes false asked,
      (λ base has. clear_here gone_back gone_back (name t) t.start.world base has),
      (λ base has. clear_here gone_back gone_back (name t) t.start.world base has),
    )

  pub before_can : IsNotable (note_before t.found t.incoming k)
  before_can = before_notable t.found t.incoming k

  pub undone_can : {p : Place} → At t g s p → IsNotable (note_undone t.found t.incoming k)
  undone_can at = undone_notable t.found t.incoming t.others t.records at.sound.concerned at.sound.standing i k within is

-- a file row that failed has nothing to put back
pub not_written : (t : Task) (g : Holding) (s : State) (i : ℕ) (fall : Fall) (failed : List Failed) → IsFileRow (kinds t) i → fall.row ≤ i → At t g s (Back (i + 1) fall failed) → At t g s (Back i fall failed)
not_written t g s i fall failed row high at =
    let found = kind_at (kinds t) i row.0 in
    let k = found.0 in
    let is = found.1 in
    let low : i ≤ fall.row = omega (arith, at.within.0) in
    let files = row.1 k is in
    let stages = stage_spared t.found t.others i k fall failed row.0 is files high in
    at_moves t (has_gone t (Back (i + 1) fall failed)) g s (Back (i + 1) fall failed) (Back i fall failed) (omega (arith, low), at.within.1) (stages.1 ∙ sym stages.0) (λ e. tt) at
    (notes_put_back t.found t.incoming (kinds t) i k is fall failed low at.within.1 files)
