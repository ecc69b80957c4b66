-- From one place of the rows to the next, with a note or with nothing.
use Rattle.std.proofs.Common.{◌≡◌, inl, inr, Bool, false, List, [], ◌∷◌, ◌++◌, Option, IsTrue, length, refl, sym, ap, subst, ◌∙◌, append_assoc}
use Rattle.std.proofs.lemmas.List.{append-nil}
use Rattle.host_core.specs.World.{Change, World, is_kept}
use Rattle.host_core.specs.Events.{Event, changes_of, scripts_of}
use Rattle.host_core.specs.Host.{State, AtEachMoment, Silent, Since}
use Rattle.host_core.proofs.Moments.{scripts_of-append}
use Rattle.host_core.proofs.Scripts.{changes_of-append, no_change, only_start, silent_added}
use Rattle.undo_rows.specs.Place.{Place}
use Rattle.undo_rows.specs.Stops.{AtEachStop}
use Rattle.undo_rows.proofs.Stops.{stops_quiet}
use Rattle.package_files.specs.declared.work.Work.{Work}
use Rattle.status_db.specs.Held.{HasRecords}
use Rattle.status_db.specs.Noting.{IsNoted, IsNoting}
use Rattle.status_db.specs.Recorded.{Recorded}
use Rattle.status_records.specs.Records.{drop_record, put_record}
use Rattle.status_records.specs.declared.record.Record.{Record}
use Rattle.unpack_rows.specs.Notes.{listed, noted, notes_at}
use Rattle.unpack_rows.specs.Stages.{Stage, Unwritten, Wrote, Restored, stage_of}
use Rattle.unpack_rows.specs.declared.notes.Note.{Note}
use Rattle.unpack_rows.specs.declared.notes.Note.TheVariants.{Put, Drop}
use Rattle.unpack_steps.specs.At.{AreFound, AreWorksAt, At, Holding, IsAt, IsWithin, Stops, table_at}
use Rattle.unpack_steps.specs.Clearing.{HasCleared, MayClear, next_ready}
use Rattle.unpack_steps.specs.Follows.{come_noted, ready_noted}
use Rattle.unpack_steps.specs.Stays.{holds_at, stop_at}
use Rattle.unpack_steps.specs.Task.{Task, based_on, has_gone, kinds, lists_at, name, places_at}
use Rattle.unpack_steps.specs.Trail.{HasCome}

-- where nothing is done, all is as the place says
pub stops_here : (t : Task) (g : Holding) (s : State) (p : Place) → At t g s p → AtEachStop (Stops t) s s
stops_here t g s p at = record {
  added = [];
  events = sym (append-nil s.events);
  honest = λ h. h;
  world = refl;
  each = λ h. holds_at t g s p [] s.world at h (only_start (is_kept g.places) s.world);
}

pub noted-append : (table : List Record) (a b : List Note) → noted table (a ++ b) ≡ noted (noted table a) b
noted-append table [] b = refl
noted-append table (Put r ∷ a) b = noted-append (put_record r table) a b
noted-append table (Drop q ∷ a) b = noted-append (drop_record q table) a b

works_move : (t : Task) (p r : Place) (stage : Stage) (works : List Work) → (AreFound t p works → AreFound t r works) → AreWorksAt t p stage works → AreWorksAt t r stage works
works_move t p r Unwritten works found are = found are
works_move t p r Wrote works found are = are
works_move t p r Restored works found are = are

-- what is gone or isn't agrees with a place
abbrev pub Agrees : Task → Bool → Place → Type 0
Agrees t gone p = (base : World) → HasCleared gone (name t) t.start.world base → MayClear (has_gone t p) (has_gone t (next_ready p)) (name t) t.start.world base

-- To another place of the same stage.
module _ (t : Task) (gone : Bool) (g : Holding) (s : State) (p r : Place) (within : IsWithin (length (kinds t)) r) (stage : stage_of (kinds t) r ≡ stage_of (kinds t) p)
    (found : AreFound t p g.works → AreFound t r g.works) (at : IsAt t gone g s p) where
  works_now : AreWorksAt t r (stage_of (kinds t) r) g.works
  works_now = subst (λ st. AreWorksAt t r st g.works) (sym stage) (works_move t p r (stage_of (kinds t) p) g.works found at.works)

  abbrev now_on : Task
  now_on = based_on t at.base

  came_now : (c : Change) (w : World) → HasCome now_on (stage_of (kinds t) p) g.works c w → HasCome now_on (stage_of (kinds t) r) g.works c w
  came_now c w has = subst (λ st. HasCome now_on st g.works c w) (sym stage) has

  -- with nothing noted
  pub at_moves : notes_at t.found t.incoming (kinds t) r ≡ notes_at t.found t.incoming (kinds t) p → IsAt t gone g s r
  at_moves notes = record {
    sound = at.sound;
    falls = at.falls;
    within = within;
    records = at.records ∙ ap (noted t.records) (sym notes);
    opened = at.opened;
    lists = at.lists ∙ ap (lists_at t) (sym stage);
    lists_open = at.lists_open;
    places = at.places ∙ ap (places_at t) (sym stage);
    works = works_now;
    since = at.since;
    events = at.events;
    ran = at.ran;
    ended = at.ended;
    base = at.base;
    cleared = at.cleared;
    members = at.members;
    world = λ h. record { kept = (at.world h).kept; ready = (at.world h).ready; came = came_now (changes_of at.since) s.world (at.world h).came };
  }

  -- with one note, or none
  module _ (u : State) (entry : Option Note) (notes : notes_at t.found t.incoming (kinds t) r ≡ notes_at t.found t.incoming (kinds t) p ++ listed entry) (silent : Silent s u) where
    next_table : table_at t r ≡ noted g.database.records (listed entry)
    next_table = ap (noted t.records) notes ∙ noted-append t.records (notes_at t.found t.incoming (kinds t) p) (listed entry) ∙ ap (λ l. noted l (listed entry)) (sym at.records)

    same_change : (more : List Event) → scripts_of more ≡ [] → changes_of (at.since ++ more) ≡ changes_of at.since
    same_change more none = changes_of-append at.since more ∙ ap (λ l. changes_of at.since ++ l) (no_change more none) ∙ append-nil (changes_of at.since)

    pub at_noted : (now : Recorded) (P : List Event → World → Type 0) → now.records ≡ noted g.database.records (listed entry) → now.closed ≡ false → Since P s u → (IsTrue u.honest → IsNoted now s.world u.world)
        → IsAt t gone (record g { database = now }) u r
    at_noted now P is still_open moments has =
        let none = silent_added s u moments.added silent moments.events in
        record {
          sound = at.sound;
          falls = λ h. at.falls (silent.honest h);
          within = within;
          records = is ∙ sym next_table;
          opened = still_open;
          lists = at.lists ∙ ap (lists_at t) (sym stage);
          lists_open = at.lists_open;
          places = at.places ∙ ap (places_at t) (sym stage);
          works = works_now;
          since = at.since ++ moments.added;
          events = moments.events ∙ ap (λ (l : List Event). l ++ moments.added) at.events ∙ append_assoc t.start.events at.since moments.added;
          ran = at.ran;
          ended = scripts_of-append at.since moments.added ∙ ap (λ (l : List Event). scripts_of at.since ++ l) none ∙ append-nil (scripts_of at.since) ∙ at.ended;
          base = at.base;
          cleared = λ h. at.cleared (silent.honest h);
          members = λ h. at.members (silent.honest h);
          world = λ h.
              let there = at.world (silent.honest h) in
              let noted_now = has h in
              record {
                kept = noted_now.kept;
                ready = ready_noted (name t) s.world u.world noted_now.rest there.ready;
                came = subst (λ c. HasCome now_on (stage_of (kinds t) r) g.works c u.world) (sym (same_change moments.added none))
                    (came_now (changes_of at.since) u.world (come_noted now_on g.works (changes_of at.since) s.world u.world (stage_of (kinds t) p) noted_now.rest there.came));
              };
        }

    stop_noted : Agrees t gone p → Agrees t gone r → IsTrue s.honest → (so_far : List Event) (w : World) → scripts_of so_far ≡ [] → IsNoting g.database.records (noted g.database.records (listed entry)) s.world w → Stops t (s.events ++ so_far) w
    stop_noted here there_too h so_far w none is =
        let there = at.world h in
        let events = ap (λ (l : List Event). l ++ so_far) at.events ∙ append_assoc t.start.events at.since so_far in
        let ready = ready_noted (name t) s.world w is.rest there.ready in
        let came = subst (λ c. HasCome now_on (stage_of (kinds t) p) g.works c w) (sym (same_change so_far none)) (come_noted now_on g.works (changes_of at.since) s.world w (stage_of (kinds t) p) is.rest there.came) in
        elim is.records [
          | inl before ↦ stop_at t p g.works (at.since ++ so_far) (s.events ++ so_far) w at.within events (subst (HasRecords w) at.records before) is.opens ready at.works at.base (here at.base (at.cleared h)) came
          | inr after ↦ stop_at t r g.works (at.since ++ so_far) (s.events ++ so_far) w within events (subst (HasRecords w) (sym next_table) after) is.opens ready works_now at.base (there_too at.base (at.cleared h)) (came_now (changes_of (at.since ++ so_far)) w came)
        ]

    pub noting_stops : Agrees t gone p → Agrees t gone r → AtEachMoment (IsNoting g.database.records (noted g.database.records (listed entry))) s u → AtEachStop (Stops t) s u
    noting_stops here there_too since = stops_quiet (Stops t) (λ so_far. IsNoting g.database.records (noted g.database.records (listed entry)) s.world) s u silent since (λ h so_far w none is. stop_noted here there_too (silent.honest h) so_far w none is)
