-- What holds at a place while scripts run there.
use Rattle.std.specs.Prelude.{◌≡◌, Bool, true, false, List, ◌++◌, length}
use Rattle.std.proofs.Common.{inl, IsTrue, refl, sym, ◌∙◌, ap, subst, append_assoc}
use Rattle.std.proofs.lemmas.List.{map-append}
use Rattle.host_core.specs.World.{World, Avoids, Change, SameOn, changed, is_kept}
use Rattle.host_core.specs.Events.{Event, Finished, Ran, changes_of, scripts_of}
use Rattle.host_core.specs.Host.{State, Calls, OnlyScripts, finished}
use Rattle.host_core.proofs.Moments.{scripts_of-append}
use Rattle.host_core.specs.Paths.{Path}
use Rattle.host_core.proofs.Scripts.{changed_kept, changes_of-append}
use Rattle.administration.specs.Places.{list_path}
use Rattle.undo_rows.specs.Place.{Place}
use Rattle.control_members.specs.Stored.{stored_member_path}
use Rattle.file_lists.specs.Writing.{IsListReady}
use Rattle.package_files.specs.declared.work.Work.{Work}
use Rattle.status_db.specs.Held.{CanOpenRecords, HasRecords}
use Rattle.status_records.specs.declared.record.Record.{Record}
use Rattle.unpack_rows.specs.Stages.{Stage, Unwritten, Wrote, Restored, stage_of}
use Rattle.unpack_rows.proofs.Staging.{marked}
use Rattle.unpack_steps.specs.At.{AreWorksAt, At, Holding, IsAmid, IsAt, IsMarked, IsThere, IsWithin, Stops, table_at}
use Rattle.unpack_steps.specs.Follows.{come_then, follow_finished, follows_scripts, ready_kept, records_kept, scripts_of-finished}
use Rattle.unpack_steps.specs.Clearing.{HasCleared, MayClear, next_ready}
use Rattle.unpack_steps.specs.Task.{Task, based_on, has_gone, kinds, name, places_at}
use Rattle.unpack_steps.specs.Trail.{Follows, HasCome}

-- where it is gone or isn't, it may go from there
pub clear_here : (gone goes : Bool) (owner : Path) (old now : World) → HasCleared gone owner old now → MayClear gone goes owner old now
clear_here true goes owner old now has = has
clear_here false true owner old now same = record {
  list = inl (ap (λ (w : World). w (list_path owner)) same);
  members = λ member is. inl (ap (λ (w : World). w (stored_member_path owner member)) same);
  rest = λ q beside. ap (λ (w : World). w q) same;
}
clear_here false false owner old now same = same

-- what a stop shows of the files in each stage
amid_at : (t : Task) (base : World) (place : Place) (stage : Stage) (works : List Work) (table : List Record) (c : Change) (w : World)
    → AreWorksAt t place stage works → (stage ≡ Wrote → IsMarked t table) → HasCome (based_on t base) stage works c w → IsAmid (based_on t base) table c w
amid_at t base place Unwritten works table c w are marks has = IsAmid.untouched has
amid_at t base place Wrote works table c w are marks has = IsAmid.written works are.same (marks refl) has
amid_at t base place Restored works table c w are marks has = IsAmid.back works are.same has

-- at a place a stop may come
pub stop_at : (t : Task) (place : Place) (works : List Work) (since es : List Event) (w : World) → IsWithin (length (kinds t)) place → es ≡ t.start.events ++ since
    → HasRecords w (table_at t place) → CanOpenRecords w → IsListReady (name t) w → AreWorksAt t place (stage_of (kinds t) place) works
    → (base : World) → MayClear (has_gone t place) (has_gone t (next_ready place)) (name t) t.start.world base → HasCome (based_on t base) (stage_of (kinds t) place) works (changes_of since) w → Stops t es w
stop_at t place works since es w within events records opens ready are base cleared has = record {
  since = since;
  events = events;
  place = place;
  within = within;
  records = records;
  opens = opens;
  ready = ready;
  base = base;
  cleared = cleared;
  files = amid_at t base place (stage_of (kinds t) place) works (table_at t place) (changes_of since) w are (marked t.found t.incoming t.others t.records place) has;
}

-- after script calls it is as before
there_still : (t : Task) (g : Holding) (place : Place) (c d : Change) (v w : World) → w ≡ changed d v → Avoids (is_kept g.places) d → g.places ≡ places_at t (stage_of (kinds t) place) → IsThere t g place c v → IsThere t g place (c ++ d) w
there_still t g place c d v w is avoids places there =
    let same : SameOn (is_kept g.places) v w = subst (SameOn (is_kept g.places) v) (sym is) (changed_kept (is_kept g.places) d v avoids) in
    record {
      kept = records_kept g.places v w same g.database.records g.database.notes there.kept;
      ready = ready_kept g.places v w same (name t) there.ready;
      came = come_then t g.works c d v w (stage_of (kinds t) place) there.came (subst (λ l. Follows l d v w) places (follows_scripts g.places d v w is avoids));
    }

pub stays_at : (t : Task) (g : Holding) (s u : State) (place : Place) (us : List Ran) → At t g s place → Calls (is_kept g.places) us s u → At t g u place
stays_at t g s u place us at calls = record {
  sound = at.sound;
  falls = λ h. at.falls (calls.goes.honest h);
  within = at.within;
  records = at.records;
  opened = at.opened;
  lists = at.lists;
  lists_open = at.lists_open;
  places = at.places;
  works = at.works;
  since = at.since ++ finished us;
  events = calls.goes.events ∙ ap (λ (l : List Event). l ++ finished us) at.events ∙ append_assoc t.start.events at.since (finished us);
  ran = at.ran ++ us;
  base = at.base;
  cleared = λ h. at.cleared (calls.goes.honest h);
  members = λ h. at.members (calls.goes.honest h);
  ended = scripts_of-append at.since (finished us) ∙ ap (λ (l : List Event). scripts_of at.since ++ l) (scripts_of-finished us)
      ∙ ap (λ (l : List Event). l ++ finished us) at.ended ∙ sym (map-append Finished at.ran us);
  world = λ h. subst (λ c. IsThere (based_on t at.base) g place c u.world) (sym (changes_of-append at.since (finished us)))
      (there_still (based_on t at.base) g place (changes_of at.since) (changes_of (finished us)) s.world u.world (calls.goes.world ∙ follow_finished us s.world) (calls.avoids h) at.places (at.world (calls.goes.honest h)));
}

pub holds_at : (t : Task) (g : Holding) (s : State) (place : Place) (more : List Event) (v : World) → At t g s place → IsTrue s.honest → OnlyScripts (is_kept g.places) s.world more v → Stops t (s.events ++ more) v
holds_at t g s place more v at h only =
    let there = there_still (based_on t at.base) g place (changes_of at.since) (changes_of more) s.world v only.world only.avoids at.places (at.world h) in
    stop_at t place g.works (at.since ++ more) (s.events ++ more) v at.within (ap (λ (l : List Event). l ++ more) at.events ∙ append_assoc t.start.events at.since more)
    (subst (HasRecords v) at.records there.kept.holds) (record { unblocked = there.kept.unblocked; table = g.database.records; records = there.kept.holds })
    there.ready at.works at.base (clear_here (has_gone t place) (has_gone t (next_ready place)) (name t) t.start.world at.base (at.cleared h)) (subst (λ c. HasCome (based_on t at.base) (stage_of (kinds t) place) g.works c v) (sym (changes_of-append at.since more)) there.came)
