-- What a unit carries over: an administration that is in order, its diversions, and an `info` that no opening refuses.
use Rattle.std.proofs.Common.{◌≡◌, ℕ, List, [], ◌∷◌, Option, IsTrue, refl, sym, ap, subst, ◌∙◌}
use Rattle.std.specs.Prelude.{is_some, true}
use Rattle.std.proofs.Math.Logic.{∥∥₁_map}
use Rattle.host_core.specs.Events.{Did}
use Rattle.host_core.specs.Host.{State, Happens, Needs, Reads}
use Rattle.host_core.specs.World.{Barrier}
use Rattle.host_core.specs.declared.call.Call.{Call}
use Rattle.administration.specs.Places.{diversions_path, info_path, temporary}
use Rattle.administration.proofs.WholeFiles.{no_directory_at}
use Rattle.diversions.specs.Ways.{Ways}
use Rattle.diversions.specs.Lines.{HasEntries}
use Rattle.opening.specs.Parts.{names_of}
use Rattle.removal_run.specs.Units.{holding_of}
use Rattle.status_db.proofs.Ordered.{same_standing, standing_same}
use Rattle.held_administration.specs.Order.{IsInOrder}
use Rattle.unit_reports.specs.Held.{Held}
use Rattle.unit_reports.specs.Units.{IsRefused}
use Rattle.unit_reports.specs.declared.refusal.Rule.{Rule}
use Rattle.unit_reports.specs.declared.report.Unit.{Unit as AUnit}
use Rattle.unit_stages.specs.Runs.{HaveRun}
use Rattle.unit_stages.specs.declared.stage.Stage.{Stage}
use Rattle.status_records.specs.Records.{record_in}
use Rattle.unpack_engine.proofs.Order.{directory_there}
use Rattle.undo_rows.specs.declared.rows.Called.{Called}
use Rattle.dpkg_session.specs.History.{Stands}
use Rattle.dpkg_session.specs.Standing.{IsStanding}
use Rattle.dpkg_session.proofs.Certain.{lists_had}
use Rattle.dpkg_session.proofs.Found.{HasInfo, info_left}
use Rattle.dpkg_session.proofs.Displaced.{Leaves, leaves_barrier, stages_leave}
use Rattle.dpkg_session.proofs.Sound.{diversions_others, diversions_spare_others}
use Rattle.dpkg_session.proofs.Standings.{order_standing, recorded, standing_found}
use Rattle.dpkg_session.proofs.Staying.{AreOwnStages}

abbrev pub InOrder : Held → State → Type 0
InOrder h s = Needs s (IsInOrder h.records h.lists)

pub record Carries (before after : Held) (s t : State) : Type 0 where
  pub falls : IsTrue t.honest → IsTrue s.honest
  pub order : InOrder before s → InOrder after t
  pub ways : after.ways ≡ before.ways
  pub file : IsTrue t.honest → t.world diversions_path ≡ s.world diversions_path
  pub spare : IsTrue t.honest → t.world (temporary diversions_path) ≡ s.world (temporary diversions_path)
  pub info : IsTrue t.honest → InOrder before s → HasInfo before s.world → HasInfo after t.world

pub carries_here : (h : Held) (s : State) → Carries h h s s
carries_here h s = record { falls = λ honest. honest; order = λ ready. ready; ways = refl; file = λ honest. refl; spare = λ honest. refl; info = λ honest ready info. info }

pub carries_then : (before mid after : Held) (s m t : State) → Carries before mid s m → Carries mid after m t → Carries before after s t
carries_then before mid after s m t first second = record {
  falls = λ h. first.falls (second.falls h);
  order = λ ready. second.order (first.order ready);
  ways = second.ways ∙ first.ways;
  file = λ h. second.file h ∙ first.file (second.falls h);
  spare = λ h. second.spare h ∙ first.spare (second.falls h);
  info = λ h ready info. second.info h (first.order ready) (first.info (second.falls h) ready info);
}

-- where neither what is held nor the world has changed
pub carries_still : (before after : Held) (s t : State) → after ≡ before → (IsTrue t.honest → IsTrue s.honest) → (IsTrue t.honest → t.world ≡ s.world) → Carries before after s t
carries_still before after s t held falls same = subst (λ (h : Held). Carries before h s t) (sym held) (record {
  falls = falls;
  order = λ ready h. subst (IsInOrder before.records before.lists) (sym (same h)) (ready (falls h));
  ways = refl;
  file = λ h. ap (λ w. w diversions_path) (same h);
  spare = λ h. ap (λ w. w (temporary diversions_path)) (same h);
  info = λ h ready info. subst (HasInfo before) (sym (same h)) info;
})

pub carries_refused : (rule : Rule) (name : List ℕ) (before after : Held) (u : AUnit) (s t : State) → IsRefused rule name before after u s t → Carries before after s t
carries_refused rule name before after u s t is = carries_still before after s t is.held is.silent.honest is.world

pub carries_barrier : (h : Held) (s t : State) → Happens (Did Barrier ∷ []) s t → Carries h h s t
carries_barrier h s t goes = carries_still h h s t refl goes.honest (λ honest. goes.world)

pub carries_reads : (h : Held) (s t : State) → Reads s t → Carries h h s t
carries_reads h s t reads = carries_still h h s t refl reads.honest (λ honest. reads.world)

-- the stages of a unit

-- what is in `info` has no fault afterwards, where records of packages of before are left
pub leaves_info : (before after : Held) (s t : State) → Leaves (names_of before.records.records) before.records.records after.records.records s t → InOrder after t → IsTrue t.honest → HasInfo before s.world → HasInfo after t.world
leaves_info before after s t leaves order h info = info_left before after s.world t.world (leaves.keeps h) leaves.named (order h).loose (order h).listed info

-- behind its stages a unit brings all to the disk, which changes nothing
pub carries_stages : (name : List ℕ) (stages : List Stage) (failed : Option Call) (before after : Held) (s left t : State) (told now : List Called) → is_some (record_in before.records.records name) ≡ true
    → AreOwnStages name stages
    → HaveRun name before.ways stages failed (record { records = before.records.records; lists = before.lists }) (record { records = after.records.records; lists = after.lists }) s left told now
    → Happens (Did Barrier ∷ []) left t → InOrder after t → after.ways ≡ before.ways → Carries before after s t
carries_stages name stages failed before after s left t told now recorded_there fit run behind order ways =
    let names = names_of before.records.records in
    let leaves = leaves_barrier names before.records.records after.records.records s left t (stages_leave names name before.ways stages failed (holding_of before) (holding_of after) s left told now recorded_there fit run) behind in
    record {
      falls = leaves.falls;
      order = λ ready. order;
      ways = ways;
      file = λ h. (leaves.keeps h).stays diversions_path (λ other named. diversions_others other);
      spare = λ h. (leaves.keeps h).stays (temporary diversions_path) (λ other named. diversions_spare_others other);
      info = λ h ready info. leaves_info before after s t leaves order h info;
    }

-- what a session knows, and what a further command can open

parts_order : (h : Held) (s : State) → IsStanding h s.world → InOrder h s
parts_order h s standing = λ honest. order_standing h s.world standing

pub carries_standing : (before after : Held) (s t : State) → Carries before after s t → IsTrue t.honest → IsStanding before s.world → IsStanding after t.world
carries_standing before after s t carries h standing =
    let order = carries.order (parts_order before s standing) h in (
      recorded after.records t.world order.kept,
      order.info,
      order.loose,
      no_directory_at (t.world diversions_path) (s.world diversions_path) (carries.file h) standing.3,
      no_directory_at (t.world (temporary diversions_path)) (s.world (temporary diversions_path)) (carries.spare h) standing.4,
      order.tmp,
      order.listed,
      ∥∥₁_map standing.7 (λ has. subst (λ (l : Ways). HasEntries (t.world diversions_path) l.entries) (sym carries.ways) (subst (λ n. HasEntries n before.ways.entries) (sym (carries.file h)) has)),
    )

pub carries_found : (before after : Held) (s t : State) → Carries before after s t → IsTrue t.honest → Stands before s.world → Stands after t.world
carries_found before after s t carries h found =
    let ready = parts_order before s (standing_found before s.world found) in
    let order = carries.order ready h in
    let info = carries.info h ready (record { text = found.text; standing = same_standing before.records.records found.standing; sound = found.listed.sound }) in
    record {
      home = order.kept.unblocked.home;
      info = directory_there (t.world info_path) order.info;
      updates = order.kept.unblocked.updates;
      text = info.text;
      diversions = subst (λ (l : Ways). HasEntries (t.world diversions_path) l.entries) (sym carries.ways) (subst (λ n. HasEntries n before.ways.entries) (sym (carries.file h)) found.diversions);
      diversions_spare = no_directory_at (t.world (temporary diversions_path)) (s.world (temporary diversions_path)) (carries.spare h) found.diversions_spare;
      tmp = order.tmp;
      records = order.kept;
      standing = standing_same after.records.records info.standing;
      listed = record { sound = info.sound; lists = lists_had t.world (names_of after.records.records) after.lists order.listed };
    }
