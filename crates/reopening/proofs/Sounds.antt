-- What is held between two units: an administration that is in order, in which no opening refuses anything.
use Rattle.aliases.specs.Aliases.{Alias}
use Rattle.dpkg_session.specs.Growth.{grown}
use Rattle.dpkg_session.specs.Rereading.{with_ways}
use Rattle.std.proofs.Common.{◌≡◌, ℕ, IsTrue, List, [], ◌∷◌, Option, Some, refl, sym, subst, ◌∙◌}
use Rattle.std.proofs.Math.Logic.{∥∥₁_map}
use Rattle.std.proofs.lemmas.List.{append-nil}
use Rattle.host_core.specs.Events.{Event, Did, Finished, Cut, Failed, Denied}
use Rattle.host_core.specs.Host.{AllFailed, Happens, Needs, Reads, Since, State, Throughout}
use Rattle.host_core.proofs.Moments.{since_then, unmoved}
use Rattle.host_core.specs.World.{Barrier, World}
use Rattle.host_core.specs.declared.call.Call.{Call}
use Rattle.diversions.specs.Lines.{HasDiversions}
use Rattle.diversions.specs.Ways.{Ways}
use Rattle.file_lists.specs.Owners.{paths_of}
use Rattle.removal_run.specs.Units.{holding_of}
use Rattle.status_db.specs.Held.{HasRecords}
use Rattle.status_records.specs.Records.{AreStanding, record_in}
use Rattle.status_records.specs.declared.record.Record.{Record}
use Rattle.unit_reports.specs.Held.{Held}
use Rattle.unit_reports.specs.Units.{IsRefused}
use Rattle.unit_reports.specs.declared.refusal.Rule.{Rule}
use Rattle.unit_reports.specs.declared.report.Unit.{Unit as AUnit}
use Rattle.unit_stages.specs.Runs.{HaveRun}
use Rattle.unit_stages.specs.declared.stage.Stage.{Stage}
use Rattle.undo_rows.specs.declared.rows.Called.{Called}
use Rattle.unpack_engine.proofs.Ready.{kept_opens}
use Rattle.held_administration.specs.Order.{IsInOrder, record_names}
use Rattle.reopening.proofs.Entries.{IsSafe, safe_fewer}
use Rattle.reopening.proofs.Inside.{quiet_here}
use Rattle.reopening.proofs.Stages.{AreSafeStages, run_falls}
use Rattle.reopening.proofs.Steps.{AreGood}
use Rattle.reopening.proofs.Texts.{good_had, good_listed}
use Rattle.reopening.proofs.Units.{IsEmptied, IsHeld, found_has, found_is_named, held_opens, held_safe, of_names, of_own, of_standing, stages_held}
use Rattle.reopening.specs.Opens.{CanBeOpened}

pub record IsSound (h : Held) (w : World) : Type 0 where
  pub order : IsInOrder h.records h.lists w
  pub safe : IsSafe (record_names h.records.records) h.ways w
  pub standing : AreStanding h.records.records
  pub empty : IsEmptied w

pub sound_held : (h : Held) (w : World) → IsSound h w → IsHeld (record_names h.records.records) h.ways h.records.records w
sound_held h w sound = record { all = of_own h.records.records sound.standing; base = w; safe = sound.safe; quiet = quiet_here w; empty = sound.empty; has = sound.order.kept.holds }

pub sound_opens : (h : Held) (w : World) → IsSound h w → CanBeOpened w
sound_opens h w sound = held_opens (record_names h.records.records) h.ways h.records.records w (sound_held h w sound) (kept_opens h.records w sound.order.kept) sound.order.loose

pub still_opens : (h : Held) (old now : World) → IsSound h old → now ≡ old → CanBeOpened now
still_opens h old now sound same = subst CanBeOpened (sym same) (sound_opens h old sound)

pub held_sound : (names : List (List ℕ)) (h : Held) (w : World) → IsHeld names h.ways h.records.records w → IsInOrder h.records h.lists w → IsSound h w
held_sound names h w held order = record {
  order = order;
  safe = safe_fewer names (record_names h.records.records) h.ways w (of_names names h.records.records held.all) (held_safe names h.ways h.records.records w held order.loose);
  standing = of_standing names h.records.records held.all;
  empty = held.empty;
}

-- with the table that stands there it is sound alike
pub sound_reread : (before : Held) (ways : Ways) (w : World) → HasDiversions w ways.entries → IsSound before w → IsSound (with_ways before ways) w
sound_reread before ways w has sound = record {
  order = sound.order;
  safe = record { info = sound.safe.info; text = sound.safe.text; sound = sound.safe.sound; short = sound.safe.short; diversions = has; spare = sound.safe.spare };
  standing = sound.standing;
  empty = sound.empty;
}

-- with more aliases it is sound alike
pub sound_grown : (before : Held) (added : List Alias) (w : World) → IsSound before w → IsSound (grown before added) w
sound_grown before added w sound = record {
  order = sound.order;
  safe = record { info = sound.safe.info; text = sound.safe.text; sound = sound.safe.sound; short = sound.safe.short; diversions = sound.safe.diversions; spare = sound.safe.spare };
  standing = sound.standing;
  empty = sound.empty;
}

-- what is listed is read back
pub sound_lists : (h : Held) (w : World) → IsSound h w → (name : List ℕ) → AreGood (paths_of h.lists name)
sound_lists h w sound name = good_had (paths_of h.lists name) (∥∥₁_map sound.order.listed (λ has. good_listed w (record_names h.records.records) h.lists has name))

-- from one state of the host to a later one: sound where it was, and opened at each moment
pub record Goes (before after : Held) (s t : State) : Type 0 where
  pub falls : IsTrue t.honest → IsTrue s.honest
  pub sound : IsTrue t.honest → IsSound before s.world → IsSound after t.world

pub goes_here : (h : Held) (s : State) → Goes h h s s
goes_here h s = record { falls = λ honest. honest; sound = λ honest sound. sound }

pub goes_then : (before mid after : Held) (s m t : State) → Goes before mid s m → Goes mid after m t → Goes before after s t
goes_then before mid after s m t first second = record { falls = λ h. first.falls (second.falls h); sound = λ h sound. second.sound h (first.sound (second.falls h) sound) }

pub goes_still : (before after : Held) (s t : State) → after ≡ before → (IsTrue t.honest → IsTrue s.honest) → (IsTrue t.honest → t.world ≡ s.world) → Goes before after s t
goes_still before after s t held falls same = subst (λ (h : Held). Goes before h s t) (sym held) (record { falls = falls; sound = λ h sound. subst (IsSound before) (sym (same h)) sound })

pub goes_same : (before after : Held) (s t : State) → after ≡ before → t ≡ s → Goes before after s t
goes_same before after s t held same = subst (λ (h : Held). Goes before h s t) (sym held) (subst (Goes before before s) (sym same) (goes_here before s))

pub goes_reads : (h : Held) (s t : State) → Reads s t → Goes h h s t
goes_reads h s t reads = goes_still h h s t refl reads.honest (λ honest. reads.world)

pub goes_refused : (rule : Rule) (name : List ℕ) (before after : Held) (u : AUnit) (s t : State) → IsRefused rule name before after u s t → Goes before after s t
goes_refused rule name before after u s t is = goes_still before after s t is.held is.silent.honest is.world

-- the stages of a package that is recorded, and all of it brought to the disk
pub goes_stages : (name : List ℕ) (stages : List Stage) (failed : Option Call) (before after : Held) (s left t : State) (told now : List Called) → ((r : Record) → record_in before.records.records name ≡ Some r → AreSafeStages name stages)
    → (r : Record) → record_in before.records.records name ≡ Some r → HaveRun name before.ways stages failed (holding_of before) (holding_of after) s left told now → Happens (Did Barrier ∷ []) left t
    → Needs t (IsInOrder after.records after.lists) → after.ways ≡ before.ways → Goes before after s t
goes_stages name stages failed before after s left t told now safe r found run behind order ways =
    let named = found_is_named before.records.records name r found in
    let falls = run_falls name named before.ways stages failed (holding_of before) (holding_of after) s left told now run in
    record {
      falls = λ h. falls (behind.honest h);
      sound = λ h sound. (let there = order h in let held = sound_held before s.world sound in
          let names = record_names before.records.records in
          let same : left.world ≡ t.world = sym behind.world in
          let ends = stages_held names before.ways name named (found_has names before.records.records held.all name r found) before.ways stages failed (holding_of before) (holding_of after) s left told now (safe r found) held run (behind.honest h)
          (subst (λ (w : World). HasRecords w after.records.records) (sym same) there.kept.holds) in
          held_sound names after t.world
          (subst (λ (l : Ways). IsHeld names l after.records.records t.world) (sym ways) (subst (IsHeld names before.ways after.records.records) same ends)) there);
    }

-- what holds at each moment from one state to a later one

abbrev pub Opened : State → State → Type 0
Opened s t = Since (λ so_far. CanBeOpened) s t

pub opened_then : (a b c : State) → Opened a b → Opened b c → Opened a c
opened_then a b c first second = since_then (λ so_far. CanBeOpened) a b c first second

pub opened_reads : (h : Held) (s t : State) → (IsTrue s.honest → IsSound h s.world) → Reads s t → Opened s t
opened_reads h s t sound reads = record {
  added = reads.added;
  events = reads.events;
  honest = reads.honest;
  world = reads.world ∙ sym (unmoved reads.added s.world reads.failed);
  each = λ honest. all_failed reads.added reads.failed s.world (sound_opens h s.world (sound (reads.honest honest)));
}
  where
    all_failed : (fs : List Event) → AllFailed fs → (w : World) → CanBeOpened w → Throughout (λ so_far. CanBeOpened) w fs
    all_failed [] failed w opens = opens
    all_failed (Did step ∷ fs) failed w opens = absurd failed
    all_failed (Finished ran ∷ fs) failed w opens = absurd failed
    all_failed (Cut call change ∷ fs) failed w opens = absurd failed
    all_failed (Failed ∷ fs) failed w opens = (opens, (λ d cut. absurd cut), all_failed fs failed w opens)
    all_failed (Denied path ∷ fs) failed w opens = absurd failed

pub opened_here : (h : Held) (s : State) → (IsTrue s.honest → IsSound h s.world) → Opened s s
opened_here h s sound = opened_reads h s s sound (record { honest = λ h. h; world = refl; added = []; failed = tt; events = sym (append-nil s.events) })
