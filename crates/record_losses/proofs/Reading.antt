-- Records are read from places that a loss leaves as one stop.
use Rattle.std.specs.Prelude.{◌≡◌, ◌⊎◌, List, IsTrue}
use Rattle.std.proofs.Common.{refl, inl, inr}
use Rattle.host_core.specs.World.{World}
use Rattle.host_core.specs.Host.{AtEachMoment, State}
use Rattle.host_core.specs.Loss.{IsLike, IsLikeAStop, ScriptsAvoid}
use Rattle.host_core.specs.Unsynced.{IsSettled}
use Rattle.host_core.specs.Events.{Event, follow_all}
use Rattle.host_core.proofs.Losses.{since_stop}
use Rattle.administration.specs.Places.{status_path}
use Rattle.status_db.specs.Held.{HasRecords, is_record_place}
use Rattle.status_db.specs.Notes.{note_path}
use Rattle.status_db.specs.Noting.{IsMerging, IsNoting}
use Rattle.status_db.proofs.NotedWorlds.{records_same}
use Rattle.status_records.specs.declared.record.Record.{Record}
use Rattle.scattered_losses.specs.Scattered.{LosesScattered}
use Rattle.scattered_losses.specs.Turns.{TakeTurns}
use Rattle.scattered_losses.proofs.TakingTurns.{turns_like_a_stop}

same_records : (w left : World) (records : List Record) → IsLike is_record_place w left → HasRecords w records → HasRecords left records
same_records w left records like has = records_same w left records (like.whole status_path refl refl) (λ n lt. like.whole (note_path n) refl refl) has

module _ (begun old new : State) (left : World) (h : IsTrue new.honest) (settled : IsSettled new.events) (scripts : ScriptsAvoid is_record_place begun new) (turns : TakeTurns is_record_place old new) (loses : LosesScattered begun old new left) where
  abbrev stop : IsLikeAStop is_record_place old new left
  stop = turns_like_a_stop is_record_place begun old new left settled scripts turns loses

  abbrev there : World
  there = follow_all stop.stop old.world

  pub merging_left : (records : List Record) → AtEachMoment (IsMerging records) old new → HasRecords left records
  merging_left records since = same_records there left records stop.like (since_stop (λ so_far. IsMerging records old.world) old new stop.added stop.stop h since stop.events stop.is).same

  pub noting_left : (before after : List Record) → AtEachMoment (IsNoting before after) old new → HasRecords left before ⊎ HasRecords left after
  noting_left before after since = elim (since_stop (λ so_far. IsNoting before after old.world) old new stop.added stop.stop h since stop.events stop.is).records [
    | inl has ↦ inl (same_records there left before stop.like has)
    | inr has ↦ inr (same_records there left after stop.like has)
  ]
