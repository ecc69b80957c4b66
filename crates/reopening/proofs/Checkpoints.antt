-- The notes are merged at the end of a command, and the status file alone stands for the records.
use Rattle.std.proofs.Common.{◌≡◌, ◌<◌, ◌∙◌, inl, ℕ, zero, suc, List, Option, None, arith, subst, sym, refl}
use Rattle.std.proofs.Math.Logic.{∥∥₁_map}
use Rattle.host_core.proofs.Moments.{since_weaker_if}
use Rattle.host_core.specs.Host.{AtEachMoment, State}
use Rattle.host_core.specs.World.{World}
use Rattle.administration.specs.Places.{status_path}
use Rattle.opening.specs.Leaving.{IsReading}
use Rattle.status_db.specs.Held.{AreKept, Holds, IsTableOf}
use Rattle.status_db.specs.Notes.{IsNoteAt, Lookup, Note, entered, limit, note_path, with_notes}
use Rattle.status_db.specs.Noting.{IsMerging}
use Rattle.status_records.specs.Records.{record_in, standing}
use Rattle.status_records.specs.declared.record.Record.{Record}
use Rattle.unit_reports.specs.Held.{Held}
use Rattle.reopening.proofs.Openings.{KeepsRecords, opening_start, reopened}
use Rattle.reopening.proofs.Sounds.{sound_opens}
use Rattle.reopening.proofs.Standings.{finds_sound}
use Rattle.reopening.specs.Opens.{CanBeOpenedAmid, FindsStanding}

pub merging_ends : KeepsRecords → (h : Held) (s t : State) → FindsStanding h s → AtEachMoment (IsMerging h.records.records) s t → CanBeOpenedAmid s t
merging_ends keeps h s t finds since = since_weaker_if _ _ s t (λ honest so_far now merging.
    let sound = finds_sound h s finds (since.honest honest) in
    reopened keeps s.world now (sound_opens h s.world sound) (record { begun = s.world; names = inl refl; reading = IsReading.merging s.world h.records.records (opening_start s.world) sound.order.kept.holds merging })) since

-- where there are no notes, nothing is said over the status file

none_said : (notes : ℕ → Option Note) (number : ℕ) (of : Lookup) → ((n : ℕ) → n < number → notes n ≡ None) → with_notes notes number of ≡ of
none_said notes zero of none = refl
none_said notes (suc number) of none =
    subst (λ (note : Option Note). entered note (with_notes notes number of) ≡ of) (sym (none number (omega arith))) (none_said notes number of (λ n lt. none n (omega (arith, lt))))

pub status_alone : (records : List Record) (w : World) → AreKept records 0 w → IsTableOf (w status_path) records
status_alone records w kept = ∥∥₁_map kept.holds (λ (holds : Holds w records). (
  holds.base,
  holds.status,
  λ name. holds.each name
      ∙ subst (λ (of : Lookup). of name ≡ record_in (standing holds.base) name)
      (sym (none_said holds.notes limit (record_in (standing holds.base)) (λ n lt. subst (λ found. IsNoteAt found (holds.notes n)) (kept.free n (omega arith) lt) (holds.noted n lt)))) refl,
))
