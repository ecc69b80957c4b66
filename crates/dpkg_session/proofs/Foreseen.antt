-- What a session knows still holds where the journal was written.
use Rattle.std.proofs.Common.{◌≡◌, ◌≢◌, ℕ, Bool, true, false, IsTrue, List, Result, Ok, Err, refl, subst, sym, ap, ◌∙◌}
use Rattle.std.specs.Prelude.{IfOk, MatchBool, OnOk}
use Rattle.std.proofs.Math.Logic.{∥∥₁_map}
use Rattle.std.proofs.lemmas.Bool.{true≢false}
use Rattle.administration.proofs.WholeFiles.{no_directory_at}
use Rattle.administration.specs.Places.{diversions_path, info_path, list_path, temporary, tmp_path}
use Rattle.diversions.specs.Lines.{HasEntries}
use Rattle.file_lists.specs.Info.{entry_path}
use Rattle.host_core.proofs.Moments.{since_now}
use Rattle.host_core.specs.Events.{Event}
use Rattle.host_core.specs.Host.{Since, State}
use Rattle.host_core.specs.Loss.{IsAnswered}
use Rattle.host_core.specs.Paths.{Path, is_own}
use Rattle.host_core.specs.World.{SameOn, World, is_directory}
use Rattle.host_core.specs.declared.fault.HostFault.{HostFault}
use Rattle.opening.proofs.KeptLists.{has_lists_kept}
use Rattle.opening.specs.Parts.{names_of}
use Rattle.status_records.specs.declared.record.Record.{Record}
use Rattle.trigger_files.specs.Registered.{IsRegistering}
use Rattle.trigger_files.proofs.Beside.{keeps_own}
use Rattle.trigger_journal.specs.Places.{journal_path, triggers_directory}
use Rattle.trigger_journal.specs.Writing.{IsWriting, KeepsBesideJournal}
use Rattle.unit_reports.specs.Held.{Held}
use Rattle.dpkg_session.specs.PowerLoss.{StandsOnceAnswered}
use Rattle.dpkg_session.specs.Standing.{IsStanding}
use Rattle.dpkg_session.proofs.Histories.{kept_outside}
use Rattle.dpkg_session.proofs.Outlasting.{answered_stands}
use Rattle.dpkg_session.proofs.Standings.{kept_recorded, recorded}

-- the journal is none of the files that a session reads
apart : (p q : Path) → is_own p ≡ false → is_own q ≡ true → q ≢ p
apart p q others own e = true≢false (sym own ∙ ap is_own e ∙ others)

beside_own : (old new : World) → KeepsBesideJournal old new → SameOn is_own old new
beside_own old new keeps q own = keeps q (apart triggers_directory q refl own) (apart journal_path q refl own) (apart (temporary journal_path) q refl own)

pub standing_same : (h : Held) (old new : World) → SameOn is_own old new → IsStanding h old → IsStanding h new
standing_same h old new same is = (
  recorded h.records new (kept_outside h.records.records h.records.notes old new same (kept_recorded h.records old is.0)),
  ap is_directory (same info_path refl) ∙ is.1,
  (λ name plain. no_directory_at (new (entry_path name)) (old (entry_path name)) (same (entry_path name) refl) (is.2 name plain)),
  no_directory_at (new diversions_path) (old diversions_path) (same diversions_path refl) is.3,
  no_directory_at (new (temporary diversions_path)) (old (temporary diversions_path)) (same (temporary diversions_path) refl) is.4,
  same tmp_path refl ∙ is.5,
  ∥∥₁_map is.6 (λ lists. has_lists_kept old new (names_of h.records.records) h.lists (λ name known. same (list_path name) refl) lists),
  ∥∥₁_map is.7 (λ has. subst (λ n. HasEntries n h.ways.entries) (sym (same diversions_path refl)) has),
)

pub standing_beside : (h : Held) (old new : World) → KeepsBesideJournal old new → IsStanding h old → IsStanding h new
standing_beside h old new keeps is = standing_same h old new (beside_own old new keeps) is

-- nor are the files of interests
pub standing_registered : (records : List Record) (h : Held) (s t : State) → Since (λ so_far. IsRegistering records s.world) s t → (IsTrue s.honest → IsStanding h s.world) → IsTrue t.honest → IsStanding h t.world
standing_registered records h s t since standing honest =
    standing_same h s.world t.world (keeps_own s.world t.world (since_now (λ so_far. IsRegistering records s.world) s t since honest).rest) (standing (since.honest honest))

pub standing_written : (text : List ℕ) (h : Held) (s t : State) → Since (λ so_far. IsWriting text s.world) s t → (IsTrue s.honest → IsStanding h s.world) → IsTrue t.honest → IsStanding h t.world
standing_written text h s t since standing honest =
    standing_beside h s.world t.world (since_now (λ so_far. IsWriting text s.world) s t since honest).rest (standing (since.honest honest))

pub stands_registered : {T E : Type 0} (P : List Event → World → Type 0) (result : Result T E) (s t : State) → Since P s t → OnOk result (IsAnswered s t) → OnOk result (StandsOnceAnswered s t)
stands_registered P (Ok x) s t since answered = answered_stands P s t since answered
stands_registered P (Err e) s t since answered = tt

-- what is on the disk once it is answered that it was written
pub stands_written : {E : Type 0} (P : List Event → World → Type 0) (result : Result Bool E) (s t : State) → Since P s t → IfOk result (λ written. MatchBool written (IsAnswered s t) (Unit {0}))
    → IfOk result (λ written. MatchBool written (StandsOnceAnswered s t) (Unit {0}))
stands_written P (Ok true) s t since answered = answered_stands P s t since answered
stands_written P (Ok false) s t since answered = tt
stands_written P (Err e) s t since answered = tt
