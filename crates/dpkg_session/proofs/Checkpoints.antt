-- The notes are merged at the end of a command.
use Rattle.std.proofs.Common.{◌≡◌, false, true, List, ◌∷◌, ◌++◌, Result, Ok, Err, refl, subst, sym, ◌∙◌}
use Rattle.std.specs.Prelude.{OnOk, is_err}
use Rattle.std.proofs.lemmas.Bool.{true≢false}
use Rattle.std.proofs.Math.Logic.{∥∥₁_map}
use Rattle.host_core.proofs.Barriers.{since_to_disk}
use Rattle.host_core.specs.Events.{Event}
use Rattle.host_core.specs.Loss.{IsAnswered}
use Rattle.host_core.specs.Host.{Does, Since, State}
use Rattle.host_core.specs.World.{Barrier, World, is_directory}
use Rattle.host_core.specs.declared.fault.HostFault.{HostFault}
use Rattle.administration.specs.Places.{diversions_path, info_path, list_path, temporary, tmp_path}
use Rattle.administration.proofs.WholeFiles.{no_directory_at}
use Rattle.diversions.specs.Lines.{HasEntries}
use Rattle.file_lists.specs.Lists.{HasLists}
use Rattle.opening.proofs.KeptLists.{has_lists_kept}
use Rattle.opening.specs.Parts.{names_of}
use Rattle.status_db.specs.Held.{AreKept}
use Rattle.status_db.specs.Noting.{AreNoted, IsMerging}
use Rattle.status_db.specs.Recorded.{Recorded}
use Rattle.status_records.specs.declared.record.Record.{Record}
use Rattle.unit_reports.specs.Held.{Held}
use Rattle.dpkg_session.specs.PowerLoss.{StandsOnceAnswered}
use Rattle.dpkg_session.proofs.Outlasting.{answered_stands}
use Rattle.dpkg_session.specs.Standing.{IsStanding}
use Rattle.dpkg_session.proofs.Standings.{recorded}

-- a barrier behind it
pub merging_to_disk : (records : List Record) (result : Result Unit HostFault) (a b c : State) → Since (λ so_far. IsMerging records a.world) a b → Does Barrier b c result → Since (λ so_far. IsMerging records a.world) a c
merging_to_disk records result a b c first does = since_to_disk (λ so_far. IsMerging records a.world) result a b c (λ x quiet w none is. is) first does

-- where no fault came
pub where_open : {T E : Type 0} (P : Type 0) (result : Result T E) → is_err result ≡ false → OnOk result P → P
where_open P (Ok x) fine holds = holds
where_open P (Err e) fine holds = absurd (true≢false fine)

-- all of it is on the disk
pub stands_behind : {T E : Type 0} (P : List Event → World → Type 0) (result : Result T E) (s t : State) → Since P s t → OnOk result (IsAnswered s t) → OnOk result (StandsOnceAnswered s t)
stands_behind P (Ok x) s t since answered = answered_stands P s t since answered
stands_behind P (Err e) s t since answered = tt

-- what a session knows of its administration it knows behind it
standing_noted : (h : Held) (d : Recorded) (u v : World) → d.records ≡ h.records.records → AreKept d.records d.notes v → AreNoted h.records.records 0 u v → IsStanding h u → IsStanding (record { records = d; lists = h.lists; ways = h.ways }) v
standing_noted h d u v same kept noted standing = (
  recorded d v kept,
  subst (λ n. is_directory n ≡ true) (sym (noted.rest info_path refl)) standing.1,
  (λ name plain. no_directory_at _ _ (noted.rest (info_path ++ 47 ∷ name) refl) (standing.2 name plain)),
  no_directory_at _ _ (noted.rest diversions_path refl) standing.3,
  no_directory_at _ _ (noted.rest (temporary diversions_path) refl) standing.4,
  noted.rest tmp_path refl ∙ standing.5,
  ∥∥₁_map standing.6 (λ has. subst (λ (rs : List Record). HasLists v (names_of rs) h.lists) (sym same) (has_lists_kept u v (names_of h.records.records) h.lists (λ name known. noted.rest (list_path name) refl) has)),
  ∥∥₁_map standing.7 (λ has. subst (λ n. HasEntries n h.ways.entries) (sym (noted.rest diversions_path refl)) has),
)

pub standing_left : (h : Held) (d : Recorded) (u v : World) → d.records ≡ h.records.records → d.notes ≡ 0 → AreNoted h.records.records 0 u v → IsStanding h u → IsStanding (record { records = d; lists = h.lists; ways = h.ways }) v
standing_left h d u v same none noted standing =
    standing_noted h d u v same (subst (λ n. AreKept d.records n v) (sym none) (subst (λ rs. AreKept rs 0 v) (sym same) noted.kept)) noted standing
