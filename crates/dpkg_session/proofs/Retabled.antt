-- What the administration holds after its diversions have changed.
use Rattle.std.proofs.Common.{◌≡◌, ◌≢◌, ◌<◌, ◌&&◌, ℕ, Bool, true, false, not, List, [], ◌∷◌, ◌++◌, IsTrue, codes, arith, get_or, refl, sym, ap, subst, ◌∙◌}
use Rattle.std.specs.Prelude.{IsSome, MatchBool, cond}
use Rattle.std.proofs.Math.Logic.{∥∥₁_map}
use Rattle.std.proofs.lemmas.Bool.{and_right}
use Rattle.std.specs.Str.{bytes_eq}
use Rattle.host_core.proofs.Nodes.{directory_is}
use Rattle.host_core.specs.Paths.{Path, is_path_text, has_room, has_reserved_suffix, is_below_administration, is_ship_text}
use Rattle.host_core.specs.World.{World, IsDirectory, is_directory}
use Rattle.host_core.specs.Host.{State}
use Rattle.administration.specs.Directories.{HasBadName}
use Rattle.administration.specs.Files.{NoDirectory}
use Rattle.administration.specs.Places.{home_path, info_path, status_path, updates_path, tmp_path, temporary}
use Rattle.administration.proofs.WholeFiles.{no_directory_at}
use Rattle.aliases.specs.Aliases.{Alias, resolved}
use Rattle.diversions.specs.Changes.{HasAdded, HasRemoved, IsRecorded, moved_if}
use Rattle.diversions.specs.Entries.{without}
use Rattle.diversions.specs.Ways.{truename, Ways}
use Rattle.diversions.specs.Refusals.{has_same}
use Rattle.diversions.specs.Sights.{moves_back, moves_node, sight_of}
use Rattle.diversions.specs.declared.entry.Diversion.{Diversion}
use Rattle.diversions.specs.declared.refusal.Answer.{Answer}
use Rattle.diversions.specs.declared.refusal.Answer.TheVariants as answered
use Rattle.diversions.specs.declared.refusal.Seen.{Seen}
use Rattle.diversions.proofs.Moving.{moved_away, own_other}
use Rattle.file_lists.specs.Info.{IsSound}
use Rattle.file_lists.specs.declared.paths.PackageList.{PackageList}
use Rattle.opening.proofs.KeptLists.{has_lists_kept}
use Rattle.file_lists.specs.Lists.{HasLists}
use Rattle.opening.specs.Opened.{IsFound}
use Rattle.opening.specs.Parts.{names_of}
use Rattle.status_db.proofs.NotedWorlds.{records_same}
use Rattle.status_db.specs.Held.{HasRecords, IsFree}
use Rattle.status_db.specs.Notes.{digits, limit, note_path}
use Rattle.status_db.specs.Recorded.{Recorded}
use Rattle.status_records.specs.declared.record.Record.{Record}
use Rattle.dpkg_session.specs.declared.asked.Diverting.{Diverting}
use Rattle.dpkg_session.specs.declared.asked.Undiverting.{Undiverting}
use Rattle.unit_reports.specs.declared.report.Unit.{Unit as AUnit}
use Rattle.dpkg_session.specs.Growth.{with_more}
use Rattle.dpkg_session.specs.Diversions.{HasDiverted, HasUndiverted, IsDiverted, IsUndiverted, LeavesAnswer, asked_entry, by_answer, with_entries}
use Rattle.unit_reports.specs.Held.{Held}
use Rattle.dpkg_session.specs.Standing.{IsStanding}
use Rattle.dpkg_session.proofs.Shipped.{resolved_shipped}

-- with these diversions
abbrev with_ways : Recorded → List PackageList → Ways → Held
with_ways d lists ways = record { records = d; lists = lists; ways = ways }

-- no shipped path is below the administration's directory

below_not_ship : (q : Path) → is_below_administration q ≡ true → is_ship_text q ≡ false
below_not_ship q below =
    and_right (is_path_text q) (has_room q && (not (bytes_eq q (codes "/")) && (not (has_reserved_suffix q) && not (is_below_administration q))))
    (and_right (has_room q) (not (bytes_eq q (codes "/")) && (not (has_reserved_suffix q) && not (is_below_administration q)))
    (and_right (not (bytes_eq q (codes "/"))) (not (has_reserved_suffix q) && not (is_below_administration q))
    (and_right (not (has_reserved_suffix q)) (not (is_below_administration q)) (ap not below))))

-- a node may have moved from one shipped path to another, and the table is recorded
record IsRetabled (entries : List Diversion) (old new : World) : Type 0 where
  pub moves : Bool
  pub from : Path
  pub to : Path
  pub ship_from : is_ship_text from ≡ true
  pub ship_to : is_ship_text to ≡ true
  pub recorded : IsRecorded entries (moved_if moves from to old) new

module _ (d : Recorded) (lists : List PackageList) (before after : Ways) (old new : World) (is : IsRetabled after.entries old new) where
  same : (q : Path) → is_below_administration q ≡ true → get_or q 14 0 ≢ 100 → new q ≡ old q
  same q below no_d =
      is.recorded.rest q (λ e. no_d (ap (λ (l : Path). get_or l 14 0) e)) (λ e. no_d (ap (λ (l : Path). get_or l 14 0) e))
      ∙ moved_away is.moves is.from is.to old q (λ t. own_other q is.from is.ship_from (below_not_ship q below)) (λ t. own_other q is.to is.ship_to (below_not_ship q below))

  same_info : (rest : Path) → new (info_path ++ rest) ≡ old (info_path ++ rest)
  same_info rest = same (info_path ++ rest) refl (λ e. absurd (omega (arith, e)))

  same_updates : (rest : Path) → new (updates_path ++ rest) ≡ old (updates_path ++ rest)
  same_updates rest = same (updates_path ++ rest) refl (λ e. absurd (omega (arith, e)))

  same_status : (rest : Path) → new (status_path ++ rest) ≡ old (status_path ++ rest)
  same_status rest = same (status_path ++ rest) refl (λ e. absurd (omega (arith, e)))

  same_tmp : new tmp_path ≡ old tmp_path
  same_tmp = same tmp_path refl (λ e. absurd (omega (arith, e)))

  no_updates_name : (HasBadName old updates_path → ⊥) → HasBadName new updates_path → ⊥
  no_updates_name text bad = text (bad.0, bad.1, bad.2, subst IsSome (same_updates (47 ∷ bad.0)) bad.3)

  no_info_name : (HasBadName old info_path → ⊥) → HasBadName new info_path → ⊥
  no_info_name text bad = text (bad.0, bad.1, bad.2, subst IsSome (same_info (47 ∷ bad.0)) bad.3)

  no_spare : ((n : ℕ) → n < limit → NoDirectory (old (temporary (note_path n)))) → (n : ℕ) → n < limit → NoDirectory (new (temporary (note_path n)))
  no_spare spares n lt = no_directory_at (new (temporary (note_path n))) (old (temporary (note_path n))) (same_updates (47 ∷ digits n ++ codes ".dpkg-inst")) (spares n lt)

  still_free : (notes : ℕ) → IsFree notes old → IsFree notes new
  still_free notes free n le lt = same_updates (47 ∷ digits n) ∙ free n le lt

  still_records : (records : List Record) → HasRecords old records → HasRecords new records
  still_records records has = records_same old new records (same_status []) (λ n lt. same_updates (47 ∷ digits n)) has

  still_lists : (names : List (List ℕ)) → HasLists old names lists → HasLists new names lists
  still_lists names has = has_lists_kept old new names lists (λ name known. same_info (47 ∷ name ++ codes ".list")) has

  standing_retabled : IsStanding (with_ways d lists before) old → IsStanding (with_ways d lists after) new
  standing_retabled standing = (
    (
      directory_is (new home_path) is.recorded.ready.home,
      ap is_directory (same_updates []) ∙ standing.0.1,
      no_updates_name standing.0.2,
      no_directory_at (new (temporary status_path)) (old (temporary status_path)) (same_status (codes ".dpkg-inst")) standing.0.3,
      no_spare standing.0.4,
      still_records d.records standing.0.5,
      still_free d.notes standing.0.6,
    ),
    ap is_directory (same_info []) ∙ standing.1,
    (λ name plain there. standing.2 name plain (subst IsDirectory (same_info (47 ∷ name)) there)),
    is.recorded.ready.target,
    is.recorded.ready.spare,
    same_tmp ∙ standing.5,
    ∥∥₁_map standing.6 (λ has. still_lists (names_of d.records) has),
    ∣ is.recorded.table ∣₁,
  )

  found_retabled : IsFound d.records d.notes lists before.entries old → IsFound d.records d.notes lists after.entries new
  found_retabled found = record {
    home = is.recorded.ready.home;
    info = subst IsDirectory (sym (same_info [])) found.info;
    updates = subst IsDirectory (sym (same_updates [])) found.updates;
    text = no_info_name found.text;
    diversions = is.recorded.table;
    diversions_spare = is.recorded.ready.spare;
    tmp = same_tmp ∙ found.tmp;
    records = record {
      unblocked = record {
        home = is.recorded.ready.home;
        updates = subst IsDirectory (sym (same_updates [])) found.updates;
        text = no_updates_name found.records.unblocked.text;
        status_spare = no_directory_at (new (temporary status_path)) (old (temporary status_path)) (same_status (codes ".dpkg-inst")) found.records.unblocked.status_spare;
        spares = no_spare found.records.unblocked.spares;
      };
      holds = still_records d.records found.records.holds;
      free = still_free d.notes found.records.free;
    };
    standing = found.standing;
    listed = record {
      sound = λ entry plain. subst (IsSound (names_of d.records) entry) (sym (same_info (47 ∷ entry))) (found.listed.sound entry plain);
      lists = still_lists (names_of d.records) found.listed.lists;
    };
  }

-- what holds of a table and a world goes on to hold where the table is recorded

module _ (X : Ways → World → Type 0) (keep : (before after : Ways) (old new : World) → IsRetabled after.entries old new → X before old → X after new) where
  answered_kept : (answer : Answer) (before more after : Ways) (P : World → World → Type 0) (old new : World) → after ≡ by_answer answer before more → LeavesAnswer answer P old new → (P old new → X before old → X more new) → X before old → X after new
  answered_kept answered.Done before more after P old new e left goes x = subst (λ l. X l new) (sym e) (goes left x)
  answered_kept (answered.Refused refusal) before more after P old new e left goes x = subst (λ l. X l new) (sym e) (subst (X before) (sym left) x)

  added_kept : (there : Bool) (before : Ways) (more : List Diversion) (moves : Bool) (from to : Path) (old new : World) → is_ship_text from ≡ true → is_ship_text to ≡ true → MatchBool there (new ≡ old) (IsRecorded more (moved_if moves from to old) new) → X before old → X (with_entries before (cond there before.entries more)) new
  added_kept true before more moves from to old new ship_from ship_to left x = subst (X before) (sym left) x
  added_kept false before more moves from to old new ship_from ship_to left x =
      keep before (with_entries before more) old new (record { moves = moves; from = from; to = to; ship_from = ship_from; ship_to = ship_to; recorded = left }) x

  diverted_kept : (asked : Diverting) (seen : Seen) (before after : Ways) (u : AUnit) (s t : State) → IsDiverted asked seen before after u s t → IsTrue t.honest → X before s.world → X after t.world
  diverted_kept asked seen before after u s t is h =
      let d = asked_entry asked in
      let from = resolved before.aliases asked.path in
      let to = resolved before.aliases asked.target in
      answered_kept is.answer before (with_entries before (cond (has_same before.entries d) before.entries (before.entries ++ d ∷ []))) after (HasAdded before d asked.rename seen) s.world t.world is.table (is.left h)
      (added_kept (has_same before.entries d) before (before.entries ++ d ∷ []) (moves_node asked.rename seen.listed (sight_of asked.rename s.world from to)) from to s.world t.world
      (resolved_shipped before.aliases asked.path is.shipped.path) (resolved_shipped before.aliases asked.target is.shipped.target))

  undiverted_kept : (asked : Undiverting) (before after : Ways) (u : AUnit) (s t : State) → IsUndiverted asked before after u s t → IsTrue t.honest → X before s.world → X after t.world
  undiverted_kept asked before after u s t is h =
      let target = truename before asked.path in
      let place = resolved before.aliases asked.path in
      let left_entries = with_entries before (without asked.path before.entries) in
      answered_kept is.answer before left_entries after (HasRemoved before asked.path asked.rename) s.world t.world is.table (is.left h)
      (λ left. keep before left_entries s.world t.world (record { moves = moves_back asked.rename s.world target place; from = target; to = place; ship_from = is.shipped.target; ship_to = resolved_shipped before.aliases asked.path is.shipped.path; recorded = left }))

module _ (d : Recorded) (lists : List PackageList) where
  -- with more aliases it stands alike
  standing_more : (ways : Ways) (added : List Alias) (w : World) → IsStanding (with_ways d lists ways) w → IsStanding (with_ways d lists (with_more ways added)) w
  standing_more ways added w standing = standing

  pub standing_diverted : (asked : Diverting) (before after : Ways) (u : AUnit) (s t : State) → HasDiverted asked d.records lists before after u s t → IsTrue t.honest → IsStanding (with_ways d lists before) s.world → IsStanding (with_ways d lists after) t.world
  standing_diverted asked before after u s t is h standing =
      diverted_kept (λ ways. IsStanding (with_ways d lists ways)) (λ first last old new made. standing_retabled d lists first last old new made) asked _ (with_more before is.added) after u s t is.is h (standing_more before is.added s.world standing)

  pub standing_undiverted : (asked : Undiverting) (before after : Ways) (u : AUnit) (s t : State) → HasUndiverted asked before after u s t → IsTrue t.honest → IsStanding (with_ways d lists before) s.world → IsStanding (with_ways d lists after) t.world
  standing_undiverted asked before after u s t is h standing =
      undiverted_kept (λ ways. IsStanding (with_ways d lists ways)) (λ first last old new made. standing_retabled d lists first last old new made) asked (with_more before is.added) after u s t is.is h (standing_more before is.added s.world standing)

  pub found_diverted : (asked : Diverting) (before after : Ways) (u : AUnit) (s t : State) → HasDiverted asked d.records lists before after u s t → IsTrue t.honest → IsFound d.records d.notes lists before.entries s.world → IsFound d.records d.notes lists after.entries t.world
  found_diverted asked before after u s t is h found =
      diverted_kept (λ ways. IsFound d.records d.notes lists ways.entries) (λ first last old new made. found_retabled d lists first last old new made) asked _ (with_more before is.added) after u s t is.is h found

  pub found_undiverted : (asked : Undiverting) (before after : Ways) (u : AUnit) (s t : State) → HasUndiverted asked before after u s t → IsTrue t.honest → IsFound d.records d.notes lists before.entries s.world → IsFound d.records d.notes lists after.entries t.world
  found_undiverted asked before after u s t is h found =
      undiverted_kept (λ ways. IsFound d.records d.notes lists ways.entries) (λ first last old new made. found_retabled d lists first last old new made) asked (with_more before is.added) after u s t is.is h found
