-- A diversion is added or taken away: the next opening can read all at each moment.
use Rattle.std.proofs.Common.{◌≡◌, ◌≢◌, ◌⊎◌, ◌&&◌, inl, inr, Bool, true, false, cond, not, List, [], ◌∷◌, ◌++◌, Option, Some, None, codes, get_or, refl, sym, ap, subst, ◌∙◌, arith}
use Rattle.std.specs.Prelude.{IsSome}
use Rattle.std.specs.Str.{bytes_eq}
use Rattle.std.proofs.lemmas.Bool.{and_right}
use Rattle.host_core.specs.Paths.{Path, has_reserved_suffix, has_room, is_below_administration, is_path_text, is_ship_text}
use Rattle.host_core.specs.World.{World, IsDirectory}
use Rattle.host_core.proofs.WorldLaws.{put_other}
use Rattle.host_core.specs.declared.node.Node.{Node}
use Rattle.host_core.specs.declared.node.Node.TheVariants.{File, Dir, Link}
use Rattle.aliases.specs.Aliases.{resolved}
use Rattle.administration.proofs.WholeFiles.{no_directory_at}
use Rattle.administration.specs.Files.{KeepsBesideFile}
use Rattle.administration.specs.Places.{diversions_path, info_path, status_path, temporary, updates_path}
use Rattle.diversions.proofs.Moving.{moved_away, own_other}
use Rattle.diversions.specs.Changes.{IsAdding, IsRemoving, IsTableReady, doubled_if, moved_if}
use Rattle.diversions.specs.Entries.{IsTable, without}
use Rattle.diversions.specs.Lines.{HasDiversions, HasEntries}
use Rattle.diversions.specs.Ways.{truename, Ways}
use Rattle.diversions.specs.Sights.{moves_back, moves_node, sight_of}
use Rattle.diversions.specs.declared.entry.Diversion.{Diversion}
use Rattle.diversions.specs.declared.refusal.Seen.{Seen}
use Rattle.dpkg_session.proofs.Shipped.{resolved_shipped, truename_shipped}
use Rattle.dpkg_session.specs.Diversions.{IsDiverting, IsUndiverting, asked_entry, seen_of, with_entries}
use Rattle.dpkg_session.specs.Growth.{grown}
use Rattle.dpkg_session.specs.declared.asked.Diverting.{Diverting}
use Rattle.dpkg_session.specs.declared.asked.Undiverting.{Undiverting}
use Rattle.file_lists.specs.Info.{IsSound as IsSoundEntry}
use Rattle.status_db.proofs.NotedWorlds.{records_same}
use Rattle.status_db.specs.Held.{CanOpenRecords, HasRecords}
use Rattle.status_db.specs.Notes.{digits, note_path}
use Rattle.unit_reports.specs.Held.{Held}
use Rattle.held_administration.specs.Order.{record_names}
use Rattle.opening.proofs.Reopened.{names_same}
use Rattle.reopening.proofs.Entries.{IsSafe}
use Rattle.reopening.proofs.Parts.{temporary_is}
use Rattle.reopening.proofs.Sounds.{IsSound, sound_grown, sound_opens}
use Rattle.reopening.proofs.Units.{emptied_incoming}
use Rattle.reopening.proofs.Unpacks.{opened_by}
use Rattle.reopening.specs.Opens.{CanBeOpened}

-- no shipped path is below the administration's directory
below_not_ship : (q : Path) → is_below_administration q ≡ true → is_ship_text q ≡ false
below_not_ship q below =
    and_right (is_path_text q) (has_room q && (not (bytes_eq q (codes "/")) && (not (has_reserved_suffix q) && not (is_below_administration q))))
    (and_right (has_room q) (not (bytes_eq q (codes "/")) && (not (has_reserved_suffix q) && not (is_below_administration q)))
    (and_right (not (bytes_eq q (codes "/"))) (not (has_reserved_suffix q) && not (is_below_administration q))
    (and_right (not (has_reserved_suffix q)) (not (is_below_administration q)) (ap not below))))

-- below the administration's directory nothing has changed but the table, which is there
module _ (h : Held) (old now : World) (sound : IsSound h old) (same : (q : Path) → is_below_administration q ≡ true → get_or q 14 0 ≢ 100 → now q ≡ old q) (ready : IsTableReady now) (ways : Ways) (has : HasDiversions now ways.entries) where
  same_info : (more : Path) → now (info_path ++ more) ≡ old (info_path ++ more)
  same_info more = same (info_path ++ more) refl (λ e. absurd (omega (arith, e)))

  same_updates : (more : Path) → now (updates_path ++ more) ≡ old (updates_path ++ more)
  same_updates more = same (updates_path ++ more) refl (λ e. absurd (omega (arith, e)))

  same_status : (more : Path) → now (status_path ++ more) ≡ old (status_path ++ more)
  same_status more = same (status_path ++ more) refl (λ e. absurd (omega (arith, e)))

  still_records : HasRecords now h.records.records
  still_records = records_same old now h.records.records (same_status []) (λ n lt. same_updates (47 ∷ digits n)) sound.order.kept.holds

  still_opens : CanOpenRecords now
  still_opens =
      let was = sound.order.kept.unblocked in
      record {
        unblocked = record {
          home = ready.home;
          updates = subst IsDirectory (sym (same_updates [])) was.updates;
          text = λ bad. was.text (bad.0, bad.1, bad.2, subst IsSome (same_updates (47 ∷ bad.0)) bad.3);
          status_spare = no_directory_at (now (temporary status_path)) (old (temporary status_path)) (same_status (codes ".dpkg-inst")) was.status_spare;
          spares = λ n lt. no_directory_at (now (temporary (note_path n))) (old (temporary (note_path n))) (same_updates (47 ∷ digits n ++ codes ".dpkg-inst")) (was.spares n lt);
        };
        table = h.records.records;
        records = still_records;
      }

  still_safe : IsSafe (record_names h.records.records) ways now
  still_safe = record {
    info = subst IsDirectory (sym (same_info [])) sound.safe.info;
    text = λ bad. sound.safe.text (bad.0, bad.1, bad.2, subst IsSome (same_info (47 ∷ bad.0)) bad.3);
    sound = λ entry plain. subst (IsSoundEntry (record_names h.records.records) entry) (sym (same_info (47 ∷ entry))) (sound.safe.sound entry plain);
    short = names_same old now (λ entry. same_info (47 ∷ entry)) sound.safe.short;
    diversions = has;
    spare = ready.spare;
  }

  recording_opens : CanBeOpened now
  recording_opens = opened_by (record_names h.records.records) ways h.records.records now still_records still_opens sound.standing (λ q known. known) still_safe
      (emptied_incoming now (λ q within. (let t = temporary_is q within in same q t.under (λ e. absurd (omega (arith, e, t.letter))) ∙ sound.empty q within)))

-- of before, or the new one
table_there : (old now : World) (before after : List Diversion) → (now diversions_path ≡ old diversions_path) ⊎ HasDiversions now after → HasDiversions old before → (l : List Diversion) × HasDiversions now l
table_there old now before after (inl same) has = (before, subst (λ (n : Option Node). HasEntries n before) (sym same) has)
table_there old now before after (inr new) has = (after, new)

-- a node moved from one shipped path to another, and the table is being written
recorded_same : (moves : Bool) (from to : Path) (old now : World) → is_ship_text from ≡ true → is_ship_text to ≡ true → KeepsBesideFile diversions_path (moved_if moves from to old) now → (q : Path) → is_below_administration q ≡ true → get_or q 14 0 ≢ 100 → now q ≡ old q
recorded_same moves from to old now ship_from ship_to rest q below no_d =
    rest q (λ e. no_d (ap (λ (l : Path). get_or l 14 0) e)) (λ e. no_d (ap (λ (l : Path). get_or l 14 0) e))
    ∙ moved_away moves from to old q (λ t. own_other q from ship_from (below_not_ship q below)) (λ t. own_other q to ship_to (below_not_ship q below))

-- or it has a second name there
doubled_other : (moves : Bool) (from to : Path) (w : World) (q : Path) → (q ≢ to) → doubled_if moves from to w q ≡ w q
doubled_other true from to w q other = put_other w to q (w from) other
doubled_other false from to w q other = refl

doubled_opens : (h : Held) (moves : Bool) (from to : Path) (old now : World) → IsSound h old → is_ship_text to ≡ true → now ≡ doubled_if moves from to old → IsTableReady now → CanBeOpened now
doubled_opens h moves from to old now sound ship_to goes ready =
    let unmoved : (q : Path) → is_ship_text q ≡ false → now q ≡ old q = λ q own. ap (λ w. w q) goes ∙ doubled_other moves from to old q (own_other q to ship_to own) in
    recording_opens h old now sound (λ q below no_d. unmoved q (below_not_ship q below)) ready h.ways (subst (λ (n : Option Node). HasEntries n h.ways.entries) (sym (unmoved diversions_path refl)) sound.safe.diversions)

pub adding_opens : (h : Held) (d : Diversion) (rename : Bool) (seen : Seen) (old now : World) → IsSound h old → is_ship_text d.path ≡ true → is_ship_text d.target ≡ true → IsAdding h.ways d rename seen old now → CanBeOpened now
adding_opens h d rename seen old now sound path target (inl still) = subst CanBeOpened (sym still) (sound_opens h old sound)
adding_opens h d rename seen old now sound path target (inr (inl both)) =
    let from = resolved h.ways.aliases d.path in
    let to = resolved h.ways.aliases d.target in
    doubled_opens h (moves_node rename seen.listed (sight_of rename old from to)) from to old now sound (resolved_shipped h.ways.aliases d.target target) both.0 both.1
adding_opens h d rename seen old now sound path target (inr (inr amid)) =
    let from = resolved h.ways.aliases d.path in
    let to = resolved h.ways.aliases d.target in
    let table = table_there old now h.ways.entries (h.ways.entries ++ d ∷ []) amid.table sound.safe.diversions in
    recording_opens h old now sound
    (recorded_same (moves_node rename seen.listed (sight_of rename old from to)) from to old now (resolved_shipped h.ways.aliases d.path path) (resolved_shipped h.ways.aliases d.target target) amid.rest)
    amid.ready (with_entries h.ways table.0) table.1

-- once the aliases above its path and its target are known
pub diverting_opens : (h : Held) (asked : Diverting) (old now : World) → IsSound h old → is_ship_text asked.path ≡ true → is_ship_text asked.target ≡ true → IsDiverting asked h.records.records h.lists h.ways old now → CanBeOpened now
diverting_opens h asked old now sound path target (inl same) = subst CanBeOpened (sym same) (sound_opens h old sound)
diverting_opens h asked old now sound path target (inr (added, read, amid)) = adding_opens (grown h added) (asked_entry asked) asked.rename (seen_of (h.ways.aliases ++ added) h.records.records h.lists asked.owner asked.path) old now (sound_grown h added old sound) path target amid

read_table : (node : Option Node) (entries : List Diversion) → HasEntries node entries → IsTable entries
read_table None entries has = subst IsTable (sym has) tt
read_table (Some (File bytes access)) entries has = has.table
read_table (Some (Dir access)) entries has = absurd has
read_table (Some (Link target)) entries has = absurd has

pub removing_opens : (h : Held) (path : Path) (rename : Bool) (old now : World) → IsSound h old → is_ship_text path ≡ true → IsRemoving h.ways path rename old now → CanBeOpened now
removing_opens h path rename old now sound ships (inl still) = subst CanBeOpened (sym still) (sound_opens h old sound)
removing_opens h path rename old now sound ships (inr (inl both)) =
    let target = truename h.ways path in
    let place = resolved h.ways.aliases path in
    doubled_opens h (moves_back rename old target place) target place old now sound (resolved_shipped h.ways.aliases path ships) both.0 both.1
removing_opens h path rename old now sound ships (inr (inr amid)) =
    let target = truename h.ways path in
    let place = resolved h.ways.aliases path in
    let table = table_there old now h.ways.entries (without path h.ways.entries) amid.table sound.safe.diversions in
    recording_opens h old now sound
    (recorded_same (moves_back rename old target place) target place old now (truename_shipped h.ways path (read_table (old diversions_path) h.ways.entries sound.safe.diversions) ships) (resolved_shipped h.ways.aliases path ships) amid.rest)
    amid.ready (with_entries h.ways table.0) table.1

pub undiverting_opens : (h : Held) (asked : Undiverting) (old now : World) → IsSound h old → is_ship_text asked.path ≡ true → IsUndiverting asked h.ways old now → CanBeOpened now
undiverting_opens h asked old now sound ships (inl same) = subst CanBeOpened (sym same) (sound_opens h old sound)
undiverting_opens h asked old now sound ships (inr (added, read, amid)) = removing_opens (grown h added) asked.path asked.rename old now (sound_grown h added old sound) ships amid
