-- What commands leave is what a further command can open.
use Rattle.std.specs.Prelude.{IsSome}
use Rattle.std.proofs.Common.{ℕ, List, [], ◌∷◌, ◌++◌, IsTrue, refl, sym, subst, ◌∙◌}
use Rattle.host_core.specs.Paths.{is_own}
use Rattle.host_core.specs.World.{World, SameOn, IsDirectory}
use Rattle.host_core.specs.Host.{State}
use Rattle.administration.specs.Places.{home_path, info_path, status_path, tmp_path, list_path, updates_path, diversions_path, temporary}
use Rattle.administration.proofs.WholeFiles.{no_directory_at}
use Rattle.diversions.specs.declared.entry.Diversion.{Diversion}
use Rattle.diversions.specs.Lines.{HasEntries}
use Rattle.file_lists.specs.Info.{entry_path, IsSound}
use Rattle.file_lists.specs.declared.paths.PackageList.{PackageList}
use Rattle.opening.proofs.KeptLists.{has_lists_kept}
use Rattle.opening.proofs.Merging.{found_noted}
use Rattle.opening.specs.Opened.{IsFound}
use Rattle.opening.specs.Parts.{names_of}
use Rattle.status_db.proofs.NotedWorlds.{records_same}
use Rattle.status_db.specs.Held.{AreKept}
use Rattle.status_db.specs.Notes.{note_path}
use Rattle.status_db.specs.Recorded.{Recorded}
use Rattle.status_records.specs.declared.record.Record.{Record}
use Rattle.unit_reports.specs.Held.{Held}
use Rattle.dpkg_session.specs.History.{Changed, Configured, Diverted, HasDone, Installed, IsCommand, IsHistory, KeepsRest, Merged, Ran, Removed, Reread, Stands, Triggered, Undiverted, Unpacked}
use Rattle.dpkg_session.specs.Rereading.{with_ways}
use Rattle.dpkg_session.proofs.Reread.{found_reread}
use Rattle.dpkg_session.proofs.Carries.{carries_found}
use Rattle.dpkg_session.proofs.Changes.{changes_carry}
use Rattle.dpkg_session.proofs.Configures.{configure_carries}
use Rattle.dpkg_session.proofs.Found.{found_run}
use Rattle.dpkg_session.proofs.InstallStandings.{install_found}
use Rattle.dpkg_session.proofs.Removes.{removal_carries}
use Rattle.dpkg_session.proofs.Retabled.{found_diverted, found_undiverted}
use Rattle.dpkg_session.proofs.Runs.{ready_run}
use Rattle.dpkg_session.proofs.Standings.{order_standing, standing_found}
use Rattle.dpkg_session.proofs.Triggers.{triggers_carry}

-- the administration is read from its own paths alone

pub kept_outside : (table : List Record) (notes : ℕ) (old new : World) → SameOn is_own old new → AreKept table notes old → AreKept table notes new
kept_outside table notes old new same is = record {
  unblocked = record {
    home = subst IsDirectory (sym (same home_path refl)) is.unblocked.home;
    updates = subst IsDirectory (sym (same updates_path refl)) is.unblocked.updates;
    text = λ bad. is.unblocked.text (bad.0, bad.1, bad.2, subst IsSome (same (updates_path ++ 47 ∷ bad.0) refl) bad.3);
    status_spare = no_directory_at (new (temporary status_path)) (old (temporary status_path)) (same (temporary status_path) refl) is.unblocked.status_spare;
    spares = λ n lt. no_directory_at (new (temporary (note_path n))) (old (temporary (note_path n))) (same (temporary (note_path n)) refl) (is.unblocked.spares n lt);
  };
  holds = records_same old new table (same status_path refl) (λ n lt. same (note_path n) refl) is.holds;
  free = λ n le lt. same (note_path n) refl ∙ is.free n le lt;
}

found_outside : (table : List Record) (notes : ℕ) (lists : List PackageList) (entries : List Diversion) (old new : World) → SameOn is_own old new → IsFound table notes lists entries old → IsFound table notes lists entries new
found_outside table notes lists entries old new same found = record {
  home = subst IsDirectory (sym (same home_path refl)) found.home;
  info = subst IsDirectory (sym (same info_path refl)) found.info;
  updates = subst IsDirectory (sym (same updates_path refl)) found.updates;
  text = λ bad. found.text (bad.0, bad.1, bad.2, subst IsSome (same (info_path ++ 47 ∷ bad.0) refl) bad.3);
  diversions = subst (λ n. HasEntries n entries) (sym (same diversions_path refl)) found.diversions;
  diversions_spare = no_directory_at _ _ (same (temporary diversions_path) refl) found.diversions_spare;
  tmp = same tmp_path refl ∙ found.tmp;
  records = kept_outside table notes old new same found.records;
  standing = found.standing;
  listed = record {
    sound = λ entry plain. subst (IsSound (names_of table) entry) (sym (same (entry_path entry) refl)) (found.listed.sound entry plain);
    lists = has_lists_kept old new (names_of table) lists (λ name known. same (list_path name) refl) found.listed.lists;
  };
}

pub stands_outside : (h : Held) (old new : World) → SameOn is_own old new → Stands h old → Stands h new
stands_outside h old new same found = found_outside h.records.records h.records.notes h.lists h.ways.entries old new same found

-- one command

kept_rest : (before after : Held) (w : World) → KeepsRest before after → Stands (record { records = before.records; lists = before.lists; ways = after.ways }) w → Stands after w
kept_rest before after w keeps found =
    subst (λ (d : Recorded). Stands (record { records = d; lists = after.lists; ways = after.ways }) w) (sym keeps.records)
    (subst (λ (l : List PackageList). Stands (record { records = before.records; lists = l; ways = after.ways }) w) (sym keeps.lists) found)

done_stands : (ran : Ran) (before after : Held) (s t : State) → HasDone ran before after s t → IsTrue t.honest → Stands before s.world → Stands after t.world
done_stands (Unpacked auto candidates units) before after s t done h found =
    found_run auto candidates units before after s t done h (ready_run auto candidates units before after s t done (λ honest. order_standing before s.world (standing_found before s.world found)) h) found
done_stands (Diverted asked unit) before after s t done h found =
    kept_rest before after t.world done.1 (found_diverted before.records before.lists asked before.ways after.ways unit s t done.0 h found)
done_stands (Undiverted asked unit) before after s t done h found =
    kept_rest before after t.world done.1 (found_undiverted before.records before.lists asked before.ways after.ways unit s t done.0 h found)
done_stands (Configured names policy units) before after s t done h found = carries_found before after s t (configure_carries names policy units before after s t done) h found
done_stands (Removed names extents units) before after s t done h found = carries_found before after s t (removal_carries names extents units before after s t done) h found
done_stands (Changed changes units) before after s t done h found = carries_found before after s t (changes_carry changes units before after s t done) h found
done_stands (Triggered names units) before after s t done h found = carries_found before after s t (triggers_carry names units before after s t done) h found
done_stands (Reread ways) before after s t done h found =
    subst (λ (x : Held). Stands x t.world) (sym done.1) (subst (Stands (with_ways before ways)) (sym done.0.reads.world) (found_reread before ways s.world (done.0.found h) found))
done_stands Merged before after s t done h found =
    subst (λ (x : Held). Stands x t.world) (sym done.0) (found_noted before.records.records before.records.notes before.lists before.ways.entries s.world t.world found (done.1 h))
done_stands (Installed auto candidates policy unpacked configured) before after s t done h found = install_found auto candidates policy unpacked configured before after s t done h found

stands_command : (ran : Ran) (before after : Held) (old new : World) → IsCommand ran before after old new → Stands after new
stands_command ran before after old new command =
    subst (Stands after) command.to
    (done_stands ran before after command.start command.end command.done command.honest (subst (Stands before) (sym command.from) command.opened))

pub stands_history : (commands : List Ran) (before after : Held) (old new : World) → IsHistory commands before after old new → Stands before old → Stands after new
stands_history [] before after old new history found = subst (λ (x : Held). Stands x new) (sym history.0) (stands_outside before old new history.1 found)
stands_history (ran ∷ rest) before after old new history found =
    stands_history rest history.1 after history.3 new history.6 (stands_command ran history.0 history.1 history.2 history.3 history.5)
