-- An opening of what can be opened leaves what can be opened, wherever it is broken off.
use Rattle.std.proofs.Common.{◌≡◌, inl, inr, false, ℕ, List, ◌∷◌, ◌++◌, Option, None, refl, sym, ap, subst, ◌∙◌}
use Rattle.std.specs.Prelude.{IsSome}
use Rattle.std.proofs.lemmas.Bool.{true≢false}
use Rattle.host_core.proofs.Nodes.{none_stands}
use Rattle.host_core.specs.Host.{AtEachMoment, Needs, State}
use Rattle.host_core.proofs.Moments.{since_weaker_if}
use Rattle.host_core.specs.Paths.{Path}
use Rattle.host_core.specs.World.{World, IsDirectory, IsLoose, KeepsBut}
use Rattle.host_core.specs.declared.node.Node.{Node}
use Rattle.adopted_conffiles.specs.Adopted.{all_adopted}
use Rattle.adopted_conffiles.specs.Adopting.{IsAdopting}
use Rattle.adopted_conffiles.proofs.Taken.{names_partly, partly_standing}
use Rattle.administration.proofs.Within.{directory_differs}
use Rattle.administration.proofs.WholeFiles.{no_directory_at, no_directory_none}
use Rattle.administration.specs.Places.{diversions_path, home_path, info_path, status_path, temporary, tmp_path, updates_path, is_within}
use Rattle.control_members.specs.LaidOut.{IsIncoming, laid_path}
use Rattle.diversions.specs.Lines.{HasEntries}
use Rattle.diversions.specs.Ways.{Ways}
use Rattle.file_lists.specs.Info.{AreSound, IsSound, entry_path}
use Rattle.file_lists.specs.declared.paths.PackageList.{PackageList}
use Rattle.info_format.specs.Stage.{IsNaming}
use Rattle.opening.proofs.Reopened.{named_outside, named_same, read_same, records_named, sound_named, still_read, stood_before}
use Rattle.opening.specs.Leaving.{IsOpening, IsOpeningOrMerging, IsReading, is_way}
use Rattle.opening.specs.Opened.{IsOpened}
use Rattle.opening.specs.Parts.{IsTable, names_of}
use Rattle.opening.specs.TakenUp.{IsOpeningOrAdopting}
use Rattle.status_db.proofs.NotedWorlds.{records_same}
use Rattle.status_db.specs.Held.{CanOpenRecords, HasRecords, is_record_place}
use Rattle.status_db.specs.Notes.{note_path}
use Rattle.status_db.specs.Noting.{IsMerging}
use Rattle.status_records.specs.Records.{standing}
use Rattle.status_records.specs.declared.record.Record.{Record}
use Rattle.reopening.specs.Opens.{CanBeOpened, CanBeOpenedAmid}

-- the law of opening: it changes no record
abbrev pub KeepsRecords : Type 0
KeepsRecords = (old now : World) (table : List Record) → IsOpeningOrMerging old now → HasRecords old table → HasRecords now table

module _ (old now : World) (is : IsOpening old now) (opens : CanBeOpened old) where
  same_at : (q : Path) → is_within tmp_path q ≡ false → is_way q ≡ false → now q ≡ old q
  same_at q out plain = elim (is.rest q out) [ inl same ↦ same | inr new ↦ absurd (true≢false (sym new.way ∙ plain)) ]

  directory_at : (q : Path) → is_within tmp_path q ≡ false → IsDirectory (old q) → IsDirectory (now q)
  directory_at q out there = elim (is.rest q out) [ inl same ↦ subst IsDirectory (sym same) there | inr new ↦ new.made ]

  records_at : (table : List Record) → HasRecords old table → HasRecords now table
  records_at table has = records_same old now table (same_at status_path refl refl) (λ n lt. same_at (note_path n) refl refl) has

  opens_at : CanOpenRecords now
  opens_at = record {
    unblocked = record {
      home = directory_at home_path refl opens.records.unblocked.home;
      updates = directory_at updates_path refl opens.records.unblocked.updates;
      text = λ bad. opens.records.unblocked.text (bad.0, bad.1, bad.2, subst IsSome (same_at (updates_path ++ 47 ∷ bad.0) refl refl) bad.3);
      status_spare = no_directory_at (now (temporary status_path)) (old (temporary status_path)) (same_at (temporary status_path) refl refl) opens.records.unblocked.status_spare;
      spares = λ n lt. no_directory_at (now (temporary (note_path n))) (old (temporary (note_path n))) (same_at (temporary (note_path n)) refl refl) (opens.records.unblocked.spares n lt);
    };
    table = opens.records.table;
    records = records_at opens.records.table opens.records.records;
  }

  incoming_at : IsIncoming now
  incoming_at = record {
    place = λ loose. elim (is.left tmp_path refl) [
      | inl same ↦ opens.incoming.place (subst IsLoose same loose)
      | inr none ↦ none_stands (now tmp_path) none loose.0
    ];
    named = λ name plain some. elim (is.left (laid_path name) refl) [
      | inl same ↦ opens.incoming.named name plain (subst IsSome same some)
      | inr none ↦ absurd (none_stands (now (laid_path name)) none some)
    ];
    loose = λ name plain. elim (is.left (laid_path name) refl) [
      | inl same ↦ no_directory_at (now (laid_path name)) (old (laid_path name)) same (opens.incoming.loose name plain)
      | inr none ↦ no_directory_at (now (laid_path name)) None none no_directory_none
    ];
  }

  pub opening_opens : CanBeOpened now
  opening_opens = record {
    records = opens_at;
    info = directory_at info_path refl opens.info;
    readable = record {
      table = opens.readable.table;
      is_table = record { records = records_at opens.readable.table opens.readable.is_table.records; standing = opens.readable.is_table.standing };
      text = λ bad. opens.readable.text (bad.0, bad.1, bad.2, subst IsSome (same_at (info_path ++ 47 ∷ bad.0) refl refl) bad.3);
      sound = λ entry plain. subst (IsSound (names_of opens.readable.table) entry) (sym (same_at (entry_path entry) refl refl)) (opens.readable.sound entry plain);
    };
    short = read_same old now (λ entry. same_at (entry_path entry) refl refl) opens.short;
    diversions = (opens.diversions.0, subst (λ (n : Option Node). HasEntries n opens.diversions.0) (sym (same_at diversions_path refl refl)) opens.diversions.1);
    spare = no_directory_at (now (temporary diversions_path)) (old (temporary diversions_path)) (same_at (temporary diversions_path) refl refl) opens.spare;
    incoming = incoming_at;
  }

-- where only records have changed: this is the table, and packages have the names that they had
beside_opens : (table was : List Record) (old now : World) → KeepsBut is_record_place old now → CanOpenRecords now → IsTable now table → names_of table ≡ names_of was → AreSound old (names_of was) → CanBeOpened old → CanBeOpened now
beside_opens table was old now rest records is_table names sound opens = record {
  records = records;
  info = subst IsDirectory (sym (rest info_path refl)) opens.info;
  readable = record {
    table = table;
    is_table = is_table;
    text = λ bad. opens.readable.text (bad.0, bad.1, bad.2, subst IsSome (rest (info_path ++ 47 ∷ bad.0) refl) bad.3);
    sound = λ entry plain. subst (IsSound (names_of table) entry) (sym (rest (entry_path entry) refl)) (subst (λ (ns : List (List ℕ)). IsSound ns entry (old (entry_path entry))) (sym names) (sound entry plain));
  };
  short = read_same old now (λ entry. rest (entry_path entry) refl) opens.short;
  diversions = (opens.diversions.0, subst (λ (n : Option Node). HasEntries n opens.diversions.0) (sym (rest diversions_path refl)) opens.diversions.1);
  spare = no_directory_at (now (temporary diversions_path)) (old (temporary diversions_path)) (rest (temporary diversions_path) refl) opens.spare;
  incoming = record {
    place = λ loose. opens.incoming.place (subst IsLoose (rest tmp_path refl) loose);
    named = λ name plain some. opens.incoming.named name plain (subst IsSome (rest (laid_path name) refl) some);
    loose = λ name plain. no_directory_at (now (laid_path name)) (old (laid_path name)) (rest (laid_path name) refl) (opens.incoming.loose name plain);
  };
}

merging_opens : (table : List Record) (old now : World) → IsMerging table old now → ((other : List Record) → HasRecords old other → HasRecords now other) → CanBeOpened old → CanBeOpened now
merging_opens table old now merging keeps opens =
    beside_opens opens.readable.table opens.readable.table old now merging.rest merging.opens
    (record { records = keeps opens.readable.table opens.readable.is_table.records; standing = opens.readable.is_table.standing }) refl opens.readable.sound opens

-- records that are taken up are of the packages of before
adopting_opens : (ways : Ways) (table : List Record) (lists : List PackageList) (old now : World) → IsOpened table lists ways.entries old → IsAdopting ways table old now → CanBeOpened old → CanBeOpened now
adopting_opens ways table lists old now opened is opens =
    beside_opens (all_adopted old ways is.front ++ is.back) table old now is.rest is.opens
    (record { records = is.records; standing = partly_standing old ways is.front is.back (subst (λ (l : List Record). standing l ≡ l) is.is opened.standing) })
    (names_partly old ways is.front is.back ∙ ap names_of (sym is.is))
    opened.listed.sound opens

-- names in `info` are brought to format 0

module _ (old begun : World) (naming : IsNaming old begun) (opens : CanBeOpened old) where
  beside : (q : Path) → is_within info_path q ≡ false → begun q ≡ old q
  beside q out = named_outside old begun naming q out

  naming_opens : CanBeOpened begun
  naming_opens = record {
    records = record {
      unblocked = record {
        home = subst IsDirectory (sym (beside home_path refl)) opens.records.unblocked.home;
        updates = subst IsDirectory (sym (beside updates_path refl)) opens.records.unblocked.updates;
        text = λ bad. opens.records.unblocked.text (bad.0, bad.1, bad.2, subst IsSome (beside (updates_path ++ 47 ∷ bad.0) refl) bad.3);
        status_spare = no_directory_at (begun (temporary status_path)) (old (temporary status_path)) (beside (temporary status_path) refl) opens.records.unblocked.status_spare;
        spares = λ n lt. no_directory_at (begun (temporary (note_path n))) (old (temporary (note_path n))) (beside (temporary (note_path n)) refl) (opens.records.unblocked.spares n lt);
      };
      table = opens.records.table;
      records = records_named old begun naming opens.records.table opens.records.records;
    };
    info = subst IsDirectory (sym (named_same old begun naming info_path (λ entry e. directory_differs info_path entry e))) opens.info;
    readable = record {
      table = opens.readable.table;
      is_table = record { records = records_named old begun naming opens.readable.table opens.readable.is_table.records; standing = opens.readable.is_table.standing };
      text = λ bad. opens.readable.text (bad.0, bad.1, bad.2, subst IsSome (stood_before old begun naming opens.short (info_path ++ 47 ∷ bad.0) bad.3) bad.3);
      sound = λ entry plain. sound_named old begun naming opens.short (names_of opens.readable.table) entry (opens.readable.sound entry plain);
    };
    short = still_read old begun naming opens.short;
    diversions = (opens.diversions.0, subst (λ (n : Option Node). HasEntries n opens.diversions.0) (sym (beside diversions_path refl)) opens.diversions.1);
    spare = no_directory_at (begun (temporary diversions_path)) (old (temporary diversions_path)) (beside (temporary diversions_path) refl) opens.spare;
    incoming = record {
      place = λ loose. opens.incoming.place (subst IsLoose (beside tmp_path refl) loose);
      named = λ name plain some. opens.incoming.named name plain (subst IsSome (beside (laid_path name) refl) some);
      loose = λ name plain. no_directory_at (begun (laid_path name)) (old (laid_path name)) (beside (laid_path name) refl) (opens.incoming.loose name plain);
    };
  }

pub opening_start : (w : World) → IsOpening w w
opening_start w = record { rest = λ q out. inl refl; left = λ q within. inl refl }

reading_opens : KeepsRecords → (old now : World) → CanBeOpened old → IsReading old now → CanBeOpened now
reading_opens keeps old now opens (IsReading.opening is) = opening_opens old now is opens
reading_opens keeps old now opens (IsReading.merging read table is has merging) =
    merging_opens table read now merging (λ other found. keeps read now other (record { begun = read; names = inl refl; reading = IsReading.merging read table (opening_start read) has merging }) found) (opening_opens old read is opens)

pub reopened : KeepsRecords → (old now : World) → CanBeOpened old → IsOpeningOrMerging old now → CanBeOpened now
reopened keeps old now opens is = reading_opens keeps is.begun now (naming_opens old is.begun is.names opens) is.reading

adopted_opens : KeepsRecords → (old now : World) → CanBeOpened old → IsOpeningOrAdopting old now → CanBeOpened now
adopted_opens keeps old now opens (IsOpeningOrAdopting.opening is) = reopened keeps old now opens is
adopted_opens keeps old now opens (IsOpeningOrAdopting.adopting read ways table lists is opened adopting) = adopting_opens ways table lists read now opened adopting (reopened keeps old read opens is)

pub opening_ends : KeepsRecords → (s t : State) → Needs s CanBeOpened → AtEachMoment IsOpeningOrAdopting s t → CanBeOpenedAmid s t
opening_ends keeps s t opens since = since_weaker_if _ _ s t (λ h so_far now is. adopted_opens keeps s.world now (opens (since.honest h)) is) since
