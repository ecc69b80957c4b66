-- After a loss of power the next opening can read all, where it could at each moment before.
use Rattle.std.proofs.Common.{◌≡◌, ◌⊎◌, ◌-◌, inl, inr, ℕ, IsTrue, Bool, true, false, List, ◌∷◌, ◌++◌, Option, Some, None, codes, drop, length, take, refl, sym, ap, subst, ◌∙◌}
use Rattle.std.specs.Prelude.{IsSome}
use Rattle.std.proofs.lemmas.Bool.{false_from_ne_true}
use Rattle.std.proofs.lemmas.List.{take-append-drop}
use Rattle.std.proofs.lemmas.Slice.Eq.{bytes_eq-Decides}
use Rattle.host_core.specs.Events.{Event, changes_of}
use Rattle.host_core.specs.Host.{State}
use Rattle.host_core.specs.Loss.{IsBlurred, IsLike, LosesSince}
use Rattle.host_core.proofs.Losses.{avoid_added, since_loss_one}
use Rattle.host_core.proofs.Moments.{since_start}
use Rattle.host_core.specs.Outcome.{script_name}
use Rattle.host_core.specs.Paths.{Path, is_own}
use Rattle.host_core.specs.Unsynced.{IsSettled, is_temporary}
use Rattle.host_core.specs.World.{Avoids, World, IsDirectory, IsLoose}
use Rattle.host_core.specs.declared.call.Script.{Script}
use Rattle.host_core.specs.declared.node.Node.{Node}
use Rattle.host_core.specs.declared.node.Node.TheVariants.{File, Dir, Link}
use Rattle.administration.specs.Files.{NoDirectory}
use Rattle.administration.specs.Places.{diversions_path, home_path, info_path, list_path, script_path, status_path, temporary, tmp_path, updates_path}
use Rattle.control_members.proofs.Apart.{no_list_temporary, no_temporary}
use Rattle.control_members.proofs.MemberNames.{script_is_member}
use Rattle.control_members.specs.LaidOut.{IsIncoming, laid_path}
use Rattle.diversions.specs.Lines.{HasEntries}
use Rattle.diversions.specs.declared.entry.Diversion.{Diversion}
use Rattle.dpkg_session.specs.History.{Stands}
use Rattle.file_lists.specs.Info.{IsLink, IsSound, entry_path}
use Rattle.file_lists.specs.Lists.{IsReadable}
use Rattle.file_lists.specs.declared.paths.PackageList.{PackageList}
use Rattle.info_format.specs.Format.{format_path}
use Rattle.info_format.specs.Stage.{AreReadShort}
use Rattle.info_format.proofs.Doubles.{read_by}
use Rattle.info_format.proofs.Two.{two_proper, two_whole}
use Rattle.opening.proofs.KeptLists.{has_lists_kept}
use Rattle.opening.specs.Opened.{IsFound}
use Rattle.opening.specs.Parts.{IsReadableInfo, names_of}
use Rattle.status_db.proofs.NotedWorlds.{records_same}
use Rattle.status_db.specs.Held.{CanOpenRecords, HasRecords}
use Rattle.status_db.specs.Notes.{note_path}
use Rattle.status_records.specs.declared.record.Record.{Record}
use Rattle.unit_reports.specs.Held.{Held}
use Rattle.reopening.proofs.Sounds.{Opened}
use Rattle.reopening.specs.Opens.{CanBeOpened}

-- blurred, a node is still a node, and a directory one

pub blurred_some : (n m : Option Node) → IsBlurred n m → IsSome m → IsSome n
blurred_some None m blurred some = subst IsSome blurred some
blurred_some (Some n) m blurred some = refl

pub blurred_directory : (n m : Option Node) → IsBlurred n m → IsDirectory m → IsDirectory n
blurred_directory None m blurred is = subst IsDirectory blurred is
blurred_directory (Some (File bytes access)) m blurred is = (let e : Some (File blurred.0 access) ≡ Some (Dir is.0) = sym blurred.1 ∙ is.1 in cc)
blurred_directory (Some (Dir access)) m blurred is = (access, refl)
blurred_directory (Some (Link target)) m blurred is = subst IsDirectory blurred is

-- lists, stored scripts and notes have no temporary name

pub is_suffixed : (p : Path) → is_temporary p ≡ true → (q : Path) × (p ≡ temporary q)
is_suffixed p is =
    let s = codes ".dpkg-inst" in
    let k = length p - length s in
    (take k p, sym (take-append-drop k p) ∙ ap (λ (l : Path). take k p ++ l) (sym ((bytes_eq-Decides s (drop k p)).0 is)))

pub list_proper : (name : Path) → is_temporary (list_path name) ≡ false
list_proper name = false_from_ne_true (is_temporary (list_path name)) (λ is. (let t = is_suffixed (list_path name) is in no_list_temporary name t.0 t.1))

pub script_proper : (owner : Path) (script : Script) → is_temporary (script_path owner script) ≡ false
script_proper owner script =
    false_from_ne_true (is_temporary (script_path owner script)) (λ is. (let t = is_suffixed (script_path owner script) is in no_temporary owner (script_name script) t.0 (script_is_member script) t.1))

pub bool_cases : (b : Bool) → (b ≡ true) ⊎ (b ≡ false)
bool_cases true = inl refl
bool_cases false = inr refl

module _ (w left : World) (like : IsLike is_own w left) where
  like_some : (q : Path) → is_own q ≡ true → IsSome (left q) → IsSome (w q)
  like_some q own some = elim (bool_cases (is_temporary q)) [
    | inl t ↦ blurred_some (w q) (left q) (like.bytes q own t) some
    | inr p ↦ subst IsSome (like.whole q own p) some
  ]

  like_directory : (q : Path) → is_own q ≡ true → NoDirectory (w q) → NoDirectory (left q)
  like_directory q own none is = none (elim (bool_cases (is_temporary q)) [
    | inl t ↦ blurred_directory (w q) (left q) (like.bytes q own t) is
    | inr p ↦ subst IsDirectory (like.whole q own p) is
  ])

  same_records : (table : List Record) → HasRecords w table → HasRecords left table
  same_records table has = records_same w left table (like.whole status_path refl refl) (λ n lt. like.whole (note_path n) refl refl) has

  still_opens : CanOpenRecords w → CanOpenRecords left
  still_opens opens = record {
    unblocked = record {
      home = subst IsDirectory (sym (like.whole home_path refl refl)) opens.unblocked.home;
      updates = subst IsDirectory (sym (like.whole updates_path refl refl)) opens.unblocked.updates;
      text = λ bad. opens.unblocked.text (bad.0, bad.1, bad.2, like_some (updates_path ++ 47 ∷ bad.0) refl bad.3);
      status_spare = like_directory (temporary status_path) refl opens.unblocked.status_spare;
      spares = λ n lt. like_directory (temporary (note_path n)) refl (opens.unblocked.spares n lt);
    };
    table = opens.table;
    records = same_records opens.table opens.records;
  }

  still_sound : (names : List (List ℕ)) (entry : Path) → IsSound names entry (w (entry_path entry)) → IsSound names entry (left (entry_path entry))
  still_sound names entry is = record {
    loose = like_directory (entry_path entry) refl is.loose;
    list = λ of. subst IsReadable (sym (ap (λ (x : Path). left (entry_path x)) of.2 ∙ like.whole (list_path of.0) refl (list_proper of.0) ∙ ap (λ (x : Path). w (entry_path x)) (sym of.2))) (is.list of);
    script = λ of link. is.script of
        (subst IsLink (ap (λ (x : Path). left (entry_path x)) of.3 ∙ like.whole (script_path of.1 of.0) refl (script_proper of.1 of.0) ∙ ap (λ (x : Path). w (entry_path x)) (sym of.3)) link);
  }

  still_readable : IsReadableInfo w → IsReadableInfo left
  still_readable is = record {
    table = is.table;
    is_table = record { records = same_records is.table is.is_table.records; standing = is.is_table.standing };
    text = λ bad. is.text (bad.0, bad.1, bad.2, like_some (info_path ++ 47 ∷ bad.0) refl bad.3);
    sound = λ entry plain. still_sound (names_of is.table) entry (is.sound entry plain);
  }

  still_incoming : IsIncoming w → IsIncoming left
  still_incoming is = record {
    place = λ loose. is.place (subst IsLoose (like.whole tmp_path refl refl) loose);
    named = λ name plain some. is.named name plain (like_some (laid_path name) refl some);
    loose = λ name plain. like_directory (laid_path name) refl (is.loose name plain);
  }

  still_short : AreReadShort w → AreReadShort left
  still_short read =
      read_by w left (λ arches long short two some. like.whole long (ap is_own two.long_is) (two_proper arches long short two)) (λ arches long short two some. like.whole short (ap is_own two.short_is) (two_whole arches long short two))
      (λ none. like.whole format_path refl refl ∙ none) read

  pub opened_like : CanBeOpened w → CanBeOpened left
  opened_like opens = record {
    records = still_opens opens.records;
    info = subst IsDirectory (sym (like.whole info_path refl refl)) opens.info;
    readable = still_readable opens.readable;
    short = still_short opens.short;
    diversions = (opens.diversions.0, subst (λ (n : Option Node). HasEntries n opens.diversions.0) (sym (like.whole diversions_path refl refl)) opens.diversions.1);
    spare = like_directory (temporary diversions_path) refl opens.spare;
    incoming = still_incoming opens.incoming;
  }

-- what stood behind a command stands
pub found_like : (table : List Record) (notes : ℕ) (lists : List PackageList) (entries : List Diversion) (w left : World) → IsLike is_own w left → IsFound table notes lists entries w → IsFound table notes lists entries left
found_like table notes lists entries w left like found = record {
  home = subst IsDirectory (sym (like.whole home_path refl refl)) found.home;
  info = subst IsDirectory (sym (like.whole info_path refl refl)) found.info;
  updates = subst IsDirectory (sym (like.whole updates_path refl refl)) found.updates;
  text = λ bad. found.text (bad.0, bad.1, bad.2, like_some w left like (info_path ++ 47 ∷ bad.0) refl bad.3);
  diversions = subst (λ (n : Option Node). HasEntries n entries) (sym (like.whole diversions_path refl refl)) found.diversions;
  diversions_spare = like_directory w left like (temporary diversions_path) refl found.diversions_spare;
  tmp = like.whole tmp_path refl refl ∙ found.tmp;
  records = record {
    unblocked = (still_opens w left like (record { unblocked = found.records.unblocked; table = table; records = found.records.holds })).unblocked;
    holds = same_records w left like table found.records.holds;
    free = λ n le lt. like.whole (note_path n) refl refl ∙ found.records.free n le lt;
  };
  standing = found.standing;
  listed = record {
    sound = λ entry plain. still_sound w left like (names_of table) entry (found.listed.sound entry plain);
    lists = has_lists_kept w left (names_of table) lists (λ name known. like.whole (list_path name) refl (list_proper name)) found.listed.lists;
  };
}

pub stands_lost : (h : Held) (begun t : State) (session : List Event) (left : World) → IsTrue t.honest → IsSettled t.events → t.events ≡ begun.events ++ session → Avoids is_own (changes_of session) → Stands h t.world → LosesSince begun t t left → Stands h left
stands_lost h begun t session left honest settled events avoids stands loses =
    let one = since_loss_one is_own (λ so_far. Stands h) begun t t left honest settled (avoid_added is_own session begun t events avoids) (since_start (λ so_far. Stands h) t stands) loses in
    found_like h.records.records h.records.notes h.lists h.ways.entries one.1 left one.4 one.2

pub opened_lost : (begun s t : State) (session : List Event) (left : World) → IsTrue t.honest → IsSettled t.events → t.events ≡ begun.events ++ session → Avoids is_own (changes_of session) → Opened s t → LosesSince begun s t left → CanBeOpened left
opened_lost begun s t session left h settled events avoids opened loses =
    let one = since_loss_one is_own (λ so_far. CanBeOpened) begun s t left h settled (avoid_added is_own session begun t events avoids) opened loses in
    opened_like one.1 left one.4 one.2
