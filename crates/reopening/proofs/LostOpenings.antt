-- A loss of power during an opening leaves no damage where there was none.
use Rattle.std.proofs.Common.{◌≡◌, ◌⊎◌, inl, inr, ℕ, IsTrue, Bool, true, false, List, [], ◌∷◌, ◌++◌, Option, Some, None, refl, sym, ap, subst, ◌∙◌}
use Rattle.std.specs.Prelude.{IsSome}
use Rattle.host_core.specs.Events.{Event, changes_of}
use Rattle.host_core.specs.Host.{AtEachMoment, Needs, State}
use Rattle.host_core.specs.Loss.{IsBlurred, IsLike, LosesSince}
use Rattle.host_core.proofs.Losses.{avoid_added, since_loss_one}
use Rattle.host_core.proofs.Moments.{since_weaker_if}
use Rattle.host_core.specs.Paths.{Path}
use Rattle.host_core.specs.Unsynced.{IsSettled, is_temporary}
use Rattle.host_core.specs.World.{Avoids, World, IsDirectory, IsLoose}
use Rattle.host_core.specs.declared.node.Node.{Node}
use Rattle.host_core.specs.declared.node.Node.TheVariants.{File, Dir, Link}
use Rattle.administration.specs.Directories.{HasBadName}
use Rattle.administration.specs.Places.{diversions_path, home_path, info_path, list_path, script_path, status_path, temporary, tmp_path, updates_path}
use Rattle.administration.specs.declared.fault.AdministrationFault.TheVariants.{Damaged}
use Rattle.diversions.specs.Lines.{IsDamageAt}
use Rattle.file_lists.specs.Info.{HasBadLine, HasFault, IsFaultyWhole, IsInfoDamage, IsLink, IsListOf, IsScriptOf, IsSound, entry_path}
use Rattle.file_lists.specs.Lists.{IsReadable}
use Rattle.info_format.specs.Format.{format_path}
use Rattle.info_format.specs.Stage.{AreReadShort}
use Rattle.info_format.proofs.Doubles.{read_by}
use Rattle.info_format.proofs.Two.{two_proper, two_whole}
use Rattle.opening.specs.TakenUp.{IsOpeningOrAdopting}
use Rattle.opening.specs.Leaving.{lib_path, root_path, var_path}
use Rattle.opening.specs.Parts.{Diversions, Info, IsTable, Leftovers, Records, Root, Spare, Way, names_of}
use Rattle.opening.specs.Undamaged.{HasNoFault, IsUndamaged}
use Rattle.status_db.proofs.NotedWorlds.{records_same}
use Rattle.status_db.specs.NoteDamage.{AreNotesDamaged, AreRecordsDamaged, IsFaultyNumber, IsFineNumber, IsNoteDamage}
use Rattle.status_db.specs.Notes.{IsNoteAt, note_path}
use Rattle.status_records.specs.Status.{IsStatusAt}
use Rattle.status_records.specs.Status as status
use Rattle.status_records.specs.declared.record.Record.{Record}
use Rattle.reopening.proofs.Losses.{blurred_directory, blurred_some, bool_cases, list_proper, script_proper}

-- blurred, a node is there and a directory is one

some_blurred : (n m : Option Node) → IsBlurred n m → IsSome n → IsSome m
some_blurred None m blurred some = subst IsSome (sym blurred) some
some_blurred (Some (File bytes access)) m blurred some = subst IsSome (sym blurred.1) refl
some_blurred (Some (Dir access)) m blurred some = subst IsSome (sym blurred) refl
some_blurred (Some (Link target)) m blurred some = subst IsSome (sym blurred) refl

directory_blurred : (n m : Option Node) → IsBlurred n m → IsDirectory n → IsDirectory m
directory_blurred None m blurred is = subst IsDirectory (sym blurred) is
directory_blurred (Some (File bytes access)) m blurred is = (let e : Some (File bytes access) ≡ Some (Dir is.0) = is.1 in cc)
directory_blurred (Some (Dir access)) m blurred is = (access, blurred)
directory_blurred (Some (Link target)) m blurred is = subst IsDirectory (sym blurred) is

-- on a host on which no script ran every path is kept
abbrev every : Path → Bool
every q = true

module _ (w left : World) (like : IsLike every w left) where
  some_there : (q : Path) → IsSome (left q) → IsSome (w q)
  some_there q some = elim (bool_cases (is_temporary q)) [ inl t ↦ blurred_some (w q) (left q) (like.bytes q refl t) some | inr p ↦ subst IsSome (like.whole q refl p) some ]

  some_left : (q : Path) → IsSome (w q) → IsSome (left q)
  some_left q some = elim (bool_cases (is_temporary q)) [ inl t ↦ some_blurred (w q) (left q) (like.bytes q refl t) some | inr p ↦ subst IsSome (sym (like.whole q refl p)) some ]

  directory_there : (q : Path) → IsDirectory (left q) → IsDirectory (w q)
  directory_there q is = elim (bool_cases (is_temporary q)) [ inl t ↦ blurred_directory (w q) (left q) (like.bytes q refl t) is | inr p ↦ subst IsDirectory (like.whole q refl p) is ]

  directory_left : (q : Path) → IsDirectory (w q) → IsDirectory (left q)
  directory_left q is = elim (bool_cases (is_temporary q)) [ inl t ↦ directory_blurred (w q) (left q) (like.bytes q refl t) is | inr p ↦ subst IsDirectory (sym (like.whole q refl p)) is ]

  bad_there : (directory : Path) → HasBadName left directory → HasBadName w directory
  bad_there directory bad = (bad.0, bad.1, bad.2, some_there (directory ++ 47 ∷ bad.0) bad.3)

  bad_left : (directory : Path) → HasBadName w directory → HasBadName left directory
  bad_left directory bad = (bad.0, bad.1, bad.2, some_left (directory ++ 47 ∷ bad.0) bad.3)

  -- what is wrong with what is left was wrong before

  fine_there : (n : ℕ) → IsFineNumber left n → IsFineNumber w n
  fine_there n fine = record {
    note = fine.note;
    is = subst (λ (found : Option Node). IsNoteAt found fine.note) (like.whole (note_path n) refl refl) fine.is;
    spare = λ is. fine.spare (directory_left (temporary (note_path n)) is);
  }

  faulty_there : (n : ℕ) (file : Path) (line : ℕ) → IsFaultyNumber left n file line → IsFaultyNumber w n file line
  faulty_there n file line (inl damaged) = inl (damaged.0, subst (λ (found : Option Node). IsNoteDamage found line) (like.whole (note_path n) refl refl) damaged.1)
  faulty_there n file line (inr aside) =
      inr ((aside.0.0, subst (λ (found : Option Node). IsNoteAt found aside.0.0) (like.whole (note_path n) refl refl) aside.0.1), aside.1, aside.2, directory_there (temporary (note_path n)) aside.3)

  notes_there : (file : Path) (line : ℕ) → AreNotesDamaged left file line → AreNotesDamaged w file line
  notes_there file line (inl bad) = inl (bad_there updates_path bad.0, bad.1, bad.2)
  notes_there file line (inr first) = inr (
    (λ bad. first.0 (bad_left updates_path bad)),
    record {
      number = first.1.number;
      within = first.1.within;
      before = λ n lt. fine_there n (first.1.before n lt);
      here = faulty_there first.1.number file line first.1.here;
    },
  )

  records_there : (file : Path) (line : ℕ) → AreRecordsDamaged left file line → AreRecordsDamaged w file line
  records_there file line (inl damaged) = inl (damaged.0, subst (λ (found : Option Node). status.IsDamageAt found line) (like.whole status_path refl refl) damaged.1)
  records_there file line (inr noted) =
      inr (subst (λ (found : Option Node). ∥ ((base : List Record) × IsStatusAt found base) ∥₁) (like.whole status_path refl refl) noted.0, notes_there file line noted.1)

  table_there : (table : List Record) → IsTable left table → IsTable w table
  table_there table is = record {
    records = records_same left w table (sym (like.whole status_path refl refl)) (λ n lt. sym (like.whole (note_path n) refl refl)) is.records;
    standing = is.standing;
  }

  -- an entry of `info`

  at_list : (names : List (List ℕ)) (entry : Path) → IsListOf names entry → left (entry_path entry) ≡ w (entry_path entry)
  at_list names entry of = ap (λ (x : Path). left (entry_path x)) of.2 ∙ like.whole (list_path of.0) refl (list_proper of.0) ∙ ap (λ (x : Path). w (entry_path x)) (sym of.2)

  at_script : (names : List (List ℕ)) (entry : Path) → IsScriptOf names entry → left (entry_path entry) ≡ w (entry_path entry)
  at_script names entry of = ap (λ (x : Path). left (entry_path x)) of.3 ∙ like.whole (script_path of.1 of.0) refl (script_proper of.1 of.0) ∙ ap (λ (x : Path). w (entry_path x)) (sym of.3)

  at_either : (names : List (List ℕ)) (entry : Path) → IsListOf names entry ⊎ IsScriptOf names entry → left (entry_path entry) ≡ w (entry_path entry)
  at_either names entry (inl of) = at_list names entry of
  at_either names entry (inr of) = at_script names entry of

  whole_there : (names : List (List ℕ)) (entry : Path) → IsFaultyWhole names entry (left (entry_path entry)) → IsFaultyWhole names entry (w (entry_path entry))
  whole_there names entry (inl is) = inl (directory_there (entry_path entry) is)
  whole_there names entry (inr link) = inr (link.0, subst IsLink (at_either names entry link.0) link.1)

  whole_left : (names : List (List ℕ)) (entry : Path) → IsFaultyWhole names entry (w (entry_path entry)) → IsFaultyWhole names entry (left (entry_path entry))
  whole_left names entry (inl is) = inl (directory_left (entry_path entry) is)
  whole_left names entry (inr link) = inr (link.0, subst IsLink (sym (at_either names entry link.0)) link.1)

  fault_there : (names : List (List ℕ)) (entry : Path) (line : ℕ) → HasFault names entry (left (entry_path entry)) line → HasFault names entry (w (entry_path entry)) line
  fault_there names entry line (inl whole) = inl (whole_there names entry whole.0, whole.1)
  fault_there names entry line (inr bad) =
      inr ((λ whole. bad.0 (whole_left names entry whole)), bad.1, subst (λ (found : Option Node). HasBadLine found line) (at_list names entry bad.1) bad.2)

  sound_there : (names : List (List ℕ)) (entry : Path) → IsSound names entry (left (entry_path entry)) → IsSound names entry (w (entry_path entry))
  sound_there names entry is = record {
    loose = λ there. is.loose (directory_left (entry_path entry) there);
    list = λ of. subst IsReadable (at_list names entry of) (is.list of);
    script = λ of link. is.script of (subst IsLink (sym (at_script names entry of)) link);
  }

  info_there : (names : List (List ℕ)) (file : Path) (line : ℕ) → IsInfoDamage left names (Damaged file line) → IsInfoDamage w names (Damaged file line)
  info_there names file line (inl bad) = inl (bad_there info_path bad.0, bad.1, bad.2)
  info_there names file line (inr first) = inr (
    (λ bad. first.0 (bad_left info_path bad)),
    record {
      entry = first.1.entry;
      plain = first.1.plain;
      is = first.1.is;
      fault = fault_there names first.1.entry line first.1.fault;
      first = λ lesser plain before. sound_there names lesser (first.1.first lesser plain before);
    },
  )

  -- part by part

  root_lost : HasNoFault w Root → HasNoFault left Root
  root_lost none file line faulty = none file line (faulty.0, faulty.1, λ is. faulty.2 (directory_left root_path is))

  way_lost : (path : Path) → is_temporary path ≡ false → HasNoFault w (Way path) → HasNoFault left (Way path)
  way_lost path proper none file line faulty = none file line (faulty.0, faulty.1, subst IsLoose (like.whole path refl proper) faulty.2)

  spare_lost : (path : Path) → HasNoFault w (Spare path) → HasNoFault left (Spare path)
  spare_lost path none file line faulty = none file line (faulty.0, faulty.1, directory_there path faulty.2)

  records_lost : HasNoFault w Records → HasNoFault left Records
  records_lost none file line faulty = none file line (records_there file line faulty)

  info_lost : HasNoFault w Info → HasNoFault left Info
  info_lost none file line faulty = none file line (faulty.0, table_there faulty.0 faulty.1, info_there (names_of faulty.0) file line faulty.2)

  diversions_lost : HasNoFault w Diversions → HasNoFault left Diversions
  diversions_lost none file line faulty = none file line (faulty.0, subst (λ (found : Option Node). IsDamageAt found line) (like.whole diversions_path refl refl) faulty.1)

  leftovers_lost : HasNoFault w Leftovers → IsUndamaged w → HasNoFault left Leftovers
  leftovers_lost none whole file line (zero_line, inl (is, inl loose)) = none file line (zero_line, inl (is, inl (subst IsLoose (like.whole tmp_path refl refl) loose)))
  leftovers_lost none whole file line (zero_line, inl (is, inr bad)) = none file line (zero_line, inl (is, inr (bad_there tmp_path bad)))
  leftovers_lost none whole file line (zero_line, inr held) = whole.leftovers held.1.0 held.1.2.plain (directory_there (tmp_path ++ 47 ∷ held.1.0) held.1.2.holds)

  read_like : AreReadShort w → AreReadShort left
  read_like read =
      read_by w left (λ arches long short two some. like.whole long refl (two_proper arches long short two)) (λ arches long short two some. like.whole short refl (two_whole arches long short two))
      (λ none. like.whole format_path refl refl ∙ none) read

  undamaged_like : IsUndamaged w → IsUndamaged left
  undamaged_like whole =
      let all = whole.sound in
      let behind = all.1.1.1.1.1.1.1 in
      record {
        sound = (
          root_lost all.0,
          (
            way_lost var_path refl all.1.0,
            (
              way_lost lib_path refl all.1.1.0,
              (
                way_lost home_path refl all.1.1.1.0,
                (
                  records_lost all.1.1.1.1.0,
                  (
                    spare_lost (temporary status_path) all.1.1.1.1.1.0,
                    (
                      way_lost updates_path refl all.1.1.1.1.1.1.0,
                      (
                        way_lost info_path refl behind.0,
                        (
                          info_lost behind.1.0,
                          (diversions_lost behind.1.1.0, (spare_lost (temporary diversions_path) behind.1.1.1.0, (leftovers_lost behind.1.1.1.1.0 whole, tt))),
                        ),
                      ),
                    ),
                  ),
                ),
              ),
            ),
          ),
        );
        short = read_like whole.short;
        leftovers = λ name plain is. whole.leftovers name plain (directory_there (tmp_path ++ 47 ∷ name) is);
      }

-- the law of opening: its stop leaves no damage
abbrev pub KeepsUndamaged : Type 0
KeepsUndamaged = (old now : World) → IsOpeningOrAdopting old now → IsUndamaged old → IsUndamaged now

pub opening_lost : KeepsUndamaged → (begun s t : State) (session : List Event) (left : World) → IsTrue t.honest → IsSettled t.events → t.events ≡ begun.events ++ session → changes_of session ≡ [] → Needs s IsUndamaged → AtEachMoment IsOpeningOrAdopting s t → LosesSince begun s t left
    → IsUndamaged left
opening_lost keeps begun s t session left h settled events silent undamaged since loses =
    let amid = since_weaker_if _ (λ so_far. IsUndamaged) s t (λ honest so_far now is. keeps s.world now is (undamaged (since.honest honest))) since in
    let one = since_loss_one every (λ so_far. IsUndamaged) begun s t left h settled (avoid_added every session begun t events (subst (Avoids every) (sym silent) tt)) amid loses in
    undamaged_like one.1 left one.4 one.2
