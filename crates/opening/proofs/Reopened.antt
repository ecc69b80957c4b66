-- An opening that was broken off leaves what the next one reads.
use Rattle.std.proofs.Common.{◌≡◌, ◌⊎◌, ◌∙◌, inl, inr, ℕ, zero, suc, true, false, codes, drop, List, [], ◌∷◌, ◌++◌, Option, Some, None, Contains, refl, sym, ap, subst, arith}
use Rattle.std.specs.Prelude.{IsSome}
use Rattle.std.specs.List.{AllByRecursion}
use Rattle.std.proofs.lemmas.Bool.{false≢true, true≢false}
use Rattle.std.proofs.Props.{props}
use Rattle.std.proofs.Math.Logic.{∥∥₁_elim, ∥∥₁_prop}
use Rattle.host_core.proofs.Nodes.{none_stands}
use Rattle.host_core.specs.Paths.{Path}
use Rattle.host_core.specs.World.{World, IsDirectory, IsLoose, KeepsBut}
use Rattle.host_core.specs.Outcome.{script_name}
use Rattle.host_core.specs.declared.call.Script.{Script}
use Rattle.host_core.specs.declared.call.Script.TheVariants.{Preinst, Postinst, Prerm, Postrm}
use Rattle.host_core.specs.declared.node.Node.{Node}
use Rattle.host_core.specs.declared.node.Node.TheVariants.{Link}
use Rattle.texts.specs.PackageNames.{is_package_name}
use Rattle.administration.specs.Directories.{HasBadName}
use Rattle.administration.specs.Files.{NoDirectory}
use Rattle.administration.specs.Places.{home_path, info_path, status_path, diversions_path, updates_path, tmp_path, list_path, temporary, is_within}
use Rattle.administration.specs.declared.fault.AdministrationFault.TheVariants.{Damaged}
use Rattle.administration.proofs.Within.{below_within, directory_differs}
use Rattle.administration.proofs.WholeFiles.{no_directory_at, no_directory_none}
use Rattle.diversions.specs.declared.entry.Diversion.{Diversion}
use Rattle.diversions.specs.Lines.{HasDiversions, HasEntries, IsDamageAt}
use Rattle.file_lists.specs.Info.{HasFault, IsInfoDamage, IsListOf, IsSound, entry_path}
use Rattle.file_lists.specs.Lists.{HasLists}
use Rattle.file_lists.specs.declared.paths.PackageList.{PackageList}
use Rattle.status_db.specs.Held.{CanOpenRecords, HasRecords, Holds, is_record_place}
use Rattle.status_db.specs.NoteDamage.{AreNotesDamaged, AreNotesFine, AreRecordsDamaged, IsFaultyNumber, IsFineNumber, IsNoteDamage}
use Rattle.status_db.specs.Notes.{IsNoteAt, note_path}
use Rattle.status_db.specs.Noting.{IsMerging}
use Rattle.status_records.specs.Status.{IsStatusAt}
use Rattle.status_records.specs.Status as status
use Rattle.status_records.specs.declared.record.Record.{Record}
use Rattle.status_records.specs.Records.{standing}
use Rattle.diversions.specs.Ways.{Ways}
use Rattle.adopted_conffiles.specs.Adopted.{all_adopted}
use Rattle.adopted_conffiles.specs.Adopting.{IsAdopting}
use Rattle.adopted_conffiles.proofs.Taken.{names_partly, standing_partly}
use Rattle.status_db.proofs.NotedWorlds.{records_same}
use Rattle.info_format.specs.Converting.{IsNamed, IsInWriting}
use Rattle.info_format.specs.Format.{IsNamesFault, format_path, is_one, says_one}
use Rattle.info_format.specs.Names.{Architectures, AreTwo, architectures, are_ending_signs, long_front}
use Rattle.info_format.specs.Stage.{AreDamaged, AreReadShort, AreShort, HaveShortNames, IsNaming}
use Rattle.info_format.proofs.Doubles.{LongStood, ShortStood, names_by, read_by}
use Rattle.info_format.proofs.Fits.{alike_loose}
use Rattle.info_format.proofs.Two.{has_dot, long_other, short_names, short_none}
use Rattle.opening.specs.TakenUp.{ArePartlyTakenUp, IsOpeningOrAdopting}
use Rattle.opening.specs.Leaving.{IsOpening, IsOpeningOrMerging, IsReading, is_way, lib_path, root_path, var_path}
use Rattle.opening.specs.Parts.{Part, Root, Way, Records, Spare, Info, Diversions, Leftovers, IsFirstFault, IsTable, names_of, parts}
use Rattle.opening.specs.Undamaged.{HasNoFault, IsUndamaged}
use Rattle.opening.proofs.KeptLists.{has_lists_kept}
use Rattle.opening.proofs.OneTable.{one_holding, one_records, records_not_damaged}
use Rattle.opening.proofs.Openings.{note_kept, note_spare_kept, plain_kept, status_kept}

-- what was wrong with the records is wrong where the same stands

fine_number_at : (n : ℕ) (u v : World) → v (note_path n) ≡ u (note_path n) → v (temporary (note_path n)) ≡ u (temporary (note_path n)) → IsFineNumber u n → IsFineNumber v n
fine_number_at n u v note spare fine = record {
  note = fine.note;
  is = subst (λ (found : Option Node). IsNoteAt found fine.note) (sym note) fine.is;
  spare = no_directory_at (v (temporary (note_path n))) (u (temporary (note_path n))) spare fine.spare;
}

faulty_number_at : (n : ℕ) (file : Path) (line : ℕ) (u v : World) → v (note_path n) ≡ u (note_path n) → v (temporary (note_path n)) ≡ u (temporary (note_path n)) → IsFaultyNumber u n file line → IsFaultyNumber v n file line
faulty_number_at n file line u v note spare (inl damaged) = inl (damaged.0, subst (λ (found : Option Node). IsNoteDamage found line) (sym note) damaged.1)
faulty_number_at n file line u v note spare (inr aside) =
    inr ((aside.0.0, subst (λ (found : Option Node). IsNoteAt found aside.0.0) (sym note) aside.0.1), aside.1, aside.2, subst IsDirectory (sym spare) aside.3)

-- the names in a directory, where the same stands below it
bad_name_at : (directory : Path) (u v : World) → ((name : Path) → IsSome (u (directory ++ 47 ∷ name)) → v (directory ++ 47 ∷ name) ≡ u (directory ++ 47 ∷ name)) → HasBadName u directory → HasBadName v directory
bad_name_at directory u v same bad = (bad.0, bad.1, bad.2, subst IsSome (sym (same bad.0 bad.3)) bad.3)

-- the records and all that is looked at with them stand as in another world
record AreAlike (u v : World) : Type 0 where
  status : v status_path ≡ u status_path
  note : (n : ℕ) → v (note_path n) ≡ u (note_path n)
  spare : (n : ℕ) → v (temporary (note_path n)) ≡ u (temporary (note_path n))
  names : (name : Path) → v (updates_path ++ 47 ∷ name) ≡ u (updates_path ++ 47 ∷ name)

notes_damaged_by : (file : Path) (line : ℕ) (u v : World) → AreAlike u v → AreNotesDamaged u file line → AreNotesDamaged v file line
notes_damaged_by file line u v alike (inl bad) = inl (bad_name_at updates_path u v (λ name is. alike.names name) bad.0, bad.1, bad.2)
notes_damaged_by file line u v alike (inr first) = inr (
  (λ bad. first.0 (bad_name_at updates_path v u (λ name is. sym (alike.names name)) bad)),
  record {
    number = first.1.number;
    within = first.1.within;
    before = λ n lt. fine_number_at n u v (alike.note n) (alike.spare n) (first.1.before n lt);
    here = faulty_number_at first.1.number file line u v (alike.note first.1.number) (alike.spare first.1.number) first.1.here;
  },
)

records_damaged_by : (file : Path) (line : ℕ) (u v : World) → AreAlike u v → AreRecordsDamaged u file line → AreRecordsDamaged v file line
records_damaged_by file line u v alike (inl damaged) = inl (damaged.0, subst (λ (found : Option Node). status.IsDamageAt found line) (sym alike.status) damaged.1)
records_damaged_by file line u v alike (inr noted) =
    inr (subst (λ (found : Option Node). ∥ ((base : List Record) × IsStatusAt found base) ∥₁) (sym alike.status) noted.0, notes_damaged_by file line u v alike noted.1)

records_damaged_at : (file : Path) (line : ℕ) (u v : World) → IsOpening v u → AreRecordsDamaged u file line → AreRecordsDamaged v file line
records_damaged_at file line u v opening damaged = records_damaged_by file line u v (record {
  status = sym (status_kept v u opening);
  note = λ n. sym (note_kept n v u opening);
  spare = λ n. sym (note_spare_kept n v u opening);
  names = λ name. sym (plain_kept (updates_path ++ 47 ∷ name) v u refl (opening.rest (updates_path ++ 47 ∷ name) refl));
}) damaged

-- likewise what was wrong in `info`
info_damaged_at : (names : List (List ℕ)) (file : Path) (line : ℕ) (u v : World) → ((entry : Path) → v (entry_path entry) ≡ u (entry_path entry)) → IsInfoDamage u names (Damaged file line) → IsInfoDamage v names (Damaged file line)
info_damaged_at names file line u v same (inl bad) = inl (bad_name_at info_path u v (λ name is. same name) bad.0, bad.1, bad.2)
info_damaged_at names file line u v same (inr first) = inr (
  (λ bad. first.0 (bad_name_at info_path v u (λ name is. sym (same name)) bad)),
  record {
    entry = first.1.entry;
    plain = first.1.plain;
    is = first.1.is;
    fault = subst (λ (found : Option Node). HasFault names first.1.entry found line) (sym (same first.1.entry)) first.1.fault;
    first = λ lesser plain before. subst (IsSound names lesser) (sym (same lesser)) (first.1.first lesser plain before);
  },
)

-- where the same entries stand they are read by the same names
long_same : (u v : World) → ((entry : Path) → v (entry_path entry) ≡ u (entry_path entry)) → LongStood u v
long_same u v same arches long short two some = ap v two.long_is ∙ same (long_front two.name two.architecture ++ 46 ∷ two.ending) ∙ sym (ap u two.long_is)

short_same : (u v : World) → ((entry : Path) → v (entry_path entry) ≡ u (entry_path entry)) → ShortStood u v
short_same u v same arches long short two some = ap v two.short_is ∙ same (two.name ++ 46 ∷ two.ending) ∙ sym (ap u two.short_is)

pub names_same : (u v : World) → ((entry : Path) → v (entry_path entry) ≡ u (entry_path entry)) → HaveShortNames u → HaveShortNames v
names_same u v same short = names_by u v (long_same u v same) short

pub read_same : (u v : World) → ((entry : Path) → v (entry_path entry) ≡ u (entry_path entry)) → AreReadShort u → AreReadShort v
read_same u v same read = read_by u v (long_same u v same) (short_same u v same) (λ none. same (codes "format") ∙ none) read

-- while directories are made and leftovers removed

module _ (u v : World) (opening : IsOpening u v) where
  same_outside : (q : Path) → is_way q ≡ false → is_within tmp_path q ≡ false → v q ≡ u q
  same_outside q plain out = plain_kept q u v plain (opening.rest q out)

  way_stays : (path : Path) → is_within tmp_path path ≡ false → HasNoFault u (Way path) → HasNoFault v (Way path)
  way_stays path out none file line faulty = elim (opening.rest path out) [
    | inl same ↦ none file line (faulty.0, faulty.1, subst IsLoose same faulty.2)
    | inr new ↦ faulty.2.1 new.made
  ]

  spare_stays : (path : Path) → is_way path ≡ false → is_within tmp_path path ≡ false → HasNoFault u (Spare path) → HasNoFault v (Spare path)
  spare_stays path plain out none file line faulty = none file line (faulty.0, faulty.1, subst IsDirectory (same_outside path plain out) faulty.2)

  root_stays : HasNoFault u Root → HasNoFault v Root
  root_stays none file line faulty = none file line (faulty.0, faulty.1, no_directory_at (u root_path) (v root_path) (sym (same_outside root_path refl refl)) faulty.2)

  records_stay : HasNoFault u Records → HasNoFault v Records
  records_stay none file line faulty = none file line (records_damaged_at file line v u opening faulty)

  same_records : (table : List Record) → HasRecords u table → HasRecords v table
  same_records table has = records_same u v table (status_kept u v opening) (λ n lt. note_kept n u v opening) has

  earlier_records : (table : List Record) → HasRecords v table → HasRecords u table
  earlier_records table has = records_same v u table (sym (status_kept u v opening)) (λ n lt. sym (note_kept n u v opening)) has

  info_stays : HasNoFault u Info → HasNoFault v Info
  info_stays none file line faulty = none file line (
    faulty.0,
    record { records = earlier_records faulty.0 faulty.1.records; standing = faulty.1.standing },
    info_damaged_at (names_of faulty.0) file line v u (λ entry. sym (same_outside (entry_path entry) refl refl)) faulty.2,
  )

  diversions_stay : HasNoFault u Diversions → HasNoFault v Diversions
  diversions_stay none file line faulty = none file line (faulty.0, subst (λ (found : Option Node). IsDamageAt found line) (same_outside diversions_path refl refl) faulty.1)

  -- what is left within `tmp.ci` was there
  left_there : (q : Path) → is_within tmp_path q ≡ true → IsSome (v q) → v q ≡ u q
  left_there q within some = elim (opening.left q within) [ inl same ↦ same | inr none ↦ absurd (none_stands (v q) none some) ]

  no_directory_left : (q : Path) → is_within tmp_path q ≡ true → NoDirectory (u q) → NoDirectory (v q)
  no_directory_left q within none = elim (opening.left q within) [ inl same ↦ no_directory_at (v q) (u q) same none | inr gone ↦ no_directory_none' (v q) gone ]
    where
      no_directory_none' : (found : Option Node) → found ≡ None → NoDirectory found
      no_directory_none' found gone = no_directory_at found None gone no_directory_none

  leftovers_stay : IsUndamaged u → HasNoFault v Leftovers
  leftovers_stay whole file line (line_zero, inl (is, inl loose)) =
      whole.sound.1.1.1.1.1.1.1.1.1.1.1.0 file line (line_zero, inl (is, inl (subst IsLoose (left_there tmp_path refl loose.0) loose)))
  leftovers_stay whole file line (line_zero, inl (is, inr bad)) =
      whole.sound.1.1.1.1.1.1.1.1.1.1.1.0 file line (line_zero, inl (is, inr (bad_name_at tmp_path v u (λ name some. sym (left_there (tmp_path ++ 47 ∷ name) refl some)) bad)))
  leftovers_stay whole file line (line_zero, inr held) =
      no_directory_left (tmp_path ++ 47 ∷ held.1.0) refl (whole.leftovers held.1.0 held.1.2.plain) held.1.2.holds

  pub undamaged_opening : IsUndamaged u → IsUndamaged v
  undamaged_opening whole = record {
    sound = (
      root_stays whole.sound.0,
      (
        way_stays var_path refl whole.sound.1.0,
        (
          way_stays lib_path refl whole.sound.1.1.0,
          (
            way_stays home_path refl whole.sound.1.1.1.0,
            (
              records_stay whole.sound.1.1.1.1.0,
              (
                spare_stays (temporary status_path) refl refl whole.sound.1.1.1.1.1.0,
                (
                  way_stays updates_path refl whole.sound.1.1.1.1.1.1.0,
                  (
                    way_stays info_path refl whole.sound.1.1.1.1.1.1.1.0,
                    (
                      info_stays whole.sound.1.1.1.1.1.1.1.1.0,
                      (
                        diversions_stay whole.sound.1.1.1.1.1.1.1.1.1.0,
                        (
                          spare_stays (temporary diversions_path) refl refl whole.sound.1.1.1.1.1.1.1.1.1.1.0,
                          (
                            leftovers_stay whole,
                            tt,
                          ),
                        ),
                      ),
                    ),
                  ),
                ),
              ),
            ),
          ),
        ),
      ),
    );
    short = read_same u v (λ entry. same_outside (entry_path entry) refl refl) whole.short;
    leftovers = λ name plain. no_directory_left (tmp_path ++ 47 ∷ name) refl (whole.leftovers name plain);
  }

  lists_opening : (names : List (List ℕ)) (lists : List PackageList) → HasLists u names lists → HasLists v names lists
  lists_opening names lists has = has_lists_kept u v names lists (λ name known. same_outside (list_path name) refl refl) has

  diverted_opening : (entries : List Diversion) → HasDiversions u entries → HasDiversions v entries
  diverted_opening entries has = subst (λ (found : Option Node). HasEntries found entries) (sym (same_outside diversions_path refl refl)) has

-- while notes are merged

fine_held : (w : World) (table : List Record) → CanOpenRecords w → Holds w table → AreNotesFine w
fine_held w table can held = record {
  text = can.unblocked.text;
  each = λ n lt. record { note = held.notes n; is = held.noted n lt; spare = can.unblocked.spares n lt };
}

-- where only records have changed

module _ (u v : World) (rest : KeepsBut is_record_place u v) (opens : CanOpenRecords v) (records : HasNoFault v Records) (info : HasNoFault u Info → HasNoFault v Info) where
  way_beside : (path : Path) → v path ≡ u path → HasNoFault u (Way path) → HasNoFault v (Way path)
  way_beside path same none file line faulty = none file line (faulty.0, faulty.1, subst IsLoose same faulty.2)

  leftovers_beside : HasNoFault u Leftovers → IsUndamaged u → HasNoFault v Leftovers
  leftovers_beside none whole file line (line_zero, inl (is, inl loose)) = none file line (line_zero, inl (is, inl (subst IsLoose (rest tmp_path refl) loose)))
  leftovers_beside none whole file line (line_zero, inl (is, inr bad)) =
      none file line (line_zero, inl (is, inr (bad_name_at tmp_path v u (λ name some. sym (rest (tmp_path ++ 47 ∷ name) refl)) bad)))
  leftovers_beside none whole file line (line_zero, inr held) = whole.leftovers held.1.0 held.1.2.plain (subst IsDirectory (rest (tmp_path ++ 47 ∷ held.1.0) refl) held.1.2.holds)

  undamaged_beside : IsUndamaged u → IsUndamaged v
  undamaged_beside whole = record {
    sound = (
      (λ file line faulty. whole.sound.0 file line (faulty.0, faulty.1, no_directory_at (u root_path) (v root_path) (sym (rest root_path refl)) faulty.2)),
      (
        way_beside var_path (rest var_path refl) whole.sound.1.0,
        (
          way_beside lib_path (rest lib_path refl) whole.sound.1.1.0,
          (
            way_beside home_path (rest home_path refl) whole.sound.1.1.1.0,
            (
              records,
              (
                (λ file line faulty. opens.unblocked.status_spare faulty.2),
                (
                  way_beside updates_path (rest updates_path refl) whole.sound.1.1.1.1.1.1.0,
                  (
                    way_beside info_path (rest info_path refl) whole.sound.1.1.1.1.1.1.1.0,
                    (
                      info whole.sound.1.1.1.1.1.1.1.1.0,
                      (
                        (λ file line faulty. whole.sound.1.1.1.1.1.1.1.1.1.0 file line (faulty.0, subst (λ (found : Option Node). IsDamageAt found line) (rest diversions_path refl) faulty.1)),
                        (
                          (λ file line faulty. whole.sound.1.1.1.1.1.1.1.1.1.1.0 file line (faulty.0, faulty.1, subst IsDirectory (rest (temporary diversions_path) refl) faulty.2)),
                          (
                            leftovers_beside whole.sound.1.1.1.1.1.1.1.1.1.1.1.0 whole,
                            tt,
                          ),
                        ),
                      ),
                    ),
                  ),
                ),
              ),
            ),
          ),
        ),
      ),
    );
    short = read_same u v (λ entry. rest (entry_path entry) refl) whole.short;
    leftovers = λ name plain. no_directory_at (v (tmp_path ++ 47 ∷ name)) (u (tmp_path ++ 47 ∷ name)) (rest (tmp_path ++ 47 ∷ name) refl) (whole.leftovers name plain);
  }

module _ (table : List Record) (u v : World) (has : HasRecords u table) (merging : IsMerging table u v) where
  records_merging : HasNoFault v Records
  records_merging file line faulty = ∥∥₁_elim merging.same (hlevel props) (λ held. records_not_damaged v table file line (fine_held v table merging.opens held) merging.same faulty)

  same_merging : (other : List Record) → HasRecords u other → HasRecords v other
  same_merging other is = ∥∥₁_elim has ∥∥₁_prop (λ held. ∥∥₁_elim is ∥∥₁_prop (λ also. subst (HasRecords v) (one_holding u table other held also) merging.same))

  info_merging : HasNoFault u Info → HasNoFault v Info
  info_merging none file line faulty = one_records v table faulty.0 merging.same faulty.1.records (λ same. none file line (
    faulty.0,
    record { records = subst (HasRecords u) same has; standing = faulty.1.standing },
    info_damaged_at (names_of faulty.0) file line v u (λ entry. sym (merging.rest (entry_path entry) refl)) faulty.2,
  ))

  pub undamaged_merging : IsUndamaged u → IsUndamaged v
  undamaged_merging whole = undamaged_beside u v merging.rest merging.opens records_merging info_merging whole

-- while records are taken up

module _ (ways : Ways) (table : List Record) (u v : World) (has : HasRecords u table) (is : IsAdopting ways table u v) where
  abbrev now_records : List Record
  now_records = all_adopted u ways is.front ++ is.back

  names_now : names_of now_records ≡ names_of table
  names_now = names_partly u ways is.front is.back ∙ ap names_of (sym is.is)

  records_adopting : HasNoFault v Records
  records_adopting file line faulty = ∥∥₁_elim is.records (hlevel props) (λ held. records_not_damaged v now_records file line (fine_held v now_records is.opens held) is.records faulty)

  info_adopting : HasNoFault u Info → HasNoFault v Info
  info_adopting none file line faulty = one_records v now_records faulty.0 is.records faulty.1.records (λ same. none file line (
    table,
    record { records = has; standing = subst (λ (l : List Record). standing l ≡ l) (sym is.is) (standing_partly u ways is.front is.back (subst (λ (l : List Record). standing l ≡ l) (sym same) faulty.1.standing)) },
    subst (λ (names : List (List ℕ)). IsInfoDamage u names (Damaged file line)) (ap names_of (sym same) ∙ names_now) (info_damaged_at (names_of faulty.0) file line v u (λ entry. sym (is.rest (entry_path entry) refl)) faulty.2),
  ))

  pub undamaged_adopting : IsUndamaged u → IsUndamaged v
  undamaged_adopting whole = undamaged_beside u v is.rest is.opens records_adopting info_adopting whole

-- while names in `info` are brought to format 0

-- the file that tells the format is no list
no_list : (names : List (List ℕ)) → IsListOf names (codes "format") → ⊥
no_list names of = true≢false (ap are_ending_signs of.2 ∙ has_dot of.0 (codes "list"))

no_link : (node : Option Node) (target : List ℕ) → says_one node ≡ true → node ≡ Some (Link target) → ⊥
no_link node target one is = false≢true (ap says_one (sym is) ∙ one)

no_dir : (node : Option Node) → says_one node ≡ true → NoDirectory node
no_dir node one is = false≢true (ap says_one (sym is.1) ∙ one)

format_sound : (names : List (List ℕ)) (node : Option Node) → says_one node ≡ true → IsSound names (codes "format") node
format_sound names node one = record {
  loose = no_dir node one;
  list = λ of. absurd (no_list names of);
  script = λ of link. no_link node link.0 one link.1;
}

nothing_sound : (names : List (List ℕ)) (entry : Path) → IsSound names entry None
nothing_sound names entry = record {
  loose = no_directory_none;
  list = λ of. tt;
  script = λ of link. absurd (let e : None ≡ Some (Link link.0) = link.1 in cc e);
}

no_fault_of_none : (names : List (List ℕ)) (entry : Path) (line : ℕ) → HasFault names entry None line → ⊥
no_fault_of_none names entry line (inl (inl directory, whole)) = no_directory_none directory
no_fault_of_none names entry line (inl (inr link, whole)) = absurd (let e : None ≡ Some (Link link.1.0) = link.1.1 in cc e)
no_fault_of_none names entry line (inr (whole, of, bad)) = bad

-- a file at a name with an architecture is neither the list of a package nor a script of one
script_ending : (script : Script) → are_ending_signs (script_name script) ≡ true
script_ending Preinst = refl
script_ending Postinst = refl
script_ending Prerm = refl
script_ending Postrm = refl

long_sound : (names : List (List ℕ)) (entry : Path) (arches : Architectures) (short : Path) (node : Option Node) → ((name : List ℕ) → Contains names name → is_package_name name ≡ true) → AreTwo arches (entry_path entry) short → IsLoose node → IsSound names entry node
long_sound names entry arches short node named two loose = record {
  loose = loose.1;
  list = λ of. absurd (long_other arches (entry_path entry) short two of.0 (codes "list") (named of.0 of.1) refl (ap entry_path of.2));
  script = λ of link. long_other arches (entry_path entry) short two of.1 (script_name of.0) (named of.1 of.2) (script_ending of.0) (ap entry_path of.3);
}

each_named : (table : List Record) (name : List ℕ) → Contains (names_of table) name → is_package_name name ≡ true
each_named [] name has = absurd (omega (arith, has.1))
each_named (r ∷ rs) name (zero, lt, e) = subst (λ (n : List ℕ). is_package_name n ≡ true) e (∥∥₁_elim r.writable (hlevel props) (λ known. known.named))
each_named (r ∷ rs) name (suc k, lt, e) = each_named rs name (k, omega (arith, lt), e)

-- what went: what tells of format 1, or a file at a name with an architecture
abbrev HasGone : World → World → Path → Type 0
HasGone old begun q = (begun q ≡ None) × (((q ≡ format_path) × (is_one old ≡ true)) ⊎ ((arches : Architectures) × (short : Path) × AreTwo arches q short × IsLoose (old q)))

module _ (old begun : World) (naming : IsNaming old begun) where
  -- what is no entry of the directory stands as before
  pub named_same : (q : Path) → ((entry : Path) → q ≡ entry_path entry → ⊥) → begun q ≡ old q
  named_same q other = elim naming [
    | inl same ↦ ap (λ (w : World). w q) same
    | inr is ↦ elim (is.2.each q) [
      | inl same ↦ same
      | inr (inl untold) ↦ absurd (other (codes "format") untold.0)
      | inr (inr (inl left)) ↦ absurd (other _ left.1.long_is)
      | inr (inr (inr (inl given))) ↦ absurd (other _ given.1.1.short_is)
      | inr (inr (inr (inr writing))) ↦ absurd (other _ (writing.1.3 ∙ ap temporary writing.1.2.short_is))
    ]
  ]

  not_given : AreReadShort old → (arches : Architectures) (q : Path) → IsNamed arches q old begun → ⊥
  not_given (inl short) arches q given = short arches (given.1.0, q, given.1.1, given.1.2.0)
  not_given (inr (none, doubles)) arches q given = false≢true (sym (ap says_one none) ∙ given.0)

  not_writing : AreReadShort old → (arches : Architectures) (q : Path) → IsInWriting arches q old begun → ⊥
  not_writing (inl short) arches q writing = short arches (writing.1.0, writing.1.1, writing.1.2, writing.1.4.0)
  not_writing (inr (none, doubles)) arches q writing = false≢true (sym (ap says_one none) ∙ writing.0)

  -- and an entry too, but what goes, where no control file is read by a name with an architecture
  pub named_short : AreReadShort old → (q : Path) → (begun q ≡ old q) ⊎ HasGone old begun q
  named_short read q = elim naming [
    | inl same ↦ inl (ap (λ (w : World). w q) same)
    | inr is ↦ elim (is.2.each q) [
      | inl same ↦ inl same
      | inr (inl untold) ↦ inr (untold.2, inl (untold.0, untold.1))
      | inr (inr (inl left)) ↦ inr (left.3, inr (architectures is.0, left.0, left.1, alike_loose (old q) (begun left.0) left.2))
      | inr (inr (inr (inl given))) ↦ absurd (not_given read (architectures is.0) q given)
      | inr (inr (inr (inr writing))) ↦ absurd (not_writing read (architectures is.0) q writing)
    ]
  ]

  pub named_outside : (q : Path) → is_within info_path q ≡ false → begun q ≡ old q
  named_outside q out = named_same q (λ entry e. true≢false (sym (below_within info_path entry) ∙ ap (is_within info_path) (sym e) ∙ out))

  alike : AreAlike old begun
  alike = record {
    status = named_outside status_path refl;
    note = λ n. named_outside (note_path n) refl;
    spare = λ n. named_outside (temporary (note_path n)) refl;
    names = λ name. named_outside (updates_path ++ 47 ∷ name) refl;
  }

  pub records_named : (table : List Record) → HasRecords old table → HasRecords begun table
  records_named table has = records_same old begun table alike.status (λ n lt. alike.note n) has

  diverted_named : (entries : List Diversion) → HasDiversions old entries → HasDiversions begun entries
  diverted_named entries has = subst (λ (found : Option Node). HasEntries found entries) (sym (named_outside diversions_path refl)) has

  module _ (read : AreReadShort old) where
    -- what stands stood before
    pub stood_before : (q : Path) → IsSome (begun q) → begun q ≡ old q
    stood_before q some = elim (named_short read q) [ inl same ↦ same | inr gone ↦ absurd (none_stands (begun q) gone.0 some) ]

    pub sound_named : (names : List (List ℕ)) (entry : Path) → IsSound names entry (old (entry_path entry)) → IsSound names entry (begun (entry_path entry))
    sound_named names entry sound = elim (named_short read (entry_path entry)) [
      | inl same ↦ subst (IsSound names entry) (sym same) sound
      | inr gone ↦ subst (IsSound names entry) (sym gone.0) (nothing_sound names entry)
    ]

    gone_sound : (names : List (List ℕ)) (entry : Path) → ((name : List ℕ) → Contains names name → is_package_name name ≡ true) → HasGone old begun (entry_path entry) → IsSound names entry (old (entry_path entry))
    gone_sound names entry named (none, inl format) =
        subst (λ (e : Path). IsSound names e (old (entry_path e))) (sym (ap (λ (l : Path). drop 19 l) format.0)) (format_sound names (old format_path) format.1)
    gone_sound names entry named (none, inr long) = long_sound names entry long.0 long.1 (old (entry_path entry)) named long.2 long.3

    sound_before : (names : List (List ℕ)) (entry : Path) → ((name : List ℕ) → Contains names name → is_package_name name ≡ true) → IsSound names entry (begun (entry_path entry)) → IsSound names entry (old (entry_path entry))
    sound_before names entry named sound = elim (named_short read (entry_path entry)) [ inl same ↦ subst (IsSound names entry) same sound | inr gone ↦ gone_sound names entry named gone ]

    info_before : (names : List (List ℕ)) (file : Path) (line : ℕ) → ((name : List ℕ) → Contains names name → is_package_name name ≡ true) → (HasBadName old info_path → ⊥) → IsInfoDamage begun names (Damaged file line) → IsInfoDamage old names (Damaged file line)
    info_before names file line named old_text (inl bad) = inl (bad_name_at info_path begun old (λ name some. sym (stood_before (info_path ++ 47 ∷ name) some)) bad.0, bad.1, bad.2)
    info_before names file line named old_text (inr (text, first)) = inr (
      old_text,
      record {
        entry = first.entry;
        plain = first.plain;
        is = first.is;
        fault = elim (named_short read (entry_path first.entry)) [
          | inl same ↦ subst (λ (found : Option Node). HasFault names first.entry found line) same first.fault
          | inr gone ↦ absurd (no_fault_of_none names first.entry line (subst (λ (found : Option Node). HasFault names first.entry found line) gone.0 first.fault))
        ];
        first = λ lesser plain before. sound_before names lesser named (first.first lesser plain before);
      },
    )

  pub still_read : AreReadShort old → AreReadShort begun
  still_read read =
      read_by old begun (λ arches long short two some. stood_before read long some) (λ arches long short two some. stood_before read short some)
      (λ none. elim (named_short read format_path) [ inl same ↦ same ∙ none | inr gone ↦ gone.0 ]) read

  lists_named : AreShort old → (names : List (List ℕ)) (lists : List PackageList) → HasLists old names lists → HasLists begun names lists
  lists_named short names lists has = has_lists_kept old begun names lists (λ name known. at name (named_short (inl (short_names old short)) (list_path name))) has
    where
      at : (name : List ℕ) → (begun (list_path name) ≡ old (list_path name)) ⊎ HasGone old begun (list_path name) → begun (list_path name) ≡ old (list_path name)
      at name (inl same) = same
      at name (inr (none, inl format)) = absurd (true≢false (ap are_ending_signs (sym (ap (λ (l : Path). drop 19 l) format.0)) ∙ has_dot name (codes "list")))
      at name (inr (none, inr long)) = absurd (short_none long.0 old short (list_path name) long.1 long.2 long.3.0)

  way_named : (path : Path) → begun path ≡ old path → HasNoFault old (Way path) → HasNoFault begun (Way path)
  way_named path same none file line faulty = none file line (faulty.0, faulty.1, subst IsLoose same faulty.2)

  spare_named : (path : Path) → begun path ≡ old path → HasNoFault old (Spare path) → HasNoFault begun (Spare path)
  spare_named path same none file line faulty = none file line (faulty.0, faulty.1, subst IsDirectory same faulty.2)

  root_named : HasNoFault old Root → HasNoFault begun Root
  root_named none file line faulty = none file line (faulty.0, faulty.1, no_directory_at (old root_path) (begun root_path) (sym (named_outside root_path refl)) faulty.2)

  alike_back : AreAlike begun old
  alike_back = record { status = sym alike.status; note = λ n. sym (alike.note n); spare = λ n. sym (alike.spare n); names = λ name. sym (alike.names name) }

  info_named : AreReadShort old → HasNoFault old Info → HasNoFault begun Info
  info_named read none file line faulty = none file line (faulty.0, table, info_before read (names_of faulty.0) file line (each_named faulty.0) (λ bad. none info_path 0 (faulty.0, table, inl (bad, refl, refl))) faulty.2)
    where
      table : IsTable old faulty.0
      table = record { records = records_same begun old faulty.0 alike_back.status (λ n lt. alike_back.note n) faulty.1.records; standing = faulty.1.standing }

  diversions_named : HasNoFault old Diversions → HasNoFault begun Diversions
  diversions_named none file line faulty = none file line (faulty.0, subst (λ (found : Option Node). IsDamageAt found line) (named_outside diversions_path refl) faulty.1)

  left_named : (name : Path) → begun (tmp_path ++ 47 ∷ name) ≡ old (tmp_path ++ 47 ∷ name)
  left_named name = named_outside (tmp_path ++ 47 ∷ name) refl

  leftovers_named : HasNoFault old Leftovers → IsUndamaged old → HasNoFault begun Leftovers
  leftovers_named none whole file line (line_zero, inl (is, inl loose)) = none file line (line_zero, inl (is, inl (subst IsLoose (named_outside tmp_path refl) loose)))
  leftovers_named none whole file line (line_zero, inl (is, inr bad)) = none file line (line_zero, inl (is, inr (bad_name_at tmp_path begun old (λ name some. sym (left_named name)) bad)))
  leftovers_named none whole file line (line_zero, inr held) = whole.leftovers held.1.0 held.1.2.plain (subst IsDirectory (left_named held.1.0) held.1.2.holds)

  undamaged_named : IsUndamaged old → IsUndamaged begun
  undamaged_named whole =
      let all = whole.sound in
      let behind = all.1.1.1.1.1.1.1 in
      record {
        sound = (
          root_named all.0,
          (
            way_named var_path (named_outside var_path refl) all.1.0,
            (
              way_named lib_path (named_outside lib_path refl) all.1.1.0,
              (
                way_named home_path (named_outside home_path refl) all.1.1.1.0,
                (
                  (λ file line faulty. all.1.1.1.1.0 file line (records_damaged_by file line begun old alike_back faulty)),
                  (
                    spare_named (temporary status_path) (named_outside (temporary status_path) refl) all.1.1.1.1.1.0,
                    (
                      way_named updates_path (named_outside updates_path refl) all.1.1.1.1.1.1.0,
                      (
                        way_named info_path (named_same info_path (λ entry e. directory_differs info_path entry e)) behind.0,
                        (
                          info_named whole.short behind.1.0,
                          (
                            diversions_named behind.1.1.0,
                            (spare_named (temporary diversions_path) (named_outside (temporary diversions_path) refl) behind.1.1.1.0, (leftovers_named behind.1.1.1.1.0 whole, tt)),
                          ),
                        ),
                      ),
                    ),
                  ),
                ),
              ),
            ),
          ),
        );
        short = still_read whole.short;
        leftovers = λ name plain. no_directory_at (begun (tmp_path ++ 47 ∷ name)) (old (tmp_path ++ 47 ∷ name)) (left_named name) (whole.leftovers name plain);
      }

-- where no control file is read by a name with an architecture there is no such damage
names_fault : (arches : Architectures) (w : World) (file : Path) → AreReadShort w → IsNamesFault arches w file → ⊥
names_fault arches w file (inl short) (inl odd) = short arches odd.3
names_fault arches w file (inl short) (inr (inl clash)) = short arches (file, clash.1.0, clash.1.1, clash.1.2)
names_fault arches w file (inl short) (inr (inr other)) = short arches (file, other.1.0, other.1.1, other.1.2)
names_fault arches w file (inr (none, doubles)) (inl odd) = none_stands (w format_path) none odd.1
names_fault arches w file (inr (none, doubles)) (inr (inl clash)) = false≢true (sym (ap says_one none) ∙ clash.0)
names_fault arches w file (inr (none, doubles)) (inr (inr other)) = other.1.4 (doubles arches file other.1.0 other.1.1 other.1.2 other.1.3)

pub names_found : (w : World) (file : Path) (line : ℕ) → IsUndamaged w → AreDamaged w (Damaged file line) → ⊥
names_found w file line whole (table, has, (whole_file, fault)) = names_fault (architectures table) w file whole.short fault

-- an opening, and the merging after it

undamaged_read : (old now : World) → IsReading old now → IsUndamaged old → IsUndamaged now
undamaged_read old now (IsReading.opening is) whole = undamaged_opening old now is whole
undamaged_read old now (IsReading.merging read table is has merging) whole = undamaged_merging table read now has merging (undamaged_opening old read is whole)

records_read : (old now : World) (table : List Record) → IsReading old now → HasRecords old table → HasRecords now table
records_read old now table (IsReading.opening is) has = same_records old now is table has
records_read old now table (IsReading.merging read held is holds merging) has = same_merging held read now holds merging table (same_records old read is table has)

lists_read : (old now : World) (names : List (List ℕ)) (lists : List PackageList) → IsReading old now → HasLists old names lists → HasLists now names lists
lists_read old now names lists (IsReading.opening is) has = lists_opening old now is names lists has
lists_read old now names lists (IsReading.merging read held is holds merging) has =
    has_lists_kept read now names lists (λ name known. merging.rest (list_path name) refl) (lists_opening old read is names lists has)

diversions_read : (old now : World) (entries : List Diversion) → IsReading old now → HasDiversions old entries → HasDiversions now entries
diversions_read old now entries (IsReading.opening is) has = diverted_opening old now is entries has
diversions_read old now entries (IsReading.merging read held is holds merging) has =
    subst (λ (found : Option Node). HasEntries found entries) (sym (merging.rest diversions_path refl)) (diverted_opening old read is entries has)

-- with the names before

undamaged_merged : (old now : World) → IsOpeningOrMerging old now → IsUndamaged old → IsUndamaged now
undamaged_merged old now is whole = undamaged_read is.begun now is.reading (undamaged_named old is.begun is.names whole)

pub records_stopped : (old now : World) (table : List Record) → IsOpeningOrMerging old now → HasRecords old table → HasRecords now table
records_stopped old now table is has = records_read is.begun now table is.reading (records_named old is.begun is.names table has)

lists_merged : (old now : World) (names : List (List ℕ)) (lists : List PackageList) → AreShort old → IsOpeningOrMerging old now → HasLists old names lists → HasLists now names lists
lists_merged old now names lists short is has = lists_read is.begun now names lists is.reading (lists_named old is.begun is.names short names lists has)

diversions_merged : (old now : World) (entries : List Diversion) → IsOpeningOrMerging old now → HasDiversions old entries → HasDiversions now entries
diversions_merged old now entries is has = diversions_read is.begun now entries is.reading (diverted_named old is.begun is.names entries has)

-- with what is taken up behind that

pub undamaged_stopped : (old now : World) → IsOpeningOrAdopting old now → IsUndamaged old → IsUndamaged now
undamaged_stopped old now (IsOpeningOrAdopting.opening is) whole = undamaged_merged old now is whole
undamaged_stopped old now (IsOpeningOrAdopting.adopting read ways table lists is opened adopting) whole = undamaged_adopting ways table read now opened.records.holds adopting (undamaged_merged old read is whole)

pub lists_stopped : (old now : World) (names : List (List ℕ)) (lists : List PackageList) → AreShort old → IsOpeningOrAdopting old now → HasLists old names lists → HasLists now names lists
lists_stopped old now names lists short (IsOpeningOrAdopting.opening is) has = lists_merged old now names lists short is has
lists_stopped old now names lists short (IsOpeningOrAdopting.adopting read ways table found is opened adopting) has =
    has_lists_kept read now names lists (λ name known. adopting.rest (list_path name) refl) (lists_merged old read names lists short is has)

pub diversions_stopped : (old now : World) (entries : List Diversion) → IsOpeningOrAdopting old now → HasDiversions old entries → HasDiversions now entries
diversions_stopped old now entries (IsOpeningOrAdopting.opening is) has = diversions_merged old now entries is has
diversions_stopped old now entries (IsOpeningOrAdopting.adopting read ways table lists is opened adopting) has =
    subst (λ (found : Option Node). HasEntries found entries) (sym (adopting.rest diversions_path refl)) (diversions_merged old read entries is has)

-- the records are those of before, the first of them as they are taken up
pub partly_stopped : (old now : World) (table : List Record) → IsOpeningOrAdopting old now → HasRecords old table → ∥ ArePartlyTakenUp table now ∥₁
partly_stopped old now table (IsOpeningOrAdopting.opening is) has = ∣ record { files = now; ways = record { entries = []; aliases = [] }; front = []; back = table; is = refl; records = records_stopped old now table is has } ∣₁
partly_stopped old now table (IsOpeningOrAdopting.adopting read ways held lists is opened adopting) has =
    ∥∥₁_elim opened.records.holds ∥∥₁_prop (λ one. ∥∥₁_elim (records_stopped old read table is has) ∥∥₁_prop (λ other.
    ∣ record { files = read; ways = ways; front = adopting.front; back = adopting.back; is = one_holding read table held other one ∙ adopting.is; records = adopting.records } ∣₁))

none_first : (among : List Part) (w : World) (file : Path) (line : ℕ) → AllByRecursion (HasNoFault w) among → IsFirstFault among w file line → ⊥
none_first [] w file line none fault = fault
none_first (part ∷ among) w file line none (inl here) = none.0 file line here
none_first (part ∷ among) w file line none (inr later) = none_first among w file line none.1 later.1

pub undamaged_found : (w : World) (file : Path) (line : ℕ) → IsUndamaged w → IsFirstFault parts w file line → ⊥
undamaged_found w file line whole fault = none_first parts w file line whole.sound fault
