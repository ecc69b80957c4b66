-- What can be opened isn't damaged.
use Rattle.std.proofs.Common.{◌≡◌, inl, inr, ℕ, Bool, true, false, cond, List, [], ◌∷◌, ◌++◌, None, codes, refl, sym, subst, ◌∙◌, arith}
use Rattle.std.specs.Prelude.{IsSome}
use Rattle.std.specs.List.{AllByRecursion}
use Rattle.std.specs.Str.{IsUtf8}
use Rattle.std.proofs.Props.{props}
use Rattle.std.proofs.Math.Logic.{∥∥₁_elim, ∥∥₁_map}
use Rattle.std.proofs.lemmas.Bool.{true≢false}
use Rattle.std.proofs.lemmas.Str.{IsCharBoundary-after_ascii, IsUtf8-append, IsUtf8-drop, IsUtf8-from_ascii}
use Rattle.texts.proofs.PackageNames.{signs_ascii}
use Rattle.host_core.proofs.Nodes.{directory_stands, none_stands}
use Rattle.host_core.specs.Paths.{Path}
use Rattle.host_core.specs.Tree.{IsOdd, IsTree}
use Rattle.host_core.specs.World.{World, IsDirectory}
use Rattle.administration.proofs.Within.{within_is}
use Rattle.administration.specs.Places.{home_path, is_within, tmp_path}
use Rattle.administration.specs.declared.fault.AdministrationFault.TheVariants.{Damaged}
use Rattle.control_members.proofs.MemberNames.{laid_is_path, laid_spare_is_path, stored_utf8}
use Rattle.control_members.specs.LaidOut.{IsIncoming, IsIncomingName}
use Rattle.control_members.specs.Names.{is_member_name}
use Rattle.file_lists.specs.Info.{IsInfoDamage}
use Rattle.opening.specs.Leaving.{lib_path, root_path, var_path}
use Rattle.opening.specs.Parts.{IsFaulty, IsFine, IsFirstFault, IsReadableInfo, IsTable, Leftovers, Part, names_of, parts}
use Rattle.opening.specs.Parts.{Records, Info, Diversions}
use Rattle.opening.specs.Undamaged.{HasNoFault, IsUndamaged}
use Rattle.status_db.proofs.NotedWorlds.{records_same}
use Rattle.status_db.specs.Held.{HasRecords, Holds}
use Rattle.status_db.specs.NoteDamage.{AreNotesDamaged, AreNotesFine, AreRecordsDamaged}
use Rattle.status_records.specs.declared.record.Record.{Record}
use Rattle.reopening.specs.Opens.{CanBeOpened}

-- the law of opening: where all parts are fine there is no fault
abbrev pub IsLaw : Type 0
IsLaw = (w : World) (file : Path) (line : ℕ) → IsTree w → AllByRecursion (IsFine w) parts → IsFirstFault parts w file line → ⊥

-- names in `tmp.ci` are text and make paths

member_text : (member : Path) → is_member_name member ≡ true → IsUtf8 member
member_text member is =
    let text = stored_utf8 (codes "aa") member refl is in
    IsUtf8-drop (codes "aa" ++ 46 ∷ member) 3 text (IsCharBoundary-after_ascii (codes "aa" ++ 46 ∷ member) 2 text (omega arith) (omega arith))

member_even : (name : Path) → IsIncomingName name → IsOdd tmp_path name → ⊥
member_even name (member, is, inl same) odd = elim (subst (IsOdd tmp_path) same odd) [
  | inl no_text ↦ no_text (member_text member is)
  | inr no_path ↦ true≢false (sym (laid_is_path member is) ∙ no_path)
]
member_even name (member, is, inr same) odd = elim (subst (IsOdd tmp_path) same odd) [
  | inl no_text ↦ no_text (IsUtf8-append member (codes ".dpkg-inst") (member_text member is) (IsUtf8-from_ascii (codes ".dpkg-inst") (signs_ascii (codes ".dpkg-inst") refl)))
  | inr no_path ↦ true≢false (sym (laid_spare_is_path member is) ∙ no_path)
]

no_leftovers : (w : World) (file : Path) (line : ℕ) → IsIncoming w → IsFaulty w Leftovers file line → ⊥
no_leftovers w file line incoming (none, inl (is, inl loose)) = incoming.place loose
no_leftovers w file line incoming (none, inl (is, inr bad)) = member_even bad.0 (incoming.named bad.0 bad.1 bad.3) bad.2
no_leftovers w file line incoming (none, inr held) = incoming.loose held.1.0 held.1.2.plain held.1.2.holds

-- the world without what is left there
abbrev emptied : World → World
emptied w = λ q. cond (is_within tmp_path q) None (w q)

below_within : (top rest : Path) → is_within tmp_path top ≡ true → is_within tmp_path (top ++ 47 ∷ rest) ≡ true
below_within top rest within = elim (within_is tmp_path top within) [
  | inl is ↦ subst (λ (p : Path). is_within tmp_path (p ++ 47 ∷ rest) ≡ true) (sym is) refl
  | inr more ↦ subst (λ (p : Path). is_within tmp_path (p ++ 47 ∷ rest) ≡ true) (sym more.1) refl
]

emptied_tree : (w : World) → IsTree w → IsTree (emptied w)
emptied_tree w tree top rest some = by (is_within tmp_path (top ++ 47 ∷ rest)) (is_within tmp_path top) refl refl some
  where
    by : (b c : Bool) → is_within tmp_path (top ++ 47 ∷ rest) ≡ b → is_within tmp_path top ≡ c → IsSome (cond b None (w (top ++ 47 ∷ rest))) → IsDirectory (cond c None (w top))
    by true c e f there = absurd (none_stands None refl there)
    by false true e f there = absurd (true≢false (sym (below_within top rest f) ∙ e))
    by false false e f there = tree top rest there

module _ (law : IsLaw) (w : World) (tree : IsTree w) (opens : CanBeOpened w) (held : Holds w opens.readable.table) where
  abbrev v : World
  v = emptied w

  records_there : (table : List Record) → HasRecords w table → HasRecords v table
  records_there table has = records_same w v table refl (λ n lt. refl) has

  table_there : (table : List Record) → IsTable w table → IsTable v table
  table_there table is = record { records = records_there table is.records; standing = is.standing }

  notes_fine : AreNotesFine v
  notes_fine = record {
    text = opens.records.unblocked.text;
    each = λ n lt. record { note = held.notes n; is = held.noted n lt; spare = opens.records.unblocked.spares n lt };
  }

  home : IsDirectory (w home_path)
  home = opens.records.unblocked.home

  lib : IsDirectory (w lib_path)
  lib = tree lib_path (codes "dpkg") (directory_stands (w home_path) home)

  var : IsDirectory (w var_path)
  var = tree var_path (codes "lib") (directory_stands (w lib_path) lib)

  root : IsDirectory (w root_path)
  root = tree root_path (codes "var") (directory_stands (w var_path) var)

  info_readable : IsReadableInfo v
  info_readable = record {
    table = opens.readable.table;
    is_table = table_there opens.readable.table opens.readable.is_table;
    text = opens.readable.text;
    sound = opens.readable.sound;
  }

  all_fine : AllByRecursion (IsFine v) parts
  all_fine = (
    root,
    (
      var,
      (
        lib,
        (
          home,
          (
            (notes_fine, (opens.readable.table, table_there opens.readable.table opens.readable.is_table)),
            (
              opens.records.unblocked.status_spare,
              (opens.records.unblocked.updates, (opens.info, (info_readable, (opens.diversions, (opens.spare, (refl, tt)))))),
            ),
          ),
        ),
      ),
    ),
  )

  no_fault : (file : Path) (line : ℕ) → IsFirstFault parts v file line → ⊥
  no_fault file line fault = law v file line (emptied_tree w tree) all_fine fault

  -- what is wrong with the world is wrong with that

  notes_damaged : (file : Path) (line : ℕ) → AreNotesDamaged w file line → AreNotesDamaged v file line
  notes_damaged file line (inl bad) = inl bad
  notes_damaged file line (inr first) = inr (
    first.0,
    record {
      number = first.1.number;
      within = first.1.within;
      before = λ n lt. (let fine = first.1.before n lt in record { note = fine.note; is = fine.is; spare = fine.spare });
      here = first.1.here;
    },
  )

  records_damaged : (file : Path) (line : ℕ) → AreRecordsDamaged w file line → AreRecordsDamaged v file line
  records_damaged file line (inl status) = inl status
  records_damaged file line (inr noted) = inr (noted.0, notes_damaged file line noted.1)

  info_damaged : (names : List (List ℕ)) (file : Path) (line : ℕ) → IsInfoDamage w names (Damaged file line) → IsInfoDamage v names (Damaged file line)
  info_damaged names file line (inl bad) = inl bad
  info_damaged names file line (inr first) =
      inr (first.0, record { entry = first.1.entry; plain = first.1.plain; is = first.1.is; fault = first.1.fault; first = first.1.first })

  records_fine : HasNoFault w Records
  records_fine file line faulty = no_fault file line (inr (root, inr (var, inr (lib, inr (home, inl (records_damaged file line faulty))))))

  info_fine : HasNoFault w Info
  info_fine file line faulty =
      no_fault file line
      (inr (
        root,
        inr (
          var,
          inr (
            lib,
            inr (
              home,
              inr (
                all_fine.1.1.1.1.0,
                inr (
                  all_fine.1.1.1.1.1.0,
                  inr (
                    all_fine.1.1.1.1.1.1.0,
                    inr (
                      all_fine.1.1.1.1.1.1.1.0,
                      inl (faulty.0, table_there faulty.0 faulty.1, info_damaged (names_of faulty.0) file line faulty.2),
                    ),
                  ),
                ),
              ),
            ),
          ),
        ),
      ))

  diversions_fine : HasNoFault w Diversions
  diversions_fine file line faulty =
      no_fault file line
      (inr (root, inr (var, inr (lib, inr (home, inr (all_fine.1.1.1.1.0, inr (all_fine.1.1.1.1.1.0, inr (all_fine.1.1.1.1.1.1.0, inr (all_fine.1.1.1.1.1.1.1.0, inr (info_readable, inl faulty))))))))))

  pub all_sound : AllByRecursion (HasNoFault w) parts
  all_sound = (
    (λ file line faulty. faulty.2 root),
    (
      (λ file line faulty. faulty.2.1 var),
      (
        (λ file line faulty. faulty.2.1 lib),
        (
          (λ file line faulty. faulty.2.1 home),
          (
            records_fine,
            (
              (λ file line faulty. opens.records.unblocked.status_spare faulty.2),
              (
                (λ file line faulty. faulty.2.1 opens.records.unblocked.updates),
                (
                  (λ file line faulty. faulty.2.1 opens.info),
                  (
                    info_fine,
                    (diversions_fine, ((λ file line faulty. opens.spare faulty.2), ((λ file line faulty. no_leftovers w file line opens.incoming faulty), tt))),
                  ),
                ),
              ),
            ),
          ),
        ),
      ),
    ),
  )

none_first : (among : List Part) (w : World) (file : Path) (line : ℕ) → AllByRecursion (HasNoFault w) among → IsFirstFault among w file line → ⊥
none_first [] w file line none fault = fault
none_first (part ∷ among) w file line none (inl here) = none.0 file line here
none_first (part ∷ among) w file line none (inr later) = none_first among w file line none.1 later.1

pub opened_no_fault : IsLaw → (w : World) (file : Path) (line : ℕ) → IsTree w → CanBeOpened w → IsFirstFault parts w file line → ⊥
opened_no_fault law w file line tree opens fault =
    ∥∥₁_elim opens.readable.is_table.records (hlevel props) (λ held. none_first parts w file line (all_sound law w tree opens held) fault)

all_none : (among : List Part) (w : World) → ∥ AllByRecursion (HasNoFault w) among ∥₁ → AllByRecursion (HasNoFault w) among
all_none [] w has = tt
all_none (part ∷ among) w has =
    ((λ file line faulty. ∥∥₁_elim has (hlevel props) (λ all. all.0 file line faulty)), all_none among w (∥∥₁_map has (λ all. all.1)))

pub opened_undamaged : IsLaw → (w : World) → IsTree w → CanBeOpened w → IsUndamaged w
opened_undamaged law w tree opens = record {
  sound = all_none parts w (∥∥₁_map opens.readable.is_table.records (λ held. all_sound law w tree opens held));
  short = opens.short;
  leftovers = opens.incoming.loose;
}
