-- The record of a name at each place of the rows, and with the first records of the commit.
use Rattle.std.proofs.Common.{◌≡◌, ◌+◌, ◌&&◌, ℕ, zero, suc, Bool, true, false, cond, List, [], ◌∷◌, ◌++◌, Option, Some, Contains, filter, length, map, take, drop, refl, sym, ap, subst, ◌∙◌}
use Rattle.std.specs.List.{AllByRecursion, list_any}
use Rattle.std.specs.Str.{bytes_eq}
use Rattle.std.proofs.lemmas.Bool.{and_parts, true≢false}
use Rattle.std.proofs.lemmas.Slice.Eq.{bytes_eq-Decides}
use Rattle.host_core.specs.Events.{Event}
use Rattle.host_core.specs.Host.{State}
use Rattle.host_core.specs.Paths.{Path}
use Rattle.host_core.specs.World.{World}
use Rattle.undo_rows.specs.Place.{Place, Forward, Ready, Back}
use Rattle.undo_rows.specs.Transcripts.{Committed, Unwound}
use Rattle.undo_rows.specs.declared.failed.Failed.{Failed}
use Rattle.diversions.specs.Ways.{Ways}
use Rattle.file_lists.specs.declared.paths.PackageList.{PackageList}
use Rattle.file_check.specs.Rearranged.{IsRearranged}
use Rattle.package_files.specs.declared.work.Work.{Work}
use Rattle.status_records.specs.Records.{AreApart, IsWithout, drop_record, put_record, record_in}
use Rattle.status_records.specs.declared.record.Record.{Record}
use Rattle.status_records.proofs.Tables.{apart_dropped, apart_put, found_here, passed_over, record_in-put_record}
use Rattle.unpack_commit.specs.Takeover.{loses_conffile, losing_records, put_records, taken_places, without_conffiles}
use Rattle.unpack_plan.specs.Planned.{Planned}
use Rattle.unpack_rows.specs.EndStates.{AreRecorded}
use Rattle.unpack_rows.specs.Failures.{has_failed}
use Rattle.unpack_rows.specs.Kinds.{first_kinds, has_prerm, is_upgrade, kinds_of, last_kinds, own_of, owner_of, state_of}
use Rattle.unpack_rows.specs.Notes.{as_before, half_configured, half_installed, listed, note_before, note_undone, noted, notes_at, notes_back, notes_forward, unpacked}
use Rattle.unpack_rows.specs.Stages.{stage_of}
use Rattle.unpack_rows.specs.declared.kinds.RowKind.{RowKind}
use Rattle.unpack_rows.specs.declared.kinds.RowKind.TheVariants.{Prerm, Other, Preinst, Files, Postrm}
use Rattle.unpack_rows.specs.declared.notes.Note.{Note}
use Rattle.unpack_rows.specs.declared.notes.Note.TheVariants.{Drop, Put}
use Rattle.unpack_rows.proofs.LastNotes.{last_of, note_name, note_value, noted_last}
use Rattle.unpack_engine.specs.Units.{Ground, IsRunning, IsStage, MayLeave, changes, commit_records, last_place, lists_after, noted_so_far, stage_records, table_after, unit_losers}
use Rattle.unpack_engine.proofs.Leaving.{noted_first}
use Rattle.unpack_engine.proofs.ListEnds.{any_has}
use Rattle.unpack_laws.proofs.Alone.{are_moved}

-- by the notes that name it

module _ (P : Option Record → Type 0) (q : List ℕ) where
  -- a note of this name leaves a record with P
  abbrev pub IsGoodNote : Note → Type 0
  IsGoodNote n = bytes_eq (note_name n) q ≡ true → P (note_value n)

  good_note : (n : Note) (o : Option Record) → IsGoodNote n → P o → P (cond (bytes_eq (note_name n) q) (note_value n) o)
  good_note n o good before = by (bytes_eq (note_name n) q) good
    where
      by : (b : Bool) → (b ≡ true → P (note_value n)) → P (cond b (note_value n) o)
      by true so = so refl
      by false so = before

  good_notes : (ns : List Note) (o : Option Record) → AllByRecursion IsGoodNote ns → P o → P (last_of o ns q)
  good_notes [] o all before = before
  good_notes (n ∷ ns) o all before = good_notes ns (cond (bytes_eq (note_name n) q) (note_value n) o) all.1 (good_note n o all.0 before)

  -- the same of records that are noted one after another
  abbrev pub IsGoodRecord : Record → Type 0
  IsGoodRecord r = bytes_eq r.name q ≡ true → P (Some r)

  pub good_records : (rs table : List Record) → AllByRecursion IsGoodRecord rs → P (record_in table q) → P (record_in (put_records rs table) q)
  good_records [] table all before = before
  good_records (r ∷ rs) table all before = good_records rs (put_record r table) all.1 (subst P (sym (record_in-put_record r table q)) (by (bytes_eq r.name q) all.0))
    where
      by : (b : Bool) → (b ≡ true → P (Some r)) → P (cond b (Some r) (record_in table q))
      by true so = so refl
      by false so = before

  pub good_front : (front back : List Record) → AllByRecursion IsGoodRecord (front ++ back) → AllByRecursion IsGoodRecord front
  good_front [] back all = tt
  good_front (r ∷ front) back all = (all.0, good_front front back all.1)

  -- the notes beside rows

  notes_then : (xs ys : List Note) → AllByRecursion IsGoodNote xs → AllByRecursion IsGoodNote ys → AllByRecursion IsGoodNote (xs ++ ys)
  notes_then [] ys first second = second
  notes_then (x ∷ xs) ys first second = (first.0, notes_then xs ys first.1 second)

  module _ (start : Option Record) (incoming : Record) where
    record IsGoodKind (k : RowKind) : Type 0 where
      before : AllByRecursion IsGoodNote (listed (note_before start incoming k))
      undone : AllByRecursion IsGoodNote (listed (note_undone start incoming k))

    all_forward : (kinds : List RowKind) → AllByRecursion IsGoodKind kinds → AllByRecursion IsGoodNote (notes_forward start incoming kinds)
    all_forward [] all = tt
    all_forward (k ∷ ks) all = notes_then (listed (note_before start incoming k)) (notes_forward start incoming ks) all.0.before (all_forward ks all.1)

    unless_failed : (b : Bool) (notes : List Note) → AllByRecursion IsGoodNote notes → AllByRecursion IsGoodNote (cond b [] notes)
    unless_failed true notes all = tt
    unless_failed false notes all = all

    all_back : (row : ℕ) (kinds : List RowKind) (failed : List Failed) → AllByRecursion IsGoodKind kinds → AllByRecursion IsGoodNote (notes_back start incoming row kinds failed)
    all_back row [] failed all = tt
    all_back row (k ∷ ks) failed all = notes_then (notes_back start incoming (row + 1) ks failed) _ (all_back (row + 1) ks failed all.1)
        (unless_failed (has_failed row (owner_of (own_of start incoming).name k) failed) (listed (note_undone start incoming k)) all.0.undone)

    kinds_then : (xs ys : List RowKind) → AllByRecursion IsGoodKind xs → AllByRecursion IsGoodKind ys → AllByRecursion IsGoodKind (xs ++ ys)
    kinds_then [] ys first second = second
    kinds_then (x ∷ xs) ys first second = (first.0, kinds_then xs ys first.1 second)

    kinds_take : (n : ℕ) (kinds : List RowKind) → AllByRecursion IsGoodKind kinds → AllByRecursion IsGoodKind (take n kinds)
    kinds_take zero kinds all = tt
    kinds_take (suc n) [] all = tt
    kinds_take (suc n) (k ∷ ks) all = (all.0, kinds_take n ks all.1)

    kinds_drop : (n : ℕ) (kinds : List RowKind) → AllByRecursion IsGoodKind kinds → AllByRecursion IsGoodKind (drop n kinds)
    kinds_drop zero kinds all = all
    kinds_drop (suc n) [] all = tt
    kinds_drop (suc n) (k ∷ ks) all = kinds_drop n ks all.1

    all_at : (kinds : List RowKind) (place : Place) → AllByRecursion IsGoodKind kinds → AllByRecursion IsGoodNote (notes_at start incoming kinds place)
    all_at kinds (Forward k) all = all_forward (take k kinds) (kinds_take k kinds all)
    all_at kinds (Ready k) all = all_forward (take (k + 1) kinds) (kinds_take (k + 1) kinds all)
    all_at kinds (Back k fall failed) all =
        let reached = kinds_take (fall.row + 1) kinds all in
        notes_then (notes_forward start incoming (take (fall.row + 1) kinds)) _ (all_forward (take (fall.row + 1) kinds) reached)
        (all_back k (drop k (take (fall.row + 1) kinds)) failed (kinds_drop k (take (fall.row + 1) kinds) reached))

    -- where each note of an own row and of another package's is good
    pub record AreGoodRows (others : List Record) : Type 0 where
      pub deconfigured : IsGoodNote (Put (half_configured (own_of start incoming)))
      pub begun : IsGoodNote (Put (half_installed (own_of start incoming)))
      pub put_back : IsGoodNote (Put (unpacked (own_of start incoming)))
      pub before : IsGoodNote (as_before start incoming start)
      pub others_are : AllByRecursion (λ r. IsGoodNote (Put (half_configured r)) × IsGoodNote (Put r)) others

    module _ (others : List Record) (good : AreGoodRows others) where
      back_or_before : (b : Bool) → IsGoodNote (cond b (Put (unpacked (own_of start incoming))) (as_before start incoming start))
      back_or_before true = good.put_back
      back_or_before false = good.before

      prerm_good : IsGoodKind Prerm
      prerm_good = record { before = (good.deconfigured, tt); undone = (good.before, tt) }

      preinst_good : IsGoodKind Preinst
      preinst_good = record { before = (good.begun, tt); undone = (back_or_before (has_prerm (state_of start)), tt) }

      files_good : IsGoodKind Files
      files_good = record { before = tt; undone = tt }

      postrm_good : IsGoodKind Postrm
      postrm_good = record { before = tt; undone = tt }

      first_good : (b : Bool) → AllByRecursion IsGoodKind (first_kinds b)
      first_good true = (prerm_good, tt)
      first_good false = tt

      last_good : (b : Bool) → AllByRecursion IsGoodKind (last_kinds b)
      last_good true = (preinst_good, (files_good, (postrm_good, tt)))
      last_good false = (preinst_good, (files_good, tt))

      others_good : (rs : List Record) → AllByRecursion (λ r. IsGoodNote (Put (half_configured r)) × IsGoodNote (Put r)) rs → AllByRecursion IsGoodKind (map (λ r. Other r) rs)
      others_good [] all = tt
      others_good (r ∷ rs) all = (record { before = (all.0.0, tt); undone = (all.0.1, tt) }, others_good rs all.1)

      pub record_at : (table : List Record) (place : Place) → P (record_in table q) → P (record_in (noted table (notes_at start incoming (kinds_of start others) place)) q)
      record_at table place before =
          let s = state_of start in
          subst P (sym (noted_last (notes_at start incoming (kinds_of start others) place) table q))
          (good_notes (notes_at start incoming (kinds_of start others) place) (record_in table q)
          (all_at (kinds_of start others) place
          (kinds_then (first_kinds (has_prerm s)) (map (λ r. Other r) others ++ last_kinds (is_upgrade s)) (first_good (has_prerm s))
          (kinds_then (map (λ r. Other r) others) (last_kinds (is_upgrade s)) (others_good others good.others_are) (last_good (is_upgrade s)))))
          before)

-- each record of a table in which names differ is found by its name

widened : (x : Record) (all rs : List Record) → IsWithout x.name rs → AreRecorded all rs → AreRecorded (x ∷ all) rs
widened x all [] without recorded = tt
widened x all (r ∷ rs) without recorded =
    (passed_over all x r.name (λ e. true≢false (sym ((bytes_eq-Decides r.name x.name).1 (sym e)) ∙ without.0)) ∙ recorded.0, widened x all rs without.1 recorded.1)

each_recorded : (rs : List Record) → AreApart rs → AreRecorded rs rs
each_recorded [] apart = tt
each_recorded (r ∷ rs) apart = (found_here rs r r.name refl, widened r rs rs apart.0 (each_recorded rs apart.1))

-- names stay apart while records are noted
noted_apart : (notes : List Note) (table : List Record) → AreApart table → AreApart (noted table notes)
noted_apart [] table apart = apart
noted_apart (Put r ∷ notes) table apart = noted_apart notes (put_record r table) (apart_put r table apart)
noted_apart (Drop name ∷ notes) table apart = noted_apart notes (drop_record name table) (apart_dropped name table apart)

-- the records that lose conffiles, by what is so of each that may
module _ (P : Option Record → Type 0) (q : List ℕ) (ways : Ways) (places : List Path) (names : List (List ℕ)) where
  abbrev IsGoodLosing : Record → Type 0
  IsGoodLosing r = r.name ≡ q → Contains names q → P (Some (without_conffiles ways places r))

  losing_each : (rs : List Record) → AllByRecursion IsGoodLosing rs → AllByRecursion (IsGoodRecord P q) (losing_records ways places names rs)
  losing_each [] all = tt
  losing_each (r ∷ rs) all = by (list_any (bytes_eq r.name) names && loses_conffile ways places r) refl (losing_each rs all.1)
    where
      there : list_any (bytes_eq r.name) names && loses_conffile ways places r ≡ true → IsGoodRecord P q (without_conffiles ways places r)
      there keep same =
          let is = (bytes_eq-Decides r.name q).0 same in
          all.0 is (subst (Contains names) is (any_has names r.name (and_parts (list_any (bytes_eq r.name) names) (loses_conffile ways places r) keep).0))

      by : (b : Bool) → list_any (bytes_eq r.name) names && loses_conffile ways places r ≡ b → AllByRecursion (IsGoodRecord P q) (losing_records ways places names rs)
          → AllByRecursion (IsGoodRecord P q) (map (without_conffiles ways places) (cond b (r ∷ filter (λ x. list_any (bytes_eq x.name) names && loses_conffile ways places x) rs) (filter (λ x. list_any (bytes_eq x.name) names && loses_conffile ways places x) rs)))
      by true keep rest = (there keep, rest)
      by false keep rest = rest

  -- none where the name isn't among those that lose places
  module _ (none : Contains names q → ⊥) where
    all_spared : (rs : List Record) → AllByRecursion IsGoodLosing rs
    all_spared [] = tt
    all_spared (r ∷ rs) = ((λ same has. absurd (none has)), all_spared rs)

    pub losing_good : (table : List Record) → AllByRecursion (IsGoodRecord P q) (losing_records ways places names table)
    losing_good table = losing_each table (all_spared table)

  -- the one that the table has, where names differ in it
  module _ (table : List Record) (lost : Contains names q → (r : Record) → record_in table q ≡ Some r → P (Some (without_conffiles ways places r))) where
    all_found : (rs : List Record) → AreRecorded table rs → AllByRecursion IsGoodLosing rs
    all_found [] recorded = tt
    all_found (r ∷ rs) recorded = ((λ same has. lost has r (ap (record_in table) (sym same) ∙ recorded.0)), all_found rs recorded.1)

    losing_found : AreApart table → AllByRecursion (IsGoodRecord P q) (losing_records ways places names table)
    losing_found apart = losing_each table (all_found table (each_recorded table apart))

pub good_then : (P : Option Record → Type 0) (q : List ℕ) (xs : List Record) (y : Record) → AllByRecursion (IsGoodRecord P q) xs → IsGoodRecord P q y → AllByRecursion (IsGoodRecord P q) (xs ++ y ∷ [])
good_then P q [] y all last = (last, tt)
good_then P q (x ∷ xs) y all last = (all.0, good_then P q xs y all.1 last)

-- the record of a name at each moment of a unit: with Q beside the rows, and with P behind the commit's other steps
module _ (Q P : Option Record → Type 0) (q : List ℕ) (g : Ground) (p : Planned) (apart : AreApart g.records) (wider : (o : Option Record) → Q o → P o)
    (lost : (works : List Work) (begun : State) → IsRearranged p.works works → Contains (unit_losers g p works (lists_after g p Committed begun)) q
    → (r : Record) → Q (Some r) → P (Some (without_conffiles g.ways (taken_places works) r)))
    (fresh : IsGoodRecord P q p.fresh) (good : AreGoodRows Q q p.found p.incoming p.others) (before : Q (record_in g.records q)) where
  record_then : (place : Place) → Q (record_in (table_after g p place) q)
  record_then place = record_at Q q p.found p.incoming p.others good g.records place before

  module _ (works : List Work) (begun : State) (moved : IsRearranged p.works works) where
    abbrev lists : List PackageList
    lists = lists_after g p Committed begun

    abbrev table : List Record
    table = table_after g p (last_place g p Committed)

    table_apart : AreApart table
    table_apart = noted_apart (notes_at p.found p.incoming (kinds_of p.found p.others) (last_place g p Committed)) g.records apart

    all_good : AllByRecursion (IsGoodRecord P q) (commit_records g p works lists table)
    all_good =
        good_then P q (losing_records g.ways (taken_places works) (unit_losers g p works lists) table) p.fresh
        (losing_found P q g.ways (taken_places works) (unit_losers g p works lists) table
        (λ has r is. lost works begun moved has r (subst Q is (record_then (last_place g p Committed)))) table_apart)
        fresh

    record_noted : (last now : World) (may : MayLeave (changes g p works lists) (commit_records g p works lists table) g.ways lists table (length p.others) Committed last now)
        → P (record_in (put_records (noted_so_far (changes g p works lists) (commit_records g p works lists table) g.ways lists table (length p.others) Committed last now may) table) q)
    record_noted last now may =
        let front = noted_so_far (changes g p works lists) (commit_records g p works lists table) g.ways lists table (length p.others) Committed last now may in
        let first = noted_first (changes g p works lists) (commit_records g p works lists table) g.ways lists table (length p.others) last now Committed may in
        good_records P q front table (good_front P q front first.0 (subst (AllByRecursion (IsGoodRecord P q)) first.1 all_good))
        (wider _ (record_then (last_place g p Committed)))

  pub record_amid : (old : World) (so_far : List Event) (now : World) (stage : IsStage g p old so_far now) → P (record_in (stage_records g p old so_far now stage) q)
  record_amid old so_far now (IsStage.running (IsRunning.beginning none may)) = wider _ before
  record_amid old so_far now (IsStage.running (IsRunning.running begun early more is none begins stops)) = wider _ (record_then stops.place)
  record_amid old so_far now (IsStage.leaving Committed works begun last begins are come may) =
      record_noted works begun (are_moved g p begun Committed (stage_of (kinds_of p.found p.others) (last_place g p Committed)) works are) last now may
  record_amid old so_far now (IsStage.leaving (Unwound fall failed) works begun last begins are come may) = wider _ (record_then (last_place g p (Unwound fall failed)))
