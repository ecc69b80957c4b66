-- What a note that was written, and notes that were merged, leave of the records.
use Rattle.std.proofs.Common.{◌≡◌, ◌≢◌, inl, inr, IsTrue, ℕ, ◌+◌, ◌<◌, Bool, true, false, cond, not, List, [], ◌∷◌, ◌++◌, codes, get_or, Option, Some, None, Result, Ok, Err, OnOk, refl, sym, ap, subst, ◌∙◌, arith}
use Rattle.std.specs.Prelude.{IsSome, is_some}
use Rattle.std.specs.Ordering.{nat_cmp, is_lt}
use Rattle.std.specs.Str.{bytes_eq}
use Rattle.std.proofs.Props.{props}
use Rattle.std.proofs.lemmas.Bool.Decides.{nat_tests}
use Rattle.std.proofs.lemmas.Slice.Eq.{bytes_eq-Decides}
use Rattle.texts.specs.PackageNames.{is_package_name}
use Rattle.std.proofs.Math.Logic.{∥∥₁_elim, ∥∥₁_map, ∥∥₁_prop}
use Rattle.std.proofs.Common.{ltb, eqb}
use Rattle.std.proofs.lemmas.List.{append-nil}
use Rattle.std.proofs.lemmas.Bool.{cases_lt, cases_eq, lt-ltb, le-ltb, eq-eqb, ne_eqb, true≢false}
use Rattle.host_core.specs.Paths.{Path}
use Rattle.host_core.specs.World.{World, IsDirectory, IsFile, HasParent, KeepsBut, SameOn}
use Rattle.host_core.specs.Host.{State, AtEachMoment, Needs, Since}
use Rattle.host_core.proofs.Moments.{since_then, since_weaker_if}
use Rattle.host_core.specs.Nodes.{own_access}
use Rattle.host_core.specs.declared.node.Node.{Node}
use Rattle.host_core.specs.declared.node.Node.TheVariants.{File, Dir, Link}
use Rattle.administration.specs.Places.{home_path, status_path, updates_path, temporary}
use Rattle.administration.specs.Files.{NoDirectory, KeepsBesideFile, IsReplaced, IsReplacing}
use Rattle.administration.proofs.WholeFiles.{no_directory_file, no_directory_none, no_directory_at, no_slash}
use Rattle.status_records.specs.declared.record.Record.{Record}
use Rattle.status_db.specs.Notes.{AreNotes, IsNoteAt, Note, below_limit, digits, entered, limit, note_path, said_gone, said_of, with_notes}
use Rattle.status_db.specs.Noting.{AreMerged, AreNoted, HasRoom, IsEntered, IsMerging, IsNoteFile, IsNoting, IsPlaced, IsStatusFile, note_number}
use Rattle.status_db.specs.Order.{AreInOrder}
use Rattle.status_records.specs.Records.{drop_record, put_record, record_in, standing}
use Rattle.status_records.specs.Status.{IsFileOf, IsStatusAt}
use Rattle.status_db.specs.Held.{AreKept, HasRecords, Holds, IsFree, IsUnblocked, is_record_place}
use Rattle.status_db.specs.Taking.{HasReplacedNotes, HasTaken, IsReplacingNotes, KeepsBesideRecords}
use Rattle.status_db.proofs.NotePaths.{note_path_once, spare_path_once, status_is_no_note, status_is_no_spare, spare_status_is_no_note, spare_status_is_no_spare, spare_is_no_note, home_is_no_note, home_is_no_spare, updates_is_no_note, updates_is_no_spare, home_is_no_status, home_is_no_spare_status, updates_is_no_status, updates_is_no_spare_status, odd_is_no_note, odd_is_no_spare, digits_plain}
use Rattle.status_db.proofs.Ordered.{dropped_order, put_order}
use Rattle.status_records.proofs.Tables.{record_in-drop_record, record_in-put_record}
use Rattle.status_db.proofs.Readings.{merged_table, greatest_last}

-- places of records differ from others

pub place_differs : (p q : Path) → is_record_place p ≡ true → is_record_place q ≡ false → q ≢ p
place_differs p q is out e = true≢false (sym is ∙ ap is_record_place (sym e) ∙ out)

-- the readings go with what stands at their places

note_same : (w v : World) (notes : ℕ → Option Note) → ((n : ℕ) → n < limit → v (note_path n) ≡ w (note_path n)) → AreNotes w notes → AreNotes v notes
note_same w v notes same are n lt = subst (λ (o : Option Node). IsNoteAt o (notes n)) (sym (same n lt)) (are n lt)

holds_same : (w v : World) (rs : List Record) → v status_path ≡ w status_path → ((n : ℕ) → n < limit → v (note_path n) ≡ w (note_path n)) → Holds w rs → Holds v rs
holds_same w v rs file same is = record {
  base = is.base;
  status = subst (λ (o : Option Node). IsStatusAt o is.base) (sym file) is.status;
  notes = is.notes;
  noted = note_same w v is.notes same is.noted;
  each = is.each;
  order = is.order;
}

pub records_same : (w v : World) (rs : List Record) → v status_path ≡ w status_path → ((n : ℕ) → n < limit → v (note_path n) ≡ w (note_path n)) → HasRecords w rs → HasRecords v rs
records_same w v rs file same has = ∥∥₁_map has (holds_same w v rs file same)

pub records_on : (w v : World) (rs : List Record) → SameOn is_record_place w v → HasRecords w rs → HasRecords v rs
records_on w v rs same has = records_same w v rs (same status_path refl) (λ n lt. same (note_path n) refl) has

pub kept_on : (w v : World) (rs : List Record) (notes : ℕ) → SameOn is_record_place w v → IsDirectory (v home_path) → IsDirectory (v updates_path) → AreKept rs notes w → AreKept rs notes v
kept_on w v rs notes same home updates is = record {
  unblocked = record {
    home = home;
    updates = updates;
    text = λ bad. is.unblocked.text (bad.0, bad.1, bad.2, subst IsSome (same (updates_path ++ 47 ∷ bad.0) refl) bad.3);
    status_spare = no_directory_at (v (temporary status_path)) (w (temporary status_path)) (same (temporary status_path) refl) is.unblocked.status_spare;
    spares = λ n lt. no_directory_at (v (temporary (note_path n))) (w (temporary (note_path n))) (same (temporary (note_path n)) refl) (is.unblocked.spares n lt);
  };
  holds = records_on w v rs same is.holds;
  free = λ n le lt. same (note_path n) refl ∙ is.free n le lt;
}

-- what stands at a note's place, or at the status file's, is no directory

note_no_directory : (found : Option Node) (note : Option Note) → IsNoteAt found note → NoDirectory found
note_no_directory None said is = no_directory_none
note_no_directory (Some (File bytes access)) said is = no_directory_file (File bytes access) (bytes, access, refl)
note_no_directory (Some (Dir access)) said is = absurd is
note_no_directory (Some (Link target)) said is = absurd is

status_no_directory : (found : Option Node) (base : List Record) → IsStatusAt found base → NoDirectory found
status_no_directory None base is = no_directory_none
status_no_directory (Some (File bytes access)) base is = no_directory_file (File bytes access) (bytes, access, refl)
status_no_directory (Some (Dir access)) base is = absurd is
status_no_directory (Some (Link target)) base is = absurd is

⊥_prop : (a b : ⊥) → a ≡ b
⊥_prop a b = absurd a

pub notes_loose : (w : World) (rs : List Record) (n : ℕ) → HasRecords w rs → n < limit → NoDirectory (w (note_path n))
notes_loose w rs n has lt is = ∥∥₁_elim has ⊥_prop (λ held. note_no_directory (w (note_path n)) (held.notes n) (held.noted n lt) is)

pub status_loose : (w : World) (rs : List Record) → HasRecords w rs → NoDirectory (w status_path)
status_loose w rs has is = ∥∥₁_elim has ⊥_prop (λ held. status_no_directory (w status_path) held.base held.status is)

-- they stand in their directories

pub status_parent : (w : World) → IsUnblocked w → HasParent w status_path
status_parent w is = (home_path, codes "status", refl, no_slash (codes "status") refl, is.home)

pub note_parent : (w : World) (n : ℕ) → n < limit → IsUnblocked w → HasParent w (note_path n)
note_parent w n lt is = (updates_path, digits n, refl, digits_plain n lt, is.updates)

-- nothing was done

not_begun : (P : World → Type 0) (a : State) → (IsTrue a.honest → P a.world) → Since (λ so_far. P) a a
not_begun P a here = record { added = []; events = sym (append-nil a.events); honest = λ h. h; world = refl; each = here }

pub replacing_not : (n : ℕ) → n < limit → (node : Node) (a : State) → Needs a IsUnblocked → AtEachMoment (IsReplacing (note_path n) node) a a
replacing_not n lt node a ready = not_begun (IsReplacing (note_path n) node a.world) a (λ h. record { target = inl refl; spare = (ready h).spares n lt; rest = λ q ne_p ne_t. refl })

merging_start : (records : List Record) (notes : ℕ) (w : World) → AreKept records notes w → IsMerging records w w
merging_start records notes w kept = record { same = kept.holds; opens = record { unblocked = kept.unblocked; table = records; records = kept.holds }; rest = λ q out. refl }

pub merging_not : (records : List Record) (notes : ℕ) (a : State) → Needs a (AreKept records notes) → AtEachMoment (IsMerging records) a a
merging_not records notes a kept = not_begun (IsMerging records a.world) a (λ h. merging_start records notes a.world (kept h))

pub noting_not : (before after : List Record) (notes : ℕ) (a : State) → Needs a (AreKept before notes) → AtEachMoment (IsNoting before after) a a
noting_not before after notes a kept = not_begun (IsNoting before after a.world) a (λ h. (let is = merging_start before notes a.world (kept h) in record { records = inl is.same; opens = is.opens; rest = is.rest }))

-- one note more

module _ (number : ℕ) (within : number < limit) (node : Node) (note : Note) (file : IsNoteFile node note) where
  other_notes : (old now : World) → KeepsBesideFile (note_path number) old now → (n : ℕ) → n ≢ number → now (note_path n) ≡ old (note_path n)
  other_notes old now rest n ne = rest (note_path n) (λ e. ne (note_path_once n number e)) (λ e. absurd (spare_is_no_note number n (sym e)))

  status_stays : (old now : World) → KeepsBesideFile (note_path number) old now → now status_path ≡ old status_path
  status_stays old now rest = rest status_path (status_is_no_note number) (status_is_no_spare number)

  pub note_unblocked : (old now : World) → KeepsBesideFile (note_path number) old now → NoDirectory (now (temporary (note_path number))) → IsUnblocked old → IsUnblocked now
  note_unblocked old now rest spare is = record {
    home = subst IsDirectory (sym (rest home_path (home_is_no_note number) (home_is_no_spare number))) is.home;
    updates = subst IsDirectory (sym (rest updates_path (updates_is_no_note number) (updates_is_no_spare number))) is.updates;
    text = λ bad. is.text (bad.0, bad.1, bad.2, subst IsSome (rest (updates_path ++ 47 ∷ bad.0) (odd_is_no_note bad.0 number within bad.2) (odd_is_no_spare bad.0 number within bad.2)) bad.3);
    status_spare = no_directory_at (now (temporary status_path)) (old (temporary status_path)) (rest (temporary status_path) (spare_status_is_no_note number) (spare_status_is_no_spare number)) is.status_spare;
    spares = λ n lt. elim (cases_eq n number) [
      | inl e ↦ subst (λ (k : ℕ). NoDirectory (now (temporary (note_path k)))) (sym e) spare
      | inr ne ↦ no_directory_at (now (temporary (note_path n))) (old (temporary (note_path n))) (rest (temporary (note_path n)) (spare_is_no_note n number) (λ e. ne (spare_path_once n number e))) (is.spares n lt)
    ];
  }

  pub note_frame : (old now : World) → KeepsBesideFile (note_path number) old now → KeepsBut is_record_place old now
  note_frame old now rest q out = rest q (place_differs (note_path number) q refl out) (place_differs (temporary (note_path number)) q refl out)

  -- the notes with this one
  abbrev with_one : (ℕ → Option Note) → ℕ → Option Note
  with_one notes n = cond (eqb n number) (Some note) (notes n)

  file_is_note : (found : Option Node) → found ≡ Some node → ∥ IsNoteAt found (Some note) ∥₁
  file_is_note found e = ∥∥₁_map file.2 (λ is. subst (λ (o : Option Node). IsNoteAt o (Some note)) (sym (e ∙ ap (λ (m : Node). Some m) file.1)) (note, refl, is))

  noted_one : (old now : World) (notes : ℕ → Option Note) → KeepsBesideFile (note_path number) old now → IsNoteAt (now (note_path number)) (Some note) → AreNotes old notes → AreNotes now (with_one notes)
  noted_one old now notes rest here are n lt = elim (cases_eq n number) [
    | inl e ↦ subst (λ (o : Option Note). IsNoteAt (now (note_path n)) o) (sym (ap (λ b. cond b (Some note) (notes n)) (eq-eqb n number e))) (subst (λ (k : ℕ). IsNoteAt (now (note_path k)) (Some note)) (sym e) here)
    | inr ne ↦ subst (λ (o : Option Note). IsNoteAt (now (note_path n)) o) (sym (ap (λ b. cond b (Some note) (notes n)) (ne_eqb n number ne)))
        (subst (λ (o : Option Node). IsNoteAt o (notes n)) (sym (other_notes old now rest n ne)) (are n lt))
  ]

  none_at : (found : Option Node) (o : Option Note) → found ≡ None → IsNoteAt found o → o ≡ None
  none_at found o e is = subst (λ (f : Option Node). IsNoteAt f o) e is

  holds_one : (old now : World) (before after : List Record) → KeepsBesideFile (note_path number) old now → IsNoteAt (now (note_path number)) (Some note) → IsFree number old → IsEntered note before after → Holds old before → Holds now after
  holds_one old now before after rest here free entry is = record {
    base = is.base;
    status = subst (λ (o : Option Node). IsStatusAt o is.base) (sym (status_stays old now rest)) is.status;
    notes = with_one is.notes;
    noted = noted_one old now is.notes rest here is.noted;
    each = λ q. entry.each q ∙ (λ i. entered (Some note) (λ name. is.each name i) q)
        ∙ sym (λ i. greatest_last is.notes (with_one is.notes) number limit note
        (λ n lt. ap (λ b. cond b (Some note) (is.notes n)) (ne_eqb n number (λ e. absurd (omega (arith, lt, e)))))
        (ap (λ b. cond b (Some note) (is.notes number)) (eq-eqb number number refl))
        (λ n le lt. none_at (old (note_path n)) (is.notes n) (free n le lt) (is.noted n lt))
        (λ n lt small. ap (λ b. cond b (Some note) (is.notes n)) (ne_eqb n number (λ e. absurd (omega (arith, lt, e)))) ∙ none_at (old (note_path n)) (is.notes n) (free n (omega (arith, lt)) small) (is.noted n small))
        within (record_in (standing is.base)) i q);
    order = entry.order;
  }

  pub records_with : (old now : World) (before after : List Record) → KeepsBesideFile (note_path number) old now → now (note_path number) ≡ Some node → IsFree number old → IsEntered note before after → HasRecords old before → HasRecords now after
  records_with old now before after rest here free entry has = ∥∥₁_elim has ∥∥₁_prop (λ held. ∥∥₁_map (file_is_note (now (note_path number)) here) (λ is. holds_one old now before after rest is free entry held))

  records_without : (old now : World) (before : List Record) → KeepsBesideFile (note_path number) old now → now (note_path number) ≡ old (note_path number) → HasRecords old before → HasRecords now before
  records_without old now before rest here has = records_same old now before (status_stays old now rest) (λ n lt. elim (cases_eq n number) [
    | inl e ↦ ap (λ (k : ℕ). now (note_path k)) e ∙ here ∙ ap (λ (k : ℕ). old (note_path k)) (sym e)
    | inr ne ↦ other_notes old now rest n ne
  ]) has

  pub noting_one : (old now : World) (before after : List Record) → AreKept before number old → IsEntered note before after → IsReplacing (note_path number) node old now → IsNoting before after old now
  noting_one old now before after kept entry is =
      let open_now = note_unblocked old now is.rest is.spare kept.unblocked in
      elim is.target [
        | inl same ↦ (let has = records_without old now before is.rest same kept.holds in
            record { records = inl has; opens = record { unblocked = open_now; table = before; records = has }; rest = note_frame old now is.rest })
        | inr there ↦ (let has = records_with old now before after is.rest there kept.free entry kept.holds in
            record { records = inr has; opens = record { unblocked = open_now; table = after; records = has }; rest = note_frame old now is.rest })
      ]

  pub noted_one_end : (old new : World) (before after : List Record) → AreKept before number old → IsEntered note before after → IsReplaced (note_path number) node old new → AreNoted after (number + 1) old new
  noted_one_end old new before after kept entry is = record {
    kept = record {
      unblocked = note_unblocked old new is.rest (no_directory_at (new (temporary (note_path number))) None is.spare no_directory_none) kept.unblocked;
      holds = records_with old new before after is.rest is.target kept.free entry kept.holds;
      free = λ n le lt. other_notes old new is.rest n (λ e. absurd (omega (arith, le, e))) ∙ kept.free n (omega (arith, le)) lt;
    };
    rest = note_frame old new is.rest;
  }

-- merging

-- the notes from a number on
abbrev from_number : ℕ → (ℕ → Option Note) → ℕ → Option Note
from_number number notes n = cond (ltb n number) None (notes n)

notes_left : (number : ℕ) (old now : World) (notes : ℕ → Option Note) → HasTaken number old now → AreNotes old notes → AreNotes now (from_number number notes)
notes_left number old now notes taken are n lt = elim (cases_lt n number) [
  | inl small ↦ subst (λ (o : Option Note). IsNoteAt (now (note_path n)) o) (sym (ap (λ b. cond b None (notes n)) (lt-ltb n number small))) (subst (λ (f : Option Node). IsNoteAt f None) (sym (taken.gone n small)) refl)
  | inr large ↦ subst (λ (o : Option Note). IsNoteAt (now (note_path n)) o) (sym (ap (λ b. cond b None (notes n)) (le-ltb n number large)))
      (subst (λ (f : Option Node). IsNoteAt f (notes n)) (sym (taken.stays n large)) (are n lt))
]

module _ (records : List Record) (node : Node) (file : IsStatusFile node records) (stand : standing records ≡ records) where
  file_stands : (found : Option Node) → found ≡ Some node → ∥ IsStatusAt found records ∥₁
  file_stands found e = ∥∥₁_map file.2 (λ is. subst (λ (o : Option Node). IsStatusAt o records) (sym (e ∙ ap (λ (m : Node). Some m) file.1)) is)

  holds_merged : (old now : World) (number : ℕ) → IsStatusAt (now status_path) records → HasTaken number old now → Holds old records → Holds now records
  holds_merged old now number status taken is = record {
    base = records;
    status = status;
    notes = from_number number is.notes;
    noted = notes_left number old now is.notes taken is.noted;
    each = λ q. is.each q
        ∙ sym (merged_table is.notes (from_number number is.notes) number (λ n lt. ap (λ b. cond b None (is.notes n)) (lt-ltb n number lt)) (λ n le. ap (λ b. cond b None (is.notes n)) (le-ltb n number le)) limit (record_in (standing is.base)) q)
        ∙ (λ i. with_notes (from_number number is.notes) limit (λ name. sym (is.each name) i) q)
        ∙ (λ i. with_notes (from_number number is.notes) limit (record_in (sym stand i)) q);
    order = is.order;
  }

  pub records_merged : (old now : World) (number : ℕ) → now status_path ≡ Some node → HasTaken number old now → HasRecords old records → HasRecords now records
  records_merged old now number there taken has = ∥∥₁_elim has ∥∥₁_prop (λ held. ∥∥₁_map (file_stands (now status_path) there) (λ is. holds_merged old now number is taken held))

  pub merge_unblocked : (old now : World) (number : ℕ) → HasTaken number old now → KeepsBesideRecords old now → NoDirectory (now (temporary status_path)) → IsUnblocked old → IsUnblocked now
  merge_unblocked old now number taken rest spare is = record {
    home = subst IsDirectory (sym (rest home_path home_is_no_status home_is_no_spare_status (λ n lt. home_is_no_note n))) is.home;
    updates = subst IsDirectory (sym (rest updates_path updates_is_no_status updates_is_no_spare_status (λ n lt. updates_is_no_note n))) is.updates;
    text = λ bad. is.text (bad.0, bad.1, bad.2, subst IsSome (rest (updates_path ++ 47 ∷ bad.0) (below_no_status bad.0) (below_no_spare_status bad.0) (λ n lt. odd_is_no_note bad.0 n lt bad.2)) bad.3);
    status_spare = spare;
    spares = λ n lt. no_directory_at (now (temporary (note_path n))) (old (temporary (note_path n)))
        (rest (temporary (note_path n)) (λ e. absurd (status_is_no_spare n (sym e))) (λ e. absurd (spare_status_is_no_spare n (sym e))) (λ m small. spare_is_no_note n m)) (is.spares n lt);
  }
    where
      below_no_status : (name : List ℕ) → updates_path ++ 47 ∷ name ≢ status_path
      below_no_status name e = absurd (true≢false (ap (λ (l : List ℕ). eqb (get_or l 14 0) 117) e))

      below_no_spare_status : (name : List ℕ) → updates_path ++ 47 ∷ name ≢ temporary status_path
      below_no_spare_status name e = absurd (true≢false (ap (λ (l : List ℕ). eqb (get_or l 14 0) 117) e))

  merge_frame : (old now : World) → KeepsBesideRecords old now → KeepsBut is_record_place old now
  merge_frame old now rest q out = rest q (place_differs status_path q refl out) (place_differs (temporary status_path) q refl out) (λ n lt. place_differs (note_path n) q refl out)

  pub merging_now : (old now : World) (notes : ℕ) → AreKept records notes old → IsReplacingNotes node old now → IsMerging records old now
  merging_now old now notes kept is =
      let has : HasRecords now records = elim is.file [
        | inl before ↦ records_same old now records before.0 (λ n lt. is.taken.stays n (omega (arith, before.1))) kept.holds
        | inr there ↦ records_merged old now is.number there is.taken kept.holds
      ] in
      record {
        same = has;
        opens = record { unblocked = merge_unblocked old now is.number is.taken is.rest is.spare kept.unblocked; table = records; records = has };
        rest = merge_frame old now is.rest;
      }

  pub merged_new : (old new : World) (notes : ℕ) → AreKept records notes old → HasReplacedNotes node notes old new → AreMerged records old new
  merged_new old new notes kept is = record {
    kept = record {
      unblocked = merge_unblocked old new notes is.taken is.rest is.spare kept.unblocked;
      holds = records_merged old new notes is.file is.taken kept.holds;
      free = λ n le lt. elim (cases_lt n notes) [ inl small ↦ is.taken.gone n small | inr large ↦ is.taken.stays n large ∙ kept.free n large lt ];
    };
    file = (file.0, is.file ∙ ap (λ (m : Node). Some m) file.1, file.2);
    rest = merge_frame old new is.rest;
  }

-- room, and then a note

noting_of_merging : (before after : List Record) (old now : World) → IsMerging before old now → IsNoting before after old now
noting_of_merging before after old now is = record { records = inl is.same; opens = is.opens; rest = is.rest }

noting_later : (before after : List Record) (old mid now : World) → KeepsBut is_record_place old mid → IsNoting before after mid now → IsNoting before after old now
noting_later before after old mid now kept is = record { records = is.records; opens = is.opens; rest = λ q out. is.rest q out ∙ kept q out }

pub merging_first : (before after : List Record) (a b : State) → AtEachMoment (IsMerging before) a b → AtEachMoment (IsNoting before after) a b
merging_first before after a b since = since_weaker_if (λ so_far. IsMerging before a.world) (λ so_far. IsNoting before after a.world) a b (λ h so_far w is. noting_of_merging before after a.world w is) since

pub note_then : (before after : List Record) (notes number : ℕ) (note : Note) (node : Node) (a b c : State) → number < limit → IsNoteFile node note → IsEntered note before after
    → AtEachMoment (IsMerging before) a b → (IsTrue c.honest → HasRoom before notes number a.world b.world) → AtEachMoment (IsReplacing (note_path number) node) b c → AtEachMoment (IsNoting before after) a c
note_then before after notes number note node a b c lt file entry first room second =
    since_then _ a b c (merging_first before after a b first)
    (since_weaker_if (λ so_far. IsReplacing (note_path number) node b.world) (λ so_far. IsNoting before after a.world) b c
    (λ h so_far w is. noting_later before after a.world b.world w (room h).rest (noting_one number lt node note file b.world w before after (room h).kept entry is)) second)

pub noted_then : (before after : List Record) (notes number : ℕ) (note : Note) (node : Node) (old mid new : World) → number < limit → IsNoteFile node note → IsEntered note before after
    → HasRoom before notes number old mid → IsReplaced (note_path number) node mid new → AreNoted after (number + 1) old new
noted_then before after notes number note node old mid new lt file entry room is =
    let end = noted_one_end number lt node note file mid new before after room.kept entry is in
    record { kept = end.kept; rest = λ q out. end.rest q out ∙ room.rest q out }

pub placed_then : {T F : Type 0} (result : Result T F) (before : List Record) (notes number : ℕ) (node : Node) (old mid new : World) → number < limit → (notes < 250 → number ≡ notes)
    → HasRoom before notes number old mid → OnOk result (IsReplaced (note_path number) node mid new) → OnOk result (IsPlaced before notes old new)
placed_then (Ok x) before notes number node old mid new lt same room is = record {
  alone = λ few q ne_p ne_t. is.rest q (λ e. ne_p (e ∙ ap note_path (same few))) (λ e. ne_t (e ∙ ap (λ (k : ℕ). temporary (note_path k)) (same few))) ∙ ap (λ (w : World). w q) (room.same few);
  merged = λ many. subst (λ (o : Option Node). IsFileOf o before) (sym (is.rest status_path (status_is_no_note number) (status_is_no_spare number))) (room.merged many);
}
placed_then (Err e) before notes number node old mid new lt same room is = tt

pub merged_by : {T F : Type 0} (result : Result T F) (records : List Record) (node : Node) → IsStatusFile node records → standing records ≡ records → (old new : World) (notes : ℕ) → AreKept records notes old → OnOk result (HasReplacedNotes node notes old new) → OnOk result (AreMerged records old new)
merged_by (Ok x) records node file stand old new notes kept is = merged_new records node file stand old new notes kept is
merged_by (Err e) records node file stand old new notes kept is = tt

pub since_merging : (records : List Record) (node : Node) → IsStatusFile node records → standing records ≡ records → (a b : State) (notes : ℕ) → (IsTrue b.honest → AreKept records notes a.world) → AtEachMoment (IsReplacingNotes node) a b → AtEachMoment (IsMerging records) a b
since_merging records node file stand a b notes kept since = since_weaker_if (λ so_far. IsReplacingNotes node a.world) (λ so_far. IsMerging records a.world) a b (λ h so_far w is. merging_now records node file stand a.world w notes (kept h) is) since

pub replacing_notes_not : (node : Node) (a : State) → Needs a IsUnblocked → AtEachMoment (IsReplacingNotes node) a a
replacing_notes_not node a ready = not_begun (IsReplacingNotes node a.world) a (λ h. record {
  number = 0;
  taken = record { gone = λ n lt. absurd (omega (arith, lt)); stays = λ n le. refl };
  file = inl (refl, refl);
  spare = (ready h).status_spare;
  rest = λ q ne_s ne_t ne_n. refl;
})

pub free_loose : (w : World) (records : List Record) (notes : ℕ) → AreKept records notes w → notes < limit → NoDirectory (w (note_path notes))
free_loose w records notes kept lt = no_directory_at (w (note_path notes)) None (kept.free notes (omega arith) lt) no_directory_none

-- the number of a note

pub number_few : (notes number : ℕ) → number ≡ note_number notes → number < limit
number_few notes number e = below_limit number (few (is_lt (nat_cmp notes 250)) refl)
  where
    lt_told : (a b : ℕ) → is_lt (nat_cmp a b) ≡ true → a < b
    lt_told a b is = grind (arith, nat_tests)

    few : (b : Bool) → is_lt (nat_cmp notes 250) ≡ b → number < 10000
    few true is = let small : notes < 250 = lt_told notes 250 is in omega (arith, small, e ∙ ap (λ t. cond t notes 0) is)
    few false is = omega (arith, e ∙ ap (λ t. cond t notes 0) is)

pub number_same : (notes number : ℕ) → number ≡ note_number notes → notes < 250 → number ≡ notes
number_same notes number e lt = e ∙ ap (λ t. cond t notes 0) (told notes 250 lt)
  where
    told : (a b : ℕ) → a < b → is_lt (nat_cmp a b) ≡ true
    told a b lt = grind (arith, nat_tests)

-- a record that is noted or forgotten

pub put_entered : (r : Record) (before : List Record) → AreInOrder before → IsEntered (said_of r) before (put_record r before)
put_entered r before order = record { order = put_order r before order; each = record_in-put_record r before }

pub drop_entered : (name : List ℕ) (before : List Record) → AreInOrder before → IsEntered (said_gone name) before (drop_record name before)
drop_entered name before order = record { order = dropped_order name before order; each = record_in-drop_record name before }

pub none_there : (o : Option Record) → is_some o ≡ false → o ≡ None
none_there None e = refl
none_there (Some r) e = absurd (true≢false e)

pub nothing_dropped : (name : List ℕ) (rs : List Record) → record_in rs name ≡ None → drop_record name rs ≡ rs
nothing_dropped name [] none = refl
nothing_dropped name (r ∷ rs) none = by (bytes_eq r.name name) refl none (nothing_dropped name rs)
  where
    by : (b : Bool) → bytes_eq r.name name ≡ b → cond b (Some r) (record_in rs name) ≡ None → (record_in rs name ≡ None → drop_record name rs ≡ rs) → cond (not b) (r ∷ drop_record name rs) (drop_record name rs) ≡ r ∷ rs
    by true e some rest = absurd (true≢false (ap is_some some))
    by false e none rest = ap (λ (l : List Record). r ∷ l) (rest none)

pub found_named : (name : List ℕ) (rs : List Record) → is_some (record_in rs name) ≡ true → is_package_name name ≡ true
found_named name [] some = absurd (true≢false (sym some))
found_named name (r ∷ rs) some = by (bytes_eq r.name name) refl some (found_named name rs)
  where
    by : (b : Bool) → bytes_eq r.name name ≡ b → is_some (cond b (Some r) (record_in rs name)) ≡ true → (is_some (record_in rs name) ≡ true → is_package_name name ≡ true) → is_package_name name ≡ true
    by true e there rest = ∥∥₁_elim r.writable (hlevel props) (λ known. subst (λ (n : List ℕ). is_package_name n ≡ true) ((bytes_eq-Decides r.name name).0 e) known.named)
    by false e there rest = rest there

-- the node of a note is a file
pub note_is_file : (node : Node) (note : Note) → IsNoteFile node note → IsFile node
note_is_file node note file = (file.0, own_access 0o644, file.1)

pub status_is_file : (node : Node) (records : List Record) → IsStatusFile node records → IsFile node
status_is_file node records file = (file.0, own_access 0o644, file.1)
