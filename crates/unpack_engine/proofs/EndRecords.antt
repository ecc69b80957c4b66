-- The records that a unit leaves: none is of a package that is gone, and each has the package's own name or one of before.
use Rattle.std.proofs.Common.{◌≡◌, ◌+◌, ◌⊎◌, inl, inr, ℕ, zero, suc, Bool, true, false, not, cond, List, [], ◌∷◌, ◌++◌, Option, Some, None, Contains, filter, map, take, drop, refl, sym, subst, ◌∙◌, arith}
use Rattle.std.specs.List.{AllByRecursion}
use Rattle.std.specs.Str.{bytes_eq}
use Rattle.std.specs.Cmp.Lexicographic.{slice_cmp}
use Rattle.std.specs.Ordering.{is_lt, nat_cmp}
use Rattle.std.proofs.lemmas.Slice.Eq.{bytes_eq-Decides}
use Rattle.std.proofs.lemmas.List.Elements.{Contains-append_right}
use Rattle.undo_rows.specs.Place.{Place, Forward, Ready, Back}
use Rattle.undo_rows.specs.declared.failed.Failed.{Failed}
use Rattle.diversions.specs.Ways.{Ways}
use Rattle.host_core.specs.Paths.{Path}
use Rattle.status_records.specs.Records.{AreStanding, drop_record, place_record, put_record, record_in}
use Rattle.status_records.specs.Words.{is_not_installed}
use Rattle.status_records.specs.declared.record.Record.{Record}
use Rattle.unpack_commit.specs.Takeover.{losing_records, put_records, without_conffiles}
use Rattle.unpack_rows.specs.EndStates.{AreRecorded}
use Rattle.unpack_rows.specs.Failures.{has_failed}
use Rattle.unpack_rows.specs.Kinds.{first_kinds, has_prerm, is_upgrade, kinds_of, last_kinds, own_of, owner_of, state_of}
use Rattle.unpack_rows.specs.Notes.{as_before, listed, note_before, note_undone, noted, notes_at, notes_back, notes_forward, unpacked}
use Rattle.unpack_rows.specs.declared.kinds.RowKind.{RowKind}
use Rattle.unpack_rows.specs.declared.kinds.RowKind.TheVariants.{Prerm, Other, Preinst, Files, Postrm}
use Rattle.unpack_rows.specs.declared.notes.Note.{Note}
use Rattle.unpack_rows.specs.declared.notes.Note.TheVariants.{Put, Drop}
use Rattle.held_administration.specs.Order.{record_names}

-- what holds of all holds of those that are kept

pub head_of : (x : List ℕ) (xs : List (List ℕ)) → Contains (x ∷ xs) x
head_of x xs = (zero, omega arith, refl)

pub tail_of : (x : List ℕ) (xs : List (List ℕ)) (y : List ℕ) → Contains xs y → Contains (x ∷ xs) y
tail_of x xs y has = Contains-append_right (x ∷ []) xs y has

all_filter : (P : Record → Type 0) (keep : Record → Bool) (rs : List Record) → AllByRecursion P rs → AllByRecursion P (filter keep rs)
all_filter P keep [] all = tt
all_filter P keep (r ∷ rs) all = by (keep r) (all_filter P keep rs all.1)
  where
    by : (b : Bool) → AllByRecursion P (filter keep rs) → AllByRecursion P (cond b (r ∷ filter keep rs) (filter keep rs))
    by true rest = (all.0, rest)
    by false rest = rest

all_placed : (P : Record → Type 0) (r : Record) (rs : List Record) → P r → AllByRecursion P rs → AllByRecursion P (place_record r rs)
all_placed P r [] here all = (here, tt)
all_placed P r (x ∷ xs) here all = by (is_lt (slice_cmp nat_cmp x.name r.name)) (all_placed P r xs here all.1)
  where
    by : (b : Bool) → AllByRecursion P (place_record r xs) → AllByRecursion P (cond b (x ∷ place_record r xs) (r ∷ x ∷ xs))
    by true rest = (all.0, rest)
    by false rest = (here, all)

all_dropped : (P : Record → Type 0) (name : List ℕ) (rs : List Record) → AllByRecursion P rs → AllByRecursion P (drop_record name rs)
all_dropped P name rs all = all_filter P (λ r. not (bytes_eq r.name name)) rs all

all_put : (P : Record → Type 0) (r : Record) (rs : List Record) → P r → AllByRecursion P rs → AllByRecursion P (put_record r rs)
all_put P r rs here all = all_placed P r (drop_record r.name rs) here (all_dropped P r.name rs all)

all_puts : (P : Record → Type 0) (rs table : List Record) → AllByRecursion P rs → AllByRecursion P table → AllByRecursion P (put_records rs table)
all_puts P [] table all rest = rest
all_puts P (r ∷ rs) table all rest = all_puts P rs (put_record r table) all.1 (all_put P r table all.0 rest)

all_then : (P : Record → Type 0) (xs ys : List Record) → AllByRecursion P xs → AllByRecursion P ys → AllByRecursion P (xs ++ ys)
all_then P [] ys first second = second
all_then P (x ∷ xs) ys first second = (first.0, all_then P xs ys first.1 second)

-- what is found is among them
pub has_name : (rs : List Record) (q : List ℕ) (r : Record) → record_in rs q ≡ Some r → Contains (record_names rs) q
has_name [] q r is = absurd (let e : None ≡ Some r = is in cc)
has_name (x ∷ rs) q r is = by (bytes_eq x.name q) refl (λ found. has_name rs q r found) is
  where
    by : (b : Bool) → bytes_eq x.name q ≡ b → (record_in rs q ≡ Some r → Contains (record_names rs) q) → cond b (Some x) (record_in rs q) ≡ Some r → Contains (x.name ∷ record_names rs) q
    by true e later found = subst (Contains (x.name ∷ record_names rs)) ((bytes_eq-Decides x.name q).0 e) (head_of x.name (record_names rs))
    by false e later found = tail_of x.name (record_names rs) q (later found)

all_found : (P : Record → Type 0) (rs : List Record) (q : List ℕ) (r : Record) → AllByRecursion P rs → record_in rs q ≡ Some r → P r
all_found P [] q r all is = absurd (let e : None ≡ Some r = is in cc)
all_found P (x ∷ rs) q r all is = by (bytes_eq x.name q) (λ found. all_found P rs q r all.1 found) is
  where
    by : (b : Bool) → (record_in rs q ≡ Some r → P r) → cond b (Some x) (record_in rs q) ≡ Some r → P r
    by true later found = let same : x ≡ r = cc in subst P same all.0
    by false later found = later found

-- a record that may be in the end: of a package that isn't gone, by its own name or one of these
pub record IsKnown (names : List (List ℕ)) (own : List ℕ) (r : Record) : Type 0 where
  pub stands : is_not_installed r.state ≡ false
  pub named : Contains names r.name ⊎ (r.name ≡ own)

more_known : (own x : List ℕ) (xs : List (List ℕ)) (r : Record) → IsKnown xs own r → IsKnown (x ∷ xs) own r
more_known own x xs r known = record { stands = known.stands; named = elim known.named [ inl has ↦ inl (tail_of x xs r.name has) | inr is ↦ inr is ] }

all_more : (own x : List ℕ) (xs : List (List ℕ)) (rs : List Record) → AllByRecursion (IsKnown xs own) rs → AllByRecursion (IsKnown (x ∷ xs) own) rs
all_more own x xs [] all = tt
all_more own x xs (r ∷ rs) all = (more_known own x xs r all.0, all_more own x xs rs all.1)

pub all_known : (own : List ℕ) (rs : List Record) → AreStanding rs → AllByRecursion (IsKnown (record_names rs) own) rs
all_known own [] all = tt
all_known own (r ∷ rs) all = (record { stands = all.0; named = inl (head_of r.name (record_names rs)) }, all_more own r.name (record_names rs) rs (all_known own rs all.1))

pub known_standing : (names : List (List ℕ)) (own : List ℕ) (rs : List Record) → AllByRecursion (IsKnown names own) rs → AreStanding rs
known_standing names own [] all = tt
known_standing names own (r ∷ rs) all = (all.0.stands, known_standing names own rs all.1)

pub known_name : (names : List (List ℕ)) (own : List ℕ) (rs : List Record) → AllByRecursion (IsKnown names own) rs → (q : List ℕ) → Contains (record_names rs) q → Contains names q ⊎ (q ≡ own)
known_name names own [] all q has = absurd (omega (arith, has.1))
known_name names own (r ∷ rs) all q (zero, lt, e) = elim all.0.named [ inl has ↦ inl (subst (Contains names) e has) | inr is ↦ inr (sym e ∙ is) ]
known_name names own (r ∷ rs) all q (suc k, lt, e) = known_name names own rs all.1 q (k, omega (arith, lt), e)

-- the notes beside the rows

module _ (P : Record → Type 0) (start : Option Record) (incoming : Record) where
  abbrev IsNoteOf : Note → Type 0
  IsNoteOf (Put r) = P r
  IsNoteOf (Drop name) = Unit {0}

  all_noted : (notes : List Note) (table : List Record) → AllByRecursion IsNoteOf notes → AllByRecursion P table → AllByRecursion P (noted table notes)
  all_noted [] table all rest = rest
  all_noted (Put r ∷ notes) table all rest = all_noted notes (put_record r table) all.1 (all_put P r table all.0 rest)
  all_noted (Drop name ∷ notes) table all rest = all_noted notes (drop_record name table) all.1 (all_dropped P name table rest)

  notes_then : (xs ys : List Note) → AllByRecursion IsNoteOf xs → AllByRecursion IsNoteOf ys → AllByRecursion IsNoteOf (xs ++ ys)
  notes_then [] ys first second = second
  notes_then (x ∷ xs) ys first second = (first.0, notes_then xs ys first.1 second)

  record IsKindOf (k : RowKind) : Type 0 where
    before : AllByRecursion IsNoteOf (listed (note_before start incoming k))
    undone : AllByRecursion IsNoteOf (listed (note_undone start incoming k))

  all_forward : (kinds : List RowKind) → AllByRecursion IsKindOf kinds → AllByRecursion IsNoteOf (notes_forward start incoming kinds)
  all_forward [] all = tt
  all_forward (k ∷ ks) all = notes_then (listed (note_before start incoming k)) (notes_forward start incoming ks) all.0.before (all_forward ks all.1)

  unless_failed : (b : Bool) (notes : List Note) → AllByRecursion IsNoteOf notes → AllByRecursion IsNoteOf (cond b [] notes)
  unless_failed true notes all = tt
  unless_failed false notes all = all

  all_back : (row : ℕ) (kinds : List RowKind) (failed : List Failed) → AllByRecursion IsKindOf kinds → AllByRecursion IsNoteOf (notes_back start incoming row kinds failed)
  all_back row [] failed all = tt
  all_back row (k ∷ ks) failed all = notes_then (notes_back start incoming (row + 1) ks failed) _ (all_back (row + 1) ks failed all.1)
      (unless_failed (has_failed row (owner_of (own_of start incoming).name k) failed) (listed (note_undone start incoming k)) all.0.undone)

  kinds_then : (xs ys : List RowKind) → AllByRecursion IsKindOf xs → AllByRecursion IsKindOf ys → AllByRecursion IsKindOf (xs ++ ys)
  kinds_then [] ys first second = second
  kinds_then (x ∷ xs) ys first second = (first.0, kinds_then xs ys first.1 second)

  kinds_take : (n : ℕ) (kinds : List RowKind) → AllByRecursion IsKindOf kinds → AllByRecursion IsKindOf (take n kinds)
  kinds_take zero kinds all = tt
  kinds_take (suc n) [] all = tt
  kinds_take (suc n) (k ∷ ks) all = (all.0, kinds_take n ks all.1)

  kinds_drop : (n : ℕ) (kinds : List RowKind) → AllByRecursion IsKindOf kinds → AllByRecursion IsKindOf (drop n kinds)
  kinds_drop zero kinds all = all
  kinds_drop (suc n) [] all = tt
  kinds_drop (suc n) (k ∷ ks) all = kinds_drop n ks all.1

  all_at : (kinds : List RowKind) (place : Place) → AllByRecursion IsKindOf kinds → AllByRecursion IsNoteOf (notes_at start incoming kinds place)
  all_at kinds (Forward k) all = all_forward (take k kinds) (kinds_take k kinds all)
  all_at kinds (Ready k) all = all_forward (take (k + 1) kinds) (kinds_take (k + 1) kinds all)
  all_at kinds (Back k fall failed) all =
      let reached = kinds_take (fall.row + 1) kinds all in
      notes_then (notes_forward start incoming (take (fall.row + 1) kinds)) _ (all_forward (take (fall.row + 1) kinds) reached)
      (all_back k (drop k (take (fall.row + 1) kinds)) failed (kinds_drop k (take (fall.row + 1) kinds) reached))

-- with the record found, where there is one
module _ (names : List (List ℕ)) (own : List ℕ) (start : Option Record) (incoming : Record) (own_is : (own_of start incoming).name ≡ own)
    (found : (r : Record) → start ≡ Some r → IsKnown names own r) where
  before_known : (o : Option Record) → ((r : Record) → o ≡ Some r → IsKnown names own r) → IsNoteOf (IsKnown names own) start incoming (as_before start incoming o)
  before_known None so = tt
  before_known (Some r) so = so r refl

  kept_or_unpacked : (b : Bool) → IsNoteOf (IsKnown names own) start incoming (cond b (Put (unpacked (own_of start incoming))) (as_before start incoming start))
  kept_or_unpacked true = record { stands = refl; named = inr own_is }
  kept_or_unpacked false = before_known start found

  prerm_kind : IsKindOf (IsKnown names own) start incoming Prerm
  prerm_kind = record { before = (record { stands = refl; named = inr own_is }, tt); undone = (before_known start found, tt) }

  preinst_kind : IsKindOf (IsKnown names own) start incoming Preinst
  preinst_kind = record { before = (record { stands = refl; named = inr own_is }, tt); undone = (kept_or_unpacked (has_prerm (state_of start)), tt) }

  files_kind : IsKindOf (IsKnown names own) start incoming Files
  files_kind = record { before = tt; undone = tt }

  postrm_kind : IsKindOf (IsKnown names own) start incoming Postrm
  postrm_kind = record { before = tt; undone = tt }

  first_known : (b : Bool) → AllByRecursion (IsKindOf (IsKnown names own) start incoming) (first_kinds b)
  first_known true = (prerm_kind, tt)
  first_known false = tt

  last_known : (b : Bool) → AllByRecursion (IsKindOf (IsKnown names own) start incoming) (last_kinds b)
  last_known true = (preinst_kind, (files_kind, (postrm_kind, tt)))
  last_known false = (preinst_kind, (files_kind, tt))

  others_known : (others : List Record) → AllByRecursion (IsKnown names own) others → AllByRecursion (IsKindOf (IsKnown names own) start incoming) (map (λ r. Other r) others)
  others_known [] all = tt
  others_known (r ∷ rs) all = (record { before = (record { stands = refl; named = all.0.named }, tt); undone = (all.0, tt) }, others_known rs all.1)

  pub rows_known : (others table : List Record) (place : Place) → AllByRecursion (IsKnown names own) others → AllByRecursion (IsKnown names own) table → AllByRecursion (IsKnown names own) (noted table (notes_at start incoming (kinds_of start others) place))
  rows_known others table place each all =
      let s = state_of start in
      all_noted (IsKnown names own) start incoming (notes_at start incoming (kinds_of start others) place) table
      (all_at (IsKnown names own) start incoming (kinds_of start others) place
      (kinds_then (IsKnown names own) start incoming (first_kinds (has_prerm s)) (map (λ r. Other r) others ++ last_kinds (is_upgrade s)) (first_known (has_prerm s))
      (kinds_then (IsKnown names own) start incoming (map (λ r. Other r) others) (last_kinds (is_upgrade s)) (others_known others each) (last_known (is_upgrade s)))))
      all

-- the records that lose conffiles keep their names

all_without : (names : List (List ℕ)) (own : List ℕ) (ways : Ways) (places : List Path) (rs : List Record) → AllByRecursion (IsKnown names own) rs → AllByRecursion (IsKnown names own) (map (without_conffiles ways places) rs)
all_without names own ways places [] all = tt
all_without names own ways places (r ∷ rs) all = (record { stands = all.0.stands; named = all.0.named }, all_without names own ways places rs all.1)

pub found_known : (names : List (List ℕ)) (own : List ℕ) (rs : List Record) → AllByRecursion (IsKnown names own) rs → (q : List ℕ) (r : Record) → record_in rs q ≡ Some r → IsKnown names own r
found_known names own rs all q r is = all_found (IsKnown names own) rs q r all is

-- so is each that the table has
pub recorded_known : (names : List (List ℕ)) (own : List ℕ) (table others : List Record) → AreRecorded table others → AllByRecursion (IsKnown names own) table → AllByRecursion (IsKnown names own) others
recorded_known names own table [] recorded all = tt
recorded_known names own table (r ∷ rs) recorded all = (found_known names own table all r.name r recorded.0, recorded_known names own table rs recorded.1 all)

pub committed_known : (names : List (List ℕ)) (own : List ℕ) (ways : Ways) (places : List Path) (losing : List (List ℕ)) (table : List Record) (fresh : Record) → AllByRecursion (IsKnown names own) table → IsKnown names own fresh
    → AllByRecursion (IsKnown names own) (put_records (losing_records ways places losing table ++ fresh ∷ []) table)
committed_known names own ways places losing table fresh all here =
    all_puts (IsKnown names own) (losing_records ways places losing table ++ fresh ∷ []) table
    (all_then (IsKnown names own) (losing_records ways places losing table) (fresh ∷ []) (all_without names own ways places _ (all_filter (IsKnown names own) _ table all)) (here, tt)) all
