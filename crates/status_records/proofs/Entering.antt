-- Paragraphs read one after another.
use Rattle.std.proofs.Common.{◌≡◌, inl, inr, ℕ, zero, suc, ◌+◌, ◌<◌, true, false, cond, not, ◌||◌, List, [], ◌∷◌, ◌++◌, take, get_or, length, refl, sym, ap, subst, ◌∙◌, arith, add-one, codes}
use Rattle.std.specs.Prelude.{Result, Ok, Err, IfErr, IsErrAnd}
use Rattle.std.specs.List.{list_any, AllByRecursion}
use Rattle.std.specs.Str.{bytes_eq}
use Rattle.std.proofs.lemmas.Bool.{true≢false, false_from_ne_true, or_right}
use Rattle.std.proofs.lemmas.List.{append-nil, map-append}
use Rattle.std.proofs.lemmas.List.Folds.{list_any-append}
use Rattle.std.proofs.lemmas.Slice.Eq.{bytes_eq-Decides}
use Rattle.control_fields.specs.Grammar.{paragraphs_of}
use Rattle.control_fields.specs.declared.field.Field.{Field}
use Rattle.control_fields.specs.declared.located.Located.{Located}
use Rattle.status_records.specs.declared.record.Record.{Record}
use Rattle.status_records.specs.declared.reading.StatusFault.{StatusFault}
use Rattle.status_records.specs.declared.reading.StatusFault.TheVariants.{Line, NoMemory}
use Rattle.status_records.specs.Words.{is_not_installed}
use Rattle.status_records.specs.Records.{IsWithout, AreApart, standing}
use Rattle.status_records.specs.Values.{IsReadable}
use Rattle.status_records.specs.Paragraphs.{SaysEntry, IsEntry, Enters}
use Rattle.status_records.specs.Damage.{IsFaultyWhole}
use Rattle.status_records.specs.Faults.{IsEntryFault, IsTableFault}
use Rattle.status_records.proofs.Sayings.{says_same}

-- one paragraph

pub none_told : {T : Type 0} (Q : StatusFault → Type 0) → Q NoMemory → (r : Result T StatusFault) → IsErrAnd r (λ e. e ≡ NoMemory) → IfErr r Q
none_told Q told (Ok x) none = tt
none_told Q told (Err e) none = subst Q (sym none) told

pub entry_here : (names : List (List ℕ)) (fs : List Field) (name : List ℕ) (kept : List Record) → (IsFaultyWhole names fs → ⊥) → AllByRecursion IsReadable fs → SaysEntry fs name kept → IsEntry names fs name kept
entry_here names fs name kept sound readable says = record {
  says = says;
  new = false_from_ne_true (list_any (bytes_eq name) names) (λ t. sound (inr (inl (name, says.named, t))));
  readable = readable;
}

-- one after another

record IsSplit {X : Type 0} (xs : List X) (i : ℕ) (x : X) : Type 0 where
  rest : List X
  is : xs ≡ take i xs ++ x ∷ rest
  next : take (suc i) xs ≡ take i xs ++ x ∷ []

split_at : {X : Type 0} (xs : List X) (i : ℕ) (x : X) → i < length xs → x ≡ get_or xs i x → IsSplit xs i x
split_at [] i x lt e = absurd (omega arith)
split_at (y ∷ xs) zero x lt e = record { rest = xs; is = ap (λ z. z ∷ xs) (sym e); next = ap (λ z. z ∷ []) (sym e) }
split_at (y ∷ xs) (suc i) x lt e =
    let s = split_at xs i x (omega arith) e in
    record { rest = s.rest; is = ap (λ l. y ∷ l) s.is; next = ap (λ l. y ∷ l) s.next }

enters_last : (n : List (List ℕ)) (r : List Record) (ps : List (List Field)) (p : List Field) (names : List (List ℕ)) (records : List Record) (name : List ℕ) (kept : List Record) → Enters n r ps names records → IsEntry names p name kept
    → Enters n r (ps ++ p ∷ []) (names ++ name ∷ []) (records ++ kept)
enters_last n r [] p names records name kept run entry = (name, kept, subst (λ (l : List (List ℕ)). IsEntry l p name kept) run.0 entry, (ap (λ (l : List (List ℕ)). l ++ name ∷ []) run.0, ap (λ (l : List Record). l ++ kept) run.1))
enters_last n r (q ∷ ps) p names records name kept run entry =
    (run.0, run.1, run.2, enters_last (n ++ run.0 ∷ []) (r ++ run.1) ps p names records name kept run.3 entry)

pub enters_next : (ps : List Located) (i : ℕ) (l : Located) (names names' : List (List ℕ)) (records records' : List Record) (name : List ℕ) (kept : List Record) → i < length ps → l ≡ get_or ps i l → Enters [] [] (paragraphs_of (take i ps)) names records
    → IsEntry names l.paragraph name kept → names' ≡ names ++ name ∷ [] → records' ≡ records ++ kept → Enters [] [] (paragraphs_of (take (i + 1) ps)) names' records'
enters_next ps i l names names' records records' name kept lt e run entry names_are records_are =
    let s = split_at ps i l lt e in
    let taken : paragraphs_of (take (i + 1) ps) ≡ paragraphs_of (take i ps) ++ l.paragraph ∷ [] = ap (λ k. paragraphs_of (take k ps)) (add-one i) ∙ ap paragraphs_of s.next ∙ map-append (λ (x : Located). x.paragraph) (take i ps) (l ∷ []) in
    subst (λ (q : List (List Field)). Enters [] [] q names' records') (sym taken)
    (subst (λ (n : List (List ℕ)). Enters [] [] (paragraphs_of (take i ps) ++ l.paragraph ∷ []) n records') (sym names_are)
    (subst (Enters [] [] (paragraphs_of (take i ps) ++ l.paragraph ∷ []) (names ++ name ∷ [])) (sym records_are) (enters_last [] [] (paragraphs_of (take i ps)) l.paragraph names records name kept run entry)))

pub table_fault : (ps : List Located) (i : ℕ) (l : Located) (names : List (List ℕ)) (records : List Record) (fault : StatusFault) → i < length ps → l ≡ get_or ps i l → Enters [] [] (paragraphs_of (take i ps)) names records → IsEntryFault names l fault → IsTableFault ps fault
table_fault ps i l names records NoMemory lt e run is = tt
table_fault ps i l names records (Line line) lt e run is =
    let s = split_at ps i l lt e in
    record { front = take i ps; faulty = l; rest = s.rest; is = s.is; names = names; records = records; before = run; here = is }

-- the records are of different packages, none of them gone

abbrev AreKnown : List (List ℕ) → List Record → Type 0
AreKnown names rs = AllByRecursion (λ r. list_any (bytes_eq r.name) names ≡ true) rs

abbrev pub Stand : List Record → Type 0
Stand rs = AllByRecursion (λ r. is_not_installed r.state ≡ false) rs

all_last : (P : Record → Type 0) (rs : List Record) (r : Record) → AllByRecursion P rs → P r → AllByRecursion P (rs ++ r ∷ [])
all_last P [] r all here = (here, tt)
all_last P (q ∷ rs) r all here = (all.0, all_last P rs r all.1 here)

known_more : (names : List (List ℕ)) (name : List ℕ) (rs : List Record) → AreKnown names rs → AreKnown (names ++ name ∷ []) rs
known_more names name [] all = tt
known_more names name (r ∷ rs) all = (list_any-append (bytes_eq r.name) names (name ∷ []) ∙ ap (λ b. b || (bytes_eq r.name name || false)) all.0, known_more names name rs all.1)

known_last : (names : List (List ℕ)) (r : Record) → list_any (bytes_eq r.name) (names ++ r.name ∷ []) ≡ true
known_last names r = list_any-append (bytes_eq r.name) names (r.name ∷ []) ∙ ap (λ b. list_any (bytes_eq r.name) names || (b || false)) ((bytes_eq-Decides r.name r.name).1 refl) ∙ or_right (list_any (bytes_eq r.name) names) true refl

without_last : (name : List ℕ) (rs : List Record) (r : Record) → IsWithout name rs → bytes_eq r.name name ≡ false → IsWithout name (rs ++ r ∷ [])
without_last name [] r without other = (other, tt)
without_last name (q ∷ rs) r without other = (without.0, without_last name rs r without.1 other)

apart_last : (names : List (List ℕ)) (rs : List Record) (r : Record) → AreApart rs → AreKnown names rs → list_any (bytes_eq r.name) names ≡ false → AreApart (rs ++ r ∷ [])
apart_last names [] r apart known new = (tt, tt)
apart_last names (q ∷ rs) r apart known new = (
  without_last q.name rs r apart.0
      (false_from_ne_true (bytes_eq r.name q.name) (λ t. true≢false (sym known.0 ∙ ap (λ (n : List ℕ). list_any (bytes_eq n) names) (sym ((bytes_eq-Decides r.name q.name).0 t)) ∙ new))),
  apart_last names rs r apart.1 known.1 new,
)

pub record IsTable (names : List (List ℕ)) (rs : List Record) : Type 0 where
  pub known : AreKnown names rs
  pub apart : AreApart rs
  pub stand : Stand rs

entry_table : (names : List (List ℕ)) (rs : List Record) (p : List Field) (name : List ℕ) (kept : List Record) → IsEntry names p name kept → IsTable names rs → IsTable (names ++ name ∷ []) (rs ++ kept)
entry_table names rs p name kept entry table = elim entry.says.stands_for [
  | inl gone ↦ subst (λ (k : List Record). IsTable (names ++ name ∷ []) (rs ++ k)) (sym gone.1)
      (subst (IsTable (names ++ name ∷ [])) (sym (append-nil rs)) record { known = known_more names name rs table.known; apart = table.apart; stand = table.stand })
  | inr is ↦
      let same : name ≡ is.0.name = says_same (codes "package") p name is.0.name entry.says.named.0 is.1.name in
      let new : list_any (bytes_eq is.0.name) names ≡ false = ap (λ (n : List ℕ). list_any (bytes_eq n) names) (sym same) ∙ entry.new in
      subst (λ (k : List Record). IsTable (names ++ name ∷ []) (rs ++ k)) (sym is.2)
      (subst (λ (n : List ℕ). IsTable (names ++ n ∷ []) (rs ++ is.0 ∷ [])) (sym same) record {
        known = all_last (λ r. list_any (bytes_eq r.name) (names ++ is.0.name ∷ []) ≡ true) rs is.0 (known_more names is.0.name rs table.known) (known_last names is.0);
        apart = apart_last names rs is.0 table.apart table.known new;
        stand = all_last (λ r. is_not_installed r.state ≡ false) rs is.0 table.stand is.1.stands;
      })
]

entered_table : (names : List (List ℕ)) (rs : List Record) (ps : List (List Field)) (names' : List (List ℕ)) (rs' : List Record) → Enters names rs ps names' rs' → IsTable names rs → IsTable names' rs'
entered_table names rs [] names' rs' run table = subst (λ (n : List (List ℕ)). IsTable n rs') (sym run.0) (subst (IsTable names) (sym run.1) table)
entered_table names rs (p ∷ ps) names' rs' run table = entered_table (names ++ run.0 ∷ []) (rs ++ run.1) ps names' rs' run.3 (entry_table names rs p run.0 run.1 run.2 table)

pub read_table : (ps : List (List Field)) (names : List (List ℕ)) (rs : List Record) → Enters [] [] ps names rs → IsTable names rs
read_table ps names rs run = entered_table [] [] ps names rs run (record { known = tt; apart = tt; stand = tt })

pub all_standing : (rs : List Record) → Stand rs → standing rs ≡ rs
all_standing [] all = refl
all_standing (r ∷ rs) all = ap (λ b. cond (not b) (r ∷ standing rs) (standing rs)) all.0 ∙ ap (λ (l : List Record). r ∷ l) (all_standing rs all.1)
