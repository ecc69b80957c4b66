-- The text as a whole.
use Rattle.std.proofs.Common.{◌≡◌, inl, inr, ℕ, ◌+◌, ◌<◌, ◌≤◌, ◌^◌, Bool, true, false, cond, eqb, List, [], ◌∷◌, ◌++◌, length, Option, Some, None, sym, ap, subst, arith, length-append}
use Rattle.std.specs.List.{AllByRecursion, onto_first}
use Rattle.control_fields.specs.Grammar.{start, lines_of, paragraphs_of, IsPlaced}
use Rattle.control_fields.specs.Faults.{IsReadTo}
use Rattle.control_fields.specs.Spelling.{IsParagraph}
use Rattle.control_fields.specs.declared.located.Located.{Located}
use Rattle.control_fields.specs.declared.fault.ControlFault.{ControlFault}
use Rattle.control_fields.proofs.Placed.{read_placed}
use Rattle.control_fields.proofs.Written.{AreLines, run_written, closed_written, lines_are}
use Rattle.status_records.specs.declared.record.Record.{Record}
use Rattle.status_records.specs.declared.reading.StatusFault.{StatusFault}
use Rattle.status_records.specs.declared.reading.StatusFault.TheVariants.{Line, NoMemory}
use Rattle.status_records.specs.Records.{AreApart, standing}
use Rattle.status_records.specs.Paragraphs.{Enters}
use Rattle.status_records.specs.Damage.{HasLines}
use Rattle.status_records.specs.Faults.{IsSound, IsTableFault, IsEndFault, IsTextFault}
use Rattle.status_records.specs.Status.{IsStatus}
use Rattle.status_records.proofs.Entering.{read_table, all_standing}

-- lines can be counted

onto_length : (x : ℕ) (ls : List (List ℕ)) → length (onto_first x ls) ≤ length ls + 1
onto_length x [] = omega arith
onto_length x (l ∷ ls) = omega arith

cut_length : (b : Bool) (x : ℕ) (ls : List (List ℕ)) → length (cond b ([] ∷ ls) (onto_first x ls)) ≤ length ls + 1
cut_length true x ls = omega arith
cut_length false x ls = onto_length x ls

lines_length : (bytes : List ℕ) → length (lines_of bytes) ≤ length bytes + 1
lines_length [] = omega arith
lines_length (x ∷ bytes) = omega (arith, cut_length (eqb x 10) x (lines_of bytes), lines_length bytes)

placed_lines : (ls : List (List ℕ)) (l : Located) → length ls < 2 ^ 64 → IsPlaced ls l → HasLines l
placed_lines ls l few placed k f is = let s = placed k f is in omega (arith, few, s.counted, ap length s.is, length-append s.before (s.bytes ∷ s.after))

-- what was read can be written

front_lines : (front rest : List (List ℕ)) → AreLines (front ++ rest) → AreLines front
front_lines [] rest all = tt
front_lines (l ∷ front) rest all = (all.0, front_lines front rest all.1)

whole_written : (bytes : List ℕ) (ps : List Located) (begun : Located) (fault : Option ControlFault) → IsReadTo (lines_of bytes) ps begun fault → AllByRecursion IsParagraph (paragraphs_of ps)
whole_written bytes ps begun None is =
    subst (λ (l : List Located). AllByRecursion IsParagraph (paragraphs_of l)) (sym is.2) (closed_written is.0 (run_written 1 (lines_of bytes) start is.0 (lines_are bytes) is.1 (tt, tt)))
whole_written bytes ps begun (Some fault) is =
    let broken = is.1 in
    subst (λ (l : List Located). AllByRecursion IsParagraph (paragraphs_of l)) (sym is.2)
    (run_written 1 broken.front start is.0 (front_lines broken.front (broken.bytes ∷ broken.rest) (subst AreLines broken.is (lines_are bytes))) broken.run (tt, tt)).0

all_sound : (ls : List (List ℕ)) (ps : List Located) → length ls < 2 ^ 64 → AllByRecursion (IsPlaced ls) ps → AllByRecursion IsParagraph (paragraphs_of ps) → AllByRecursion IsSound ps
all_sound ls [] few placed written = tt
all_sound ls (l ∷ ps) few placed written = (record { lines = placed_lines ls l few placed.0; written = ∣ written.0.are ∣₁ }, all_sound ls ps few placed.1 written.1)

pub read_sound : (bytes : List ℕ) (ps : List Located) (begun : Located) (fault : Option ControlFault) → length bytes < 2 ^ 63 → IsReadTo (lines_of bytes) ps begun fault → AllByRecursion IsSound ps × HasLines begun
read_sound bytes ps begun fault short is =
    let few : length (lines_of bytes) < 2 ^ 64 = omega (arith, lines_length bytes, short) in
    let placed = read_placed (lines_of bytes) ps begun fault is in
    (all_sound (lines_of bytes) ps few placed.0 (whole_written bytes ps begun fault is), placed_lines (lines_of bytes) begun few placed.1)

-- the records of the text

status_read : (bytes : List ℕ) (ps : List Located) (begun : Located) (names : List (List ℕ)) (rs : List Record) → IsReadTo (lines_of bytes) ps begun None → Enters [] [] (paragraphs_of ps) names rs → IsStatus bytes rs
status_read bytes ps begun names rs is run = record {
  paragraphs = paragraphs_of ps;
  names = names;
  reads = (is.0, is.1, ap paragraphs_of is.2);
  enters = subst (λ (l : List Record). Enters [] [] (paragraphs_of ps) names l) (sym (all_standing rs (read_table (paragraphs_of ps) names rs run).stand)) run;
}

pub text_records : (bytes : List ℕ) (ps : List Located) (begun : Located) (fault : Option ControlFault) (names : List (List ℕ)) (rs : List Record) → IsReadTo (lines_of bytes) ps begun fault → fault ≡ None → Enters [] [] (paragraphs_of ps) names rs → ∥ IsStatus bytes rs ∥₁
text_records bytes ps begun fault names rs is whole run = ∣ status_read bytes ps begun names rs (subst (IsReadTo (lines_of bytes) ps begun) whole is) run ∣₁

pub text_apart : (ps : List Located) (names : List (List ℕ)) (rs : List Record) → Enters [] [] (paragraphs_of ps) names rs → AreApart rs
text_apart ps names rs run = (read_table (paragraphs_of ps) names rs run).apart

pub text_standing : (ps : List Located) (names : List (List ℕ)) (rs : List Record) → Enters [] [] (paragraphs_of ps) names rs → standing rs ≡ rs
text_standing ps names rs run = all_standing rs (read_table (paragraphs_of ps) names rs run).stand

-- its first faulty line

pub fault_among : (bytes : List ℕ) (ps : List Located) (begun : Located) (fault : Option ControlFault) (told : StatusFault) → IsReadTo (lines_of bytes) ps begun fault → IsTableFault ps told → IsTextFault bytes told
fault_among bytes ps begun fault NoMemory is told = tt
fault_among bytes ps begun fault (Line line) is told = record { paragraphs = ps; begun = begun; fault = fault; read = is; told = inl told }

pub fault_behind : (bytes : List ℕ) (ps : List Located) (begun : Located) (fault : Option ControlFault) (names : List (List ℕ)) (rs : List Record) (told : StatusFault) → IsReadTo (lines_of bytes) ps begun fault → Enters [] [] (paragraphs_of ps) names rs
    → IsEndFault begun fault told → IsTextFault bytes told
fault_behind bytes ps begun fault names rs NoMemory is run told = tt
fault_behind bytes ps begun fault names rs (Line line) is run told = record { paragraphs = ps; begun = begun; fault = fault; read = is; told = inr ((names, rs, run), told) }
