-- Line after line.
use Rattle.std.proofs.Common.{◌≡◌, ◌+◌, ◌||◌, not, ℕ, Bool, true, false, cond, if◌then◌else◌, List, [], ◌∷◌, ◌++◌, sym, ap, append_assoc, arith}
use Rattle.std.specs.Prelude.{Result, Ok, Err}
use Rattle.std.specs.List.{flat_map, list_any, position_or_len}
use Rattle.std.proofs.lemmas.Bool.{true≢false}
use Rattle.std.proofs.lemmas.List.{append-nil}
use Rattle.trigger_interests.specs.Lines.{declarations_by, declarations_of, is_faulty, is_faulty_line, line_of}
use Rattle.trigger_interests.specs.declared.lines.Declaration.{Declaration}

abbrev found_in : List (List ℕ) → List Declaration
found_in lines = flat_map (λ line. declarations_by (line_of line)) lines

-- what lines declare behind what others did, where the first of them has this number
abbrev pub read_from : List Declaration → ℕ → List (List ℕ) → Result (List Declaration) ℕ
read_from before number lines = if list_any is_faulty_line lines then Err (number + position_or_len is_faulty_line lines) else Ok (before ++ found_in lines)

pub read_all : (lines : List (List ℕ)) → read_from [] 1 lines ≡ declarations_of lines
read_all lines = ap (λ (n : ℕ). if list_any is_faulty_line lines then Err n else Ok (found_in lines)) (omega arith)

-- one line before others, by what is known of them
good_by : (faulty others : Bool) (number first : ℕ) (before here more : List Declaration) → faulty ≡ false
    → (if others then Err (number + 1 + first) else Ok ((before ++ here) ++ more))
    ≡ (if faulty || others then Err (number + cond (not faulty) (1 + first) 0) else Ok (before ++ (here ++ more)))
good_by true others number first before here more e = absurd (true≢false e)
good_by false true number first before here more e = ap Err (omega arith)
good_by false false number first before here more e = ap Ok (append_assoc before here more)

-- a line that isn't faulty
pub good_line : (before : List Declaration) (number : ℕ) (line : List ℕ) (lines : List (List ℕ)) → is_faulty (line_of line) ≡ false
    → read_from (before ++ declarations_by (line_of line)) (number + 1) lines ≡ read_from before number (line ∷ lines)
good_line before number line lines good =
    good_by (is_faulty_line line) (list_any is_faulty_line lines) number (position_or_len is_faulty_line lines) before (declarations_by (line_of line)) (found_in lines) good

bad_by : (faulty others : Bool) (number first : ℕ) (found : List Declaration) → faulty ≡ true
    → (if faulty || others then Err (number + cond (not faulty) (1 + first) 0) else Ok found) ≡ Err number
bad_by true others number first found e = ap Err (omega arith)
bad_by false others number first found e = absurd (true≢false (sym e))

pub bad_line : (before : List Declaration) (number : ℕ) (line : List ℕ) (lines : List (List ℕ)) → is_faulty (line_of line) ≡ true
    → read_from before number (line ∷ lines) ≡ Err number
bad_line before number line lines bad =
    bad_by (is_faulty_line line) (list_any is_faulty_line lines) number (position_or_len is_faulty_line lines) (before ++ found_in (line ∷ lines)) bad

pub no_line : (before : List Declaration) (number : ℕ) → read_from before number [] ≡ Ok before
no_line before number = ap Ok (append-nil before)
