-- The sums of a package, looked up by their paths.
use Rattle.std.proofs.Common.{◌≡◌, ◌≢◌, ℕ, zero, suc, ◌<◌, Bool, true, false, cond, List, [], ◌∷◌, length, get_or, take, Option, Some, None, is_some, refl, sym, ap, subst, ◌∙◌, arith, Contains}
use Rattle.std.specs.Prelude.{◌&&◌, option_copied, option_map}
use Rattle.std.specs.Str.{bytes_eq}
use Rattle.std.proofs.lemmas.Bool.{true≢false, false_from_ne_true}
use Rattle.std.proofs.lemmas.Slice.Eq.{bytes_eq-Decides}
use denote.Ref.{Bor}
use Rattle.hex.specs.Hex.{encode_lower}
use Rattle.host_core.specs.Paths.{Path}
use Rattle.diversions.specs.Lines.{lines_in}
use Rattle.name_tables.specs.Order.{AreInOrder, IsBefore, names_of}
use Rattle.name_tables.specs.Tables.{put_value, value_in}
use Rattle.name_tables.proofs.Lookups.{value_in-put_value}
use Rattle.name_tables.proofs.Ordered.{found_here, found_later, passed_over}
use Rattle.name_tables.proofs.Searching.{order_at}
use Rattle.verification.specs.Sums.{is_sum, sum_in, summed_path}
use Rattle.verification.specs.Tables.{AreSums, IsSumOf, first_of, given}
use Rattle.verification.specs.declared.sums.Sum.{Sum}

abbrev pub path_of : Sum → List ℕ
path_of s = s.path

abbrev pub digest_of : Sum → List ℕ
digest_of s = encode_lower s.digest

-- the first of two

pub first_alone : (o : Option (List ℕ)) → first_of o None ≡ o
first_alone None = refl
first_alone (Some d) = refl

first_three : (a b c : Option (List ℕ)) → first_of (first_of a b) c ≡ first_of a (first_of b c)
first_three None b c = refl
first_three (Some d) b c = refl

-- one that comes in

pub added_first : (sums : List Sum) (s : Sum) → value_in path_of sums s.path ≡ None → (path : Path) → given (put_value path_of s sums) path ≡ first_of (given sums path) (given (s ∷ []) path)
added_first sums s none path = ap (option_map digest_of) (value_in-put_value path_of s sums path) ∙ at (bytes_eq s.path path) refl
  where
    at : (b : Bool) → bytes_eq s.path path ≡ b → option_map digest_of (cond b (Some s) (value_in path_of sums path)) ≡ first_of (given sums path) (option_map digest_of (cond b (Some s) None))
    at true e = sym (ap (λ (o : Option Sum). first_of (option_map digest_of o) (Some (digest_of s))) (ap (value_in path_of sums) (sym ((bytes_eq-Decides s.path path).0 e)) ∙ none))
    at false e = sym (first_alone (given sums path))

pub already_first : (sums : List Sum) (s : Sum) → is_some (value_in path_of sums s.path) ≡ true → (path : Path) → given sums path ≡ first_of (given sums path) (given (s ∷ []) path)
already_first sums s there path = at (bytes_eq s.path path) refl
  where
    stays : (o : Option Sum) (d : Option (List ℕ)) → is_some o ≡ true → option_map digest_of o ≡ first_of (option_map digest_of o) d
    stays None d is = absurd (true≢false (sym is))
    stays (Some x) d is = refl

    at : (b : Bool) → bytes_eq s.path path ≡ b → given sums path ≡ first_of (given sums path) (option_map digest_of (cond b (Some s) None))
    at true e = stays (value_in path_of sums path) (Some (digest_of s)) (ap (λ (p : Path). is_some (value_in path_of sums p)) (sym ((bytes_eq-Decides s.path path).0 e)) ∙ there)
    at false e = sym (first_alone (given sums path))

-- what a look-up told

pub told_there : (r : Option (Bor Sum)) (b : Bool) (o : Option Sum) → option_copied r ≡ o → b ≡ is_some r → b ≡ true → is_some o ≡ true
told_there None b o e told there = absurd (true≢false (sym there ∙ told))
told_there (Some m) b o e told there = ap is_some (sym e)

pub told_nowhere : (r : Option (Bor Sum)) (b : Bool) (o : Option Sum) → option_copied r ≡ o → b ≡ is_some r → b ≡ false → o ≡ None
told_nowhere None b o e told lacks = sym e
told_nowhere (Some m) b o e told lacks = absurd (true≢false (sym told ∙ lacks))

-- a line

pub line_sum : (line : List ℕ) (s : Sum) → IsSumOf line s → (path : Path) → given (s ∷ []) path ≡ sum_in (line ∷ []) path
line_sum line s is path =
    ap (λ (p : List ℕ). option_map digest_of (cond (bytes_eq p path) (Some s) None)) is.path ∙ at (bytes_eq (summed_path line) path)
    ∙ sym (ap (λ t. cond (t && bytes_eq (summed_path line) path) (Some (take 32 line)) None) is.is)
  where
    at : (b : Bool) → option_map digest_of (cond b (Some s) None) ≡ cond b (Some (take 32 line)) None
    at true = ap (λ (d : List ℕ). Some d) is.digest
    at false = refl

pub no_sum : (line : List ℕ) → is_sum line ≡ false → (o : Option (List ℕ)) (path : Path) → o ≡ first_of o (sum_in (line ∷ []) path)
no_sum line none o path = sym (ap (λ t. first_of o (cond (t && bytes_eq (summed_path line) path) (Some (take 32 line)) None)) none ∙ first_alone o)

first_line : (line : List ℕ) (lines : List (List ℕ)) (path : Path) → sum_in (line ∷ lines) path ≡ first_of (sum_in (line ∷ []) path) (sum_in lines path)
first_line line lines path = at (is_sum line && bytes_eq (summed_path line) path)
  where
    at : (b : Bool) → cond b (Some (take 32 line)) (sum_in lines path) ≡ first_of (cond b (Some (take 32 line)) None) (sum_in lines path)
    at true = refl
    at false = refl

-- line after line

pub more_lines : (old new : List Sum) (text rest line after : List ℕ) → lines_in rest ≡ line ∷ lines_in after → ((path : Path) → given new path ≡ first_of (given old path) (sum_in (line ∷ []) path))
    → ((path : Path) → first_of (given old path) (sum_in (lines_in rest) path) ≡ sum_in (lines_in text) path) → (path : Path) → first_of (given new path) (sum_in (lines_in after) path) ≡ sum_in (lines_in text) path
more_lines old new text rest line after cut added before path =
    ap (λ (o : Option (List ℕ)). first_of o (sum_in (lines_in after) path)) (added path) ∙ first_three (given old path) (sum_in (line ∷ []) path) (sum_in (lines_in after) path)
    ∙ ap (first_of (given old path)) (sym (first_line line (lines_in after) path) ∙ ap (λ (l : List (List ℕ)). sum_in l path) (sym cut)) ∙ before path

pub all_lines : (sums : List Sum) (text rest : List ℕ) → rest ≡ [] → ((path : Path) → first_of (given sums path) (sum_in (lines_in rest) path) ≡ sum_in (lines_in text) path) → AreSums (lines_in text) sums
all_lines sums text rest none before path =
    sym (ap (λ (l : List ℕ). first_of (given sums path) (sum_in (lines_in l) path)) none ∙ first_alone (given sums path)) ∙ before path

-- where the one of a path stands

pub value_there : (xs : List Sum) (name : List ℕ) (at : ℕ) (x : Sum) → AreInOrder path_of xs → at < length xs → x ≡ get_or xs at x → get_or (names_of path_of xs) at [] ≡ name → value_in path_of xs name ≡ Some x
value_there [] name at x order lt is e = absurd (omega (arith, lt))
value_there (y ∷ ys) name zero x order lt is e = found_here path_of ys y name e ∙ ap (λ (s : Sum). Some s) (sym is)
value_there (y ∷ ys) name (suc i) x order lt is e =
    let before : IsBefore y.path name = subst (IsBefore y.path) e (order_at path_of (y ∷ ys) 0 (suc i) order (omega arith) lt) in
    found_later path_of name y ys before ∙ value_there ys name i x order.1 (omega (arith, lt)) is e

pub value_nowhere : (xs : List Sum) (name : List ℕ) → (Contains (names_of path_of xs) name → ⊥) → value_in path_of xs name ≡ None
value_nowhere [] name none = refl
value_nowhere (y ∷ ys) name none =
    passed_over path_of ys y name (λ same. none (zero, omega arith, same)) ∙ value_nowhere ys name (λ has. none (suc has.0, omega (arith, has.1), has.2))
