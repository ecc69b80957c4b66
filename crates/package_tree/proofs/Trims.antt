-- Lines without the white space at their end.
use Rattle.std.proofs.Common.{◌≡◌, ◌≤◌, ◌+◌, ◌-◌, ℕ, zero, suc, Bool, true, false, cond, Option, Some, None, List, [], ◌∷◌, ◌++◌, drop, length, get_or, map, take, sym, ap, subst, refl, ◌∙◌, arith}
use Rattle.std.specs.List.{list_any, starts_with}
use Rattle.std.specs.Prelude.{◌||◌, nat_eq, codes}
use Rattle.std.specs.Str.{bytes_eq}
use Rattle.std.proofs.lemmas.Bool.{false≢true}
use Rattle.std.proofs.lemmas.List.{take_all, take_more}
use Rattle.std.proofs.lemmas.Slice.Eq.{bytes_eq-Decides}
use Rattle.control_fields.specs.Grammar.{lines_of}
use Rattle.control_fields.specs.Names.{is_blank, trim_end}
use Rattle.control_fields.specs.Names.{keep_before as keep_blank}
use Rattle.host_core.specs.declared.node.Node.{Node}
use Rattle.host_core.specs.declared.node.Node.TheVariants.{File, Dir, Link}
use Rattle.package_tree.specs.Conffiles.{is_white, keep_before, trimmed, entry_of, entries_at, flag, flag_and_blank}
use Rattle.package_tree.specs.LineNames.{is_named}
use Rattle.package_tree.specs.Package.{is_trimmed}
use Rattle.package_tree.specs.declared.conffile_lines.Entry.TheVariants as entry
use Rattle.package_tree.specs.declared.line_names.LineKind.{LineKind}
use Rattle.package_tree.specs.declared.line_names.LineKind.TheVariants.{Plain, Flagged}

split_last : (n : ℕ) (xs : List ℕ) → length xs ≡ n + 1 → xs ≡ take n xs ++ get_or xs n 0 ∷ []
split_last n xs e = sym (take_all (n + 1) xs (omega arith)) ∙ take_more xs n 0 (omega arith)

keep_front : (b c : ℕ) (xs : List ℕ) → keep_before b (xs ++ c ∷ []) ≡ b ∷ (xs ++ c ∷ [])
keep_front b c [] = refl
keep_front b c (x ∷ xs) = refl

stays : (xs : List ℕ) (b : ℕ) → is_white b ≡ false → trimmed (xs ++ b ∷ []) ≡ xs ++ b ∷ []
stays [] b e = ap (λ t. cond t [] (b ∷ [])) e
stays (x ∷ xs) b e = ap (keep_before x) (stays xs b e) ∙ keep_front x b xs

drops : (xs : List ℕ) (b : ℕ) → is_white b ≡ true → trimmed (xs ++ b ∷ []) ≡ trimmed xs
drops [] b e = ap (λ t. cond t [] (b ∷ [])) e
drops (x ∷ xs) b e = ap (keep_before x) (drops xs b e)

pub trimmed_more : (line : List ℕ) → 1 ≤ length line → is_white (get_or line (length line - 1) 0) ≡ true → trimmed (take (length line - 1) line) ≡ trimmed line
trimmed_more line some white =
    let e = split_last (length line - 1) line (omega arith) in
    sym (ap trimmed e ∙ drops (take (length line - 1) line) (get_or line (length line - 1) 0) white)

pub trimmed_all : (line : List ℕ) → 1 ≤ length line → is_white (get_or line (length line - 1) 0) ≡ false → line ≡ trimmed line
trimmed_all line some unwhite =
    let e = split_last (length line - 1) line (omega arith) in
    e ∙ sym (stays (take (length line - 1) line) (get_or line (length line - 1) 0) unwhite) ∙ ap trimmed (sym e)

-- what a line names ends in no blank

no_blank : (a b : Bool) (rest : Bool) → (a || (b || rest)) ≡ false → (a || b) ≡ false
no_blank true b rest e = e
no_blank false true rest e = e
no_blank false false rest e = refl

one_kept : (b : ℕ) (white : Bool) → is_white b ≡ white → trim_end (cond white [] (b ∷ [])) ≡ cond white [] (b ∷ [])
one_kept b true e = refl
one_kept b false e = ap (λ t. cond t [] (b ∷ [])) (no_blank (nat_eq b 32) (nat_eq b 9) (nat_eq b 12 || (nat_eq b 11 || nat_eq b 13)) e)

kept_before : (b : ℕ) (rest : List ℕ) → trim_end rest ≡ rest → trim_end (keep_before b rest) ≡ keep_before b rest
kept_before b [] e = one_kept b (is_white b) refl
kept_before b (c ∷ cs) e = ap (keep_blank b) e

white_trimmed : (line : List ℕ) → trim_end (trimmed line) ≡ trimmed line
white_trimmed [] = refl
white_trimmed (b ∷ bs) = kept_before b (trimmed bs) (white_trimmed bs)

abbrev rest_of : List ℕ → List ℕ
rest_of [] = []
rest_of (b ∷ bs) = bs

abbrev is_some_byte : List ℕ → Bool
is_some_byte [] = false
is_some_byte (b ∷ bs) = true

rest_kept : (b : ℕ) (bs kept : List ℕ) → trim_end bs ≡ kept → keep_blank b kept ≡ b ∷ bs → trim_end bs ≡ bs
rest_kept b bs [] e is = at (is_blank b) is
  where
    at : (blank : Bool) → cond blank [] (b ∷ []) ≡ b ∷ bs → trim_end bs ≡ bs
    at true w = absurd (apart w)
      where
        apart : [] ≡ b ∷ bs → ⊥
        apart h = false≢true (ap (λ (l : List ℕ). is_some_byte l) h)
    at false w = e ∙ ap rest_of w
rest_kept b bs (c ∷ cs) e is = e ∙ ap rest_of is

drop_trimmed : (n : ℕ) (l : List ℕ) → trim_end l ≡ l → trim_end (drop n l) ≡ drop n l
drop_trimmed zero l e = e
drop_trimmed (suc n) [] e = refl
drop_trimmed (suc n) (b ∷ bs) e = drop_trimmed n bs (rest_kept b bs (trim_end bs) refl e)

said_trimmed : (kind : LineKind) (q text : List ℕ) (a b c d : Bool) → trim_end text ≡ text → is_named kind q (cond a (entry.Plain text) (cond b (entry.Flagged []) (cond c (entry.Flagged (drop 18 text)) (cond d entry.Blank entry.Odd)))) ≡ true → trim_end q ≡ q
said_trimmed Plain q text true b c d e named = subst (λ (t : List ℕ). trim_end t ≡ t) ((bytes_eq-Decides text q).0 named) e
said_trimmed Plain q text false true c d e named = absurd (false≢true named)
said_trimmed Plain q text false false true d e named = absurd (false≢true named)
said_trimmed Plain q text false false false true e named = absurd (false≢true named)
said_trimmed Plain q text false false false false e named = absurd (false≢true named)
said_trimmed Flagged q text true b c d e named = absurd (false≢true named)
said_trimmed Flagged q text false true c d e named = subst (λ (t : List ℕ). trim_end t ≡ t) ((bytes_eq-Decides [] q).0 named) refl
said_trimmed Flagged q text false false true d e named = subst (λ (t : List ℕ). trim_end t ≡ t) ((bytes_eq-Decides (drop 18 text) q).0 named) (drop_trimmed 18 text e)
said_trimmed Flagged q text false false false true e named = absurd (false≢true named)
said_trimmed Flagged q text false false false false e named = absurd (false≢true named)

line_trimmed : (kind : LineKind) (q line : List ℕ) → is_named kind q (entry_of line) ≡ true → trim_end q ≡ q
line_trimmed kind q line named =
    let text = trimmed line in
    said_trimmed kind q text (starts_with nat_eq text (codes "/")) (bytes_eq text flag) (starts_with nat_eq text flag_and_blank) (bytes_eq text []) (white_trimmed line) named

lines_trimmed : (kind : LineKind) (q : List ℕ) (lines : List (List ℕ)) → list_any (is_named kind q) (map entry_of lines) ≡ true → trim_end q ≡ q
lines_trimmed kind q [] e = absurd (false≢true e)
lines_trimmed kind q (line ∷ lines) e = at (lines_trimmed kind q lines) (is_named kind q (entry_of line)) refl e
  where
    at : (list_any (is_named kind q) (map entry_of lines) ≡ true → trim_end q ≡ q) → (first : Bool) → is_named kind q (entry_of line) ≡ first → (first || list_any (is_named kind q) (map entry_of lines)) ≡ true → trim_end q ≡ q
    at rest true is h = line_trimmed kind q line is
    at rest false is h = rest h

pub named_trimmed : (kind : LineKind) (q : List ℕ) (node : Option Node) → list_any (is_named kind q) (entries_at node) ≡ true → is_trimmed q ≡ true
named_trimmed kind q node e = (bytes_eq-Decides (trim_end q) q).1 (at node e)
  where
    at : (node : Option Node) → list_any (is_named kind q) (entries_at node) ≡ true → trim_end q ≡ q
    at None h = absurd (false≢true h)
    at (Some (File bytes access)) h = lines_trimmed kind q (lines_of bytes) h
    at (Some (Dir access)) h = absurd (false≢true h)
    at (Some (Link target)) h = absurd (false≢true h)
