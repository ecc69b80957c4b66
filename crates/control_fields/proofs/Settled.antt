-- Values that have ended.
use Rattle.std.proofs.Common.{◌≡◌, ℕ, false, eqb, ◌||◌, List, [], ◌∷◌, ◌++◌, length, refl, sym, ap, ◌∙◌, arith}
use Rattle.std.specs.Str.{bytes_eq}
use Rattle.std.proofs.lemmas.Bool.{true≢false}
use Rattle.std.proofs.lemmas.List.{append-nil, length-append}
use Rattle.control_fields.specs.Names.{trim_end, ended, ended_first, settled, settled_last, lower, is_called, stands, begin_line}
use Rattle.control_fields.specs.Grammar.{with_last, settled_at, join_last}
use Rattle.control_fields.specs.declared.field.Field.{Field}
use Rattle.control_fields.specs.declared.located.Located.{Located}
use Rattle.control_fields.proofs.Trims.{end_parts, trim_end_again}

-- fields that are the same in each part
pub same_field : (name a b : List ℕ) (l m : List (List ℕ)) → a ≡ b → l ≡ m → (let f : Field = record { name = name; first = a; more = l } in f) ≡ (let g : Field = record { name = name; first = b; more = m } in g)
same_field name a b l m p q = λ i. record { name = name; first = p i; more = q i }

-- lines

pub ended_end : (front : List (List ℕ)) (l : List ℕ) → ended (front ++ l ∷ []) ≡ front ++ trim_end l ∷ []
ended_end [] l = refl
ended_end (x ∷ []) l = refl
ended_end (x ∷ y ∷ front) l = ap (λ (ls : List (List ℕ)). x ∷ ls) (ended_end (y ∷ front) l)

ended_again : (ls : List (List ℕ)) → ended (ended ls) ≡ ended ls
ended_again [] = refl
ended_again (l ∷ []) = ap (λ (t : List ℕ). t ∷ []) (trim_end_again l)
ended_again (l ∷ m ∷ []) = ap (λ (ls : List (List ℕ)). l ∷ ls) (ended_again (m ∷ []))
ended_again (l ∷ m ∷ k ∷ ls) = ap (λ (ls : List (List ℕ)). l ∷ ls) (ended_again (m ∷ k ∷ ls))

pub ended_long : (ls : List (List ℕ)) → length (ended ls) ≡ length ls
ended_long [] = refl
ended_long (l ∷ []) = refl
ended_long (l ∷ m ∷ ls) = let h = ended_long (m ∷ ls) in omega (arith, h)

-- what was taken off the end, and put back
pub put_back : (old front new : List (List ℕ)) (l kept : List ℕ) → old ≡ front ++ l ∷ [] → kept ≡ trim_end l → new ≡ front ++ kept ∷ [] → new ≡ ended old
put_back old front new l kept was is now =
    now ∙ ap (λ (t : List ℕ). front ++ t ∷ []) is ∙ sym (ended_end front l) ∙ sym (ap ended was)

-- nothing stands at the end that doesn't count
pub none_dropped : (bytes kept : List ℕ) → kept ≡ trim_end bytes → length kept ≡ length bytes → bytes ≡ trim_end bytes
none_dropped bytes kept is long = (end_parts bytes).1 ∙ ap (λ (t : List ℕ). trim_end bytes ++ t) (none (end_parts bytes).0 short) ∙ append-nil (trim_end bytes)
  where
    none : (v : List ℕ) → length v ≡ 0 → v ≡ []
    none [] h = refl
    none (x ∷ v) h = absurd (omega (arith, h))

    short : length (end_parts bytes).0 ≡ 0
    short =
        let e = end_parts bytes in
        let whole : length bytes ≡ length (trim_end bytes ++ e.0) = ap length e.1 in
        let same : length kept ≡ length (trim_end bytes) = ap length is in
        omega (arith, whole, same, long, length-append (trim_end bytes) e.0)

-- fields

pub settled_again : (f : Field) → settled (settled f) ≡ settled f
settled_again f = same_field f.name (ended_first (ended_first f.first f.more) (ended f.more)) (ended_first f.first f.more) (ended (ended f.more)) (ended f.more) (first_again f.more) (ended_again f.more)
  where
    first_again : (ls : List (List ℕ)) → ended_first (ended_first f.first ls) (ended ls) ≡ ended_first f.first ls
    first_again [] = trim_end_again f.first
    first_again (l ∷ []) = refl
    first_again (l ∷ m ∷ ls) = refl

pub settled_end : (front : List Field) (f : Field) → settled_last (front ++ f ∷ []) ≡ front ++ settled f ∷ []
settled_end [] f = refl
settled_end (x ∷ []) f = refl
settled_end (x ∷ y ∷ front) f = ap (λ (fs : List Field). x ∷ fs) (settled_end (y ∷ front) f)

pub called_settled : (text : List ℕ) (fs : List Field) → is_called text (settled_last fs) ≡ is_called text fs
called_settled text [] = refl
called_settled text (f ∷ []) = refl
called_settled text (f ∷ g ∷ fs) = ap (λ y. bytes_eq (lower f.name) text || y) (called_settled text (g ∷ fs))

pub stands_settled : (name : List ℕ) (fs : List Field) → stands name (settled_last fs) ≡ stands name fs
stands_settled name fs = called_settled (lower name) fs

pub begin_settled : (fs : List Field) (line number : ℕ) → begin_line (settled_last fs) line number ≡ begin_line fs line number
begin_settled [] line number = refl
begin_settled (f ∷ []) line number = refl
begin_settled (f ∷ g ∷ fs) line number = refl

-- a paragraph that ends

pub closes : (done : List Located) (was now : Located) → eqb (length was.paragraph) 0 ≡ false → now.line ≡ was.line → now.paragraph ≡ settled_last was.paragraph → done ++ now ∷ [] ≡ with_last done was
closes done was now some line paragraph = by was.paragraph some
  where
    same : now ≡ settled_at was
    same = λ i. record { line = line i; paragraph = paragraph i }

    by : (fs : List Field) → eqb (length fs) 0 ≡ false → done ++ now ∷ [] ≡ join_last done (settled_at was) fs
    by [] e = absurd (true≢false e)
    by (f ∷ fs) e = ap (λ (l : Located). done ++ l ∷ []) same
