-- The lines of entries.
use Rattle.std.proofs.Common.{◌≡◌, ℕ, ◌+◌, ◌<◌, ◌≤◌, Bool, true, false, cond, nat_eq, List, [], ◌∷◌, ◌++◌, length, Option, Some, None, MatchOption, refl, sym, ap, subst, ◌∙◌, arith, append_assoc, length-append}
use Rattle.std.specs.List.{onto_first}
use Rattle.std.specs.Prelude.{nat_le, IfNone}
use Rattle.std.proofs.lemmas.Bool.{and_parts, leb-true}
use Rattle.texts.specs.PackageNames.{is_package_name}
use Rattle.diversions.specs.declared.entry.Owner.{Owner}
use Rattle.diversions.specs.declared.entry.Owner.TheVariants.{Local, Package}
use Rattle.diversions.specs.declared.entry.Diversion.{Diversion}
use Rattle.diversions.specs.Entries.{is_owner, IsEntry, IsTable}
use Rattle.diversions.specs.Lines.{lines_in, owner_line, entry_lines, lines_of, IsFirstFaulty}
use Rattle.diversions.proofs.Tables.{table_last}

-- a package's name is longer than a colon
long_name : (name : List ℕ) → is_package_name name ≡ true → 2 ≤ length name
long_name name is = leb-true 2 (length name) (and_parts (nat_le 2 (length name)) _ is).0

same_owner : (o p : Owner) → is_owner o ≡ true → is_owner p ≡ true → owner_line o ≡ owner_line p → o ≡ p
same_owner Local Local first second e = refl
same_owner (Package name) (Package other) first second e = ap Package e
same_owner Local (Package name) first second e = absurd (omega (arith, long_name name second, ap length e))
same_owner (Package name) Local first second e = absurd (omega (arith, long_name name first, ap length e))

-- three lines are those of one entry
pub same_entry : (d e : Diversion) → is_owner d.owner ≡ true → is_owner e.owner ≡ true → entry_lines d ≡ entry_lines e → d ≡ e
same_entry d e first second same =
    let path : d.path ≡ e.path = cc in
    let target : d.target ≡ e.target = cc in
    let owner : owner_line d.owner ≡ owner_line e.owner = cc in
    let by = same_owner d.owner e.owner first second owner in
    λ i. record { path = path i; target = target i; owner = by i }

pub lines_more : (entries : List Diversion) (d : Diversion) → lines_of (entries ++ d ∷ []) ≡ lines_of entries ++ entry_lines d
lines_more [] d = refl
lines_more (e ∷ entries) d = ap (λ (l : List (List ℕ)). e.path ∷ e.target ∷ owner_line e.owner ∷ l) (lines_more entries d)

-- an entry more was read
pub read_more : (text rest after : List ℕ) (entries new : List Diversion) (d : Diversion) (a b c : List ℕ) → lines_in text ≡ lines_of entries ++ lines_in rest → lines_in rest ≡ a ∷ b ∷ c ∷ lines_in after
    → entry_lines d ≡ a ∷ b ∷ c ∷ [] → new ≡ entries ++ d ∷ [] → lines_in text ≡ lines_of new ++ lines_in after
read_more text rest after entries new d a b c before cut is grown =
    before ∙ ap (λ (l : List (List ℕ)). lines_of entries ++ l) cut ∙ ap (λ (l : List (List ℕ)). lines_of entries ++ (l ++ lines_in after)) (sym is)
    ∙ sym (append_assoc (lines_of entries) (entry_lines d) (lines_in after)) ∙ ap (λ (l : List (List ℕ)). l ++ lines_in after) (sym (lines_more entries d))
    ∙ ap (λ (es : List Diversion). lines_of es ++ lines_in after) (sym grown)

pub count_more : (entries new : List Diversion) (d : Diversion) (number : ℕ) → number ≡ length (lines_of entries) + 1 → new ≡ entries ++ d ∷ [] → number + 3 ≡ length (lines_of new) + 1
count_more entries new d number before grown =
    let long : length (lines_of new) ≡ length (lines_of entries) + 3 =
    ap (λ (es : List Diversion). length (lines_of es)) grown ∙ ap length (lines_more entries d) ∙ length-append (lines_of entries) (entry_lines d) in
    omega (arith, before, long)

-- faults

some_line : (text : List ℕ) → 0 < length text → (line : List ℕ) × (more : List (List ℕ)) × (lines_in text ≡ line ∷ more)
some_line [] some = absurd (omega (arith, some))
some_line (b ∷ bs) some = at (nat_eq b 10) (lines_in bs)
  where
    at : (t : Bool) (l : List (List ℕ)) → (line : List ℕ) × (more : List (List ℕ)) × (cond t ([] ∷ l) (onto_first b l) ≡ line ∷ more)
    at true l = ([], l, refl)
    at false [] = (b ∷ [], [], refl)
    at false (x ∷ l) = (b ∷ x, l, refl)

pub first_faulty : (text rest : List ℕ) (entries : List Diversion) (number : ℕ) → lines_in text ≡ lines_of entries ++ lines_in rest → IsTable entries → 0 < length rest
    → ((d : Diversion) (more : List (List ℕ)) → lines_in rest ≡ entry_lines d ++ more → IsTable (entries ++ d ∷ []) → ⊥) → number ≡ length (lines_of entries) + 1 → IsFirstFaulty text number
first_faulty text rest entries number read table some faulty count =
    let first = some_line rest some in
    record {
      before = entries;
      line_there = first.0;
      more = first.1;
      lines = read ∙ ap (λ (l : List (List ℕ)). lines_of entries ++ l) first.2;
      table = table;
      faulty = λ d more is. faulty d more (first.2 ∙ is);
      count = count;
    }

-- three lines that are no entry
pub not_next : (rest after : List ℕ) (entries : List Diversion) (a b c : List ℕ) → lines_in rest ≡ a ∷ b ∷ c ∷ lines_in after → ((d : Diversion) → entry_lines d ≡ a ∷ b ∷ c ∷ [] → IsTable (entries ++ d ∷ []) → ⊥)
    → (d : Diversion) (more : List (List ℕ)) → lines_in rest ≡ entry_lines d ++ more → IsTable (entries ++ d ∷ []) → ⊥
not_next rest after entries a b c cut none d more is table =
    let all : a ∷ b ∷ c ∷ lines_in after ≡ entry_lines d ++ more = sym cut ∙ is in
    let path : d.path ≡ a = cc in
    let target : d.target ≡ b = cc in
    let owner : owner_line d.owner ≡ c = cc in
    none d (λ i. path i ∷ target i ∷ owner i ∷ []) table

pub no_entry : (o : Option Diversion) (P : Type 0) (Q : Diversion → Type 0) → o ≡ None → MatchOption o P Q → P
no_entry None P Q is holds = holds
no_entry (Some d) P Q is holds = absurd (let e : Some d ≡ None = is in cc)

pub an_entry : (o : Option Diversion) (d : Diversion) (P : Type 0) (Q : Diversion → Type 0) → o ≡ Some d → MatchOption o P Q → Q d
an_entry None d P Q is holds = absurd (let e : None ≡ Some d = is in cc)
an_entry (Some e) d P Q is holds = let same : e ≡ d = cc is in subst Q same holds

-- the entry of these lines is refused
pub refused_lines : (entries : List Diversion) (e : Diversion) (a b c : List ℕ) → IsEntry e → entry_lines e ≡ a ∷ b ∷ c ∷ [] → (IsTable (entries ++ e ∷ []) → ⊥)
    → (d : Diversion) → entry_lines d ≡ a ∷ b ∷ c ∷ [] → IsTable (entries ++ d ∷ []) → ⊥
refused_lines entries e a b c entry is not d same table =
    not (subst (λ x. IsTable (entries ++ x ∷ [])) (same_entry d e (table_last entries d table).is.owner entry.owner (same ∙ sym is)) table)

pub none_at : {A : Type 0} (o : Option A) (P : Type 0) → o ≡ None → IfNone o P → P
none_at None P is holds = holds
none_at (Some x) P is holds = absurd (let e : Some x ≡ None = is in cc)

-- lines are those of one table
pub same_table : (a b : List Diversion) → IsTable a → IsTable b → lines_of a ≡ lines_of b → a ≡ b
same_table [] [] first second e = refl
same_table [] (d ∷ b) first second e = absurd (let f : [] ≡ d.path ∷ d.target ∷ owner_line d.owner ∷ lines_of b = e in cc)
same_table (d ∷ a) [] first second e = absurd (let f : d.path ∷ d.target ∷ owner_line d.owner ∷ lines_of a ≡ [] = e in cc)
same_table (d ∷ a) (f ∷ b) first second e =
    let all : d.path ∷ d.target ∷ owner_line d.owner ∷ lines_of a ≡ f.path ∷ f.target ∷ owner_line f.owner ∷ lines_of b = e in
    let path : d.path ≡ f.path = cc in
    let target : d.target ≡ f.target = cc in
    let owner : owner_line d.owner ≡ owner_line f.owner = cc in
    let rest : lines_of a ≡ lines_of b = cc in
    let this = same_entry d f first.0.owner second.0.owner (λ i. path i ∷ target i ∷ owner i ∷ []) in
    let those = same_table a b first.3 second.3 rest in
    λ i. this i ∷ those i
