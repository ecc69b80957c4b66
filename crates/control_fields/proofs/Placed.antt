-- Fields stand on their lines.
use Rattle.std.proofs.Common.{◌≡◌, ◌≤◌, ◌+◌, ℕ, zero, suc, List, [], ◌∷◌, ◌++◌, length, slice_get, Option, Some, None, refl, sym, ap, subst, ◌∙◌, append_assoc, inl, inr, arith}
use Rattle.std.specs.List.{AllByRecursion}
use Rattle.std.proofs.lemmas.List.{length-append}
use Rattle.control_fields.specs.Names.{settled_last, with_line, begin_line, line_of_field}
use Rattle.control_fields.specs.Grammar.{Reading, start, nothing, settled_at, closed, with_last, IsCut, field_of, Takes, Run, StandsOn, IsPlaced}
use Rattle.control_fields.specs.Faults.{IsReadTo}
use Rattle.control_fields.specs.declared.field.Field.{Field}
use Rattle.control_fields.specs.declared.located.Located.{Located}
use Rattle.control_fields.specs.declared.fault.ControlFault.{ControlFault}
use Rattle.control_fields.proofs.Settled.{ended_long, begin_settled}

-- fields one after another
abbrev pub ArePlaced : List (List ℕ) → ℕ → List Field → Type 0
ArePlaced ls line [] = Unit {0}
ArePlaced ls line (f ∷ fs) = StandsOn ls line f × ArePlaced ls (line + 1 + length f.more) fs

-- the line after them
abbrev pub line_after : ℕ → List Field → ℕ
line_after line [] = line
line_after line (f ∷ fs) = line_after (line + 1 + length f.more) fs

after_last : (line : ℕ) (fs : List Field) (f : Field) → line_after line (fs ++ f ∷ []) ≡ line_after line fs + 1 + length f.more
after_last line [] f = refl
after_last line (g ∷ fs) f = after_last (line + 1 + length g.more) fs f

stands_more : (ls rest : List (List ℕ)) (n : ℕ) (f : Field) → StandsOn ls n f → StandsOn (ls ++ rest) n f
stands_more ls rest n f s = record { before = s.before; bytes = s.bytes; after = s.after ++ rest; is = ap (λ (l : List (List ℕ)). l ++ rest) s.is ∙ append_assoc s.before (s.bytes ∷ s.after) rest; counted = s.counted; value = s.value; cut = s.cut }

placed_more : (ls rest : List (List ℕ)) (line : ℕ) (fs : List Field) → ArePlaced ls line fs → ArePlaced (ls ++ rest) line fs
placed_more ls rest line [] are = tt
placed_more ls rest line (f ∷ fs) are = (stands_more ls rest line f are.0, placed_more ls rest (line + 1 + length f.more) fs are.1)

all_more : (ls rest : List (List ℕ)) (d : List Located) → AllByRecursion (λ l. ArePlaced ls l.line l.paragraph) d → AllByRecursion (λ l. ArePlaced (ls ++ rest) l.line l.paragraph) d
all_more ls rest [] all = tt
all_more ls rest (l ∷ d) all = (placed_more ls rest l.line l.paragraph all.0, all_more ls rest d all.1)

add_placed : (ls : List (List ℕ)) (line : ℕ) (fs : List Field) (f : Field) → ArePlaced ls line fs → StandsOn ls (line_after line fs) f → ArePlaced ls line (fs ++ f ∷ [])
add_placed ls line [] f are s = (s, tt)
add_placed ls line (g ∷ fs) f are s = (are.0, add_placed ls (line + 1 + length g.more) fs f are.1 s)

line_placed : (ls : List (List ℕ)) (line : ℕ) (fs : List Field) (f : Field) (l : List ℕ) → ArePlaced ls line (fs ++ f ∷ []) → ArePlaced ls line (fs ++ with_line f l ∷ [])
line_placed ls line [] f l are = let s = are.0 in (record { before = s.before; bytes = s.bytes; after = s.after; is = s.is; counted = s.counted; value = s.value; cut = s.cut }, tt)
line_placed ls line (g ∷ fs) f l are = (are.0, line_placed ls (line + 1 + length g.more) fs f l are.1)

-- a paragraph whose last field has ended
settled_placed : (ls : List (List ℕ)) (line : ℕ) (fs : List Field) → ArePlaced ls line fs → ArePlaced ls line (settled_last fs)
settled_placed ls line [] are = tt
settled_placed ls line (f ∷ []) are = let s = are.0 in (record { before = s.before; bytes = s.bytes; after = s.after; is = s.is; counted = s.counted; value = s.value; cut = s.cut }, tt)
settled_placed ls line (f ∷ g ∷ fs) are = (are.0, settled_placed ls (line + 1 + length f.more) (g ∷ fs) are.1)

settled_after : (line : ℕ) (fs : List Field) → line_after line (settled_last fs) ≡ line_after line fs
settled_after line [] = refl
settled_after line (f ∷ []) = let h = ended_long f.more in omega (arith, h)
settled_after line (f ∷ g ∷ fs) = settled_after (line + 1 + length f.more) (g ∷ fs)

close_placed : (ls : List (List ℕ)) (d : List Located) (line : ℕ) (p : List Field) → AllByRecursion (λ l. ArePlaced ls l.line l.paragraph) d → ArePlaced ls line p → AllByRecursion (λ l. ArePlaced ls l.line l.paragraph) (with_last d (record { line = line; paragraph = p }))
close_placed ls d line [] all are = all
close_placed ls [] line (f ∷ p) all are = (settled_placed ls line (f ∷ p) are, tt)
close_placed ls (e ∷ d) line (f ∷ p) all are = (all.0, close_placed ls d line (f ∷ p) all.1 are)

-- a paragraph that is being read ends on the line before this one
abbrev pub IsNext : ℕ → ℕ → List Field → Type 0
IsNext n line [] = Unit {0}
IsNext n line (f ∷ fs) = line_after line (f ∷ fs) ≡ n

next_from : (n line : ℕ) (fs : List Field) (f : Field) → line_after line (fs ++ f ∷ []) ≡ n → IsNext n line (fs ++ f ∷ [])
next_from n line [] f e = e
next_from n line (g ∷ fs) f e = e

next_to : (n line : ℕ) (fs : List Field) (f : Field) → IsNext n line (fs ++ f ∷ []) → line_after line (fs ++ f ∷ []) ≡ n
next_to n line [] f e = e
next_to n line (g ∷ fs) f e = e

next_settled : (n line : ℕ) (fs : List Field) → IsNext n line fs → IsNext n line (settled_last fs)
next_settled n line [] e = tt
next_settled n line (f ∷ []) e = settled_after line (f ∷ []) ∙ e
next_settled n line (f ∷ g ∷ fs) e = settled_after line (f ∷ g ∷ fs) ∙ e

pub record Places (ls : List (List ℕ)) (s : Reading) : Type 0 where
  pub done : AllByRecursion (λ l. ArePlaced ls l.line l.paragraph) s.done
  pub begun : ArePlaced ls s.begun.line s.begun.paragraph
  pub next : IsNext (length ls + 1) s.begun.line s.begun.paragraph

here : (ls : List (List ℕ)) (l : List ℕ) (n : ℕ) (f : Field) (value : List ℕ) → n ≡ length ls + 1 → IsCut l f.name value → StandsOn (ls ++ l ∷ []) n f
here ls l n f value e cut = record { before = ls; bytes = l; after = []; is = refl; counted = e; value = value; cut = cut }

-- a new field, after the others
grown : (ls : List (List ℕ)) (l : List ℕ) (n line : ℕ) (p : List Field) (f : Field) → n ≡ length ls + 1 → f.more ≡ [] → ArePlaced ls line p → IsNext (length ls + 1) line p → StandsOn (ls ++ l ∷ []) n f
    → ArePlaced (ls ++ l ∷ []) (begin_line p line n) (p ++ f ∷ []) × IsNext (length (ls ++ l ∷ []) + 1) (begin_line p line n) (p ++ f ∷ [])
grown ls l n line [] f e none are next s = let m : length f.more ≡ 0 = ap length none in ((s, tt), omega (arith, e, m, length-append ls (l ∷ [])))
grown ls l n line (g ∷ p) f e none are next s =
    let m : length f.more ≡ 0 = ap length none in
    let a = after_last line (g ∷ p) f in
    let after : line_after line (g ∷ p) ≡ n = next ∙ sym e in (
      add_placed (ls ++ l ∷ []) line (g ∷ p) f (placed_more ls (l ∷ []) line (g ∷ p) are) (subst (λ (i : ℕ). StandsOn (ls ++ l ∷ []) i f) (sym after) s),
      next_from (length (ls ++ l ∷ []) + 1) line (g ∷ p) f (omega (arith, a, after, e, m, length-append ls (l ∷ []))),
    )

takes_places : (ls : List (List ℕ)) (n : ℕ) (l : List ℕ) (s t : Reading) → n ≡ length ls + 1 → Takes n l s t → Places ls s → Places (ls ++ l ∷ []) t
takes_places ls n l s t e takes is = elim takes.1 [
  | inl k ↦ subst (Places (ls ++ l ∷ [])) (sym k.to) (record {
    done = all_more ls (l ∷ []) (closed s) (close_placed ls s.done s.begun.line s.begun.paragraph is.done is.begun);
    begun = tt;
    next = tt;
  })
  | inr (inl k) ↦ (
      let are : ArePlaced ls s.begun.line (k.front ++ k.last ∷ []) = subst (ArePlaced ls s.begun.line) k.now is.begun in
      let old = next_to (length ls + 1) s.begun.line k.front k.last (subst (IsNext (length ls + 1) s.begun.line) k.now is.next) in
      let a = after_last s.begun.line k.front k.last in
      let b = after_last s.begun.line k.front (with_line k.last l) in
      let more = length-append k.last.more (l ∷ []) in
      subst (Places (ls ++ l ∷ [])) (sym k.to) (record {
        done = all_more ls (l ∷ []) s.done is.done;
        begun = placed_more ls (l ∷ []) s.begun.line (k.front ++ with_line k.last l ∷ []) (line_placed ls s.begun.line k.front k.last l are);
        next = next_from (length (ls ++ l ∷ []) + 1) s.begun.line k.front (with_line k.last l) (omega (arith, old, a, b, more, length-append ls (l ∷ [])));
      })
      )
  | inr (inr k) ↦ (
      let f = field_of k.name k.value in
      let before = settled_last s.begun.paragraph in
      let g = grown ls l n s.begun.line before f e refl (settled_placed ls s.begun.line s.begun.paragraph is.begun) (next_settled (length ls + 1) s.begun.line s.begun.paragraph is.next) (here ls l n f k.value e k.cut) in
      let line : begin_line before s.begun.line n ≡ begin_line s.begun.paragraph s.begun.line n = begin_settled s.begun.paragraph s.begun.line n in
      subst (Places (ls ++ l ∷ [])) (sym k.to) (record {
        done = all_more ls (l ∷ []) s.done is.done;
        begun = subst (λ (i : ℕ). ArePlaced (ls ++ l ∷ []) i (before ++ f ∷ [])) line g.0;
        next = subst (λ (i : ℕ). IsNext (length (ls ++ l ∷ []) + 1) i (before ++ f ∷ [])) line g.1;
      })
      )
]

run_places : (front ls : List (List ℕ)) (n : ℕ) (s t : Reading) → n ≡ length front + 1 → Run n ls s t → Places front s → Places (front ++ ls) t
run_places front [] n s t e run is = subst (Places (front ++ [])) (sym run) (record {
  done = all_more front [] s.done is.done;
  begun = placed_more front [] s.begun.line s.begun.paragraph is.begun;
  next = let same : length (front ++ []) + 1 ≡ length front + 1 = omega (arith, length-append front []) in subst (λ (i : ℕ). IsNext i s.begun.line s.begun.paragraph) (sym same) is.next;
})
run_places front (l ∷ ls) n s t e run is =
    subst (λ (x : List (List ℕ)). Places x t) (append_assoc front (l ∷ []) ls)
    (run_places (front ++ l ∷ []) ls (n + 1) run.0 t (omega (arith, e, length-append front (l ∷ []))) run.2 (takes_places front n l s run.0 e run.1 is))

pub places : (ls : List (List ℕ)) (t : Reading) → Run 1 ls start t → Places ls t
places ls t run = run_places [] ls 1 start t refl run (record { done = tt; begun = tt; next = tt })

-- field by field

placed_at : (ls : List (List ℕ)) (line : ℕ) (fs : List Field) (k : ℕ) (f : Field) → ArePlaced ls line fs → slice_get fs k ≡ Some f → StandsOn ls (line_of_field line fs k) f
placed_at ls line [] k f are e = absurd (cc e)
placed_at ls line (g ∷ fs) zero f are e = let same : g ≡ f = cc e in subst (StandsOn ls line) same are.0
placed_at ls line (g ∷ fs) (suc k) f are e = placed_at ls (line + 1 + length g.more) fs k f are.1 e

all_placed : (ls : List (List ℕ)) (d : List Located) → AllByRecursion (λ l. ArePlaced ls l.line l.paragraph) d → AllByRecursion (IsPlaced ls) d
all_placed ls [] all = tt
all_placed ls (l ∷ d) all = ((λ k f e. placed_at ls l.line l.paragraph k f all.0 e), all_placed ls d all.1)

whole_placed : (ls : List (List ℕ)) (paragraphs : List Located) (begun : Located) (s : Reading) → Places ls s → paragraphs ≡ closed s → begun ≡ nothing → AllByRecursion (IsPlaced ls) paragraphs × IsPlaced ls begun
whole_placed ls paragraphs begun s is e none = (
  subst (AllByRecursion (IsPlaced ls)) (sym e) (all_placed ls (closed s) (close_placed ls s.done s.begun.line s.begun.paragraph is.done is.begun)),
  subst (IsPlaced ls) (sym none) (λ k f h. absurd (cc h)),
)

front_placed : (ls front rest : List (List ℕ)) (s : Reading) → Places front s → ls ≡ front ++ rest → AllByRecursion (IsPlaced ls) s.done × IsPlaced ls (settled_at s.begun)
front_placed ls front rest s is e =
    subst (λ (x : List (List ℕ)). AllByRecursion (IsPlaced x) s.done × IsPlaced x (settled_at s.begun)) (sym e) (
      all_placed (front ++ rest) s.done (all_more front rest s.done is.done),
      λ k f h. placed_at (front ++ rest) s.begun.line (settled_last s.begun.paragraph) k f (settled_placed (front ++ rest) s.begun.line s.begun.paragraph (placed_more front rest s.begun.line s.begun.paragraph is.begun)) h,
    )

pub read_placed : (ls : List (List ℕ)) (paragraphs : List Located) (begun : Located) (fault : Option ControlFault) → IsReadTo ls paragraphs begun fault → AllByRecursion (IsPlaced ls) paragraphs × IsPlaced ls begun
read_placed ls paragraphs begun None is = whole_placed ls paragraphs begun is.0 (places ls is.0 is.1) is.2 is.3
read_placed ls paragraphs begun (Some fault) is =
    let m = front_placed ls is.1.front (is.1.bytes ∷ is.1.rest) is.0 (places is.1.front is.0 is.1.run) is.1.is in
    (subst (AllByRecursion (IsPlaced ls)) (sym is.2) m.0, subst (IsPlaced ls) (sym is.3) m.1)

-- a field's line is no earlier than the paragraph's
pub no_earlier : (line : ℕ) (fs : List Field) (k : ℕ) → line ≤ line_of_field line fs k
no_earlier line [] k = omega arith
no_earlier line (f ∷ fs) zero = omega arith
no_earlier line (f ∷ fs) (suc k) = let h = no_earlier (line + 1 + length f.more) fs k in omega (arith, h)

-- a field that stands before the one that is looked for ends no later than that one's line
pub ends_before : (total line left : ℕ) (it next : List Field) (f : Field) → total ≡ line_of_field line it left → it ≡ f ∷ next → (left ≡ 0 → ⊥) → line + 1 + length f.more ≤ total
ends_before total line zero it next f e is ne = absurd (ne refl)
ends_before total line (suc left) it next f e is ne =
    let step : total ≡ line_of_field (line + 1 + length f.more) next left = e ∙ ap (λ (l : List Field). line_of_field line l (suc left)) is in
    let h = no_earlier (line + 1 + length f.more) next left in omega (arith, step, h)
