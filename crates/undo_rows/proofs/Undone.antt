-- How rows are undone one after another.
use Rattle.std.proofs.Common.{◌≡◌, ◌≢◌, ◌⊎◌, inl, inr, ℕ, ◌+◌, ◌<◌, ◌≤◌, Bool, true, false, not, List, [], ◌∷◌, ◌++◌, Contains, Option, Some, None, length, get_or, take, drop, refl, sym, ap, subst, ◌∙◌, arith, append_assoc, nat_eq, eq-eqb}
use Rattle.std.proofs.lemmas.List.Elements.{Contains-append_cases, Contains-append_left, Contains-append_right, Contains-push, Contains-push_cases}
use Rattle.std.proofs.lemmas.Slice.Eq.{bytes_eq-Decides}
use Rattle.std.proofs.lemmas.Bool.{true≢false}
use Rattle.std.proofs.lemmas.Bool.Decides.{eqb_tells}
use Rattle.std.proofs.lemmas.List.{append-nil, drop_all, length-take-le, take-append-drop}
use Rattle.std.specs.Str.{bytes_eq}
use Rattle.std.proofs.Math.Seq.{drop-cons}
use Rattle.std.proofs.Math.Numerals.{add-one}
use Rattle.host_core.specs.Events.{Ran}
use Rattle.host_core.specs.declared.call.Call.{Call}
use Rattle.undo_rows.specs.declared.rows.Row.{Row}
use Rattle.undo_rows.specs.declared.rows.Owner.{Owner}
use Rattle.undo_rows.specs.declared.rows.Owner.TheVariants.{Files, Package}
use Rattle.undo_rows.specs.Transcript.{UndoesAny, UndoesRow}
use Rattle.undo_rows.proofs.Makes.{killed}
use Rattle.undo_rows.specs.declared.failed.Failed.{Failed}
use Rattle.undo_rows.specs.Place.{blamed}
use Rattle.undo_rows.specs.Undoing.{Undoes, UndoesAt, UndoesAll, owners_of}
use Rattle.undo_rows.specs.Transcripts.{MayUndo, MayUnwind}

none_contained : (owner : Owner) → Contains [] owner → ⊥
none_contained owner has = absurd (omega (arith, has.1))

-- of two owners it is known whether they are the same
same_or : (b : Bool) (m n : List ℕ) → bytes_eq m n ≡ b → (Package m ≡ Package n) ⊎ (Package m ≡ Package n → ⊥)
same_or true m n is = inl (ap Package ((bytes_eq-Decides m n).0 is))
same_or false m n is = inr (λ same. true≢false (sym ((bytes_eq-Decides m n).1 (cc)) ∙ is))

owner_or : (a b : Owner) → (a ≡ b) ⊎ (a ≡ b → ⊥)
owner_or (Package m) (Package n) = same_or (bytes_eq m n) m n refl
owner_or (Package m) Files = inr (λ same. cc)
owner_or Files (Package n) = inr (λ same. cc)
owner_or Files Files = inl refl

-- and whether one is in a list
contained_or : (owners : List Owner) (owner : Owner) → Contains owners owner ⊎ (Contains owners owner → ⊥)
contained_or [] owner = inr (none_contained owner)
contained_or (one ∷ owners) owner = elim (owner_or one owner) [
  | inl same ↦ inl (Contains-append_left (one ∷ []) owners owner (subst (Contains (one ∷ [])) same (Contains-push [] one)))
  | inr other ↦ elim (contained_or owners owner) [
    | inl has ↦ inl (Contains-append_right (one ∷ []) owners owner has)
    | inr lacks ↦ inr (λ has. elim (Contains-append_cases (one ∷ []) owners owner has) [
      | inl at ↦ elim (Contains-push_cases [] one owner at) [ inl none ↦ none_contained owner none | inr same ↦ other same ]
      | inr later ↦ lacks later
    ])
  ]
]

-- the undo call that undo_rows makes, where no other has failed, is one where others have
pub undoes_told : (row : Row) (failed : List Failed) (owners : List Owner) (fails : Bool) → row.owner ≢ Files → (Contains (owners_of failed) row.owner → ⊥) → (owners ≡ [] → fails ≡ false) → (owners ≢ [] → fails ≡ true) → (ts : List Ran) → UndoesRow row [] ts owners → Undoes row failed ts fails
undoes_told row failed owners fails calls lacks none some ts (UndoesRow.absent o is) = subst (Undoes row failed []) (sym (none refl)) (Undoes.absent calls is)
undoes_told row failed owners fails calls lacks none some ts (UndoesRow.spared o has) = absurd (none_contained row.owner has)
undoes_told row failed owners fails calls lacks none some ts (UndoesRow.done o t is free good) = Undoes.called t fails calls is lacks (none refl ∙ ap not (sym good))
undoes_told row failed owners fails calls lacks none some ts (UndoesRow.failed o now t is free bad grown) = Undoes.called t fails calls is lacks (some (λ e. cc) ∙ ap not (sym bad))

may_undo_by : (row : Row) (failed : List Failed) (owner : Owner) (undo : Option Call) → row.owner ≡ owner → row.undo ≡ undo → (ts : List Ran) × MayUndo row failed ts
may_undo_by row failed Files undo of is = ([], (false, Undoes.put_back of))
may_undo_by row failed (Package name) None of is = ([], (false, Undoes.absent (λ files. cc) is))
may_undo_by row failed (Package name) (Some call) of is = elim (contained_or (owners_of failed) row.owner) [
  | inl has ↦ ([], (false, Undoes.spared (λ files. cc) has))
  | inr lacks ↦ (killed call ∷ [], (true, Undoes.called (killed call) true (λ files. cc) is lacks refl))
]

-- each row can be undone
pub may_undo : (row : Row) (failed : List Failed) → (ts : List Ran) × MayUndo row failed ts
may_undo row failed = may_undo_by row failed row.owner row.undo refl refl

module _ (rows : List Row) (i : ℕ) (row : Row) (within : i < length rows) (at : row ≡ get_or rows i row) where
  here : drop i rows ≡ row ∷ drop (i + 1) rows
  here = drop-cons rows i row within ∙ (λ j. sym at j ∷ drop (sym (add-one i) j) rows)

  -- the row before those that are undone is undone
  pub undoes_more : (before failed : List Failed) (ts own : List Ran) → UndoesAll (i + 1) (drop (i + 1) rows) ts before → UndoesAt i row before own failed → UndoesAll i (drop i rows) (ts ++ own) failed
  undoes_more before failed ts own later one = subst (λ l. UndoesAll i l (ts ++ own) failed) (sym here) (ts, own, before, refl, later, one)

  pub undoes_one_more : (before : List Failed) (ts own : List Ran) → UndoesAll (i + 1) (drop (i + 1) rows) ts before → MayUndo row before own → (now : List Failed) × UndoesAll i (drop i rows) (ts ++ own) now
  undoes_one_more before ts own later one = let now = blamed one.0 i row.owner before in (now, undoes_more before now ts own later (one.0, one.1, refl))

-- the undo call that undo_rows makes, however it ends
pub may_be_told : (row : Row) (failed : List Failed) → row.owner ≢ Files → (Contains (owners_of failed) row.owner → ⊥) → (ts : List Ran) → UndoesAny row [] ts → MayUndo row failed ts
may_be_told row failed calls lacks ts (now, one) = told_by now refl
  where
    told_by : (owners : List Owner) → now ≡ owners → MayUndo row failed ts
    told_by [] is = (false, undoes_told row failed now false calls lacks (λ e. refl) (λ ne. absurd (ne is)) ts one)
    told_by (o ∷ os) is = (true, undoes_told row failed now true calls lacks (λ e. cc) (λ ne. refl) ts one)

-- with the list that it leaves
pub undoes_at : (index : ℕ) (row : Row) (fails : Bool) (given failed now : List Failed) → given ≡ failed → now ≡ blamed fails index row.owner failed → (ts : List Ran) → Undoes row given ts fails → UndoesAt index row failed ts now
undoes_at index row fails given failed now same is ts one = (fails, subst (λ l. Undoes row l ts fails) same one, is)

-- where rows are undone, those before them can be
undoes_front : (index : ℕ) (front back : List Row) (ts : List Ran) (failed : List Failed) → UndoesAll (index + length front) back ts failed → (more : List Ran) × (now : List Failed) × UndoesAll index (front ++ back) (ts ++ more) now
undoes_front index [] back ts failed done = ([], failed, subst (λ l. UndoesAll index back l failed) (sym (append-nil ts)) (subst (λ n. UndoesAll n back ts failed) (omega arith) done))
undoes_front index (row ∷ front) back ts failed done =
    let rest = undoes_front (index + 1) front back ts failed (subst (λ n. UndoesAll n back ts failed) (omega arith) done) in
    let one = may_undo row rest.1 in
    let own = one.0 in (
      rest.0 ++ own,
      blamed one.1.0 index row.owner rest.1,
      (ts ++ rest.0, own, rest.1, sym (append_assoc ts rest.0 own), rest.2, (one.1.0, one.1.1, refl)),
    )

pub undoes_on : (rows : List Row) (i : ℕ) → i ≤ length rows → (failed : List Failed) (ts : List Ran) → UndoesAll i (drop i rows) ts failed → (more : List Ran) × MayUnwind rows (ts ++ more)
undoes_on rows i within failed ts done =
    let rest = undoes_front 0 (take i rows) (drop i rows) ts failed (subst (λ n. UndoesAll n (drop i rows) ts failed) (omega (arith, length-take-le i rows within)) done) in
    (rest.0, (rest.1, subst (λ l. UndoesAll 0 l (ts ++ rest.0) rest.1) (take-append-drop i rows) rest.2))

-- whether a list of owners is empty, as its length is tested
pub told_empty : (owners : List Owner) (n : ℕ) (empty : Bool) → n ≡ length owners → empty ≡ nat_eq n 0 → (owners ≡ [] → not empty ≡ false) × (owners ≢ [] → not empty ≡ true)
told_empty [] n empty long is = (λ e. ap not (is ∙ eq-eqb n 0 long), λ ne. absurd (ne refl))
told_empty (o ∷ os) n empty long is = (λ e. cc, λ ne. ap not (is ∙ some n (omega (arith, long))))
  where
    some : (m : ℕ) → m ≢ 0 → nat_eq m 0 ≡ false
    some m ne = elim (eqb_tells m 0) [ inl t ↦ absurd (ne t.1) | inr f ↦ f.0 ]

-- any rows can be undone
pub may_unwind : (rows : List Row) → (ts : List Ran) × MayUnwind rows ts
may_unwind rows =
    let all = undoes_front 0 rows [] [] [] (refl, refl) in
    (all.0, (all.1, subst (λ l. UndoesAll 0 l all.0 all.1) (append-nil rows) all.2))

-- none of them is undone yet
pub none_undone : (rows : List Row) (failed : List Failed) → failed ≡ [] → UndoesAll (length rows) (drop (length rows) rows) [] failed
none_undone rows failed none = subst (λ (l : List Row). UndoesAll (length rows) l [] failed) (sym (drop_all (length rows) rows (omega arith))) (refl, none)
