-- The calls that undo rows, and what came of them.
use Rattle.std.proofs.Common.{◌≡◌, ◌⊎◌, inl, inr, ℕ, ◌+◌, Bool, true, false, not, List, [], ◌∷◌, ◌++◌, Contains, Some, map, refl, sym, ap, subst, ◌∙◌, arith}
use Rattle.std.proofs.lemmas.List.Elements.{Contains-append_left, Contains-push}
use Rattle.std.proofs.lemmas.List.{append-nil}
use Rattle.host_core.specs.Events.{Ran}
use Rattle.host_core.specs.Outcome.{is_success}
use Rattle.host_core.specs.declared.call.Call.{Call}
use Rattle.undo_rows.specs.declared.rows.Row.{Row}
use Rattle.undo_rows.specs.declared.rows.Owner.{Owner}
use Rattle.undo_rows.specs.declared.rows.Owner.TheVariants.{Package as OfPackage, Files}
use Rattle.undo_rows.specs.declared.failed.Failed.{Failed}
use Rattle.undo_rows.specs.Place.{blamed}
use Rattle.undo_rows.specs.Undoing.{Undoes, UndoesAt, UndoesAll, owners_of}
use Rattle.policy_page.specs.Answers.{Answer, answer_of, fails, works}
use Rattle.policy_page.proofs.Rows.{Are, joined, of_none, of_one, one, parted}

-- what is undone of a row: a call of this package's, or the files
pub data Undo : Type 0 where
  Calls : (undo : Call) → Undo
  Puts : Undo

-- how rows are undone: these calls have these answers, and these of them are failed
pub record End : Type 0 where
  pub answers : List Answer
  pub failed : List Failed

pub record Ends (e : End) (ts : List Ran) (failed : List Failed) : Type 0 where
  pub are : Are ts e.answers
  pub is : failed ≡ e.failed

abbrev pub Among : List End → List Ran → List Failed → Type 0
Among [] ts failed = ⊥
Among (e ∷ es) ts failed = Ends e ts failed ⊎ Among es ts failed

module _ (name : List ℕ) where
  abbrev pub own_failed : ℕ → List Failed
  own_failed k = record { row = k; owner = OfPackage name } ∷ []

  -- after such an end this row is undone
  abbrev pub after : ℕ → Call → List Answer → List Failed → List End
  after k undo answers [] = record { answers = answers ++ works undo ∷ []; failed = [] } ∷ record { answers = answers ++ fails undo ∷ []; failed = own_failed k } ∷ []
  after k undo answers (f ∷ fs) = record { answers = answers; failed = f ∷ fs } ∷ []

  abbrev pub after_each : ℕ → Undo → List End → List End
  after_each k u [] = []
  after_each k (Calls undo) (e ∷ es) = after k undo e.answers e.failed ++ after_each k (Calls undo) es
  after_each k Puts (e ∷ es) = e ∷ after_each k Puts es

  -- the ends that rows may have
  abbrev pub ends_of : ℕ → List Undo → List End
  ends_of k [] = record { answers = []; failed = [] } ∷ []
  ends_of k (u ∷ us) = after_each k u (ends_of (k + 1) us)

  -- a row with this undo
  pub data Has : Undo → Row → Type 0 where
    calls : (row : Row) (undo : Call) → row.owner ≡ OfPackage name → row.undo ≡ Some undo → Has (Calls undo) row
    puts : (row : Row) → row.owner ≡ Files → Has Puts row

  abbrev pub Have : List Undo → List Row → Type 0
  Have [] [] = Unit {0}
  Have [] (row ∷ rows) = ⊥
  Have (u ∷ us) [] = ⊥
  Have (u ∷ us) (row ∷ rows) = Has u row × Have us rows

  -- none is failed, or one of this package's
  abbrev Own : List Failed → Type 0
  Own [] = Unit {0}
  Own (f ∷ fs) = f.owner ≡ OfPackage name

  abbrev AllOwn : List End → Type 0
  AllOwn [] = Unit {0}
  AllOwn (e ∷ es) = Own e.failed × AllOwn es

  all_own-append : (es fs : List End) → AllOwn es → AllOwn fs → AllOwn (es ++ fs)
  all_own-append [] fs l r = r
  all_own-append (e ∷ es) fs l r = (l.0, all_own-append es fs l.1 r)

  own_after : (k : ℕ) (undo : Call) (answers : List Answer) (failed : List Failed) → Own failed → AllOwn (after k undo answers failed)
  own_after k undo answers [] own = (tt, (refl, tt))
  own_after k undo answers (f ∷ fs) own = (own, tt)

  own_after_each : (k : ℕ) (u : Undo) (es : List End) → AllOwn es → AllOwn (after_each k u es)
  own_after_each k u [] own = tt
  own_after_each k (Calls undo) (e ∷ es) own = all_own-append (after k undo e.answers e.failed) (after_each k (Calls undo) es) (own_after k undo e.answers e.failed own.0) (own_after_each k (Calls undo) es own.1)
  own_after_each k Puts (e ∷ es) own = (own.0, own_after_each k Puts es own.1)

  own_ends : (k : ℕ) (us : List Undo) → AllOwn (ends_of k us)
  own_ends k [] = (tt, tt)
  own_ends k (u ∷ us) = own_after_each k u (ends_of (k + 1) us) (own_ends (k + 1) us)

among-left : (es fs : List End) (ts : List Ran) (failed : List Failed) → Among es ts failed → Among (es ++ fs) ts failed
among-left (e ∷ es) fs ts failed (inl here) = inl here
among-left (e ∷ es) fs ts failed (inr later) = inr (among-left es fs ts failed later)
among-left [] fs ts failed none = absurd none

among-right : (es fs : List End) (ts : List Ran) (failed : List Failed) → Among fs ts failed → Among (es ++ fs) ts failed
among-right [] fs ts failed is = is
among-right (e ∷ es) fs ts failed is = inr (among-right es fs ts failed is)

among-either : (es fs : List End) (ts : List Ran) (failed : List Failed) → Among (es ++ fs) ts failed → Among es ts failed ⊎ Among fs ts failed
among-either [] fs ts failed is = inr is
among-either (e ∷ es) fs ts failed (inl here) = inl (inl here)
among-either (e ∷ es) fs ts failed (inr later) = elim (among-either es fs ts failed later) [ inl l ↦ inl (inr l) | inr r ↦ inr r ]

none_contained : (owner : Owner) → Contains [] owner → ⊥
none_contained owner has = absurd (omega (arith, has.1))

module _ (name : List ℕ) where
  lacks_none : (owner : Owner) → Contains (owners_of []) owner → ⊥
  lacks_none owner has = none_contained owner has

  has_first : (f : Failed) (fs : List Failed) (owner : Owner) → f.owner ≡ owner → Contains (owners_of (f ∷ fs)) owner
  has_first f fs owner same = Contains-append_left (f.owner ∷ []) (owners_of fs) owner (subst (Contains (f.owner ∷ [])) same (Contains-push [] f.owner))

  -- the calls of one row
  called_row : (row : Row) (undo : Call) → row.owner ≡ OfPackage name → row.undo ≡ Some undo → (ts : List Ran) (bad : Bool) → Undoes row [] ts bad → Are ts (record { call = undo; succeeds = not bad } ∷ [])
  called_row row undo of by ts bad (Undoes.put_back files) = cc
  called_row row undo of by ts bad (Undoes.absent own none) = cc
  called_row row undo of by ts bad (Undoes.spared own has) = absurd (lacks_none row.owner has)
  called_row row undo of by ts bad (Undoes.called t b own is lacks told) = one t undo (not bad) (cc) (not_back bad (is_success t.outcome) told)
    where
      not_back : (x y : Bool) → x ≡ not y → y ≡ not x
      not_back x true e = cc
      not_back x false e = cc

  calls_row : (row : Row) (undo : Call) → row.owner ≡ OfPackage name → row.undo ≡ Some undo → (ts : List Ran) (bad : Bool) → Are ts (record { call = undo; succeeds = not bad } ∷ []) → Undoes row [] ts bad
  calls_row row undo of by ts bad are =
      let t = of_one (record { call = undo; succeeds = not bad }) ts are in
      subst (λ l. Undoes row [] l bad) (sym t.1) (Undoes.called t.0 bad (λ files. cc) (by ∙ ap Some (sym t.2)) (lacks_none row.owner) (not_back bad (is_success t.0.outcome) t.3))
    where
      not_back : (x y : Bool) → y ≡ not x → x ≡ not y
      not_back true y e = sym (ap not e)
      not_back false y e = sym (ap not e)

  spared_row : (row : Row) (f : Failed) (fs : List Failed) → row.owner ≡ OfPackage name → f.owner ≡ OfPackage name → (ts : List Ran) (bad : Bool) → Undoes row (f ∷ fs) ts bad → (ts ≡ []) × (bad ≡ false)
  spared_row row f fs of same ts bad (Undoes.put_back files) = (refl, refl)
  spared_row row f fs of same ts bad (Undoes.absent own none) = (refl, refl)
  spared_row row f fs of same ts bad (Undoes.spared own has) = (refl, refl)
  spared_row row f fs of same ts bad (Undoes.called t b own is lacks told) = absurd (lacks (has_first f fs row.owner (same ∙ sym of)))

put_row : (row : Row) (failed : List Failed) → row.owner ≡ Files → (ts : List Ran) (bad : Bool) → Undoes row failed ts bad → (ts ≡ []) × (bad ≡ false)
put_row row failed files ts bad (Undoes.put_back is) = (refl, refl)
put_row row failed files ts bad (Undoes.absent own none) = absurd (own files)
put_row row failed files ts bad (Undoes.spared own has) = absurd (own files)
put_row row failed files ts bad (Undoes.called t b own is lacks told) = absurd (own files)

module _ (name : List ℕ) (k : ℕ) (row : Row) where
  module _ (undo : Call) (of : row.owner ≡ OfPackage name) (by : row.undo ≡ Some undo) where
    step : (answers : List Answer) (failed : List Failed) → Own name failed → (later own : List Ran) (now : List Failed) → Are later answers → UndoesAt k row failed own now → Among (after name k undo answers failed) (later ++ own) now
    step answers [] own later ts now are (true, one, is) =
        inr (inl (record { are = joined later ts _ _ are (called_row name row undo of by ts true one); is = is ∙ (λ i. record { row = k; owner = of i } ∷ []) }))
    step answers [] own later ts now are (false, one, is) = inl (record { are = joined later ts _ _ are (called_row name row undo of by ts false one); is = is })
    step answers (f ∷ fs) own later ts now are (bad, one, is) =
        let spared = spared_row name row f fs of own ts bad one in
        inl (record { are = ap (λ l. map answer_of (later ++ l)) spared.0 ∙ ap (map answer_of) (append-nil later) ∙ are; is = is ∙ ap (λ b. blamed b k row.owner (f ∷ fs)) spared.1 })

    unstep : (answers : List Answer) (failed : List Failed) → Own name failed → (ts : List Ran) (now : List Failed) → Among (after name k undo answers failed) ts now → (later own : List Ran) × (ts ≡ later ++ own) × Are later answers × UndoesAt k row failed own now
    unstep answers [] own ts now (inl e) =
        let parts = parted answers (works undo ∷ []) ts e.are in
        (parts.0, parts.1, parts.2, parts.3, (false, calls_row name row undo of by parts.1 false parts.4, e.is))
    unstep answers [] own ts now (inr (inl e)) =
        let parts = parted answers (fails undo ∷ []) ts e.are in
        (parts.0, parts.1, parts.2, parts.3, (true, calls_row name row undo of by parts.1 true parts.4, e.is ∙ sym (λ i. record { row = k; owner = of i } ∷ [])))
    unstep answers [] own ts now (inr (inr none)) = absurd none
    unstep answers (f ∷ fs) own ts now (inl e) = (ts, [], sym (append-nil ts), e.are, (false, Undoes.spared (λ files. cc) (has_first name f fs row.owner (own ∙ sym of)), e.is))
    unstep answers (f ∷ fs) own ts now (inr none) = absurd none

    each_step : (es : List End) → AllOwn name es → (later own : List Ran) (before now : List Failed) → Among es later before → UndoesAt k row before own now → Among (after_each name k (Calls undo) es) (later ++ own) now
    each_step [] all later ts before now none at = absurd none
    each_step (e ∷ es) all later ts before now (inl here) at =
        among-left (after name k undo e.answers e.failed) (after_each name k (Calls undo) es) (later ++ ts) now
        (step e.answers e.failed all.0 later ts now here.are (subst (λ l. UndoesAt k row l ts now) here.is at))
    each_step (e ∷ es) all later ts before now (inr there) at =
        among-right (after name k undo e.answers e.failed) (after_each name k (Calls undo) es) (later ++ ts) now
        (each_step es all.1 later ts before now there at)

    each_unstep : (es : List End) → AllOwn name es → (ts : List Ran) (now : List Failed) → Among (after_each name k (Calls undo) es) ts now → (later own : List Ran) × (before : List Failed) × (ts ≡ later ++ own) × Among es later before × UndoesAt k row before own now
    each_unstep [] all ts now none = absurd none
    each_unstep (e ∷ es) all ts now is = elim (among-either (after name k undo e.answers e.failed) (after_each name k (Calls undo) es) ts now is) [
      | inl here ↦ let s = unstep e.answers e.failed all.0 ts now here in (s.0, s.1, e.failed, s.2, inl (record { are = s.3; is = refl }), s.4)
      | inr there ↦ let s = each_unstep es all.1 ts now there in (s.0, s.1, s.2, s.3, inr s.4, s.5)
    ]

  module _ (files : row.owner ≡ Files) where
    put_step : (es : List End) (later own : List Ran) (before now : List Failed) → Among es later before → UndoesAt k row before own now → Among (after_each name k Puts es) (later ++ own) now
    put_step [] later ts before now none at = absurd none
    put_step (e ∷ es) later ts before now (inl here) (bad, one, is) =
        let put = put_row row before files ts bad one in
        inl (record { are = ap (λ l. map answer_of (later ++ l)) put.0 ∙ ap (map answer_of) (append-nil later) ∙ here.are; is = is ∙ ap (λ b. blamed b k row.owner before) put.1 ∙ here.is })
    put_step (e ∷ es) later ts before now (inr there) at = inr (put_step es later ts before now there at)

    put_unstep : (es : List End) (ts : List Ran) (now : List Failed) → Among (after_each name k Puts es) ts now → (later own : List Ran) × (before : List Failed) × (ts ≡ later ++ own) × Among es later before × UndoesAt k row before own now
    put_unstep [] ts now none = absurd none
    put_unstep (e ∷ es) ts now (inl here) = (ts, [], now, sym (append-nil ts), inl here, (false, Undoes.put_back files, refl))
    put_unstep (e ∷ es) ts now (inr there) = let s = put_unstep es ts now there in (s.0, s.1, s.2, s.3, inr s.4, s.5)

module _ (name : List ℕ) where
  step_by : (k : ℕ) (u : Undo) (row : Row) → Has name u row → (es : List End) → AllOwn name es → (later own : List Ran) (before now : List Failed) → Among es later before → UndoesAt k row before own now → Among (after_each name k u es) (later ++ own) now
  step_by k u row (Has.calls r undo of by) es all later own before now among at = each_step name k row undo of by es all later own before now among at
  step_by k u row (Has.puts r files) es all later own before now among at = put_step name k row files es later own before now among at

  unstep_by : (k : ℕ) (u : Undo) (row : Row) → Has name u row → (es : List End) → AllOwn name es → (ts : List Ran) (now : List Failed) → Among (after_each name k u es) ts now → (later own : List Ran) × (before : List Failed) × (ts ≡ later ++ own) × Among es later before × UndoesAt k row before own now
  unstep_by k u row (Has.calls r undo of by) es all ts now among = each_unstep name k row undo of by es all ts now among
  unstep_by k u row (Has.puts r files) es all ts now among = put_unstep name k row files es ts now among

  -- rows that are undone end so
  pub undone : (us : List Undo) (rows : List Row) (k : ℕ) → Have name us rows → (ts : List Ran) (failed : List Failed) → UndoesAll k rows ts failed → Among (ends_of name k us) ts failed
  undone [] [] k have ts failed all = inl (record { are = ap (map answer_of) all.0; is = all.1 })
  undone [] (row ∷ rows) k have ts failed all = absurd have
  undone (u ∷ us) [] k have ts failed all = absurd have
  undone (u ∷ us) (row ∷ rows) k have ts failed (later, own, before, is, rest, at) =
      subst (λ l. Among (ends_of name k (u ∷ us)) l failed) (sym is)
      (step_by k u row have.0 (ends_of name (k + 1) us) (own_ends name (k + 1) us) later own before failed (undone us rows (k + 1) have.1 later before rest) at)

  -- and may end so
  pub undoes : (us : List Undo) (rows : List Row) (k : ℕ) → Have name us rows → (ts : List Ran) (failed : List Failed) → Among (ends_of name k us) ts failed → UndoesAll k rows ts failed
  undoes [] [] k have ts failed (inl e) = (of_none ts e.are, e.is)
  undoes [] [] k have ts failed (inr none) = absurd none
  undoes [] (row ∷ rows) k have ts failed among = absurd have
  undoes (u ∷ us) [] k have ts failed among = absurd have
  undoes (u ∷ us) (row ∷ rows) k have ts failed among =
      let s = unstep_by k u row have.0 (ends_of name (k + 1) us) (own_ends name (k + 1) us) ts failed among in
      (s.0, s.1, s.2, s.3, undoes us rows (k + 1) have.1 s.0 s.2 s.4, s.5)

-- by cases
pub either_end : {P : Type 0} {e f : End} {ts : List Ran} {failed : List Failed} → (Ends e ts failed → P) → (Ends f ts failed → P) → Among (e ∷ f ∷ []) ts failed → P
either_end a b (inl is) = a is
either_end a b (inr (inl is)) = b is
either_end a b (inr (inr none)) = absurd none

pub three_ends : {P : Type 0} {e f g : End} {ts : List Ran} {failed : List Failed} → (Ends e ts failed → P) → (Ends f ts failed → P) → (Ends g ts failed → P) → Among (e ∷ f ∷ g ∷ []) ts failed → P
three_ends a b c (inl is) = a is
three_ends a b c (inr rest) = either_end b c rest

pub four_ends : {P : Type 0} {e f g h : End} {ts : List Ran} {failed : List Failed} → (Ends e ts failed → P) → (Ends f ts failed → P) → (Ends g ts failed → P) → (Ends h ts failed → P) → Among (e ∷ f ∷ g ∷ h ∷ []) ts failed → P
four_ends a b c d (inl is) = a is
four_ends a b c d (inr rest) = three_ends b c d rest
