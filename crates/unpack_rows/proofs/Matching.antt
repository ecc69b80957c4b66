-- Each row is of the owner that its kind says.
use Rattle.std.proofs.Common.{◌≡◌, ℕ, ◌<◌, zero, suc, Bool, true, false, cond, List, [], ◌∷◌, ◌++◌, Option, length, get_or, map, refl, sym, ap, ◌∙◌, arith}
use Rattle.undo_rows.specs.declared.rows.Row.{Row}
use Rattle.undo_rows.specs.declared.rows.Owner.TheVariants.{Package as OfPackage}
use Rattle.undo_rows.specs.Place.{Fit}
use Rattle.status_records.specs.declared.record.Record.{Record}
use Rattle.status_records.specs.declared.words.State.{State}
use Rattle.status_records.specs.declared.words.State.TheVariants as state
use Rattle.unpack_rows.specs.declared.kinds.RowKind.{RowKind}
use Rattle.unpack_rows.specs.declared.kinds.RowKind.TheVariants.{Other, Postrm}
use Rattle.unpack_rows.specs.declared.rows.OtherPackage.{OtherPackage}
use Rattle.unpack_rows.specs.declared.rows.Present.{Present}
use Rattle.unpack_rows.specs.ForwardRows.{AreOwn, Fits, files_row, others_rows, postrm_row, preinst_row, prerm_row, records_of, rows_of}
use Rattle.unpack_rows.specs.Kinds.{first_kinds, has_prerm, is_upgrade, kinds_of, last_kinds, own_of, owner_of, state_of}

-- kinds and rows side by side
abbrev Match : List ℕ → List RowKind → List Row → Type 0
Match name [] [] = Unit {0}
Match name [] (row ∷ rows) = ⊥
Match name (k ∷ ks) [] = ⊥
Match name (k ∷ ks) (row ∷ rows) = (row.owner ≡ owner_of name k) × Match name ks rows

match_append : (name : List ℕ) (ks more : List RowKind) (rows others : List Row) → Match name ks rows → Match name more others → Match name (ks ++ more) (rows ++ others)
match_append name [] more [] others m n = n
match_append name [] more (row ∷ rows) others m n = absurd m
match_append name (k ∷ ks) more [] others m n = absurd m
match_append name (k ∷ ks) more (row ∷ rows) others m n = (m.0, match_append name ks more rows others m.1 n)

match_length : (name : List ℕ) (ks : List RowKind) (rows : List Row) → Match name ks rows → length rows ≡ length ks
match_length name [] [] m = refl
match_length name [] (row ∷ rows) m = absurd m
match_length name (k ∷ ks) [] m = absurd m
match_length name (k ∷ ks) (row ∷ rows) m = ap suc (match_length name ks rows m.1)

match_at : (name : List ℕ) (ks : List RowKind) (rows : List Row) → Match name ks rows → (i : ℕ) (row : Row) → i < length rows → row ≡ get_or rows i row → Fits name ks i row
match_at name [] [] m i row within at = absurd (omega (arith, within))
match_at name [] (r ∷ rs) m i row within at = absurd m
match_at name (k ∷ ks) [] m i row within at = absurd m
match_at name (k ∷ ks) (r ∷ rs) m zero row within at = (omega arith, λ one is. ap (λ x. x.owner) at ∙ m.0 ∙ ap (owner_of name) (sym is))
match_at name (k ∷ ks) (r ∷ rs) m (suc i) row within at =
    let rest = match_at name ks rs m.1 i row (omega (arith, within)) at in
    (omega (arith, rest.0), rest.1)

others_match : (name : List ℕ) (os : List OtherPackage) → AreOwn os → Match name (map (λ r. Other r) (records_of os)) (others_rows os)
others_match name [] are = tt
others_match name (o ∷ os) are = (are.0, others_match name os are.1)

module _ (name old new : List ℕ) (stored tree : Present) where
  first_match : (b : Bool) → Match name (first_kinds b) (cond b (prerm_row name old new stored tree ∷ []) [])
  first_match true = (refl, tt)
  first_match false = tt

  preinst_owner : (s : State) → (preinst_row name old new stored tree s).owner ≡ OfPackage name
  preinst_owner state.NotInstalled = refl
  preinst_owner state.ConfigFiles = refl
  preinst_owner state.HalfInstalled = refl
  preinst_owner state.Unpacked = refl
  preinst_owner state.HalfConfigured = refl
  preinst_owner state.Installed = refl

  tail_match : (b : Bool) → Match name (cond b (Postrm ∷ []) []) (cond b (postrm_row name old new stored tree ∷ []) [])
  tail_match true = (refl, tt)
  tail_match false = tt

  last_match : (s : State) (b : Bool) → Match name (last_kinds b) (preinst_row name old new stored tree s ∷ files_row ∷ cond b (postrm_row name old new stored tree ∷ []) [])
  last_match s b = (preinst_owner s, (refl, tail_match b))

module _ (start : Option Record) (incoming : Record) (stored tree : Present) (others : List OtherPackage) where
  all_match : AreOwn others → Match (own_of start incoming).name (kinds_of start (records_of others)) (rows_of start incoming stored tree (others_rows others))
  all_match are =
      let own = own_of start incoming in
      let s = state_of start in
      match_append own.name (first_kinds (has_prerm s)) _ _ _ (first_match own.name own.version incoming.version stored tree (has_prerm s))
      (match_append own.name (map (λ r. Other r) (records_of others)) _ _ _ (others_match own.name others are) (last_match own.name own.version incoming.version stored tree s (is_upgrade s)))

  pub rows_fit : AreOwn others → Fit (Fits (own_of start incoming).name (kinds_of start (records_of others))) (rows_of start incoming stored tree (others_rows others))
  rows_fit are = match_at (own_of start incoming).name (kinds_of start (records_of others)) (rows_of start incoming stored tree (others_rows others)) (all_match are)

  rest_length : (own : List ℕ) (old : List ℕ) (s : State) (b : Bool) (os : List OtherPackage)
      → length (others_rows os ++ (preinst_row own old incoming.version stored tree s ∷ files_row ∷ cond b (postrm_row own old incoming.version stored tree ∷ []) []))
      ≡ length (map (λ r. Other r) (records_of os) ++ last_kinds b)
  rest_length own old s true [] = refl
  rest_length own old s false [] = refl
  rest_length own old s b (o ∷ os) = ap suc (rest_length own old s b os)

  pub as_many : length (rows_of start incoming stored tree (others_rows others)) ≡ length (kinds_of start (records_of others))
  as_many = by (has_prerm (state_of start))
    where
      by : (p : Bool) → length (cond p (prerm_row (own_of start incoming).name (own_of start incoming).version incoming.version stored tree ∷ []) []
          ++ (others_rows others ++ (preinst_row (own_of start incoming).name (own_of start incoming).version incoming.version stored tree (state_of start) ∷ files_row ∷ cond (is_upgrade (state_of start)) (postrm_row (own_of start incoming).name (own_of start incoming).version incoming.version stored tree ∷ []) [])))
          ≡ length (first_kinds p ++ (map (λ r. Other r) (records_of others) ++ last_kinds (is_upgrade (state_of start))))
      by true = ap suc (rest_length (own_of start incoming).name (own_of start incoming).version (state_of start) (is_upgrade (state_of start)) others)
      by false = rest_length (own_of start incoming).name (own_of start incoming).version (state_of start) (is_upgrade (state_of start)) others
