-- Records behind references, put in the order of their names.
use Rattle.std.proofs.Common.{◌≡◌, ℕ, ◌+◌, ◌-◌, ◌<◌, ◌≤◌, false, cond, List, ◌∷◌, ◌++◌, map, take, drop, length, get_or, ap, sym, ◌∙◌, arith, Bor}
use Rattle.std.specs.List.{insert}
use Rattle.std.specs.Ordering.{nat_cmp, is_lt}
use Rattle.std.specs.Cmp.Lexicographic.{slice_cmp}
use Rattle.std.proofs.lemmas.List.{map-append, take-map, drop-map, drop_more}
use Rattle.status_records.specs.declared.record.Record.{Record}
use Rattle.status_records.specs.Records.{place_record}
use Rattle.queries.specs.Asked.{by_name}

-- the records themselves
abbrev pub shown : List (Bor Record) → List Record
shown rs = map (λ r. r.now) rs

map-insert : (rs : List (Bor Record)) (i : ℕ) (x : Bor Record) → shown (take i rs) ++ x.now ∷ shown (drop i rs) ≡ insert (shown rs) i x.now
map-insert rs i x =
    ap (λ (l : List Record). l ++ x.now ∷ shown (drop i rs)) (sym (take-map (λ (r : Bor Record). r.now) i rs))
    ∙ ap (λ (l : List Record). take i (shown rs) ++ x.now ∷ l) (sym (drop-map (λ (r : Bor Record). r.now) i rs))

-- the next record is of no lesser name
pub stops : (r : Bor Record) (rs : List (Bor Record)) (i : ℕ) (x : Bor Record) → i < length rs → x ≡ get_or rs i x → is_lt (slice_cmp nat_cmp x.now.name r.now.name) ≡ false
    → place_record r.now (shown rs) ≡ shown (take i rs) ++ place_record r.now (shown (drop i rs)) → place_record r.now (shown rs) ≡ insert (shown rs) i r.now
stops r rs i x lt is behind so_far =
    let rest = shown (drop (i + 1) rs) in
    let left : drop i rs ≡ x ∷ drop (i + 1) rs = drop_more rs i x lt ∙ ap (λ (y : Bor Record). y ∷ drop (i + 1) rs) (sym is) in
    so_far
    ∙ ap (λ (l : List (Bor Record)). shown (take i rs) ++ place_record r.now (shown l)) left
    ∙ ap (λ b. shown (take i rs) ++ cond b (x.now ∷ place_record r.now rest) (r.now ∷ x.now ∷ rest)) behind
    ∙ ap (λ (l : List (Bor Record)). shown (take i rs) ++ r.now ∷ shown l) (sym left)
    ∙ map-insert rs i r

-- one record more, before those that stand in their order
pub one_more : (rs : List Record) (count : ℕ) (old new : List (Bor Record)) (at : ℕ) (x : Bor Record) → 0 < count → count ≤ length rs → x.now ≡ get_or rs (count - 1) x.now
    → shown old ≡ by_name (drop count rs) → place_record x.now (shown old) ≡ insert (shown old) at x.now → new ≡ insert old at x → shown new ≡ by_name (drop (count - 1) rs)
one_more rs count old new at x some within is so_far placed added =
    let left : drop (count - 1) rs ≡ x.now ∷ drop count rs =
    drop_more rs (count - 1) x.now (omega arith) ∙ ap (λ (y : Record). y ∷ drop (count - 1 + 1) rs) (sym is) ∙ ap (λ k. x.now ∷ drop k rs) (omega arith) in
    ap shown added ∙ map-append (λ (r : Bor Record). r.now) (take at old) (x ∷ drop at old) ∙ map-insert old at x ∙ sym placed ∙ ap (place_record x.now) so_far ∙ ap by_name (sym left)
