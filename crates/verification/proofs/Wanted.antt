-- The records that are verified, one after another.
use Rattle.std.proofs.Common.{◌≡◌, ℕ, ◌+◌, ◌<◌, Bool, true, false, cond, List, [], ◌∷◌, ◌++◌, length, get_or, take, refl, sym, ap, ◌∙◌}
use Rattle.std.specs.List.{flat_map}
use Rattle.std.proofs.lemmas.List.{append-nil, take_more}
use Rattle.std.proofs.lemmas.List.Elements.{filter-append}
use Rattle.std.proofs.lemmas.Grind.{flat_map-append}
use Rattle.status_records.specs.declared.record.Record.{Record}
use Rattle.verification.specs.Verified.{is_wanted, wanted}

-- one record more
pub wanted_more : (names : List (List ℕ)) (rs : List Record) (i : ℕ) (r : Record) → i < length rs → r ≡ get_or rs i r
    → wanted names (take (i + 1) rs) ≡ wanted names (take i rs) ++ cond (is_wanted names r.name) (r ∷ []) []
wanted_more names rs i r lt is =
    ap (wanted names) (take_more rs i r lt ∙ ap (λ (x : Record). take i rs ++ x ∷ []) (sym is)) ∙ filter-append (λ (x : Record). is_wanted names x.name) (take i rs) (r ∷ [])

pub wanted_here : (names : List (List ℕ)) (rs : List Record) (i : ℕ) (r : Record) → i < length rs → r ≡ get_or rs i r → is_wanted names r.name ≡ true → wanted names (take (i + 1) rs) ≡ wanted names (take i rs) ++ r ∷ []
wanted_here names rs i r lt is asked = wanted_more names rs i r lt is ∙ ap (λ b. wanted names (take i rs) ++ cond b (r ∷ []) []) asked

pub unwanted_here : (names : List (List ℕ)) (rs : List Record) (i : ℕ) (r : Record) → i < length rs → r ≡ get_or rs i r → is_wanted names r.name ≡ false → wanted names (take (i + 1) rs) ≡ wanted names (take i rs)
unwanted_here names rs i r lt is left = wanted_more names rs i r lt is ∙ ap (λ b. wanted names (take i rs) ++ cond b (r ∷ []) []) left ∙ append-nil (wanted names (take i rs))

-- a list of pieces, one piece more
pub piece_more : {X Y : Type 0} (f : X → List Y) (xs : List X) (x : X) → flat_map f (xs ++ x ∷ []) ≡ flat_map f xs ++ f x
piece_more f xs x = flat_map-append f xs (x ∷ []) ∙ ap (λ l. flat_map f xs ++ l) (append-nil (f x))
