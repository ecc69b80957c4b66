-- The first line that can't be read.
use Rattle.std.proofs.Common.{arith, ◌≡◌, ◌<◌, ◌≤◌, ◌∙◌, ◌∷◌, ◌&&◌, [], ℕ, zero, suc, Bool, true, false, List, Some, None, length, take, get_or, ap, map, if◌then◌else◌, refl}
use Rattle.std.specs.List.{list_all}
use Rattle.std.specs.Prelude.{option_map}
use denote.Ref.{Bor}
use Rattle.dpkg_words.specs.Options.{Text}
use Rattle.dpkg_words.specs.Selections.{bad_line, is_readable}

further : {P : Type 0} (b : Bool) (p q : P) → b ≡ false → (if b then p else q) ≡ q
further b p q e = rw e refl

taken : {P : Type 0} (b : Bool) (p q : P) → b ≡ true → (if b then p else q) ≡ p
taken b p q e = rw e refl

both : (a b : Bool) → (a && b) ≡ true → (a ≡ true) × (b ≡ true)
both true b e = (refl, e)
both false b e = absurd (let h : false ≡ true = e in cc)

-- all were looked at
pub none_bad : (lines : List (Bor Text)) (i : ℕ) → length lines ≤ i → list_all is_readable (map (λ t. t.now) (take i lines)) ≡ true → bad_line (map (λ t. t.now) lines) ≡ None
none_bad [] i whole all = refl
none_bad (x ∷ xs) zero whole all = absurd (omega (arith, whole))
none_bad (x ∷ xs) (suc i) whole all =
    let h = both (is_readable x.now) (list_all is_readable (map (λ t. t.now) (take i xs))) all in
    taken (is_readable x.now) _ _ h.0 ∙ ap (option_map (λ (n : ℕ). suc n)) (none_bad xs i (omega (arith, whole)) h.1)

-- behind lines that can be read stands one that can't
pub bad_at : (lines : List (Bor Text)) (i : ℕ) (d : Bor Text) → i < length lines → list_all is_readable (map (λ t. t.now) (take i lines)) ≡ true → is_readable (get_or lines i d).now ≡ false
    → bad_line (map (λ t. t.now) lines) ≡ Some (suc i)
bad_at [] i d within all bad = absurd (omega (arith, within))
bad_at (x ∷ xs) zero d within all bad = further (is_readable x.now) _ _ bad
bad_at (x ∷ xs) (suc i) d within all bad =
    let h = both (is_readable x.now) (list_all is_readable (map (λ t. t.now) (take i xs))) all in
    taken (is_readable x.now) _ _ h.0 ∙ ap (option_map (λ (n : ℕ). suc n)) (bad_at xs i d (omega (arith, within)) h.1 bad)
