-- Names that can be cleared lie outside the administration.
use Rattle.std.proofs.Common.{◌≡◌, Bool, true, false, not, cond, List, [], ◌∷◌, codes, refl, sym, ap, ◌∙◌}
use Rattle.std.specs.Prelude.{◌||◌, ◌&&◌}
use Rattle.std.specs.Str.{bytes_eq}
use Rattle.std.proofs.lemmas.Bool.{true≢false, false_from_ne_true}
use Rattle.std.proofs.lemmas.Slice.Eq.{bytes_eq-Decides}
use Rattle.host_core.specs.Paths.{Path, is_path_text}
use Rattle.administration.specs.Places.{home_path, is_within}
use Rattle.file_removal.specs.Clearing.{is_among}
use Rattle.list_changes.specs.Clearable.{clearable, is_clearable}

pub not_both : (a b : Bool) → b ≡ true → a && not b ≡ false
not_both true b is = ap not is
not_both false b is = refl

spared : (a b c : Bool) → c ≡ true → a && not (b || c) ≡ true → ⊥
spared false b c within is = true≢false (sym is)
spared true true c within is = true≢false (sym is)
spared true false c within is = true≢false (sym is ∙ ap not within)

one_elsewhere : (n : Path) → is_clearable n ≡ true → (q : Path) → is_within home_path q ≡ true → bytes_eq q n ≡ false
one_elsewhere n is q within = false_from_ne_true (bytes_eq q n) (λ same.
    spared (is_path_text n) (bytes_eq n (codes "/")) (is_within home_path n) (ap (is_within home_path) (sym ((bytes_eq-Decides q n).0 same)) ∙ within) is)

pub clearable_elsewhere : (xs : List Path) (q : Path) → is_within home_path q ≡ true → is_among (clearable xs) q ≡ false
clearable_elsewhere [] q within = refl
clearable_elsewhere (x ∷ xs) q within = by (clearable_elsewhere xs q within) (is_clearable x) refl
  where
    by : is_among (clearable xs) q ≡ false → (b : Bool) → is_clearable x ≡ b → is_among (cond b (x ∷ clearable xs) (clearable xs)) q ≡ false
    by rest true is = ap (λ b. b || is_among (clearable xs) q) (one_elsewhere x is q within) ∙ rest
    by rest false is = rest
