-- Which paths are texts.
use Rattle.std.proofs.Common.{◌≡◌, Bool, true, false, if◌then◌else◌, List, ℕ, Option, Some, None, refl, sym, ap, ◌∙◌}
use Rattle.std.specs.Str.{is_utf8, IsUtf8}
use Rattle.std.proofs.lemmas.Bool.{false_from_ne_true}
use Rattle.std.proofs.lemmas.Str.{IsUtf8-from_is_utf8, is_utf8-from_IsUtf8}
use Rattle.stat_overrides.specs.Lines.{is_listed, path_in}

listed : (path : List ℕ) (a b : Bool) → (is_listed path ≡ a) → is_utf8 path ≡ b → path_in path ≡ (if a then if b then Some path else None else None)
listed path a b e f = rw e rw f refl

pub text_path : (path text : List ℕ) → is_listed path ≡ true → IsUtf8 path → text ≡ path → Some text ≡ path_in path
text_path path text is utf8 same = ap (λ (p : List ℕ). Some p) same ∙ sym (listed path true true is (is_utf8-from_IsUtf8 path utf8))

pub no_text : (path : List ℕ) → is_listed path ≡ true → (IsUtf8 path → ⊥) → None ≡ path_in path
no_text path is bad = sym (listed path true false is (false_from_ne_true (is_utf8 path) (λ e. bad (IsUtf8-from_is_utf8 path e))))
