-- The line of the field Architecture.
use Rattle.std.proofs.Common.{◌≡◌, ℕ, Bool, true, false, cond, Option, None, Some, Bor, List, [], ◌∷◌, ◌++◌, sym, refl, ap, ◌∙◌}
use Rattle.std.specs.Prelude.{IfSome, IfNone, codes, option_copied, option_and_then}
use Rattle.std.specs.Str.{bytes_eq}
use Rattle.std.proofs.lemmas.Bool.{or_parts}
use Rattle.std.proofs.lemmas.Slice.Eq.{bytes_eq-Decides}
use Rattle.control_fields.specs.Names.{lower, is_called, trim_end, IsFieldCalled}
use Rattle.control_fields.specs.declared.field.Field.{Field}
use Rattle.stated_relations.specs.Relations.{architecture_line}

line_found : (front : List Field) (f : Field) (rest : List Field) → lower f.name ≡ codes "architecture" → is_called (codes "architecture") front ≡ false → architecture_line (front ++ f ∷ rest) ≡ Some (trim_end f.first)
line_found [] f rest named none = ap (λ b. cond b (Some (trim_end f.first)) (architecture_line rest)) ((bytes_eq-Decides (lower f.name) (codes "architecture")).1 named)
line_found (g ∷ front) f rest named none =
    let parts = or_parts (bytes_eq (lower g.name) (codes "architecture")) (is_called (codes "architecture") front) none in
    ap (λ b. cond b (Some (trim_end g.first)) (architecture_line (front ++ f ∷ rest))) parts.0 ∙ line_found front f rest named parts.1

pub no_line : (fs : List Field) → is_called (codes "architecture") fs ≡ false → architecture_line fs ≡ None
no_line [] none = refl
no_line (g ∷ fs) none =
    let parts = or_parts (bytes_eq (lower g.name) (codes "architecture")) (is_called (codes "architecture") fs) none in
    ap (λ b. cond b (Some (trim_end g.first)) (architecture_line fs)) parts.0 ∙ no_line fs parts.1

pub line_is : (fs : List Field) (f : Field) → IsFieldCalled (codes "architecture") fs f → architecture_line fs ≡ Some (trim_end f.first)
line_is fs f called = ap architecture_line called.is ∙ line_found called.front f called.rest called.named called.first
