-- A paragraph has a field once.
use Rattle.std.proofs.Common.{◌≡◌, ℕ, false, List, [], ◌∷◌, ◌++◌, sym, ◌∙◌, ap, subst}
use Rattle.std.specs.Str.{bytes_eq}
use Rattle.std.proofs.lemmas.Bool.{true≢false, or_parts}
use Rattle.std.proofs.lemmas.Slice.Eq.{bytes_eq-Decides}
use Rattle.control_fields.specs.Names.{lower, is_called, IsFieldCalled}
use Rattle.control_fields.specs.declared.field.Field.{Field}
use Rattle.package_tree.specs.ControlFile.{key_of, IsGoodField, HasValue, HasBadValue, LacksField}
use Rattle.package_tree.specs.declared.fault.FieldName.{FieldName}

not_head : (text : List ℕ) (f : Field) (fs : List Field) → is_called text (f ∷ fs) ≡ false → lower f.name ≡ text → ⊥
not_head text f fs h named = true≢false (sym ((bytes_eq-Decides (lower f.name) text).1 named) ∙ (or_parts (bytes_eq (lower f.name) text) (is_called text fs) h).0)

tail_of : (text : List ℕ) (f : Field) (fs : List Field) → is_called text (f ∷ fs) ≡ false → is_called text fs ≡ false
tail_of text f fs h = (or_parts (bytes_eq (lower f.name) text) (is_called text fs) h).1

pub uncalled : (text : List ℕ) (front rest : List Field) (f : Field) → is_called text (front ++ f ∷ rest) ≡ false → lower f.name ≡ text → ⊥
uncalled text [] rest f h named = not_head text f rest h named
uncalled text (g ∷ front) rest f h named = uncalled text front rest f (tail_of text g (front ++ f ∷ rest) h) named

pub same_field : (text : List ℕ) (xs ys cs ds : List Field) (f g : Field) → xs ++ f ∷ cs ≡ ys ++ g ∷ ds → lower f.name ≡ text → lower g.name ≡ text → is_called text xs ≡ false → is_called text ys ≡ false → f ≡ g
same_field text [] [] cs ds f g e nf ng a b = cc e
same_field text [] (y ∷ ys) cs ds f g e nf ng a b = let head : f ≡ y = cc e in absurd (not_head text y ys b (ap (λ (x : Field). lower x.name) (sym head) ∙ nf))
same_field text (x ∷ xs) [] cs ds f g e nf ng a b = let head : x ≡ g = cc e in absurd (not_head text x xs a (ap (λ (z : Field). lower z.name) head ∙ ng))
same_field text (x ∷ xs) (y ∷ ys) cs ds f g e nf ng a b = let rest : xs ++ f ∷ cs ≡ ys ++ g ∷ ds = cc e in same_field text xs ys cs ds f g rest nf ng (tail_of text x xs a) (tail_of text y ys b)

pub called_once : (text : List ℕ) (fields : List Field) (f g : Field) → IsFieldCalled text fields f → IsFieldCalled text fields g → f ≡ g
called_once text fields f g one other = same_field text one.front other.front one.rest other.rest f g (sym one.is ∙ other.is) one.named other.named one.first other.first

pub lacked : (text : List ℕ) (fields : List Field) (f : Field) → IsFieldCalled text fields f → is_called text fields ≡ false → ⊥
lacked text fields f called h = uncalled text called.front called.rest f (subst (λ (l : List Field). is_called text l ≡ false) called.is h) called.named

pub one_value : (name : FieldName) (fields : List Field) (a b : List ℕ) → HasValue name fields a → HasValue name fields b → a ≡ b
one_value name fields a b one other = sym one.is ∙ ap (λ (f : Field). f.first) (called_once (key_of name) fields _ _ one.called other.called) ∙ other.is

pub not_bad : (name : FieldName) (fields : List Field) (value : List ℕ) → HasValue name fields value → HasBadValue name fields → ⊥
not_bad name fields value good bad = bad.bad (subst (IsGoodField name) (called_once (key_of name) fields _ _ good.called bad.called) good.good)

pub not_lacked : (name : FieldName) (fields : List Field) (value : List ℕ) → HasValue name fields value → LacksField name fields → ⊥
not_lacked name fields value good lacks = lacked (key_of name) fields good.field good.called lacks
