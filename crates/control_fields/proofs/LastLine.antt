-- The last field, with a line more or as before.
use Rattle.std.proofs.Common.{◌≡◌, ℕ, List, [], ◌∷◌, ◌++◌, Result, Ok, Err, OnOk, OnErr, sym, ap, ◌∙◌}
use Rattle.control_fields.specs.Names.{with_line, settled, settled_last, fields_of}
use Rattle.control_fields.specs.declared.field.Field.{Field}
use Rattle.control_fields.proofs.Keyed.{IsLastWritten}
use Rattle.control_fields.proofs.Again.{last_is}
use Rattle.control_fields.proofs.Settled.{settled_end}

-- with these lines
abbrev pub with_more : Field → List (List ℕ) → Field
with_more f more = record { name = f.name; first = f.first; more = more }

module _ {K T E : Type 0} (key : K → List ℕ) (es new : List (K × Field)) (f : Field) (more : List (List ℕ)) (all : List Field) (written : IsLastWritten key es new f (with_more f more)) (same : fields_of es ≡ all) where
  pub line_more : (result : Result T E) (text : List ℕ) → OnOk result (more ≡ f.more ++ text ∷ []) → OnOk result ((front : List Field) (last : Field) → all ≡ front ++ last ∷ [] → fields_of new ≡ front ++ with_line last text ∷ [])
  line_more (Ok x) text line = λ front last is.
      let grown : with_more f more ≡ with_line f text = (λ i. record { name = f.name; first = f.first; more = line i }) in
      written.after ∙ ap (λ (g : Field). written.front ++ g ∷ []) grown ∙ last_is written.front front f last (sym written.before ∙ same ∙ is) text
  line_more (Err e) text line = tt

  pub no_line_more : (result : Result T E) → OnErr result (more ≡ f.more) → OnErr result (fields_of new ≡ all)
  no_line_more (Ok x) line = tt
  no_line_more (Err e) line =
      let kept : with_more f more ≡ f = (λ i. record { name = f.name; first = f.first; more = line i }) in
      written.after ∙ ap (λ (g : Field). written.front ++ g ∷ []) kept ∙ sym written.before ∙ same

-- the last field whose value has ended
pub ends_last : {K T E : Type 0} (key : K → List ℕ) (es new : List (K × Field)) (f w : Field) (all : List Field) → IsLastWritten key es new f w → fields_of es ≡ all → (result : Result T E) → OnOk result (w ≡ settled f) → OnOk result (fields_of new ≡ settled_last all)
ends_last key es new f w all written same (Ok x) is =
    written.after ∙ ap (λ (g : Field). written.front ++ g ∷ []) is ∙ sym (settled_end written.front f) ∙ ap settled_last (sym written.before ∙ same)
ends_last key es new f w all written same (Err e) is = tt
