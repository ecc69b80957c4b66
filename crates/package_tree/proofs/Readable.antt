-- Paragraphs that were read.
use Rattle.std.proofs.Common.{ℕ, List, [], ◌∷◌, sym, subst, inl, inr}
use Rattle.control_fields.specs.Grammar.{ReadsOne, lines_of}
use Rattle.control_fields.specs.Spelling.{AreFields}
use Rattle.control_fields.specs.declared.field.Field.{Field}
use Rattle.control_fields.proofs.Written.{writable}

-- what is read can be written
pub one_written : (bytes : List ℕ) (p : List Field) → ReadsOne (lines_of bytes) p → AreFields [] p
one_written bytes p (inl reads) = (writable bytes (p ∷ []) reads).0.are
one_written bytes p (inr none) = subst (AreFields []) (sym none.1) tt
