-- The record that the package has is of its name.
use Rattle.std.proofs.Common.{◌≡◌, ℕ, Bool, true, false, cond, List, [], ◌∷◌, Option, Some, refl, ap, ◌∙◌}
use Rattle.std.specs.Str.{bytes_eq}
use Rattle.std.proofs.lemmas.Slice.Eq.{bytes_eq-Decides}
use Rattle.status_records.specs.Records.{record_in}
use Rattle.status_records.specs.declared.record.Record.{Record}
use Rattle.unpack_rows.specs.Kinds.{own_of}

own_in : (records : List Record) (name : List ℕ) (incoming : Record) → incoming.name ≡ name → (own_of (record_in records name) incoming).name ≡ name
own_in [] name incoming named = named
own_in (r ∷ records) name incoming named = by (own_in records name incoming named) (bytes_eq r.name name) refl
  where
    by : (own_of (record_in records name) incoming).name ≡ name → (b : Bool) → bytes_eq r.name name ≡ b → (own_of (cond b (Some r) (record_in records name)) incoming).name ≡ name
    by rest true e = (bytes_eq-Decides r.name name).0 e
    by rest false e = rest

pub own_named : (records : List Record) (name : List ℕ) (found : Option Record) (incoming : Record) → found ≡ record_in records name → incoming.name ≡ name → (own_of found incoming).name ≡ name
own_named records name found incoming is named = ap (λ (f : Option Record). (own_of f incoming).name) is ∙ own_in records name incoming named
