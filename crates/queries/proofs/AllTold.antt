-- What is told of packages, put together.
use Rattle.std.proofs.Common.{◌≡◌, ℕ, suc, Bool, false, List, [], ◌∷◌, ◌++◌, codes, length, nat_eq, inl, inr, refl, sym, ap, ◌∙◌, arith}
use Rattle.std.specs.List.{list_all}
use Rattle.std.proofs.lemmas.Bool.{cases_Bool, ne_eqb}
use Rattle.shown_lines.specs.Lines.{line, shown}
use Rattle.status_records.specs.declared.record.Record.{Record}
use Rattle.queries.specs.Asked.{asked, is_found, told_of, unfound_text}
use Rattle.queries.specs.declared.asked.Told.{Told}

pub is_told : (told : List Record → List ℕ) (patterns : List (List ℕ)) (records entries : List Record) (text front : List ℕ) (complete : Bool) → text ≡ front ++ told entries → front ≡ unfound_text patterns records
    → entries ≡ asked patterns records → complete ≡ list_all (is_found records) patterns → ◌≡◌ {A = Told} (record { text = text; complete = complete }) (told_of told patterns records)
is_told told patterns records entries text front complete added before are all =
    ap (λ (t : List ℕ). record { text = t; complete = complete }) (added ∙ ap (λ (f : List ℕ). f ++ told entries) before ∙ ap (λ (r : List Record). unfound_text patterns records ++ told r) are)
    ∙ ap (λ (b : Bool). record { text = unfound_text patterns records ++ told (asked patterns records); complete = b }) all

-- a line isn't empty
ended : (text rest : List ℕ) → nat_eq (length ((text ++ codes "\n") ++ rest)) 0 ≡ false
ended [] rest = ne_eqb (suc (length rest)) 0 (λ e. omega (arith, e))
ended (b ∷ bs) rest = ne_eqb (suc (length ((bs ++ codes "\n") ++ rest))) 0 (λ e. omega (arith, e))

line_there : (text rest : List ℕ) → nat_eq (length (line text ++ rest)) 0 ≡ false
line_there text rest = ended (shown text) rest

pub none_unfound : (patterns : List (List ℕ)) (records : List Record) → list_all (is_found records) patterns ≡ nat_eq (length (unfound_text patterns records)) 0
none_unfound [] records = refl
none_unfound (p ∷ ps) records = elim (cases_Bool (is_found records p)) [
  | inl found ↦ rw found (none_unfound ps records)
  | inr none ↦ rw none (sym (line_there (codes "refused " ++ (p ++ codes " Unknown")) (unfound_text ps records)))
]
