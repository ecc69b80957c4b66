-- The records of packages that aren't gone.
use Rattle.std.proofs.Common.{◌≡◌, ℕ, ◌+◌, ◌<◌, Bool, true, false, cond, not, List, [], ◌∷◌, ◌++◌, map, take, get_or, length, sym, ap, subst, ◌∙◌}
use Rattle.std.specs.List.{AllByRecursion}
use Rattle.std.proofs.lemmas.List.{append-nil, map-append}
use Rattle.std.proofs.lemmas.List.Elements.{filter_more}
use Rattle.control_fields.proofs.Written.{add_all}
use Rattle.control_fields.specs.declared.field.Field.{Field}
use Rattle.status_records.specs.declared.record.Record.{Record}
use Rattle.status_records.specs.Words.{is_not_installed}
use Rattle.status_records.specs.Records.{standing}

standing_more : (rs : List Record) (i : ℕ) (r : Record) (b : Bool) → i < length rs → r ≡ get_or rs i r → is_not_installed r.state ≡ b → standing (take (i + 1) rs) ≡ standing (take i rs) ++ cond (not b) (r ∷ []) []
standing_more rs i r b lt e is =
    filter_more (λ r. not (is_not_installed r.state)) rs i r lt ∙ ap (λ (q : Record). standing (take i rs) ++ cond (not (is_not_installed q.state)) (q ∷ []) []) (sym e) ∙ ap (λ y. standing (take i rs) ++ cond (not y) (r ∷ []) []) is

pub standing_kept : (rs : List Record) (i : ℕ) (r : Record) → i < length rs → r ≡ get_or rs i r → is_not_installed r.state ≡ false → standing (take (i + 1) rs) ≡ standing (take i rs) ++ r ∷ []
standing_kept rs i r lt e is = standing_more rs i r false lt e is

pub standing_gone : (rs : List Record) (i : ℕ) (r : Record) → i < length rs → r ≡ get_or rs i r → is_not_installed r.state ≡ true → standing (take (i + 1) rs) ≡ standing (take i rs)
standing_gone rs i r lt e is = standing_more rs i r true lt e is ∙ append-nil (standing (take i rs))

pub written_more : (written : Record → List Field) (rs : List Record) (i : ℕ) (r : Record) (ps next : List (List Field)) (p : List Field) → i < length rs → r ≡ get_or rs i r → is_not_installed r.state ≡ false
    → ps ≡ map written (standing (take i rs)) → next ≡ ps ++ p ∷ [] → p ≡ written r → next ≡ map written (standing (take (i + 1) rs))
written_more written rs i r ps next p lt e is so_far n same =
    n ∙ ap (λ (l : List (List Field)). l ++ p ∷ []) so_far ∙ ap (λ (q : List Field). map written (standing (take i rs)) ++ q ∷ []) same ∙ sym (map-append written (standing (take i rs)) (r ∷ [])) ∙ ap (map written) (sym (standing_kept rs i r lt e is))

pub all_more : (P : Record → Type 0) (rs : List Record) (i : ℕ) (r : Record) → i < length rs → r ≡ get_or rs i r → is_not_installed r.state ≡ false → AllByRecursion P (standing (take i rs)) → P r → AllByRecursion P (standing (take (i + 1) rs))
all_more P rs i r lt e is all here = subst (AllByRecursion P) (sym (standing_kept rs i r lt e is)) (add_all P (standing (take i rs)) r all here)

pub paragraphs_same : (written : Record → List Field) (rs : List Record) (i : ℕ) (r : Record) (ps next : List (List Field)) → i < length rs → r ≡ get_or rs i r → is_not_installed r.state ≡ true
    → ps ≡ map written (standing (take i rs)) → next ≡ ps → next ≡ map written (standing (take (i + 1) rs))
paragraphs_same written rs i r ps next lt e is so_far n = n ∙ so_far ∙ ap (map written) (sym (standing_gone rs i r lt e is))

pub all_same : (P : Record → Type 0) (rs : List Record) (i : ℕ) (r : Record) → i < length rs → r ≡ get_or rs i r → is_not_installed r.state ≡ true → AllByRecursion P (standing (take i rs)) → AllByRecursion P (standing (take (i + 1) rs))
all_same P rs i r lt e is all = subst (AllByRecursion P) (sym (standing_gone rs i r lt e is)) all
