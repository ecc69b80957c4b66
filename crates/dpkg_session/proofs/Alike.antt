-- Records that are written alike are the same; and which copied records are those of now.
use Rattle.std.specs.Prelude.{MatchBool, IfSome}
use Rattle.std.specs.Bool.{Decides}
use Rattle.std.specs.List.{AllByRecursion}
use Rattle.std.proofs.Common.{◌≡◌, ◌+◌, ◌<◌, ℕ, Bool, true, false, not, cond, List, [], ◌∷◌, ◌++◌, Option, Some, get_or, length, map, take, refl, sym, ap, subst, ◌∙◌, arith}
use Rattle.std.specs.Str.{bytes_eq}
use Rattle.std.proofs.Props.{props}
use Rattle.std.proofs.Math.Logic.{∥∥₁_elim}
use Rattle.std.proofs.lemmas.Bool.{true≢false}
use Rattle.std.proofs.lemmas.List.{get_or-map, length-map, take_more}
use Rattle.std.proofs.lemmas.Slice.Eq.{bytes_eq-Decides}
use Rattle.opening.proofs.OneTable.{one_text}
use Rattle.status_records.specs.Paragraphs.{record_text}
use Rattle.status_records.specs.Records.{record_in, standing}
use Rattle.status_records.specs.Status.{IsStatus}
use Rattle.status_records.specs.Words.{is_not_installed}
use Rattle.status_records.specs.declared.record.Record.{Record}
use Rattle.unit_reports.specs.Units.{touched_at}
use Rattle.unit_reports.specs.declared.report.Touched.{Touched}
use Rattle.dpkg_session.specs.Touched.{AreUnchanged}
use Rattle.dpkg_session.proofs.Touching.{unchanged_more}

stands_alone : (r : Record) → is_not_installed r.state ≡ false → standing (r ∷ []) ≡ r ∷ []
stands_alone r stands = ap (λ b. cond (not b) (r ∷ []) []) stands

one_record : (text : List ℕ) (a b : Record) → is_not_installed a.state ≡ false → is_not_installed b.state ≡ false → IsStatus text (a ∷ []) → IsStatus text (b ∷ []) → a ≡ b
one_record text a b first second is also =
    let same : a ∷ [] ≡ b ∷ [] = sym (stands_alone a first) ∙ one_text text (a ∷ []) (b ∷ []) is also ∙ stands_alone b second in
    cc same

pub same_written : (before now : Record) (first second : List ℕ) (same : Bool) → is_not_installed before.state ≡ false → is_not_installed now.state ≡ false → first ≡ record_text before → second ≡ record_text now
    → ∥ IsStatus first (before ∷ []) ∥₁ → ∥ IsStatus second (now ∷ []) ∥₁ → Decides same (first ≡ second) → MatchBool same ((now ≡ before → ⊥) → ⊥) (now ≡ before → ⊥)
same_written before now first second true stood stands is also read again told = λ apart.
    ∥∥₁_elim read (hlevel props) (λ a. ∥∥₁_elim again (hlevel props) (λ b. apart (sym (one_record second before now stood stands (subst (λ (l : List ℕ). IsStatus l (before ∷ [])) (told.0 refl) a) b))))
same_written before now first second false stood stands is also read again told = λ same. true≢false (sym (told.1 (is ∙ ap record_text (sym same) ∙ sym also)))

-- the same of what was found

same_some : (before now : Record) (same : Bool) → MatchBool same ((now ≡ before → ⊥) → ⊥) (now ≡ before → ⊥) → MatchBool same ((Some now ≡ Some before → ⊥) → ⊥) (Some now ≡ Some before → ⊥)
same_some before now true told = λ apart. told (λ same. apart (ap (λ (r : Record). Some r) same))
same_some before now false told = λ same. told (cc same)

pub same_found : (before now : Record) (old new : Option Record) (same : Bool) → old ≡ Some before → new ≡ Some now → MatchBool same ((now ≡ before → ⊥) → ⊥) (now ≡ before → ⊥) → MatchBool same ((new ≡ old → ⊥) → ⊥) (new ≡ old → ⊥)
same_found before now old new same was is told =
    subst (λ (o : Option Record). MatchBool same ((new ≡ o → ⊥) → ⊥) (new ≡ o → ⊥)) (sym was)
    (subst (λ (o : Option Record). MatchBool same ((o ≡ Some before → ⊥) → ⊥) (o ≡ Some before → ⊥)) (sym is) (same_some before now same told))

-- one copy more

pub copy_more : (before after : List Record) (packages names more : List (List ℕ)) (copies : List Touched) (i : ℕ) (copy : Touched) (same : Bool) → i < length copies → copy ≡ get_or copies i copy → copies ≡ map (touched_at before) packages
    → MatchBool same ((record_in after copy.«package» ≡ copy.entry → ⊥) → ⊥) (record_in after copy.«package» ≡ copy.entry → ⊥) → more ≡ cond same (names ++ copy.«package» ∷ []) names
    → AreUnchanged before after (take i packages) names → AreUnchanged before after (take (i + 1) packages) more
copy_more before after packages names more copies i copy same less is copied told grown so_far =
    let within : i < length packages = subst (λ n. i < n) (ap length copied ∙ length-map packages (touched_at before)) less in
    let q = get_or packages i [] in
    let it : copy ≡ touched_at before q = is ∙ ap (λ (l : List Touched). get_or l i copy) copied ∙ get_or-map (touched_at before) packages i [] copy within in
    subst (λ (ps : List (List ℕ)). AreUnchanged before after ps more) (sym (take_more packages i [] within))
    (unchanged_more before after (take i packages) names more q same
    (subst (λ (t : Touched). MatchBool same ((record_in after t.«package» ≡ t.entry → ⊥) → ⊥) (record_in after t.«package» ≡ t.entry → ⊥)) it told)
    (grown ∙ ap (λ (t : Touched). cond same (names ++ t.«package» ∷ []) names) it) so_far)

-- a record that is found stands

all_stand : (rs : List Record) → AllByRecursion (λ r. is_not_installed r.state ≡ false) (standing rs)
all_stand [] = tt
all_stand (r ∷ rs) = by (is_not_installed r.state) refl (all_stand rs)
  where
    by : (b : Bool) → is_not_installed r.state ≡ b → AllByRecursion (λ x. is_not_installed x.state ≡ false) (standing rs) → AllByRecursion (λ x. is_not_installed x.state ≡ false) (cond (not b) (r ∷ standing rs) (standing rs))
    by true e rest = rest
    by false e rest = (e, rest)

found_with : (P : Record → Type 0) (rs : List Record) (name : List ℕ) → AllByRecursion P rs → IfSome (record_in rs name) P
found_with P [] name all = tt
found_with P (r ∷ rs) name all = by (bytes_eq r.name name) (found_with P rs name all.1)
  where
    by : (b : Bool) → IfSome (record_in rs name) P → IfSome (cond b (Some r) (record_in rs name)) P
    by true rest = all.0
    by false rest = rest

pub found_stands : (rs : List Record) (name : List ℕ) → standing rs ≡ rs → IfSome (record_in rs name) (λ r. is_not_installed r.state ≡ false)
found_stands rs name whole = found_with (λ r. is_not_installed r.state ≡ false) rs name (subst (AllByRecursion (λ r. is_not_installed r.state ≡ false)) whole (all_stand rs))
