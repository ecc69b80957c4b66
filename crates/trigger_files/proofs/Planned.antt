-- What is to be done, and that it is all.
use Rattle.std.proofs.Common.{◌≡◌, ◌≢◌, ◌⊎◌, ◌+◌, ◌<◌, ◌≤◌, ◌&&◌, ◌||◌, ◌==◌, inl, inr, not, ℕ, suc, Bool, true, false, cond, List, [], ◌∷◌, ◌++◌, length, map, filter, Option, Some, None, codes, refl, sym, ap, subst, ◌∙◌, arith, Contains}
use Rattle.std.specs.Prelude.{MatchBool}
use Rattle.std.specs.List.{list_all, list_any}
use Rattle.std.specs.Str.{bytes_eq}
use Rattle.std.proofs.lemmas.Bool.{and_parts, cond-false, cond-true, eq-eqb, eqb-false, eqb-true, ne_eqb, not-false, not-true, or_parts, or_right, true≢false}
use Rattle.std.proofs.lemmas.List.Folds.{list_any-append}
use Rattle.std.proofs.lemmas.Slice.Eq.{bytes_eq-Decides}
use Rattle.host_core.specs.Paths.{Path}
use Rattle.host_core.specs.Tree.{IsListing, IsOdd}
use Rattle.host_core.specs.World.{World, IsDirectory, IsLoose, is_directory}
use Rattle.host_core.specs.declared.node.Node.{Node}
use Rattle.host_core.proofs.Nodes.{directory_is, none_stands, some_or_none}
use Rattle.trigger_interests.specs.declared.interests.Interest.{Interest}
use Rattle.trigger_journal.specs.Places.{triggers_directory}
use Rattle.trigger_watch.specs.Names.{each_once, is_among}
use Rattle.trigger_files.specs.Lines.{belongs, file_of, is_path_name, is_settled, line_in, lines_for}
use Rattle.trigger_files.specs.Places.{is_register, paths_name, place}
use Rattle.trigger_files.specs.Registered.{AreBeingRegistered, AreRegistered, HasRegistered, IsFree, IsHindered, IsRegistering, is_due, is_hindered, is_unsettled, left_at}
use Rattle.trigger_files.specs.Steps.{AreBeingWritten, AreOpen, AreRegisters, AreUnsettled, AreWritten, IsPlan, names_for, open_of}
use Rattle.trigger_files.specs.Entries.{entries_of}
use Rattle.trigger_files.specs.declared.registering.Plan.{Plan}
use Rattle.status_records.specs.declared.record.Record.{Record}
use Rattle.trigger_files.proofs.Written.{directory_isnt}
use Rattle.trigger_files.proofs.Names.{among_at, among_filter, among_once, is_same}
use Rattle.trigger_files.proofs.Apart.{name_utf8, place_is_path, plain_name}

-- a trigger in which nobody is interested has no lines

none_belongs : (entries : List Interest) (name : List ℕ) → bytes_eq name paths_name ≡ false → is_among (map (λ i. i.name) entries) name ≡ false → filter (belongs name) entries ≡ []
none_belongs [] name paths among = refl
none_belongs (i ∷ entries) name paths among =
    let apart = or_parts (bytes_eq name i.name) (is_among (map (λ (j : Interest). j.name) entries) name) among in
    cond-false (belongs name i) (i ∷ filter (belongs name) entries) (filter (belongs name) entries)
    (cond-false (bytes_eq name paths_name) (is_path_name i.name) (bytes_eq name i.name) paths ∙ apart.0)
    ∙ none_belongs entries name paths apart.1

no_lines : (entries : List Interest) (name : List ℕ) → bytes_eq name paths_name ≡ false → is_among (map (λ i. i.name) entries) name ≡ false → lines_for entries name ≡ []
no_lines entries name paths among = ap (λ (l : List Interest). each_once (map (line_in entries name) l)) (none_belongs entries name paths among)

-- what isn't listed doesn't stand there

not_listed : (w : World) (listed : List Path) (bad : Bool) (name : List ℕ) → IsListing w triggers_directory listed bad → is_register name ≡ true → is_among listed name ≡ false → w (place name) ≡ None
not_listed w listed bad name listing register among = elim (some_or_none (w (place name))) [
  | inl e ↦ e
  | inr some ↦ elim (listing.whole name (plain_name name register) some) [
    | inl has ↦ absurd (true≢false (sym (among_at listed has.0 name has.1 (sym has.2)) ∙ among))
    | inr odd ↦ elim odd.0 [
      | inl bytes ↦ absurd (bytes (name_utf8 name register))
      | inr long ↦ absurd (true≢false (sym (place_is_path name register) ∙ long))
    ]
  ]
]

-- a name whose file hasn't its lines comes into question
unsettled_known : (entries : List Interest) (w : World) (listed : List Path) (bad : Bool) (name : List ℕ) → IsListing w triggers_directory listed bad → is_register name ≡ true → is_unsettled entries w name ≡ true
    → is_among (paths_name ∷ (map (λ i. i.name) entries ++ listed)) name ≡ true
unsettled_known entries w listed bad name listing register unsettled = at (is_among (paths_name ∷ (names ++ listed)) name) refl
  where
    names : List (List ℕ)
    names = map (λ (i : Interest). i.name) entries

    at : (b : Bool) → is_among (paths_name ∷ (names ++ listed)) name ≡ b → is_among (paths_name ∷ (names ++ listed)) name ≡ true
    at true e = e
    at false e =
        let first = or_parts (bytes_eq name paths_name) (is_among (names ++ listed) name) e in
        let second = or_parts (is_among names name) (is_among listed name) (sym (list_any-append (bytes_eq name) names listed) ∙ first.1) in
        absurd (true≢false (sym unsettled
        ∙ ap (λ (l : List (List ℕ)). not (is_settled l (w (place name)))) (no_lines entries name first.0 second.0)
        ∙ ap (λ (n : Option Node). not (is_settled [] n)) (not_listed w listed bad name listing register second.1)))

pub all_unsettled : (entries : List Interest) (w : World) (listed : List Path) (bad : Bool) → IsListing w triggers_directory listed bad → AreUnsettled entries w (filter (is_unsettled entries w) (names_for entries listed))
all_unsettled entries w listed bad listing name =
    among_filter (is_unsettled entries w) (names_for entries listed) name
    ∙ ap (λ (t : Bool). is_unsettled entries w name && t) (among_once (filter is_register cands) name ∙ among_filter is_register cands name)
    ∙ by (is_unsettled entries w name) (is_register name) refl refl
  where
    cands : List (List ℕ)
    cands = paths_name ∷ (map (λ (i : Interest). i.name) entries ++ listed)

    by : (u r : Bool) → is_unsettled entries w name ≡ u → is_register name ≡ r → (is_unsettled entries w name && (is_register name && is_among cands name)) ≡ (is_register name && is_unsettled entries w name)
    by true true eu er =
        ap (λ (t : Bool). t && (is_register name && is_among cands name)) eu ∙ ap (λ (t : Bool). t && is_among cands name) er ∙ unsettled_known entries w listed bad name listing er eu
        ∙ sym (ap (λ (t : Bool). t && is_unsettled entries w name) er ∙ eu)
    by true false eu er =
        ap (λ (t : Bool). t && (is_register name && is_among cands name)) eu ∙ ap (λ (t : Bool). t && is_among cands name) er ∙ sym (ap (λ (t : Bool). t && is_unsettled entries w name) er)
    by false true eu er = ap (λ (t : Bool). t && (is_register name && is_among cands name)) eu ∙ sym (ap (λ (t : Bool). t && is_unsettled entries w name) er ∙ eu)
    by false false eu er = ap (λ (t : Bool). t && (is_register name && is_among cands name)) eu ∙ sym (ap (λ (t : Bool). t && is_unsettled entries w name) er)

pub found_unsettled : (entries : List Interest) (w v : World) (directory : Path) (listed seen : List Path) (bad : Bool) (names found : List (List ℕ)) → v ≡ w → directory ≡ triggers_directory → IsListing w directory listed bad → seen ≡ listed
    → names ≡ names_for entries seen → found ≡ filter (is_unsettled entries v) names → AreUnsettled entries w found
found_unsettled entries w v directory listed seen bad names found same at listing is these those =
    subst (AreUnsettled entries w)
    (sym (those ∙ ap (λ (u : World). filter (is_unsettled entries u) names) same ∙ ap (λ (l : List (List ℕ)). filter (is_unsettled entries w) l) (these ∙ ap (λ (l : List (List ℕ)). names_for entries l) is)))
    (all_unsettled entries w listed bad (subst (λ (p : Path). IsListing w p listed bad) at listing))

-- the names that come into question are those of such files
pub registers_once : (entries : List Interest) (listed : List (List ℕ)) → AreRegisters (names_for entries listed)
registers_once entries listed name among =
    let cands = paths_name ∷ (map (λ (i : Interest). i.name) entries ++ listed) in
    (and_parts (is_register name) (is_among cands name) (sym (among_filter is_register cands name) ∙ sym (among_once (filter is_register cands) name) ∙ among)).0

-- of names all pass, or one doesn't

pass_by : (p : List ℕ → Bool) (x : List ℕ) (names : List (List ℕ)) (name : List ℕ) → p x ≡ true → (is_among names name ≡ true → p name ≡ true) → (b : Bool) → bytes_eq name x ≡ b → bytes_eq name x || is_among names name ≡ true → p name ≡ true
pass_by p x names name here rest true same among = ap p ((bytes_eq-Decides name x).0 same) ∙ here
pass_by p x names name here rest false apart among = rest (sym (ap (λ (t : Bool). t || is_among names name) apart) ∙ among)

all_pass : (p : List ℕ → Bool) (names : List (List ℕ)) (name : List ℕ) → list_all p names ≡ true → is_among names name ≡ true → p name ≡ true
all_pass p [] name all among = absurd (true≢false (sym among))
all_pass p (x ∷ names) name all among =
    let parts = and_parts (p x) (list_all p names) all in
    pass_by p x names name parts.0 (all_pass p names name parts.1) (bytes_eq name x) refl among

record Fails (p : List ℕ → Bool) (names : List (List ℕ)) : Type 0 where
  pub name : List ℕ
  pub among : is_among names name ≡ true
  pub fails : p name ≡ false

fails_by : (p : List ℕ → Bool) (x : List ℕ) (names : List (List ℕ)) → (list_all p names ≡ false → Fails p names) → (b : Bool) → p x ≡ b → p x && list_all p names ≡ false → Fails p (x ∷ names)
fails_by p x names rest true ep e =
    let more = rest (sym (ap (λ (t : Bool). t && list_all p names) ep) ∙ e) in
    record { name = more.name; among = or_right (bytes_eq more.name x) (is_among names more.name) more.among; fails = more.fails }
fails_by p x names rest false ep e = record { name = x; among = ap (λ (t : Bool). t || is_among names x) (is_same x x refl); fails = ep }

some_fails : (p : List ℕ → Bool) (names : List (List ℕ)) → list_all p names ≡ false → Fails p names
some_fails p [] e = absurd (true≢false e)
some_fails p (x ∷ names) e = fails_by p x names (some_fails p names) (p x) refl e

module _ (entries : List Interest) (w : World) (due : List (List ℕ)) (unsettled : AreUnsettled entries w due) where
  pub due_registers : AreRegisters due
  due_registers name among = (and_parts (is_register name) (is_unsettled entries w name) (sym (unsettled name) ∙ among)).0

  abbrev can : List ℕ → Bool
  can name = not (is_hindered w (place name))

  among_open : (name : List ℕ) → is_among (open_of w due) name ≡ (can name && (is_register name && is_unsettled entries w name))
  among_open name = among_filter can due name ∙ ap (λ (t : Bool). can name && t) (unsettled name)

  pub open_registers : AreRegisters (open_of w due)
  open_registers name among = (and_parts (is_register name) (is_unsettled entries w name) (and_parts (can name) _ (sym (among_open name) ∙ among)).1).0

  pub open_free : AreOpen w (open_of w due)
  open_free name among = not-true (is_hindered w (place name)) (and_parts (can name) _ (sym (among_open name) ∙ among)).0

  module _ (there : IsDirectory (w triggers_directory)) where
    due_is : (name : List ℕ) → is_due entries w name ≡ is_unsettled entries w name
    due_is name = ap (λ (t : Bool). t && is_unsettled entries w name) (directory_is (w triggers_directory) there)

    swap : (a b : Bool) → (a && (true && b)) ≡ (b && a)
    swap true true = refl
    swap true false = refl
    swap false true = refl
    swap false false = refl

    -- what is open is what is due and not hindered
    open_is : (name : List ℕ) → is_register name ≡ true → is_among (open_of w due) name ≡ (is_due entries w name && can name)
    open_is name register =
        among_open name ∙ ap (λ (t : Bool). can name && (t && is_unsettled entries w name)) register ∙ swap (can name) (is_unsettled entries w name)
        ∙ ap (λ (t : Bool). t && can name) (sym (due_is name))

    left_open : (name : List ℕ) → is_register name ≡ true → is_among (open_of w due) name ≡ true → left_at entries w name ≡ file_of (lines_for entries name)
    left_open name register among = cond-true (is_due entries w name && can name) (file_of (lines_for entries name)) (w (place name)) (sym (open_is name register) ∙ among)

    left_other : (name : List ℕ) → is_register name ≡ true → is_among (open_of w due) name ≡ false → left_at entries w name ≡ w (place name)
    left_other name register among = cond-false (is_due entries w name && can name) (file_of (lines_for entries name)) (w (place name)) (sym (open_is name register) ∙ among)

    pub all_registered : (v : World) → AreWritten entries (open_of w due) w v → AreRegistered entries w v
    all_registered v is = record { each = λ name register. at name register (is_among (open_of w due) name) refl; rest = is.rest }
      where
        at : (name : List ℕ) → is_register name ≡ true → (b : Bool) → is_among (open_of w due) name ≡ b → v (place name) ≡ left_at entries w name
        at name register true e = is.each name register e ∙ sym (left_open name register e)
        at name register false e = is.others name register e ∙ sym (left_other name register e)

    pub being_registered : (v : World) → AreBeingWritten entries (open_of w due) w v → AreBeingRegistered entries w v
    being_registered v is = record { each = λ name register. at name register (is_among (open_of w due) name) refl; rest = is.rest }
      where
        at : (name : List ℕ) → is_register name ≡ true → (b : Bool) → is_among (open_of w due) name ≡ b → (v (place name) ≡ w (place name)) ⊎ (v (place name) ≡ left_at entries w name)
        at name register true e = elim (is.each name register e) [ inl same ↦ inl same | inr new ↦ inr (new ∙ sym (left_open name register e)) ]
        at name register false e = inl (is.others name register e)

    -- what is told

    pub told_by : (free : Bool) → free ≡ list_all can due → MatchBool free (IsFree entries w) (IsHindered entries w)
    told_by true e = record {
      directory = λ loose. loose.1 there;
      each = λ name register is. not-true (is_hindered w (place name)) (all_pass can due name (sym e)
          (unsettled name ∙ ap (λ (t : Bool). t && is_unsettled entries w name) register ∙ sym (due_is name) ∙ is));
    }
    told_by false e =
        let found = some_fails can due (sym e) in
        let those = and_parts (is_register found.name) (is_unsettled entries w found.name) (sym (unsettled found.name) ∙ found.among) in
        inr (found.name, those.0, due_is found.name ∙ those.1, not-false (is_hindered w (place found.name)) found.fails)

-- as many are left where each passes, and only then
fewer_by : {X : Type 0} (p : X → Bool) (x : X) (xs : List X) → length (filter p xs) ≤ length xs → (b : Bool) → length (cond b (x ∷ filter p xs) (filter p xs)) ≤ length (x ∷ xs)
fewer_by p x xs less true = omega (arith, less)
fewer_by p x xs less false = omega (arith, less)

fewer : {X : Type 0} (p : X → Bool) (xs : List X) → length (filter p xs) ≤ length xs
fewer p [] = omega arith
fewer p (x ∷ xs) = fewer_by p x xs (fewer p xs) (p x)

eqb_more : (a b : ℕ) (t : Bool) → (a == b) ≡ t → (suc a == suc b) ≡ t
eqb_more a b true e = eq-eqb (suc a) (suc b) (ap suc (eqb-true a b e))
eqb_more a b false e = ne_eqb (suc a) (suc b) (λ same. eqb-false a b e (omega (arith, same)))

many_by : {X : Type 0} (p : X → Bool) (x : X) (xs : List X) → (length (filter p xs) == length xs) ≡ list_all p xs → (b : Bool) → (length (cond b (x ∷ filter p xs) (filter p xs)) == length (x ∷ xs)) ≡ (b && list_all p xs)
many_by p x xs rest true = eqb_more (length (filter p xs)) (length xs) (list_all p xs) rest
many_by p x xs rest false = ne_eqb (length (filter p xs)) (length (x ∷ xs)) (λ e. absurd (omega (arith, fewer p xs, e)))

pub as_many : {X : Type 0} (p : X → Bool) (xs : List X) → (length (filter p xs) == length xs) ≡ list_all p xs
as_many p [] = refl
as_many p (x ∷ xs) = many_by p x xs (as_many p xs) (p x)

-- what was done by a plan

module _ (records : List Record) (plan : Plan) (w : World) (is : IsPlan (entries_of w records) plan w) (there : IsDirectory (w triggers_directory)) where
  abbrev whose : List Interest
  whose = entries_of w records

  same_written : (P : List Interest → List (List ℕ) → Type 0) → P plan.entries.items plan.free.items → P whose (open_of w plan.due.items)
  same_written P p = subst (P whose) is.free_same (subst (λ (es : List Interest). P es plan.free.items) is.entries_same p)

  pub plan_free : AreOpen w plan.free.items
  plan_free = subst (AreOpen w) (sym is.free_same) (open_free whose w plan.due.items is.due)

  pub plan_registered : (v : World) (free : Bool) → AreWritten plan.entries.items plan.free.items w v → free ≡ (length plan.free.items == length plan.due.items) → HasRegistered records free w v
  plan_registered v free written count = record {
    files = all_registered whose w plan.due.items is.due there v (same_written (λ (es : List Interest) (ns : List (List ℕ)). AreWritten es ns w v) written);
    told = told_by whose w plan.due.items is.due there free
        (count ∙ ap (λ (l : List (List ℕ)). length l == length plan.due.items) is.free_same ∙ as_many (λ name. not (is_hindered w (place name))) plan.due.items);
  }

  pub plan_registering : (v : World) → AreBeingWritten plan.entries.items plan.free.items w v → IsRegistering records w v
  plan_registering v being = being_registered whose w plan.due.items is.due there v (same_written (λ (es : List Interest) (ns : List (List ℕ)). AreBeingWritten es ns w v) being)

-- where there is no directory for them

no_due : (entries : List Interest) (w : World) (name : List ℕ) → is_directory (w triggers_directory) ≡ false → is_due entries w name ≡ false
no_due entries w name none = ap (λ (t : Bool). t && is_unsettled entries w name) none

nothing_left : (entries : List Interest) (w : World) (name : List ℕ) → is_directory (w triggers_directory) ≡ false → left_at entries w name ≡ w (place name)
nothing_left entries w name none = ap (λ (t : Bool). cond (t && not (is_hindered w (place name))) (file_of (lines_for entries name)) (w (place name))) (no_due entries w name none)

pub none_registered : (entries : List Interest) (w v : World) → v ≡ w → is_directory (w triggers_directory) ≡ false → AreRegistered entries w v
none_registered entries w v same none = record { each = λ name register. ap (λ (u : World). u (place name)) same ∙ sym (nothing_left entries w name none); rest = λ q beside. ap (λ (u : World). u q) same }

pub free_without : (entries : List Interest) (w : World) → w triggers_directory ≡ None → IsFree entries w
free_without entries w none = record {
  directory = λ loose. none_stands (w triggers_directory) none loose.0;
  each = λ name register is. absurd (true≢false (sym is ∙ no_due entries w name (ap is_directory none)));
}

pub registering_start : (entries : List Interest) (w : World) → AreBeingRegistered entries w w
registering_start entries w = record { each = λ name register. inl refl; rest = λ q beside. refl }

pub registered_without : (records : List Record) (w v : World) → v ≡ w → w triggers_directory ≡ None → HasRegistered records true w v
registered_without records w v same none = record { files = none_registered (entries_of w records) w v same (ap is_directory none); told = free_without (entries_of w records) w none }

pub registered_blocked : (records : List Record) (w v : World) → v ≡ w → IsLoose (w triggers_directory) → HasRegistered records false w v
registered_blocked records w v same loose = record { files = none_registered (entries_of w records) w v same (directory_isnt (w triggers_directory) loose.1); told = inl loose }
