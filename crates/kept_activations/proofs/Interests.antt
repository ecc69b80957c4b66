-- What an installed package is interested in, and what is told of it.
use Rattle.std.proofs.Common.{◌≡◌, inl, inr, ◌&&◌, not, ℕ, Bool, true, false, cond, if◌then◌else◌, List, [], ◌∷◌, map, filter, Some, refl, sym, ap, subst, ◌∙◌}
use Rattle.std.specs.List.{AllByRecursion, list_any}
use Rattle.std.specs.Str.{bytes_eq}
use Rattle.std.proofs.lemmas.Bool.{and_parts}
use Rattle.std.proofs.lemmas.Slice.Eq.{bytes_eq-Decides}
use Rattle.host_core.specs.World.{World}
use Rattle.record_changes.specs.Activated.{words_of}
use Rattle.status_db.specs.Order.{name_of}
use Rattle.status_records.specs.Records.{record_in}
use Rattle.status_records.specs.TriggerNames.{are_trigger_names}
use Rattle.status_records.specs.Words.{is_installed}
use Rattle.status_records.specs.declared.record.Record.{Record}
use Rattle.trigger_interests.specs.Interests.{declared, interest_of, interests_by, interests_of, is_interest}
use Rattle.trigger_interests.specs.declared.interests.Interest.{Interest}
use Rattle.trigger_interests.specs.declared.lines.Declaration.{Declaration}
use Rattle.trigger_watch.specs.Activations.{activation, activations_by, names_for, packages_of}
use Rattle.trigger_watch.specs.Names.{each_once, is_among, spaced}
use Rattle.trigger_watch.specs.Watch.{installed}
use Rattle.trigger_watch.specs.declared.activating.Activation.{Activation}
use Rattle.trigger_watch.proofs.All.{all_filter, all_map}
use Rattle.trigger_watch.proofs.Declared.{IsSound, IsSoundInterest}
use Rattle.kept_activations.specs.Pending.{IsInstalled, IsInterested}
use Rattle.kept_activations.proofs.Members.{IsIn, in_among, in_filter, in_flat_map, in_map, once_in, passes_any}
use Rattle.kept_activations.proofs.SpacedNames.{spaced_names}
use Rattle.kept_activations.proofs.WordLists.{sound_words, words_spaced}

-- the record that is found is one of them, of that name
pub record IsFoundIn (records : List Record) (name : List ℕ) (entry : Record) : Type 0 where
  pub there : IsIn entry records
  pub named : entry.name ≡ name

pub found_in : (records : List Record) (name : List ℕ) (entry : Record) → record_in records name ≡ Some entry → IsFoundIn records name entry
found_in [] name entry found = absurd (cc found)
found_in (r ∷ rs) name entry found = by (bytes_eq r.name name) refl found (found_in rs name entry)
  where
    by : (t : Bool) → bytes_eq r.name name ≡ t → cond t (Some r) (record_in rs name) ≡ Some entry → (record_in rs name ≡ Some entry → IsFoundIn rs name entry) → IsFoundIn (r ∷ rs) name entry
    by true e is later = (let same : r ≡ entry = cc is in record { there = inl same; named = ap (λ (x : Record). x.name) (sym same) ∙ (bytes_eq-Decides r.name name).0 e })
    by false e is later = (let found = later is in record { there = inr found.there; named = found.named })

installed_in : (records : List Record) (owner : List ℕ) → IsInstalled records owner → IsIn owner (installed records)
installed_in records owner is =
    let found = found_in records owner is.entry is.found in
    let test = λ (r : Record). is_installed r.state in
    subst (λ (n : List ℕ). IsIn n (installed records)) found.named (in_map name_of (filter test records) is.entry (in_filter test records is.entry found.there is.installed))

-- an interest of a package in a trigger is among these
pub record IsOne (interests : List Interest) (owner trigger : List ℕ) : Type 0 where
  pub interest : Interest
  pub there : IsIn interest interests
  pub owned : interest.«package» ≡ owner
  pub named : interest.name ≡ trigger

pub declared_one : (owner trigger : List ℕ) (ds : List Declaration) → list_any (λ d. is_interest d.directive && bytes_eq d.name trigger) ds ≡ true → IsOne (interests_by owner ds) owner trigger
declared_one owner trigger ds any =
    let found = passes_any (λ (d : Declaration). is_interest d.directive && bytes_eq d.name trigger) ds any in
    let parts = and_parts (is_interest found.one.directive) (bytes_eq found.one.name trigger) found.on in
    let test = λ (d : Declaration). is_interest d.directive in
    record {
      interest = interest_of owner found.one;
      there = in_map (interest_of owner) (filter test ds) found.one (in_filter test ds found.one found.there parts.0);
      owned = refl;
      named = (bytes_eq-Decides found.one.name trigger).0 parts.1;
    }

pub interested_one : (w : World) (records : List Record) (owner trigger : List ℕ) → IsInterested w records owner trigger → IsOne (interests_of w (installed records)) owner trigger
interested_one w records owner trigger is =
    let one = declared_one owner trigger (declared w owner) is.interest in
    record {
      interest = one.interest;
      there = in_flat_map (λ name. interests_by name (declared w name)) (installed records) owner one.interest (installed_in records owner is.installed) one.there;
      owned = one.owned;
      named = one.named;
    }

pub kept_one : (test : Interest → Bool) (interests : List Interest) (owner trigger : List ℕ) → (one : IsOne interests owner trigger) → test one.interest ≡ true → IsOne (filter test interests) owner trigger
kept_one test interests owner trigger one on = record { interest = one.interest; there = in_filter test interests one.interest one.there on; owned = one.owned; named = one.named }

pub one_named : (interests : List Interest) (owner trigger : List ℕ) → IsOne interests owner trigger → IsIn trigger (map (λ interest. interest.name) interests)
one_named interests owner trigger one =
    subst (λ (n : List ℕ). IsIn n (map (λ (interest : Interest). interest.name) interests)) one.named (in_map (λ (interest : Interest). interest.name) interests one.interest one.there)

-- what is told of it names the trigger
pub record IsTold (activations : List Activation) (owner trigger : List ℕ) : Type 0 where
  pub one : Activation
  pub there : IsIn one activations
  pub owned : one.«package» ≡ owner
  pub named : is_among (words_of one.names) trigger ≡ true

once_all : (P : List ℕ → Type 0) (names : List (List ℕ)) → AllByRecursion P names → AllByRecursion P (each_once names)
once_all P [] all = tt
once_all P (name ∷ names) all = (all.0, all_filter P (λ n. not (bytes_eq n name)) (each_once names) (once_all P names all.1))

told_text : (owner trigger : List ℕ) (names : List (List ℕ)) → AllByRecursion IsSound names → IsIn trigger names
    → IsTold (if are_trigger_names (spaced names) then record { «package» = owner; names = spaced names } ∷ [] else []) owner trigger
told_text owner trigger [] sound there = absurd there
told_text owner trigger (name ∷ names) sound there =
    let told : Activation = record { «package» = owner; names = spaced (name ∷ names) } in
    record {
      one = told;
      there = subst (λ (t : Bool). IsIn told (if t then told ∷ [] else [])) (sym (spaced_names name names sound)) (inl refl);
      owned = refl;
      named = ap (λ (l : List (List ℕ)). is_among l trigger) (words_spaced name names (sound_words (name ∷ names) sound)) ∙ in_among (name ∷ names) trigger there;
    }

pub told_one : (interests : List Interest) → AllByRecursion IsSoundInterest interests → (owner trigger : List ℕ) → IsOne interests owner trigger → IsTold (activations_by interests) owner trigger
told_one interests sound owner trigger one =
    let test = λ (interest : Interest). bytes_eq interest.«package» owner in
    let name = λ (interest : Interest). interest.name in
    let owned = λ (interest : Interest). interest.«package» in
    let mine = kept_one test interests owner trigger one ((bytes_eq-Decides one.interest.«package» owner).1 one.owned) in
    let has : IsIn trigger (names_for interests owner) = once_in (map name (filter test interests)) trigger (one_named (filter test interests) owner trigger mine) in
    let names_sound : AllByRecursion IsSound (names_for interests owner) =
    once_all IsSound (map name (filter test interests)) (all_map IsSound name (filter test interests) (all_filter IsSoundInterest test interests sound)) in
    let told = told_text owner trigger (names_for interests owner) names_sound has in
    let mentioned : IsIn owner (packages_of interests) =
    once_in (map owned interests) owner (subst (λ (n : List ℕ). IsIn n (map owned interests)) one.owned (in_map owned interests one.interest one.there)) in
    record { one = told.one; there = in_flat_map (activation interests) (packages_of interests) owner told.one mentioned told.there; owned = told.owned; named = told.named }
