-- Which names wait in a removal, and that what no rule refuses can be removed.
use Rattle.std.proofs.Common.{◌≡◌, ◌≢◌, ◌<◌, ◌||◌, ◌&&◌, inl, inr, ℕ, zero, suc, Bool, true, false, not, cond, List, [], ◌∷◌, Option, Some, None, is_none, length, map, filter, refl, sym, ap, subst, ◌∙◌, arith}
use Rattle.std.specs.Prelude.{◌↔◌, IsTrue, if◌then◌else◌}
use Rattle.std.specs.Str.{bytes_eq}
use Rattle.std.proofs.lemmas.Bool.{true≢false, false≢true}
use Rattle.std.proofs.lemmas.List.{get_or_past}
use Rattle.std.proofs.lemmas.Slice.Eq.{bytes_eq-Decides}
use Rattle.dependency_check.specs.Waiting.{IsRemovableNow, Waiting}
use Rattle.dependency_sets.specs.Sets.{has}
use Rattle.recorded_packages.specs.Packages.{is_reinstreq}
use Rattle.relation_index.specs.declared.package.Package.{Package}
use Rattle.stated_relations.specs.Relations.{is_essential}
use Rattle.removal_engine.specs.Extents.{BeginsFrom}
use Rattle.removal_engine.specs.Units.{IsRemovable}
use Rattle.status_records.specs.Records.{record_in}
use Rattle.status_records.specs.declared.record.Record.{Record}
use Rattle.status_records.specs.declared.words.State.{State}
use Rattle.unit_reports.specs.declared.refusal.Rule.{Rule}
use Rattle.unit_reports.specs.declared.refusal.Rule.TheVariants.{NothingToRemove, Reinstreq, Essential}
use Rattle.removal_run.specs.Extents.{purges_of}
use Rattle.name_sets.specs.Names.{is_among, without}
use Rattle.removal_run.specs.Refusals.{accepted, is_config_files, rule_for, rule_of, rule_under}
use Rattle.removal_run.specs.Turns.{AreAccepted}
use Rattle.removal_run.specs.Units.{AreOthersKept, extent_of}
use Rattle.removal_run.specs.Waiting.{IsRemovedNext, is_named, name_at}
use Rattle.removal_run.specs.Whose.{IsWhoseTurn}
use Rattle.removal_run.specs.declared.extents.Extents.{Extents}

same_name : (name other : List ℕ) → bytes_eq name other ≡ true → name ≡ other
same_name name other e = (bytes_eq-Decides name other).0 e

-- a name of a filtered list passes the test, and stands in the list
among_filter : (test : List ℕ → Bool) (names : List (List ℕ)) (name : List ℕ) → IsTrue (is_among (filter test names) name) → IsTrue (is_among names name) × (test name ≡ true)
among_filter test [] name h = absurd (false≢true h)
among_filter test (n ∷ ns) name h = by (bytes_eq name n) refl (test n) refl (among_filter test ns name) h
  where
    by : (a : Bool) → bytes_eq name n ≡ a → (b : Bool) → test n ≡ b → (IsTrue (is_among (filter test ns) name) → IsTrue (is_among ns name) × (test name ≡ true)) → IsTrue (is_among (cond b (n ∷ filter test ns) (filter test ns)) name)
        → IsTrue (is_among (n ∷ ns) name) × (test name ≡ true)
    by true e true f rest h = (ap (λ c. c || is_among ns name) e, ap test (same_name name n e) ∙ f)
    by true e false f rest h = let w = rest h in (ap (λ c. c || is_among ns name) e, w.1)
    by false e true f rest h = let w = rest (sym (ap (λ c. c || is_among (filter test ns) name) e) ∙ h) in (ap (λ c. c || is_among ns name) e ∙ w.0, w.1)
    by false e false f rest h = let w = rest h in (ap (λ c. c || is_among ns name) e ∙ w.0, w.1)

none_is : {X : Type 0} (o : Option X) → is_none o ≡ true → o ≡ None
none_is None e = refl
none_is (Some x) e = absurd (false≢true e)

-- those that wait in the beginning
pub accepted_first : (extents : Extents) (records : List Record) (names : List (List ℕ)) → AreAccepted extents records (accepted extents records names)
accepted_first extents records names = λ name h. none_is (rule_under extents records name) (among_filter (λ n. is_none (rule_under extents records n)) names name h).1

-- those that wait behind a removal
pub accepted_next : (extents : Extents) (old new : List Record) (waiting : List (List ℕ)) (name : List ℕ) → AreOthersKept name old new → AreAccepted extents old waiting → AreAccepted extents new (without name waiting)
accepted_next extents old new waiting name kept are = λ other h.
    let w = among_filter (λ n. not (bytes_eq n name)) waiting other h in
    let apart : other ≢ name = λ same. false≢true (sym (ap not ((bytes_eq-Decides other name).1 same)) ∙ w.1) in
    ap (λ entry. rule_of (purges_of extents entry) entry) (kept other apart) ∙ are other w.0

-- who still waits, waited before
pub waited : (name other : List ℕ) (names : List (List ℕ)) → IsTrue (is_among (without name names) other) → IsTrue (is_among names other)
waited name other names h = (among_filter (λ n. not (bytes_eq n name)) names other h).0

-- a number that is marked has a package of one of the names
waits_at : (names : List (List ℕ)) (packages : List Package) (x : ℕ) → IsTrue (has (map (is_named names) packages) x) → IsTrue (is_among names (name_at packages x))
waits_at names [] x h = absurd (false≢true (sym (get_or_past (map (is_named names) []) x false (omega arith)) ∙ h))
waits_at names (p ∷ ps) zero h = h
waits_at names (p ∷ ps) (suc x) h = waits_at names ps x h

removable_waits : (q : Waiting) (x : ℕ) → IsRemovableNow q x → IsTrue (has q.waiting x)
removable_waits q x can = can.1.0 x can.2

-- whose turn it is waits
turn_waits : (ignore : Bool) (q : Waiting) (x : ℕ) → IsWhoseTurn ignore q x → IsTrue (has q.waiting x)
turn_waits ignore q x (inl is) = removable_waits q x is.can
turn_waits ignore q x (inr out) = out.first.0

-- one that is removed next waits
pub next_among : (ignore : Bool) (packages : List Package) (now : List Record) (names : List (List ℕ)) (name : List ℕ) → IsRemovedNext ignore packages now names name → IsTrue (is_among names name)
next_among ignore packages now names name next =
    subst (λ (m : List ℕ). IsTrue (is_among names m)) (sym next.named)
    (waits_at names next.queue.packages next.number (subst (λ (l : List Bool). IsTrue (has l next.number)) next.is.waiting (turn_waits ignore next.queue next.number next.next)))

-- what no rule refuses can be removed

some_rule : (rule : Rule) → ◌≡◌ {A = Option Rule} (Some rule) None → ⊥
some_rule rule e = cc

first : (a b c : Bool) → (if a then Some NothingToRemove else if b then Some Reinstreq else if c then Some Essential else None) ≡ None → a ≡ false
first true b c e = absurd (some_rule NothingToRemove e)
first false b c e = refl

begins : (s : State) (purge : Bool) → (is_config_files s && not purge) ≡ false → BeginsFrom (extent_of purge) s
begins s true e = tt
begins s false e = λ is. true≢false (sym (ap (λ x. is_config_files x && true) is) ∙ e)

by_record : (purge : Bool) (records : List Record) (name : List ℕ) (o : Option Record) → record_in records name ≡ o → rule_of purge o ≡ None → IsRemovable (extent_of purge) records name
by_record purge records name None is e = absurd cc
by_record purge records name (Some r) is e =
    let unrefused = first (is_config_files r.state && not purge) (is_reinstreq r.flag) (not (is_config_files r.state) && is_essential r.fields) e in
    record { entry = r; found = is; begins = begins r.state purge unrefused }

pub is_removable : (purge : Bool) (records : List Record) (name : List ℕ) → rule_for purge records name ≡ None → IsRemovable (extent_of purge) records name
is_removable purge records name e = by_record purge records name (record_in records name) refl e
