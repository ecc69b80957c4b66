-- The names that wait are of packages that no rule refuses.
use Rattle.std.proofs.Common.{◌≡◌, ◌≢◌, ◌<◌, ◌≤◌, ◌||◌, ℕ, suc, Bool, true, false, not, cond, List, [], ◌∷◌, Option, Some, None, is_none, length, filter, refl, sym, ap, ◌∙◌, arith}
use Rattle.std.specs.Prelude.{IsTrue}
use Rattle.std.specs.Str.{bytes_eq}
use Rattle.std.proofs.lemmas.Bool.{true≢false, false≢true}
use Rattle.std.proofs.lemmas.Slice.Eq.{bytes_eq-Decides}
use Rattle.status_records.specs.declared.record.Record.{Record}
use Rattle.removal_run.specs.Extents.{purges_of}
use Rattle.name_sets.specs.Names.{is_among, without}
use Rattle.removal_run.specs.Refusals.{accepted, rule_under, rule_of}
use Rattle.removal_run.specs.Turns.{AreAccepted}
use Rattle.removal_run.specs.Units.{AreOthersKept}
use Rattle.removal_run.specs.declared.extents.Extents.{Extents}

same_name : (name other : List ℕ) → bytes_eq name other ≡ true → name ≡ other
same_name name other e = (bytes_eq-Decides name other).0 e

other_name : (name other : List ℕ) → bytes_eq name other ≡ false → name ≢ other
other_name name other e same = true≢false (sym ((bytes_eq-Decides name other).1 same) ∙ e)

-- a name of a filtered list passes the test, and stands in the list
among_filter : (test : List ℕ → Bool) (names : List (List ℕ)) (name : List ℕ) → IsTrue (is_among (filter test names) name) → IsTrue (is_among names name) × (test name ≡ true)
among_filter test [] name h = absurd (false≢true h)
among_filter test (n ∷ ns) name h = by (bytes_eq name n) refl (test n) refl (among_filter test ns name) h
  where
    by : (a : Bool) → bytes_eq name n ≡ a → (b : Bool) → test n ≡ b → (IsTrue (is_among (filter test ns) name) → IsTrue (is_among ns name) × (test name ≡ true)) → IsTrue (is_among (cond b (n ∷ filter test ns) (filter test ns)) name)
        → IsTrue (is_among (n ∷ ns) name) × (test name ≡ true)
    by true e true f rest h = (ap (λ c. c || is_among ns name) e, ap test (same_name name n e) ∙ f)
    by true e false f rest h = let w = rest h in (ap (λ c. c || is_among ns name) e, w.1)
    by false e true f rest h = let w = rest (sym (ap (λ c. c || is_among (filter test ns) name) e) ∙ h) in (ap (λ c. c || is_among ns name) e ∙ w.0, w.1)
    by false e false f rest h = let w = rest h in (ap (λ c. c || is_among ns name) e ∙ w.0, w.1)

none_is : {X : Type 0} (o : Option X) → is_none o ≡ true → o ≡ None
none_is None e = refl
none_is (Some x) e = absurd (false≢true e)

-- those that wait in the beginning
pub accepted_first : (extents : Extents) (records : List Record) (names : List (List ℕ)) → AreAccepted extents records (accepted extents records names)
accepted_first extents records names = λ name h. none_is (rule_under extents records name) (among_filter (λ n. is_none (rule_under extents records n)) names name h).1

-- those that wait behind a removal
pub accepted_next : (extents : Extents) (old new : List Record) (waiting : List (List ℕ)) (name : List ℕ) → AreOthersKept name old new → AreAccepted extents old waiting → AreAccepted extents new (without name waiting)
accepted_next extents old new waiting name kept are = λ other h.
    let w = among_filter (λ n. not (bytes_eq n name)) waiting other h in
    let apart : other ≢ name = λ same. false≢true (sym (ap not ((bytes_eq-Decides other name).1 same)) ∙ w.1) in
    ap (λ entry. rule_of (purges_of extents entry) entry) (kept other apart) ∙ are other w.0

-- who still waits, waited before
pub waited : (name other : List ℕ) (names : List (List ℕ)) → IsTrue (is_among (without name names) other) → IsTrue (is_among names other)
waited name other names h = (among_filter (λ n. not (bytes_eq n name)) names other h).0

-- one name less waits
fewer : (test : List ℕ → Bool) (names : List (List ℕ)) → length (filter test names) ≤ length names
fewer test [] = omega arith
fewer test (n ∷ ns) = by (test n) (fewer test ns)
  where
    by : (b : Bool) → length (filter test ns) ≤ length ns → length (cond b (n ∷ filter test ns) (filter test ns)) ≤ suc (length ns)
    by true rest = omega (arith, rest)
    by false rest = omega (arith, rest)

pub struck_fewer : (name : List ℕ) (names : List (List ℕ)) → IsTrue (is_among names name) → length (without name names) < length names
struck_fewer name [] h = absurd (false≢true h)
struck_fewer name (n ∷ ns) h = by (bytes_eq n name) refl (bytes_eq name n) refl h (struck_fewer name ns)
  where
    by : (a : Bool) → bytes_eq n name ≡ a → (b : Bool) → bytes_eq name n ≡ b → IsTrue (is_among (n ∷ ns) name) → (IsTrue (is_among ns name) → length (without name ns) < length ns) → length (cond (not a) (n ∷ without name ns) (without name ns)) < suc (length ns)
    by true e b f h rest = let le = fewer (λ m. not (bytes_eq m name)) ns in omega (arith, le)
    by false e true f h rest = absurd (other_name n name e (sym (same_name name n f)))
    by false e false f h rest = let lt = rest (sym (ap (λ c. c || is_among ns name) f) ∙ h) in omega (arith, lt)
