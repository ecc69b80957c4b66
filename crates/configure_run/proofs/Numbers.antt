-- Packages by the numbers of their records.
use Rattle.std.proofs.Common.{◌≡◌, ℕ, zero, suc, ◌<◌, ◌⊎◌, inl, inr, Bool, true, false, List, [], ◌∷◌, length, get_or, map, Some, refl, sym, ap, subst, ◌∙◌, arith}
use Rattle.std.specs.Prelude.{IsTrue, ◌&&◌}
use Rattle.std.proofs.lemmas.Bool.{true≢false}
use Rattle.std.proofs.lemmas.List.{get_or-map, length-map}
use Rattle.dependency_check.specs.Waiting.{Waiting}
use Rattle.dependency_sets.proofs.StrikingLaws.{in_range}
use Rattle.dependency_sets.specs.Sets.{has}
use Rattle.recorded_packages.specs.Packages.{ArePackagesOf}
use Rattle.recorded_packages.proofs.Named.{as_many, names_are}
use Rattle.relation_index.specs.declared.package.Package.{Package}
use Rattle.host_core.specs.World.{World}
use Rattle.status_db.specs.Order.{AreInOrder, IsBefore, IsBeforeAll, names_of}
use Rattle.status_records.specs.declared.record.Record.{Record}
use Rattle.status_records.specs.declared.words.Flag.{Flag}
use Rattle.status_records.specs.declared.words.Flag.TheVariants as flag
use Rattle.status_records.specs.declared.words.State.{State}
use Rattle.status_records.specs.declared.words.State.TheVariants as state
use Rattle.status_db.proofs.Ordered.{before_differs, order_apart}
use Rattle.status_records.proofs.Tables.{record_at}
use Rattle.configure_run.specs.Asked.{can_wait, is_sound, is_unconfigured}
use Rattle.configure_run.specs.Starting.{AreNamedApart, AreSilent, AreSilentOf, AreWaiting, IsAt, IsBegun, IsEven, is_named, is_silent, name_at, satisfies, waits}

pub begun_even : (names : List (List ℕ)) (records : List Record) (q : Waiting) → IsBegun names records q → IsEven q
begun_even names records q begun = record {
  installed = ap length begun.installed ∙ length-map records satisfies ∙ sym (as_many records q.packages begun.packages);
  waiting = ap length begun.waiting ∙ length-map records (waits names) ∙ sym (as_many records q.packages begun.packages);
}

-- the names of a table differ

name_later : (name : List ℕ) (rs : List Record) (y : ℕ) → IsBeforeAll name rs → y < length rs → IsBefore name (get_or (names_of rs) y [])
name_later name [] y all lt = absurd (omega (arith, lt))
name_later name (r ∷ rs) zero all lt = all.0
name_later name (r ∷ rs) (suc y) all lt = name_later name rs y all.1 (omega (arith, lt))

names_apart : (rs : List Record) → AreInOrder rs → (x y : ℕ) → x < length rs → y < length rs → get_or (names_of rs) x [] ≡ get_or (names_of rs) y [] → x ≡ y
names_apart [] order x y here there same = absurd (omega (arith, here))
names_apart (r ∷ rs) order zero zero here there same = refl
names_apart (r ∷ rs) order zero (suc y) here there same = absurd (before_differs _ _ (name_later r.name rs y order.0 (omega (arith, there))) same)
names_apart (r ∷ rs) order (suc x) zero here there same = absurd (before_differs _ _ (name_later r.name rs x order.0 (omega (arith, here))) (sym same))
names_apart (r ∷ rs) order (suc x) (suc y) here there same = ap suc (names_apart rs order.1 x y (omega (arith, here)) (omega (arith, there)) same)

pub named_apart : (records : List Record) (packages : List Package) → AreInOrder records → ArePackagesOf records packages → AreNamedApart packages
named_apart records packages order are x y here there same =
    let count = as_many records packages are in
    let names = names_are records packages are in
    names_apart records order x y (subst (λ n. x < n) count here) (subst (λ n. y < n) count there)
    (ap (λ (l : List (List ℕ)). get_or l x []) (sym names) ∙ same ∙ ap (λ (l : List (List ℕ)). get_or l y []) names)

pub both_hold : (a b : Bool) → (a && b) ≡ true → (a ≡ true) × (b ≡ true)
both_hold true b both = (refl, both)
both_hold false b both = absurd (true≢false (sym both))

unconfigured : (s : State) → is_unconfigured s ≡ true → (s ≡ state.Unpacked) ⊎ (s ≡ state.HalfConfigured)
unconfigured state.NotInstalled is = absurd (true≢false (sym is))
unconfigured state.ConfigFiles is = absurd (true≢false (sym is))
unconfigured state.HalfInstalled is = absurd (true≢false (sym is))
unconfigured state.Unpacked is = inl refl
unconfigured state.HalfConfigured is = inr refl
unconfigured state.Installed is = absurd (true≢false (sym is))

sound : (f : Flag) → is_sound f ≡ true → f ≡ flag.Ok
sound flag.Ok is = refl
sound flag.Reinstreq is = absurd (true≢false (sym is))

-- the record of a number

pub at_number : (rs : List Record) (x : ℕ) → x < length rs → (r : Record) × IsAt rs x r
at_number [] x lt = absurd (omega (arith, lt))
at_number (r ∷ rs) zero lt = (r, record { within = lt; here = refl })
at_number (r ∷ rs) (suc x) lt = let found = at_number rs x (omega (arith, lt)) in (found.0, record { within = lt; here = found.1.here })

module _ (names : List (List ℕ)) (records : List Record) (q : Waiting) (begun : IsBegun names records q) where
  pub number_within : (x : ℕ) → IsTrue (has q.waiting x) → x < length records
  number_within x wait = subst (λ n. x < n) (ap length begun.waiting ∙ length-map records (waits names)) (in_range q.waiting x wait)

  pub number_waits : (x : ℕ) (r : Record) → IsAt records x r → IsTrue (has q.waiting x) → waits names r ≡ true
  number_waits x r at wait =
      sym (ap (waits names) at.here) ∙ sym (get_or-map (waits names) records x r false at.within) ∙ sym (ap (λ l. get_or l x false) begun.waiting) ∙ wait

  pub number_named : (x : ℕ) (r : Record) → IsAt records x r → name_at q.packages x ≡ r.name
  number_named x r at =
      ap (λ (l : List (List ℕ)). get_or l x []) (names_are records q.packages begun.packages) ∙ get_or-map (λ (s : Record). s.name) records x r [] at.within ∙ ap (λ (s : Record). s.name) at.here

  pub are_silent : (w : World) (silent : List Bool) → AreSilentOf w names records silent → AreSilent w q (has silent)
  are_silent w silent are x wait =
      let found = at_number records x (number_within x wait) in
      are x found.0 found.1 (number_waits x found.0 found.1 wait) ∙ ap (is_silent w) (sym (number_named x found.0 found.1))

  pub are_waiting : AreInOrder records → AreWaiting q records
  are_waiting order x wait =
      let found = at_number records x (number_within x wait) in
      let r = found.0 in
      let named : r.name ≡ name_at q.packages x = sym (number_named x r found.1) in
      let can = both_hold (is_unconfigured r.state) (is_sound r.flag) (both_hold (can_wait r) (is_named names r) (number_waits x r found.1 wait)).0 in
      record {
        entry = r;
        found = record_at records x r (name_at q.packages x) (order_apart records order) found.1.within (ap (λ (s : Record). s.name) found.1.here ∙ named) ∙ ap Some found.1.here;
        state = unconfigured r.state can.0;
        flag = sound r.flag can.1;
      }
