-- The number of a recorded package, and whether another one needs it.
use Rattle.std.proofs.Common.{◌≡◌, ◌<◌, ℕ, suc, Bool, true, false, cond, List, [], ◌∷◌, Option, Some, None, is_some, map, length, get_or, refl, sym, ap, subst, ◌∙◌, arith}
use Rattle.std.specs.Prelude.{MatchOption}
use Rattle.std.specs.Str.{bytes_eq}
use Rattle.std.proofs.lemmas.Bool.{false≢true, true≢false}
use Rattle.std.proofs.lemmas.List.{get_or_default}
use Rattle.std.proofs.lemmas.Slice.Eq.{bytes_eq-Decides}
use Rattle.dependency_check.specs.Left.{DependsOnLeft}
use Rattle.dependency_sets.specs.Choices.{IsFirst}
use Rattle.dependency_sets.specs.Sets.{has}
use Rattle.recorded_packages.specs.Packages.{ArePackagesIn, ArePackagesOf, root_architecture}
use Rattle.relation_index.specs.declared.package.Package.{Package}
use Rattle.status_records.specs.Records.{record_in}
use Rattle.status_records.specs.declared.record.Record.{Record}
use Rattle.disappearance.specs.Needed.{HasNumber, IsNeedOf, is_called, is_supplied}

-- a recorded package has a number
numbered_in : (root : Option (List ℕ)) (rs : List Record) (ps : List Package) (name : List ℕ) → ArePackagesIn root rs ps → is_some (record_in rs name) ≡ true → (x : ℕ) × HasNumber ps name x
numbered_in root [] [] name are known = absurd (false≢true known)
numbered_in root [] (p ∷ ps) name are known = absurd are
numbered_in root (r ∷ rs) [] name are known = absurd are
numbered_in root (r ∷ rs) (p ∷ ps) name are known = by (bytes_eq r.name name) refl known (numbered_in root rs ps name are.1)
  where
    by : (b : Bool) → bytes_eq r.name name ≡ b → is_some (cond b (Some r) (record_in rs name)) ≡ true → (is_some (record_in rs name) ≡ true → (x : ℕ) × HasNumber ps name x) → (x : ℕ) × HasNumber (p ∷ ps) name x
    by true same here rest = (0, (p, omega arith, refl, are.0.name ∙ (bytes_eq-Decides r.name name).0 same))
    by false other here rest = let n = rest here in (suc n.0, (n.1.0, omega (arith, n.1.1), n.1.2, n.1.3))

pub numbered : (rs : List Record) (ps : List Package) (name : List ℕ) → ArePackagesOf rs ps → is_some (record_in rs name) ≡ true → (x : ℕ) × HasNumber ps name x
numbered rs ps name are known = numbered_in (root_architecture rs) rs ps name are known

-- the package of a number has the name, or it hasn't
pub called_here : (ps : List Package) (name : List ℕ) (x : ℕ) (p : Package) → x < length ps → p ≡ get_or ps x p → is_called name p ≡ true → HasNumber ps name x
called_here ps name x p lt is same = (p, lt, sym is, (bytes_eq-Decides p.name name).0 same)

pub not_called : (ps : List Package) (name : List ℕ) (x : ℕ) (p : Package) → x < length ps → p ≡ get_or ps x p → is_called name p ≡ false → HasNumber ps name x → ⊥
not_called ps name x p lt is other has =
    let one : p ≡ has.0 = is ∙ get_or_default ps x p has.0 lt ∙ has.2 in
    true≢false (sym ((bytes_eq-Decides p.name name).1 (ap (λ (q : Package). q.name) one ∙ has.3)) ∙ other)

-- whether it is needed, by the first one that does
pub need_of : (incoming : List ℕ) (records : List Record) (name : List ℕ) (packages : List Package) (installed own : List Bool) (x : ℕ) (found : Option ℕ) (answer : Bool) → ArePackagesOf records packages
    → installed ≡ map (is_supplied incoming) packages → own ≡ map (is_called name) packages → HasNumber packages name x
    → MatchOption found ((y : ℕ) → DependsOnLeft packages (has installed) (has own) x y → ⊥) (IsFirst (DependsOnLeft packages (has installed) (has own) x)) → answer ≡ is_some found → IsNeedOf incoming records name answer
need_of incoming records name packages installed own x found answer are supply mine number is told =
    subst (IsNeedOf incoming records name) (sym told)
    (by found
    (subst (λ (o : List Bool). MatchOption found ((y : ℕ) → DependsOnLeft packages (has (map (is_supplied incoming) packages)) (has o) x y → ⊥) (IsFirst (DependsOnLeft packages (has (map (is_supplied incoming) packages)) (has o) x))) mine
    (subst (λ (i : List Bool). MatchOption found ((y : ℕ) → DependsOnLeft packages (has i) (has own) x y → ⊥) (IsFirst (DependsOnLeft packages (has i) (has own) x))) supply is)))
  where
    by : (o : Option ℕ)
        → MatchOption o ((y : ℕ) → DependsOnLeft packages (has (map (is_supplied incoming) packages)) (has (map (is_called name) packages)) x y → ⊥) (IsFirst (DependsOnLeft packages (has (map (is_supplied incoming) packages)) (has (map (is_called name) packages)) x))
        → IsNeedOf incoming records name (is_some o)
    by None none = record { packages = packages; recorded = are; number = x; numbered = number; none = none }
    by (Some y) first = record { packages = packages; recorded = are; number = x; numbered = number; by = y; needs = first.0 }
