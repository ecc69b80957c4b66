-- What a package needs, looked for.
use Rattle.std.proofs.Common.{◌≡◌, ◌<◌, inr, ℕ, Bool, true, false, not, List, ◌+◌, length, Option, Some, None, refl, arith}
use Rattle.std.specs.Prelude.{MatchBool, MatchOption, IsTrue, ◌↔◌}
use Rattle.std.proofs.lemmas.Bool.{false≢true}
use Rattle.dependency_check.proofs.LeftLaws.{no_is}
use Rattle.dependency_check.specs.Left.{AreAllMet, IsFirstUnmet}
use Rattle.dependency_check.specs.declared.left.UnmetClause.{UnmetClause}
use Rattle.dependency_check.specs.declared.left.UnmetClause.TheVariants.{PreDepends, Depends}
use Rattle.recorded_packages.specs.Packages.{ArePackagesOf}
use Rattle.relation_index.specs.declared.package.Package.{Package}
use Rattle.status_records.specs.declared.record.Record.{Record}
use Rattle.trigger_engine.specs.Units.{IsPending}
use Rattle.trigger_run.specs.Needs.{HasUnmet, IsLacking, IsLetBe, IsReady, IsSupplied, Lacks, LacksAt, supply}

not_none : (unmet : UnmetClause) → Some unmet ≡ None → ⊥
not_none unmet none = cc

module _ (packages : List Package) (S : ℕ → Bool) where
  none_unmet : (p : Package) → AreAllMet packages p.pre_depends S × AreAllMet packages p.depends S → HasUnmet packages S p → ⊥
  none_unmet p met (PreDepends k, first) = met.0 k first.0
  none_unmet p met (Depends k, first) = met.1 k first.1.0

  pub all_met : (p : Package) (found : Option UnmetClause) → found ≡ None → MatchOption found (AreAllMet packages p.pre_depends S × AreAllMet packages p.depends S) (IsFirstUnmet packages p S) → IsTrue false ↔ HasUnmet packages S p
  all_met p None none met = no_is (HasUnmet packages S p) (none_unmet p met)
  all_met p (Some unmet) none met = absurd (not_none unmet none)

  module _ (name : List ℕ) where
    within : (x : ℕ) → LacksAt packages S name x → x < length packages
    within x (p, lt, here, named, unmet) = lt

    lacks_none : (n : ℕ) → (length packages < n + 1) → ((x : ℕ) → x < n → LacksAt packages S name x → ⊥) → Lacks packages S name → ⊥
    lacks_none n past none (x, at) = none x (omega (arith, past, within x at)) at

    pub none_lacks : (n : ℕ) → (length packages < n + 1) → ((x : ℕ) → x < n → LacksAt packages S name x → ⊥) → IsTrue false ↔ Lacks packages S name
    none_lacks n past none = no_is (Lacks packages S name) (lacks_none n past none)

module _ (records : List Record) (name : List ℕ) where
  pub lacking_by : (packages : List Package) → ArePackagesOf records packages → (found : Bool) → IsTrue found ↔ Lacks packages (supply records) name → MatchBool found (IsLacking records name) (IsSupplied records name)
  lacking_by packages are true is = (packages, are, is.0 refl)
  lacking_by packages are false is = (packages, are, λ lacks. false≢true (is.1 lacks))

  pub ready_by : IsPending records name → (lacking : Bool) → MatchBool lacking (IsLacking records name) (IsSupplied records name) → MatchBool (not lacking) (IsReady records name) (IsLetBe records name)
  ready_by pending true lacking = inr (record { pending = pending; lacking = lacking })
  ready_by pending false supplied = record { pending = pending; supplied = supplied }

  pub ready_of : (ready : Bool) → ready ≡ true → MatchBool ready (IsReady records name) (IsLetBe records name) → IsReady records name
  ready_of true is ready = ready
  ready_of false is let_be = absurd (false≢true is)
