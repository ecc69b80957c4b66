-- The packages stand in the order of the records.
use Rattle.std.proofs.Common.{◌≡◌, ◌+◌, ℕ, zero, suc, List, [], ◌∷◌, ◌++◌, get_or, ap, subst, sym, ◌∙◌, arith, Option, Some, None}
use Rattle.std.specs.Prelude.{MatchOption}
use Rattle.std.specs.Cmp.Lexicographic.{slice_cmp}
use Rattle.std.specs.Ordering.{nat_cmp}
use Rattle.std.specs.declared.cmp.Ordering.TheVariants.{Less}
use Rattle.relation_index.specs.Packages.{AreInNameOrder}
use Rattle.relation_index.specs.declared.package.Package.{Package}
use Rattle.status_db.specs.Order.{AreInOrder}
use Rattle.status_records.specs.declared.record.Record.{Record}
use Rattle.recorded_packages.specs.Packages.{IsPackageOf, ArePackagesIn}

module _ (root : Option (List ℕ)) where
  before : (r s : Record) (p q : Package) → IsPackageOf root r p → IsPackageOf root s q → slice_cmp nat_cmp r.name s.name ≡ Less → slice_cmp nat_cmp p.name q.name ≡ Less
  before r s p q is other less = ap (λ (n : List ℕ). slice_cmp nat_cmp n q.name) is.name ∙ ap (slice_cmp nat_cmp r.name) other.name ∙ less

  both_in_order : (p q : Package) (ps : List Package) → slice_cmp nat_cmp p.name q.name ≡ Less → AreInNameOrder (q ∷ ps) → AreInNameOrder (p ∷ q ∷ ps)
  both_in_order p q ps less rest zero d lt = less
  both_in_order p q ps less rest (suc k) d lt =
      let later : suc k + 1 ≡ suc (k + 1) = omega arith in
      subst (λ (n : ℕ). slice_cmp nat_cmp (get_or (q ∷ ps) k d).name (get_or (p ∷ q ∷ ps) n d).name ≡ Less) (sym later) (rest k d (omega (arith, lt)))

  pub in_name_order : (rs : List Record) (ps : List Package) → AreInOrder rs → ArePackagesIn root rs ps → AreInNameOrder ps
  in_name_order [] [] order are = λ k p lt. absurd (omega (arith, lt))
  in_name_order [] (p ∷ ps) order are = absurd are
  in_name_order (r ∷ rs) [] order are = absurd are
  in_name_order (r ∷ []) (p ∷ []) order are = λ k d lt. absurd (omega (arith, lt))
  in_name_order (r ∷ []) (p ∷ q ∷ ps) order are = absurd are.1
  in_name_order (r ∷ s ∷ rs) (p ∷ []) order are = absurd are.1
  in_name_order (r ∷ s ∷ rs) (p ∷ q ∷ ps) order are = both_in_order p q ps (before r s p q are.0 are.1.0 order.0.0) (in_name_order (s ∷ rs) (q ∷ ps) order.1 are.1)

  -- one package more
  pub packages_more : (rs : List Record) (ps : List Package) (r : Record) (p : Package) → ArePackagesIn root rs ps → IsPackageOf root r p → ArePackagesIn root (rs ++ r ∷ []) (ps ++ p ∷ [])
  packages_more [] [] r p are is = (is, tt)
  packages_more [] (q ∷ ps) r p are is = absurd are
  packages_more (s ∷ rs) [] r p are is = absurd are
  packages_more (s ∷ rs) (q ∷ ps) r p are is = (are.0, packages_more rs ps r p are.1 is)

pub none_found : {X : Type 0} (o : Option X) (P : Type 0) (Q : X → Type 0) → o ≡ None → MatchOption o P Q → P
none_found None P Q e h = h
none_found (Some x) P Q e h = absurd cc
