use Rattle.std.proofs.Common.{◌≡◌, ◌<◌, ℕ, List, length, subst, sym, ◌∙◌, rules}
use Rattle.std.proofs.lemmas.Option.{MatchOption-at_some, MatchOption-at_none}
use Rattle.dependency_check.specs.Left.{AreAllMet, IsFirstUnmet}
use Rattle.dependency_sets.proofs.StrikingLaws.{in_range}
use Rattle.dependency_sets.specs.Sets.{has}
use Rattle.relation_fields.specs.declared.alternative.Alternative.{Alternative}
use Rattle.relation_index.specs.declared.package.Package.{Package}
use Rattle.unit_reports.specs.Units.{IsRefusedUnit}
use Rattle.unit_reports.specs.declared.refusal.Rule.TheVariants.{Depends}
use Rattle.configure_run.specs.LeftOver.{IsNumbered}
use Rattle.configure_run.proofs.LeftLaws.{is_left_over, no_clause_left, numbered_by, within_of}
use Rattle.configure_run.proofs.left_over.refuse_one.Goals as goal
use Rattle.configure_run.proofs.left_over.refuse_one.Given.{Over}
use Rattle.configure_run.proofs.left_over.refuse_one.Goals.{In_ok-unmet}

numbered : (g : Over) (c : In_ok-unmet g) → IsNumbered c.args.queue.now.packages c.args.number c.index-as_slice-number.result
numbered g c =
    let same : c.as_slice.result.now ≡ c.args.queue.now.packages = c.as_slice.ensures.list ∙ c.packages.ensures in
    let lt : c.args.number < length c.as_slice.result.now = subst (λ (l : List Package). c.args.number < length l) (sym same) (subst (λ n. c.args.number < n) c.law.ensures.even.waiting (in_range c.args.queue.now.waiting c.args.number c.requires.waits)) in
    numbered_by c.args.queue.now.packages c.as_slice.result.now c.args.number c.index-as_slice-number.result same lt c.index-as_slice-number.is

pub unreachable-requires : goal.unreachable-requires
unreachable-requires g c =
    let p = c.index-as_slice-number.result in
    let S = has c.supply.result.now in
    let met = MatchOption-at_none (AreAllMet c.packages-2.result.now p.pre_depends S × AreAllMet c.packages-2.result.now p.depends S) (IsFirstUnmet c.packages-2.result.now p S) c.in-None.is c.in_ok-unmet.ensures in
    no_clause_left c.args.queue.now c.args.number p c.packages-2.result.now c.supply.result.now c.packages-2.ensures c.supply.ensures (numbered g (goal.at.unreachable-requires g c).In_ok-unmet) c.requires.waits c.requires.none_left met

pub clause_at-requires : goal.clause_at-requires
clause_at-requires g c =
    let p = c.index-as_slice-number.result in
    let S = has c.supply.result.now in
    let first = MatchOption-at_some (AreAllMet c.packages-2.result.now p.pre_depends S × AreAllMet c.packages-2.result.now p.depends S) (IsFirstUnmet c.packages-2.result.now p S) c.in-Some.unmet c.in-Some.is c.in_ok-unmet.ensures in
    within_of c.packages-2.result.now p S c.in-Some.unmet first

pub returns-clause-ok : goal.returns-clause-ok
returns-clause-ok g c =
    let p = c.index-as_slice-number.result in
    let S = has c.supply.result.now in
    let first = MatchOption-at_some (AreAllMet c.packages-2.result.now p.pre_depends S × AreAllMet c.packages-2.result.now p.depends S) (IsFirstUnmet c.packages-2.result.now p S) c.in-Some.unmet c.in-Some.is c.in_ok-unmet.ensures in
    record {
      unit = c.refused-unit.result;
      grown = search rules;
      is = is_left_over c.args.queue.now c.args.number p c.packages-2.result.now c.supply.result.now c.in-Some.unmet c.refused-unit.result c.packages-2.ensures c.supply.ensures (numbered g (goal.at.returns-clause-ok g c).In_ok-unmet) first
          (subst (λ (l : List Alternative). IsRefusedUnit (Depends l) p.name c.refused-unit.result) c.in_ok-clause-in-Some.ensures (subst (λ (n : List ℕ). IsRefusedUnit (Depends c.in_ok-clause-in-Some.clause) n c.refused-unit.result) c.in_ok-package-in-Some.ensures c.refused-unit.ensures));
    }
