use Rattle.std.proofs.Common.{◌≡◌, true, subst, sym, ◌∙◌, List}
use Rattle.dependency_sets.specs.Sets.{has}
use Rattle.relation_index.specs.Packages.{Meets, meets, those}
use Rattle.relation_index.specs.declared.package.Package.{Package}
use Rattle.dependency_check.specs.Queues.{IsMetBy}
use Rattle.dependency_check.proofs.LeftLaws.{without_is}
use Rattle.dependency_check.proofs.MeetingLaws.{meets_is}
use Rattle.dependency_check.proofs.left.is_met_alone.Goals as goal

pub returns : goal.returns
returns c =
    let meets' = subst (λ (l : List Package). those (meets c.args.clause.now) l c.args.number ≡ true) c.as_slice.ensures.list (sym c.is_met_by_number.ensures ∙ c.if-not-is_met_by_number.false) in
    let here = (meets_is c.args.clause.now c.args.packages.now c.args.number).0 meets' in
    without_is c.in_ok-met.met (Meets c.args.clause.now c.args.packages.now c.args.number) (IsMetBy c.args.packages.now c.args.clause.now (has c.args.staying.now)) here c.in_ok-met.ensures
