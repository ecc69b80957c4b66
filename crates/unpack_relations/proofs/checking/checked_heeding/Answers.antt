use Rattle.std.proofs.Common.{ℕ, ◌<◌, List, false, length, subst, sym}
use Rattle.std.specs.List.{All}
use Rattle.dependency_check.specs.declared.roles.Role.TheVariants.{Broken, Conflicting}
use Rattle.relation_index.specs.declared.package.Package.{Package}
use Rattle.unpack_relations.specs.Beside.{IsBeside, IsNumbered}
use Rattle.unpack_relations.specs.declared.checking.Checked.TheVariants.{Planned}
use Rattle.unpack_relations.proofs.Apart.{checked_apart}
use Rattle.unpack_relations.proofs.Members.{dependents_numbered, role_listed}
use Rattle.unpack_relations.proofs.checking.checked_heeding.Goals as goal

pub beside_of-requires : goal.beside_of-requires
beside_of-requires c =
    let plan = c.in-Ok.plan in
    let is = c.in-Ok.ensures.plan.2 in
    let packages = c.args.packages.now in
    let incoming = c.args.incoming.now in
    let same = c.as_slice-list.ensures.list in
    record {
      broken = subst (λ (l : List Package). All (λ x. x < length l) plan.broken) (sym same) (role_listed Broken packages incoming plan.broken is.broken);
      dependents = subst (λ (l : List Package). All (IsNumbered l) plan.dependents.items) (sym same) (dependents_numbered packages incoming plan.dependents.items is.dependents.1);
      conflicting = subst (λ (l : List Package). All (λ x. x < length l) plan.conflicting) (sym same) (role_listed Conflicting packages incoming plan.conflicting is.conflicting);
    }

pub returns-in_ok-beside_of-in-Ok-clause-checked : goal.returns-in_ok-beside_of-in-Ok-clause-checked
returns-in_ok-beside_of-in-Ok-clause-checked c =
    let plan = c.in-Ok.plan in
    let b = c.in_ok-beside_of-in-Ok.field-0 in
    (plan, c.in-Ok.ensures.plan, subst (λ (l : List Package). IsBeside l c.args.incoming.now plan b) c.as_slice-list.ensures.list c.in_ok-beside_of-in-Ok.ensures)

pub returns-in_ok-beside_of-in-Ok-clause-apart : goal.returns-in_ok-beside_of-in-Ok-clause-apart
returns-in_ok-beside_of-in-Ok-clause-apart c = λ records are.
    let plan = c.in-Ok.plan in
    let b = c.in_ok-beside_of-in-Ok.field-0 in
    checked_apart records c.args.packages.now c.args.incoming.now false c.args.auto_deconfigure (Planned b) c.as_slice-list.ensures.ordered are
    (plan, c.in-Ok.ensures.plan, subst (λ (l : List Package). IsBeside l c.args.incoming.now plan b) c.as_slice-list.ensures.list c.in_ok-beside_of-in-Ok.ensures)
