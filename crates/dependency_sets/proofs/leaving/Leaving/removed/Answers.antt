use Rattle.std.proofs.Common.{◌<◌, arith, subst, sym, length}
use Rattle.dependency_sets.specs.Kept.{Queue}
use Rattle.dependency_sets.specs.Removal.{IsRemovable}
use Rattle.dependency_sets.specs.Sets.{has, IsConfigurable}
use Rattle.dependency_sets.proofs.RemovalLaws.{leaving_now_law, leaving_now_removed}
use Rattle.dependency_sets.proofs.leaving.Leaving.removed.Goals as goal

pub installed-requires-clause-member : goal.installed-requires-clause-member
installed-requires-clause-member c =
    let s = c.self.inside in
    (leaving_now_law s.clauses.items s.installed.items s.kept c.self.invariant c.args.number).1 (subst (λ (q : Queue). IsRemovable q.clauses (has q.installed) (has q.waiting) c.args.number) (sym c.self.view_is) c.requires.member)

pub invariant_of-self : goal.invariant_of-self
invariant_of-self c =
    let s = c.self.inside in
    let within : c.args.number < length s.installed.items = subst (λ (q : Queue). c.args.number < length q.installed) (sym c.self.view_is) c.requires.room in
    let member : IsConfigurable s.kept.clauses (has s.kept.installed) (has s.kept.waiting) c.args.number = (leaving_now_law s.clauses.items s.installed.items s.kept c.self.invariant c.args.number).1 (subst (λ (q : Queue). IsRemovable q.clauses (has q.installed) (has q.waiting) c.args.number) (sym c.self.view_is) c.requires.member) in
    leaving_now_removed s.clauses.items s.installed.items c.take_out.new.set.items s.kept c.installed.new.self c.args.number (omega (arith, within, c.self.invariant.room)) (member.1.0 c.args.number member.2) c.take_out.ensures c.installed.ensures c.self.invariant
