use Rattle.std.proofs.Common.{refl, set, true, subst, sym, length, ◌<◌}
use Rattle.dependency_sets.specs.Kept.{Queue}
use Rattle.dependency_sets.specs.Sets.{has, IsConfigurable}
use Rattle.dependency_sets.proofs.KeptLaws.{kept_is, kept_installed}
use Rattle.dependency_sets.proofs.configuring.Configuring.installed.Goals as goal

pub invariant_of-self : goal.invariant_of-self
invariant_of-self c =
    let s = c.self.inside in
    let room = subst (λ (q : Queue). c.args.number < length q.installed) (sym c.self.view_is) c.requires.room in
    let member = subst (λ (q : Queue). IsConfigurable q.clauses (has q.installed) (has q.waiting) c.args.number) (sym c.self.view_is) c.requires.member in
    let is = kept_is s.clauses.items (has s.supply.items) (has s.waiting.items) s.striking.members.items s.striking.pending.items s.striking.gone.items s.rows.items c.self.invariant c.args.number in
    kept_installed s.clauses.items s.supply.items s.waiting.items s.striking.members.items s.striking.pending.items s.striking.gone.items s.rows.items c.args.number (set s.supply.items c.args.number true) c.take_out.new.set.items c.take_out-2.new.set.items
    room (is.1 member) c.self.invariant refl c.take_out.ensures c.take_out-2.ensures
