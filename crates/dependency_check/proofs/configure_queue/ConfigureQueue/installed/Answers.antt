use Rattle.std.proofs.Common.{subst, sym}
use Rattle.dependency_sets.specs.Kept.{Queue}
use Rattle.dependency_sets.specs.Sets.{has}
use Rattle.relation_index.specs.Packages.{AreClauses}
use Rattle.dependency_check.specs.Waiting.{Waiting, IsConfigurableNow}
use Rattle.dependency_check.proofs.QueueLaws.{configurable_is}
use Rattle.dependency_check.proofs.configure_queue.ConfigureQueue.installed.Goals as goal

pub installed-requires-clause-member : goal.installed-requires-clause-member
installed-requires-clause-member c =
    let s = c.self.inside in
    (configurable_is s.packages s.configuring.clauses c.self.invariant (has s.configuring.installed) (has s.configuring.waiting) c.args.number).1 (subst (λ (q : Waiting). IsConfigurableNow q c.args.number) (sym c.self.view_is) c.requires.member)

pub invariant_of-self : goal.invariant_of-self
invariant_of-self c = subst (λ (q : Queue). AreClauses c.self.inside.packages q.clauses) (sym c.installed.ensures) c.self.invariant
