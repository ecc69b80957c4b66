use Rattle.std.proofs.Common.{rules, ◌≡◌, List, ap, subst, sym, ◌∙◌}
use Rattle.dependency_check.specs.Waiting.{Waiting}
use Rattle.relation_index.specs.declared.package.Package.{Package}
use Rattle.dependency_check.specs.Breaking.{AreBreakers}
use Rattle.configure_run.specs.Starting.{AreNamedApart}
use Rattle.configure_run.proofs.Progress.{packages_after}
use Rattle.configure_run.proofs.queue.Queue.after.Goals as goal

pub invariant_of-result : goal.invariant_of-result
invariant_of-result c =
    let q = c.self.inside.queue in
    let same : c.in_ok-left.left.packages ≡ q.packages = ap (λ (w : Waiting). w.packages) c.in_ok-left.ensures ∙ packages_after c.args.done c.args.number q in (
      search rules,
      search rules,
      subst AreNamedApart (sym {A = List Package} same) c.self.invariant.2,
      subst (λ (ps : List Package). AreBreakers ps c.self.inside.breakers) (sym {A = List Package} same) c.self.invariant.3,
    )
