use Rattle.std.proofs.Common.{inl, inr, sym, subst}
use Rattle.host_core.specs.Tree.{IsBelow}
use Rattle.host_files.proofs.DirectoryLaws.{above_found}
use Rattle.host_files.proofs.remembered.Remembered.learn_above.Goals as goal

pub returns-in-Some-clause-directory : goal.returns-in-Some-clause-directory
returns-in-Some-clause-directory c = λ s is. elim (c.learn.ensures.directory s is) [
  | inl same ↦ inl (subst (λ d. IsBelow d c.args.path.now) (sym same) (subst (IsBelow c.in-Some.above.now) c.as_str.ensures
      (above_found c.as_str.result.now c.in-Some.above.now c.in-Some.field-0-1.now c.in-Some.ensures.cases)))
  | inr old ↦ inr old
]
