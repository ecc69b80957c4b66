use Rattle.std.proofs.Common.{refl, ◌∙◌}
use Rattle.std.proofs.lemmas.Result.{on_ok_weaker}
use Rattle.host_files.proofs.command.set_fixed_variables.Goals as goal

-- each variable in turn, the last one first
pub returns-clause-set : goal.returns-clause-set
returns-clause-set c = on_ok_weaker c.set_variable-5.result (λ set k.
    rw (set k, c.in_ok-set_variable-4.ensures.set k, c.in_ok-set_variable-3.ensures.set k, c.in_ok-set_variable-2.ensures.set k, c.in_ok-set_variable.ensures.set k, c.requires k) refl) c.set_variable-5.ensures.set

pub returns-clause-call : goal.returns-clause-call
returns-clause-call c = on_ok_weaker c.set_variable-5.result (λ same. (
  same.0 ∙ c.in_ok-set_variable-4.ensures.call.0 ∙ c.in_ok-set_variable-3.ensures.call.0 ∙ c.in_ok-set_variable-2.ensures.call.0 ∙ c.in_ok-set_variable.ensures.call.0,
  same.1 ∙ c.in_ok-set_variable-4.ensures.call.1 ∙ c.in_ok-set_variable-3.ensures.call.1 ∙ c.in_ok-set_variable-2.ensures.call.1 ∙ c.in_ok-set_variable.ensures.call.1,
)) c.set_variable-5.ensures.call

pub returns-clause-dir : goal.returns-clause-dir
returns-clause-dir c = on_ok_weaker c.set_variable-5.result (λ same.
    same ∙ c.in_ok-set_variable-4.ensures.dir ∙ c.in_ok-set_variable-3.ensures.dir ∙ c.in_ok-set_variable-2.ensures.dir ∙ c.in_ok-set_variable.ensures.dir) c.set_variable-5.ensures.dir

pub returns-clause-clears : goal.returns-clause-clears
returns-clause-clears c = on_ok_weaker c.set_variable-5.result (λ same.
    same ∙ c.in_ok-set_variable-4.ensures.clears ∙ c.in_ok-set_variable-3.ensures.clears ∙ c.in_ok-set_variable-2.ensures.clears ∙ c.in_ok-set_variable.ensures.clears) c.set_variable-5.ensures.clears
