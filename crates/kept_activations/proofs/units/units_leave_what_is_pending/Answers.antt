use Rattle.kept_activations.proofs.Frames.{configured_keep, installed_keep, keeps_leaves, keeps_then, removed_keep, unpacked_keep}
use Rattle.kept_activations.proofs.units.units_leave_what_is_pending.Goals as goal

pub returns-clause-unpacked : goal.returns-clause-unpacked
returns-clause-unpacked c = unpacked_keep

pub returns-clause-installed : goal.returns-clause-installed
returns-clause-installed c = installed_keep

pub returns-clause-configured : goal.returns-clause-configured
returns-clause-configured c = configured_keep

pub returns-clause-removed : goal.returns-clause-removed
returns-clause-removed c = removed_keep

pub returns-clause-joined : goal.returns-clause-joined
returns-clause-joined c = keeps_then

pub returns-clause-leaves : goal.returns-clause-leaves
returns-clause-leaves c = keeps_leaves
