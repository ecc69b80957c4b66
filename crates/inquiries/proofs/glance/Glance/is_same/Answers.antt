use Rattle.std.proofs.Common.{◌∙◌, sym}
use Rattle.inquiries.proofs.Glances.{one_world, standing_is}
use Rattle.inquiries.proofs.glance.Glance.is_same.Goals as goal

pub returns-in_ok-same_names-2-clause-exact : goal.returns-in_ok-same_names-2-clause-exact
returns-in_ok-same_names-2-clause-exact c = (
  λ t. record {
    status = standing_is c.args.self.now.status c.args.other.now.status (sym c.in_ok-same.ensures ∙ c.if-not-same.false);
    updates = c.in_ok-same_names.ensures.0 c.if-branch.true;
    info = c.in_ok-same_names-2.ensures.0 t;
  },
  λ same. c.in_ok-same_names-2.ensures.1 same.info,
)

pub returns-in_ok-same_names-2-clause-same : goal.returns-in_ok-same_names-2-clause-same
returns-in_ok-same_names-2-clause-same c = λ info w a b. c.in_ok-same_names-2.ensures.1 (one_world info w c.args.self.now c.args.other.now a b).info

pub returns-else-branch-clause-same : goal.returns-else-branch-clause-same
returns-else-branch-clause-same c = λ info w a b. c.in_ok-same_names.ensures.1 (one_world info w c.args.self.now c.args.other.now a b).updates
