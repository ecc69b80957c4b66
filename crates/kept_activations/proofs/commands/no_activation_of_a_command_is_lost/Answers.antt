use Rattle.kept_activations.proofs.Around.{out_asked, out_hit, out_stays}
use Rattle.kept_activations.proofs.commands.no_activation_of_a_command_is_lost.Goals as goal

pub returns-clause-hit : goal.returns-clause-hit
returns-clause-hit c = λ t us known came before after s end owner trigger out interested hit. out_hit t us known came before after s end out owner trigger interested hit

pub returns-clause-asked : goal.returns-clause-asked
returns-clause-asked c = λ t us known came before after s end owner trigger out interested asked. out_asked t us known came before after s end out owner trigger interested asked

pub returns-clause-stays : goal.returns-clause-stays
returns-clause-stays c = λ t us known came before after s end owner trigger out pending. out_stays t us known came before after s end out owner trigger pending
