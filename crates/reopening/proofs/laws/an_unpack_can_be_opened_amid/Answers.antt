use Rattle.reopening.proofs.Sessions.{install_ends, run_ends}
use Rattle.reopening.proofs.Standings.{finds_sound}
use Rattle.reopening.proofs.laws.an_unpack_can_be_opened_amid.Goals as goal

pub returns-clause-unpack : goal.returns-clause-unpack
returns-clause-unpack c = λ auto cs us last before s t texts finds has. run_ends auto cs us last before s t texts has (finds_sound before s finds)

pub returns-clause-install : goal.returns-clause-install
returns-clause-install c = λ auto cs policy unpacked configured before s t texts finds has. install_ends auto cs policy unpacked configured before s t texts has (finds_sound before s finds)
