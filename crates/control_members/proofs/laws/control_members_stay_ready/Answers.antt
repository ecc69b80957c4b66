use Rattle.control_members.proofs.LaidOut.{laid_elsewhere, laid_incoming, incoming_elsewhere}
use Rattle.control_members.proofs.Replacing.{replacing_ready, ready_beside}
use Rattle.control_members.proofs.Taking.{taking_ready}
use Rattle.control_members.proofs.laws.control_members_stay_ready.Goals as goal

pub returns-clause-replacing : goal.returns-clause-replacing
returns-clause-replacing c = replacing_ready

pub returns-clause-taking : goal.returns-clause-taking
returns-clause-taking c = λ owner gone before now is ready. taking_ready owner gone before now ready is

pub returns-clause-beside : goal.returns-clause-beside
returns-clause-beside c = ready_beside

pub returns-clause-laid : goal.returns-clause-laid
returns-clause-laid c = laid_elsewhere

pub returns-clause-incoming : goal.returns-clause-incoming
returns-clause-incoming c = laid_incoming

pub returns-clause-elsewhere : goal.returns-clause-elsewhere
returns-clause-elsewhere c = incoming_elsewhere
