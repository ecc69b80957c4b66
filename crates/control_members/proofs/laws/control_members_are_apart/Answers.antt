use Rattle.control_members.proofs.Apart.{no_list, no_temporary, same_stored, no_list_temporary, same_of_temporaries}
use Rattle.control_members.proofs.Replacing.{stored_whole}
use Rattle.control_members.proofs.laws.control_members_are_apart.Goals as goal

pub returns-clause-list : goal.returns-clause-list
returns-clause-list c = no_list

pub returns-clause-spare : goal.returns-clause-spare
returns-clause-spare c = no_temporary

pub returns-clause-others : goal.returns-clause-others
returns-clause-others c = same_stored

pub returns-clause-whole : goal.returns-clause-whole
returns-clause-whole c = stored_whole

pub returns-clause-list_spare : goal.returns-clause-list_spare
returns-clause-list_spare c = no_list_temporary

pub returns-clause-spares : goal.returns-clause-spares
returns-clause-spares c = same_of_temporaries
