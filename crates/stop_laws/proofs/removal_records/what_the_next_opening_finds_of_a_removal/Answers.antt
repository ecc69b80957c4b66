use Rattle.stop_laws.proofs.Removals.{removal_records}
use Rattle.stop_laws.proofs.removal_records.what_the_next_opening_finds_of_a_removal.Goals as goal

pub returns : goal.returns
returns c = λ given removable d old now so_far order same amid. removal_records given removable old now so_far d order same amid
