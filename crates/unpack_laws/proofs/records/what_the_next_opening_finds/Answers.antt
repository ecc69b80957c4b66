use Rattle.unpack_laws.proofs.NextRecords.{records_next}
use Rattle.unpack_laws.proofs.records.what_the_next_opening_finds.Goals as goal

pub returns : goal.returns
returns c = λ given d places old now so_far others order same amid. records_next given others places old now so_far d order same amid
