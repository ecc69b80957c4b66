use Rattle.host_core.specs.Host.{calls}
use Rattle.undo_rows.specs.Transcript.{Succeed}
use Rattle.undo_rows.specs.Transcripts.{IfHonest}
use Rattle.undo_rows.proofs.Tellings.{made_weaker}
use Rattle.unpack_steps.specs.At.{IsFileFault}
use Rattle.unpack_steps.specs.Task.{kinds, name}
use Rattle.unpack_steps.specs.Underway.{with_places}
use Rattle.unpack_steps.proofs.AnyTable.{at_by_any, succeed_by_any}
use Rattle.unpack_steps.proofs.laws.rows_before_the_files_go_by_any_table.Goals as goal

pub returns-clause-there : goal.returns-clause-there
returns-clause-there c = λ t ways works h s u k none named fitting reads silent at. at_by_any t ways works h s u k none named fitting reads at

pub returns-clause-calls : goal.returns-clause-calls
returns-clause-calls c = λ t ways works rows a b told now fit none made.
    let old = IfHonest b (IsFileFault t) in
    let new = IfHonest b (IsFileFault (with_places ways works t)) in
    made_weaker (Succeed old (calls a) rows) (Succeed new (calls a) rows) a b told now (λ ts all. succeed_by_any old new (name t) (kinds t) rows fit none (calls a) ts all) made
