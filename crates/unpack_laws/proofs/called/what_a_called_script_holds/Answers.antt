use Rattle.unpack_laws.proofs.CalledFiles.{calling_holds}
use Rattle.unpack_laws.proofs.CalledRows.{run_of}
use Rattle.unpack_laws.proofs.called.what_a_called_script_holds.Goals as goal

pub returns-clause-calls : goal.returns-clause-calls
returns-clause-calls c = λ rows ts may. run_of rows ts may

pub returns-clause-files : goal.returns-clause-files
returns-clause-files c = λ given places old now so_far amid call others calling is. calling_holds given places old now so_far amid others calling call is
