use Rattle.stop_laws.proofs.CalledFiles.{configure_files_same, removal_calls_stored, removal_files_same}
use Rattle.stop_laws.proofs.CalledStages.{configure_calls_stored, run_of}
use Rattle.stop_laws.proofs.called.what_a_stored_script_holds.Goals as goal

pub returns-clause-calls : goal.returns-clause-calls
returns-clause-calls c = λ stages ts may. run_of stages ts may

pub returns-clause-removal_calls : goal.returns-clause-removal_calls
returns-clause-removal_calls c = λ given old stages plan call is. removal_calls_stored given old stages plan call is

pub returns-clause-configure_calls : goal.returns-clause-configure_calls
returns-clause-configure_calls c = λ given old stages plan call is. configure_calls_stored given old stages plan call is

pub returns-clause-removal_files : goal.returns-clause-removal_files
returns-clause-removal_files c = λ given old now so_far amid call is. removal_files_same given old now so_far amid call is

pub returns-clause-configure_files : goal.returns-clause-configure_files
returns-clause-configure_files c = λ given old now so_far amid call is. configure_files_same given old now so_far amid call is
