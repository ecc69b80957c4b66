-- The line of a script call (Policy 6.1): whose script, which, with what, and how it ended.
use Rattle.std.specs.Prelude.{ℕ, List, ◌++◌, codes, if◌then◌else◌}
use Rattle.std.specs.List.{flat_map}
use Rattle.std.specs.Fmt.{signed_decimal}
use Rattle.std.specs.Str.{bytes_eq}
use Rattle.host_core.specs.Outcome.{script_name}
use Rattle.host_core.specs.declared.call.Call.{Call}
use Rattle.host_core.specs.declared.call.Side.{Side}
use Rattle.host_core.specs.declared.call.Side.TheVariants.{Old, New}
use Rattle.host_core.specs.declared.call.Outcome.{Outcome}
use Rattle.host_core.specs.declared.call.Outcome.TheVariants.{Exit, Killed, NotStarted}
use Rattle.shown_lines.specs.Lines.{line}
use Rattle.undo_rows.specs.declared.rows.Called.{Called}

-- a script that is stored, or one of the incoming tree
abbrev pub side_word : Side → List ℕ
side_word Old = codes "old"
side_word New = codes "new"

-- an argument as it is told: an empty one as a pair of quotes
abbrev pub arg_word : List ℕ → List ℕ
arg_word arg = if bytes_eq arg (codes "") then codes "\"\"" else arg

-- an argument behind its blank
abbrev pub arg_text : List ℕ → List ℕ
arg_text arg = codes " " ++ arg_word arg

-- a package, its script and the arguments
abbrev pub call_text : List ℕ → Call → List ℕ
call_text p call = p ++ (codes " " ++ (script_name call.script ++ flat_map arg_text call.args))

-- how a call ended
abbrev pub outcome_text : Outcome → List ℕ
outcome_text (Exit code) = codes "exit " ++ signed_decimal code
outcome_text Killed = codes "killed"
outcome_text NotStarted = codes "not started"

-- `call old|new PKG SCRIPT ARGS: OUTCOME`
abbrev pub call_line : Called → List ℕ
call_line called =
    line (codes "call " ++ (side_word called.call.side ++ (codes " " ++ (call_text called.call.package called.call
    ++ (codes ": " ++ outcome_text called.outcome)))))
