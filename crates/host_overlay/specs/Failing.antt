-- Which script calls are assumed to fail, and how that is foretold.
use Rattle.std.specs.Prelude.{◌≡◌, Bool, false, ◌&&◌, List, [], ◌∷◌, ◌++◌, cond, map, pos}
use Rattle.std.specs.List.{list_any}
use Rattle.std.specs.Str.{bytes_eq}
use Rattle.host_core.specs.Events.{Event, Did, Finished, Cut, Failed, Denied, Ran, calls_of}
use Rattle.host_core.specs.Host.{ran_of}
use Rattle.host_core.specs.Outcome.{script_name}
use Rattle.host_core.specs.Paths.{Path}
use Rattle.host_core.specs.World.{Barrier}
use Rattle.host_core.specs.declared.call.Call.{Call}
use Rattle.host_core.specs.declared.call.Outcome.{Outcome}
use Rattle.host_core.specs.declared.call.Outcome.TheVariants.{Exit}
use Rattle.host_core.specs.declared.call.Side.TheVariants.{New}
use Rattle.host_overlay.specs.declared.failing.AssumedFailure.{AssumedFailure}

abbrev pub is_first : List Path → Path → Bool
is_first [] word = false
is_first (first ∷ rest) word = bytes_eq word first

-- the call is named by its package, its script and its first argument
abbrev pub names : AssumedFailure → Call → Bool
names failure call = bytes_eq failure.«package» call.«package» && (bytes_eq (script_name failure.script) (script_name call.script) && is_first call.args failure.word)

-- how a call ends, where these are assumed to fail: with exit status 1 if one names it, else with 0
abbrev pub outcome_of : List AssumedFailure → Call → Outcome
outcome_of failing call = cond (list_any (λ f. names f call) failing) (Exit (pos 1)) (Exit (pos 0))

-- what is assumed behind a call: the first that names it was met
abbrev pub left_of : List AssumedFailure → Call → List AssumedFailure
left_of [] call = []
left_of (f ∷ fs) call = cond (names f call) fs (f ∷ left_of fs call)

-- what is assumed behind these calls
abbrev pub left_by : List AssumedFailure → List Call → List AssumedFailure
left_by failing [] = failing
left_by failing (call ∷ calls) = left_by (left_of failing call) calls

-- how these calls end, which change nothing
abbrev pub runs_of : List AssumedFailure → List Call → List Ran
runs_of failing [] = []
runs_of failing (call ∷ calls) = ran_of call (outcome_of failing call) [] ∷ runs_of (left_of failing call) calls

-- a call by its package, its script and its first argument
abbrev pub call_for : AssumedFailure → Call
call_for failure = record { side = New; «package» = failure.«package»; script = failure.script; at = []; args = failure.word ∷ [] }

-- What is assumed is foretold before anything is done: each call as one of which no end is known, and then a barrier.
abbrev pub foretell : AssumedFailure → Event
foretell failure = Cut (call_for failure) []

abbrev pub foretold : List AssumedFailure → List Event
foretold failing = map foretell failing ++ Did Barrier ∷ []

abbrev pub first_word : List Path → Path
first_word [] = []
first_word (word ∷ words) = word

-- a call, as one that is assumed to fail
abbrev pub named_by : Call → AssumedFailure
named_by call = record { «package» = call.«package»; script = call.script; word = first_word call.args }

-- what these events foretell
abbrev pub assumed_in : List Event → List AssumedFailure
assumed_in [] = []
assumed_in (Cut call change ∷ es) = named_by call ∷ assumed_in es
assumed_in (Did s ∷ es) = []
assumed_in (Finished ran ∷ es) = []
assumed_in (Failed ∷ es) = []
assumed_in (Denied path ∷ es) = []

-- the calls among these events
abbrev pub made_in : List Event → List Call
made_in es = map (λ (ran : Ran). ran.call) (calls_of es)

-- what is still assumed behind them
abbrev pub left_in : List Event → List AssumedFailure
left_in es = left_by (assumed_in es) (made_in es)

-- they ended as these events foretell, and changed nothing
abbrev pub GoAsForetold : List Event → Type 0
GoAsForetold es = calls_of es ≡ runs_of (assumed_in es) (made_in es)
