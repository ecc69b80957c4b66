-- Script calls with what came of them.
use Rattle.std.specs.Prelude.{Bool, true, false, List, [], ◌∷◌}
use Rattle.host_core.specs.Events.{Ran}
use Rattle.host_core.specs.Outcome.{is_success}
use Rattle.host_core.specs.declared.call.Call.{Call}

-- a call, and whether it succeeds
pub record Answer : Type 0 where
  pub call : Call
  pub succeeds : Bool

abbrev pub works : Call → Answer
works call = record { call = call; succeeds = true }

abbrev pub fails : Call → Answer
fails call = record { call = call; succeeds = false }

-- a call that was made
abbrev pub answer_of : Ran → Answer
answer_of t = record { call = t.call; succeeds = is_success t.outcome }

-- how a call goes on that has another in its place: it succeeds, or the other does
pub data Way : Type 0 where
  Outright : Way
  InItsPlace : Way

abbrev pub goes : Call → Call → Way → List Answer
goes call other Outright = works call ∷ []
goes call other InItsPlace = fails call ∷ works other ∷ []
