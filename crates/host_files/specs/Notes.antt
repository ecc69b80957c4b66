-- A note, as the record has it.
use Rattle.std.specs.Prelude.{ℕ, ◌+◌, List, [], ◌∷◌, ◌++◌}
use Rattle.host_core.specs.declared.call.Call.{Call}
use Rattle.host_core.specs.declared.call.Outcome.{Outcome}
use Rattle.host_files.specs.declared.told.Made.{Made}
use Rattle.host_files.specs.declared.record.Asked.{Asked}
use Rattle.host_files.specs.declared.record.Asked.TheVariants as asked
use Rattle.host_files.specs.declared.record.Asks.{Asks}
use Rattle.host_files.specs.declared.record.Asks.TheVariants as asks
use Rattle.host_files.specs.declared.record.Noted.{Noted}
use Rattle.host_files.specs.declared.record.Noted.TheVariants as was
use Rattle.host_files.specs.declared.record.Note.{Note}
use Rattle.host_files.specs.declared.record.Note.TheVariants as note

abbrev pub asked_by : Asks → Asked
asked_by (asks.Write p n) = asked.Write p.now n.now
asked_by (asks.Move a b) = asked.Move a.now b.now
asked_by (asks.Take p) = asked.Take p.now
asked_by (asks.MakeDir p m) = asked.MakeDir p.now m
asked_by (asks.RemoveDir p) = asked.RemoveDir p.now
asked_by (asks.HardLink a b) = asked.HardLink a.now b.now
asked_by (asks.MakeLink p t) = asked.MakeLink p.now t.now
asked_by (asks.Sync p) = asked.Sync p.now
asked_by asks.Barrier = asked.Barrier
asked_by asks.SyncAll = asked.SyncAll
asked_by asks.SyncRoot = asked.SyncRoot
asked_by (asks.Lower p) = asked.Lower p.now

abbrev pub noted : Note → Noted
noted (note.Looked p n) = was.Looked p.now n.now
noted (note.Seen p k) = was.Seen p.now k
noted (note.Listed p l) = was.Listed p.now l.now
noted (note.Compared one other same) = was.Compared one.now other.now same
noted (note.Done a) = was.Done (asked_by a)
noted (note.Undone a) = was.Undone (asked_by a)
noted (note.Declined a) = was.Declined (asked_by a)
noted (note.Ended c k o) = was.Ended c.now k.now o
noted (note.Broke c k) = was.Broke c.now k.now
noted note.Missed = was.Missed

-- a call that is neither a fault nor a script that ended
abbrev pub IsPlain : Noted → Type 0
IsPlain (was.Looked p n) = Unit {0}
IsPlain (was.Seen p k) = Unit {0}
IsPlain (was.Listed p l) = Unit {0}
IsPlain (was.Compared one other same) = Unit {0}
IsPlain (was.Done a) = Unit {0}
IsPlain (was.Undone a) = ⊥
IsPlain (was.Declined a) = Unit {0}
IsPlain (was.Ended c k o) = ⊥
IsPlain (was.Broke c k) = ⊥
IsPlain was.Missed = ⊥

-- a call of which Device was told
abbrev pub IsNotedFault : Noted → Type 0
IsNotedFault (was.Looked p n) = ⊥
IsNotedFault (was.Seen p k) = ⊥
IsNotedFault (was.Listed p l) = ⊥
IsNotedFault (was.Compared one other same) = ⊥
IsNotedFault (was.Done a) = ⊥
IsNotedFault (was.Undone a) = Unit {0}
IsNotedFault (was.Declined a) = ⊥
IsNotedFault (was.Ended c k o) = ⊥
IsNotedFault (was.Broke c k) = Unit {0}
IsNotedFault was.Missed = Unit {0}

-- how often Device was told
abbrev pub faults_in : List Noted → ℕ
faults_in [] = 0
faults_in (was.Looked p n ∷ h) = faults_in h
faults_in (was.Seen p k ∷ h) = faults_in h
faults_in (was.Listed p l ∷ h) = faults_in h
faults_in (was.Compared one other same ∷ h) = faults_in h
faults_in (was.Done a ∷ h) = faults_in h
faults_in (was.Undone a ∷ h) = faults_in h + 1
faults_in (was.Declined a ∷ h) = faults_in h
faults_in (was.Ended c k o ∷ h) = faults_in h
faults_in (was.Broke c k ∷ h) = faults_in h + 1
faults_in (was.Missed ∷ h) = faults_in h + 1

-- the scripts that ended, the first of them first
abbrev pub calls_in : List Noted → List (Call × Outcome)
calls_in [] = []
calls_in (was.Looked p n ∷ h) = calls_in h
calls_in (was.Seen p k ∷ h) = calls_in h
calls_in (was.Listed p l ∷ h) = calls_in h
calls_in (was.Compared one other same ∷ h) = calls_in h
calls_in (was.Done a ∷ h) = calls_in h
calls_in (was.Undone a ∷ h) = calls_in h
calls_in (was.Declined a ∷ h) = calls_in h
calls_in (was.Ended c k o ∷ h) = calls_in h ++ (c, o) ∷ []
calls_in (was.Broke c k ∷ h) = calls_in h
calls_in (was.Missed ∷ h) = calls_in h

-- a call as the program tells it
abbrev pub told_of : Made → Call × Outcome
told_of made = (made.call, made.outcome)
