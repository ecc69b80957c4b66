-- What each step keeps, all steps keep.
use Rattle.std.proofs.Common.{◌≡◌, ◌∙◌, List, [], ◌∷◌, ◌++◌, Result, Ok, Err, ap, refl, sym, subst}
use Rattle.std.specs.Prelude.{IfOk, OnErr}
use Rattle.host_core.specs.Host.{State}
use Rattle.undo_rows.specs.declared.rows.Called.{Called}
use Rattle.unit_reports.specs.Watching.{IsToldBehind}
use Rattle.unit_reports.specs.declared.report.Report.{Report}
use Rattle.unit_reports.specs.declared.report.Unit.{Unit as AUnit}
use Rattle.dpkg_session.specs.Trees.{AreRead}
use Rattle.dpkg_session.specs.declared.report.Candidate.{Candidate}
use Rattle.dpkg_session.specs.declared.installing.Installed.{Installed}
use Rattle.trigger_turns.specs.Told.{AreTold, AreToldInTurns}
use Rattle.command_line.specs.Printing.{AreRoundsTold, IsDoneTold, units_of_round}
use Rattle.command_line.specs.Triggering.{AreAllTold, AreTriggersTold}
use Rattle.command_line.specs.Unpacks.{IsAllTold}
use Rattle.command_line.specs.declared.ending.Ended.{Ended}
use Rattle.command_line.specs.declared.triggering.Triggered.{Triggered}
use Rattle.command_line.specs.declared.unpacking.Done.{Done}
use Rattle.command_line.specs.declared.unpacking.Done.TheVariants as done

pub reads_keep : {T X : Type 0} (reads : T → Candidate → T → Type 0) (name : T → X) → ((a b : T) (c : Candidate) → reads a c b → name b ≡ name a)
    → (cs : List Candidate) (old new : T) → AreRead reads old cs new → name new ≡ name old
reads_keep reads name one [] old new read = subst (λ t. name t ≡ name old) (sym read) refl
reads_keep reads name one (c ∷ cs) old new read = reads_keep reads name one cs read.0 new read.2 ∙ one old read.0 c read.1

tells_keep : {W X : Type 0} (tells : W → AUnit → State → W → Type 0) (name : W → X) → ((a b : W) (u : AUnit) (at : State) → tells a u at b → name b ≡ name a)
    → (s : State) (so_far : List Called) (us : List AUnit) (old new : W) → IsToldBehind tells s so_far old us new → name new ≡ name old
tells_keep tells name one s so_far [] old new told = subst (λ t. name t ≡ name old) (sym told) refl
tells_keep tells name one s so_far (u ∷ us) old new told = tells_keep tells name one s (so_far ++ u.calls.items) us told.0 new told.5 ∙ one old told.0 u told.1 told.2

told_keep : {W X : Type 0} (tells : W → AUnit → State → W → Type 0) (name : W → X) → ((a b : W) (u : AUnit) (at : State) → tells a u at b → name b ≡ name a)
    → (us : List AUnit) (old new : W) → AreTold tells old us new → name new ≡ name old
told_keep tells name one us old new (s, told) = tells_keep tells name one s [] us old new told

turns_keep : {W X : Type 0} (tells : W → AUnit → State → W → Type 0) (name : W → X) → ((a b : W) (u : AUnit) (at : State) → tells a u at b → name b ≡ name a)
    → (old : W) (us : List AUnit) (new : W) → AreToldInTurns tells old us new → name new ≡ name old
turns_keep tells name one old us new AreToldInTurns.nothing = refl
turns_keep tells name one old us new (AreToldInTurns.then vs others mid end told last) = told_keep tells name one others mid end last ∙ turns_keep tells name one old vs mid told

triggers_keep : {W X : Type 0} (tells : W → AUnit → State → W → Type 0) (name : W → X) → ((a b : W) (u : AUnit) (at : State) → tells a u at b → name b ≡ name a)
    → (came : Triggered) (old new : W) → AreTriggersTold tells old came new → name new ≡ name old
triggers_keep tells name one came old new (mid, noted, processed) =
    turns_keep tells name one mid came.processed.units.items new processed ∙ told_keep tells name one came.noted.units.items old mid noted

all_keep : {W X : Type 0} (tells : W → AUnit → State → W → Type 0) (name : W → X) → ((a b : W) (u : AUnit) (at : State) → tells a u at b → name b ≡ name a)
    → (us : List AUnit) (came : Triggered) (old new : W) → AreAllTold tells old us came new → name new ≡ name old
all_keep tells name one us came old new (mid, told, behind) = triggers_keep tells name one came mid new behind ∙ told_keep tells name one us old mid told

-- the same of what was told where there is a result, and of a watcher that else was told nothing
pub work_keeps : {E W X : Type 0} (result : Result (Ended Report) E) (tells : W → AUnit → State → W → Type 0) (name : W → X) → ((a b : W) (u : AUnit) (at : State) → tells a u at b → name b ≡ name a)
    → (old new : W) → IfOk result (λ ended. AreAllTold tells old ended.done.units.items ended.triggered new) → OnErr result (new ≡ old) → name new ≡ name old
work_keeps (Ok ended) tells name one old new told untold = all_keep tells name one ended.done.units.items ended.triggered old new told
work_keeps (Err e) tells name one old new told untold = ap name untold

rounds_keep : {W X : Type 0} (tells : W → AUnit → State → W → Type 0) (name : W → X) → ((a b : W) (u : AUnit) (at : State) → tells a u at b → name b ≡ name a)
    → (came : List Installed) (old new : W) → AreRoundsTold tells old came new → name new ≡ name old
rounds_keep tells name one [] old new told = ap name told
rounds_keep tells name one (c ∷ cs) old new told = rounds_keep tells name one cs told.0 new told.2 ∙ tells_keep tells name one told.1.0 [] (units_of_round c) old told.0 told.1.1

done_keep : {W X : Type 0} (tells : W → AUnit → State → W → Type 0) (name : W → X) → ((a b : W) (u : AUnit) (at : State) → tells a u at b → name b ≡ name a)
    → (came : Done) (old new : W) → IsDoneTold tells old came new → name new ≡ name old
done_keep tells name one (done.Unpacked report) old new told = tells_keep tells name one told.0 [] report.units.items old new told.1
done_keep tells name one (done.Installed rounds) old new told = rounds_keep tells name one rounds.items old new told

ended_keeps : {W X : Type 0} (tells : W → AUnit → State → W → Type 0) (name : W → X) → ((a b : W) (u : AUnit) (at : State) → tells a u at b → name b ≡ name a)
    → (ended : Ended Done) (old new : W) → IsAllTold tells old ended new → name new ≡ name old
ended_keeps tells name one ended old new (mid, told, behind) = triggers_keep tells name one ended.triggered mid new behind ∙ done_keep tells name one ended.done old mid told

-- the same of what came of trees
pub trees_keep : {E W X : Type 0} (result : Result (Ended Done) E) (tells : W → AUnit → State → W → Type 0) (name : W → X) → ((a b : W) (u : AUnit) (at : State) → tells a u at b → name b ≡ name a)
    → (old new : W) → IfOk result (λ ended. IsAllTold tells old ended new) → OnErr result (new ≡ old) → name new ≡ name old
trees_keep (Ok ended) tells name one old new told untold = ended_keeps tells name one ended old new told
trees_keep (Err e) tells name one old new told untold = ap name untold
