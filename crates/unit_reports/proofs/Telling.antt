-- What was told in turn was told as a whole.
use Rattle.std.proofs.Common.{◌≡◌, List, [], ◌∷◌, ◌++◌, inl, inr, map, refl, sym, subst, ap, ◌∙◌, append_assoc}
use Rattle.std.proofs.lemmas.List.{append-nil, append_cancel_left}
use Rattle.host_core.specs.Events.{Did, Event}
use Rattle.host_core.specs.Host.{State, Reads}
use Rattle.host_core.specs.Loss.{IsAnswered, IsOnDisk}
use Rattle.host_core.specs.World.{Barrier}
use Rattle.host_core.proofs.Moments.{faults_then, reads_then}
use Rattle.undo_rows.proofs.Makes.{tells_none, tells_then}
use Rattle.undo_rows.specs.Transcript.{TellsAll, told_of}
use Rattle.undo_rows.specs.declared.rows.Called.{Called}
use Rattle.unit_reports.specs.Units.{calls_of}
use Rattle.unit_reports.specs.Watching.{AddsTold, IsTold, IsToldBehind}
use Rattle.unit_reports.specs.declared.report.Unit.{Unit as AUnit}
use Rattle.host_core.proofs.Barriers.{answered_here}

still_on_disk : (a b : State) → IsOnDisk a.events → Reads a b → IsOnDisk b.events
still_on_disk a b disk reads = (disk.0, disk.1 ++ reads.added, reads.events ∙ ap (λ (l : List Event). l ++ reads.added) disk.2 ∙ append_assoc disk.0 (Did Barrier ∷ disk.1) reads.added, faults_then disk.1 reads.added disk.3 reads.failed)

-- what was answered before, and what is answered now
pub answered_then : (a b c : State) → IsAnswered a b → IsAnswered b c → IsAnswered a c
answered_then a b c first (inl disk) = inl disk
answered_then a b c (inl disk) (inr reads) = inl (still_on_disk b c disk reads)
answered_then a b c (inr first) (inr second) = inr (reads_then a b c first second)

-- the calls of units

pub calls_both : (us vs : List AUnit) → calls_of (us ++ vs) ≡ calls_of us ++ calls_of vs
calls_both [] vs = refl
calls_both (u ∷ us) vs = ap (λ l. u.calls.items ++ l) (calls_both us vs) ∙ sym (append_assoc u.calls.items (calls_of us) (calls_of vs))

pub calls_more : (us : List AUnit) (u : AUnit) → calls_of (us ++ u ∷ []) ≡ calls_of us ++ u.calls.items
calls_more us u = calls_both us (u ∷ []) ∙ ap (λ l. calls_of us ++ l) (append-nil u.calls.items)

-- the same calls, behind others
pub tells_behind : (b c : State) (before own : List Called) → TellsAll b c [] own → TellsAll b c before (before ++ own)
tells_behind b c before own told = (told.0, told.1, ap (λ l. before ++ l) told.2)

-- the same, without the others
tells_alone : (b c : State) (before own : List Called) → TellsAll b c before (before ++ own) → TellsAll b c [] own
tells_alone b c before own told = (told.0, told.1, append_cancel_left before own (map told_of told.0) told.2)

pub tells_both : (a b c : State) (first second : List Called) → TellsAll a b [] first → TellsAll b c [] second → TellsAll a c [] (first ++ second)
tells_both a b c first second one two = tells_then a b c [] first (first ++ second) one (tells_behind b c first second two)

-- told units

module _ {W : Type 0} (tells : W → AUnit → State → W → Type 0) where
  -- counted from an earlier state
  told_since : (s at : State) (base so_far : List Called) (old new : W) (us : List AUnit) → TellsAll s at [] base → IsAnswered s at → IsToldBehind tells at so_far old us new → IsToldBehind tells s (base ++ so_far) old us new
  told_since s at base so_far old new [] told answered same = same
  told_since s at base so_far old new (u ∷ us) told answered (mid, then, is, calls, disk, rest) = (
    mid,
    then,
    is,
    subst (TellsAll s then []) (sym (append_assoc base so_far u.calls.items)) (tells_both s at then base (so_far ++ u.calls.items) told calls),
    answered_then s at then answered disk,
    subst (λ l. IsToldBehind tells s l mid us new) (sym (append_assoc base so_far u.calls.items)) (told_since s at base (so_far ++ u.calls.items) mid new us told answered rest),
  )

  told_behind : (s at : State) (so_far : List Called) (old mid new : W) (us vs : List AUnit) → IsToldBehind tells s so_far old us mid → TellsAll s at [] (so_far ++ calls_of us) → IsAnswered s at → IsToldBehind tells at [] mid vs new
      → IsToldBehind tells s so_far old (us ++ vs) new
  told_behind s at so_far old mid new [] vs same told answered rest =
      subst (λ l. IsToldBehind tells s l old vs new) (append-nil so_far)
      (told_since s at so_far [] old new vs (subst (TellsAll s at []) (append-nil so_far) told) answered (subst (λ w. IsToldBehind tells at [] w vs new) same rest))
  told_behind s at so_far old mid new (u ∷ us) vs (between, then, is, calls, disk, more) told answered rest = (
    between,
    then,
    is,
    calls,
    disk,
    told_behind s at (so_far ++ u.calls.items) between mid new us vs more (subst (TellsAll s at []) (sym (append_assoc so_far u.calls.items (calls_of us))) told) answered rest,
  )

  pub told_more : (s at : State) (old mid new : W) (us vs : List AUnit) → IsTold tells s old us mid → TellsAll s at [] (calls_of us) → IsAnswered s at → IsTold tells at mid vs new → IsTold tells s old (us ++ vs) new
  told_more s at old mid new us vs first told answered second = told_behind s at [] old mid new us vs first told answered second

  pub told_one : (s at : State) (old new : W) (u : AUnit) → tells old u at new → TellsAll s at [] u.calls.items → IsAnswered s at → IsTold tells s old (u ∷ []) new
  told_one s at old new u is told answered = (new, at, is, told, answered, refl)

  pub none_added : (s : State) (w : W) (us : List AUnit) → AddsTold tells s us us w w
  none_added s w us = record { more = []; grown = sym (append-nil us); told = refl }

  pub one_added : (s at : State) (old new : W) (us : List AUnit) (u : AUnit) → tells old u at new → TellsAll s at [] u.calls.items → IsAnswered s at → AddsTold tells s us (us ++ u ∷ []) old new
  one_added s at old new us u is told answered = record { more = u ∷ []; grown = refl; told = told_one s at old new u is told answered }

  pub told_added : (s at : State) (old mid new : W) (first second third : List AUnit) → AddsTold tells s first second old mid → TellsAll s at (calls_of first) (calls_of second) → IsAnswered s at → AddsTold tells at second third mid new
      → AddsTold tells s first third old new
  told_added s at old mid new first second third a told answered b = record {
    more = a.more ++ b.more;
    grown = b.grown ∙ (ap (λ us. us ++ b.more) a.grown ∙ append_assoc first a.more b.more);
    told = told_more s at old mid new a.more b.more a.told
        (tells_alone s at (calls_of first) (calls_of a.more) (subst (TellsAll s at (calls_of first)) (ap calls_of a.grown ∙ calls_both first a.more) told)) answered b.told;
  }

  -- units without calls, told at the same state

  pub one_still : (s : State) (old new : W) (us : List AUnit) (u : AUnit) → tells old u s new → u.calls.items ≡ [] → AddsTold tells s us (us ++ u ∷ []) old new
  one_still s old new us u is none = one_added s s old new us u is (tells_none s s [] u.calls.items refl none) (answered_here s)

  pub told_still : (s : State) (old mid new : W) (first second third : List AUnit) → AddsTold tells s first second old mid → calls_of second ≡ calls_of first → AddsTold tells s second third mid new → AddsTold tells s first third old new
  told_still s old mid new first second third a same b = told_added s s old mid new first second third a (tells_none s s (calls_of first) (calls_of second) refl same) (answered_here s) b

  -- the first units

  pub begun_told : (s : State) (old new : W) (us : List AUnit) → IsTold tells s old us new → AddsTold tells s [] us old new
  begun_told s old new us told = record { more = us; grown = refl; told = told }

  pub told_all : (s : State) (old new : W) (us : List AUnit) → AddsTold tells s [] us old new → IsTold tells s old us new
  told_all s old new us adds = subst (λ (l : List AUnit). IsTold tells s old l new) (sym adds.grown) adds.told
