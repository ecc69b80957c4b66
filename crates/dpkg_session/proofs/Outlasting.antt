-- A loss of power leaves what a stop leaves.
use Rattle.std.proofs.Common.{inl, inr, Bool, IsTrue, List, [], ◌∷◌, ◌++◌, append_assoc, sym, ap, subst, ◌∙◌}
use Rattle.host_core.specs.World.{World, Barrier}
use Rattle.host_core.specs.Events.{Event, Did, changes_of}
use Rattle.host_core.specs.Host.{State, Since}
use Rattle.host_core.specs.Loss.{IsAnswered, IsOnDisk, unwritten}
use Rattle.host_core.proofs.Losses.{avoid_session, loses_in_part, since_loss_one}
use Rattle.host_core.proofs.Moments.{faults_then, reads_then, since_weaker}
use Rattle.host_core.specs.Unsynced.{IsSettled}
use Rattle.unit_reports.specs.Held.{Held}
use Rattle.unpack_relations.specs.declared.options.UnpackOptions.{UnpackOptions}
use Rattle.dpkg_session.specs.declared.report.Candidate.{Candidate}
use Rattle.unit_reports.specs.declared.report.Unit.{Unit as AUnit}
use Rattle.dpkg_session.specs.PowerLoss.{LosesLikeAStop, StandsOnceAnswered}
use Rattle.dpkg_session.specs.Run.{IsRun}
use Rattle.host_core.proofs.Barriers.{answered_here}

pub loses_like : (P : List Event → World → Type 0) (old new : State) → (IsTrue new.honest → IsSettled new.events) → Since P old new → LosesLikeAStop P old new
loses_like P old new settled since = λ kept begun session left h is loses.
    since_loss_one (unwritten kept (changes_of session)) P begun old new left h (settled h) (avoid_session kept begun new session is) since loses

-- all is on the disk behind what was answered, where it was before
pub answered_disk : (s t : State) → IsAnswered s t → IsOnDisk s.events → IsOnDisk t.events
answered_disk s t (inl now) disk = now
answered_disk s t (inr reads) disk =
    (disk.0, disk.1 ++ reads.added, reads.events ∙ ap (λ l. l ++ reads.added) disk.2 ∙ append_assoc disk.0 (Did Barrier ∷ disk.1) reads.added, faults_then disk.1 reads.added disk.3 reads.failed)

pub answered_then : (s m t : State) → IsAnswered s m → IsAnswered m t → IsAnswered s t
answered_then s m t first (inl now) = inl now
answered_then s m t (inl disk) (inr reads) = inl (answered_disk m t (inr reads) disk)
answered_then s m t (inr before) (inr reads) = inr (reads_then s m t before reads)

pub run_answered : (auto : UnpackOptions) (cs : List Candidate) (us : List AUnit) (before after : Held) (s t : State) → IsRun auto cs us before after s t → IsAnswered s t
run_answered auto [] [] before after s t run = subst (λ (x : State). IsAnswered s x) (sym run.0) (answered_here s)
run_answered auto [] (u ∷ us) before after s t run = absurd run
run_answered auto (c ∷ cs) [] before after s t run = absurd run
run_answered auto (c ∷ cs) (u ∷ us) before after s t run = answered_then s run.0 t run.2.answered (run_answered auto cs us run.1 after run.0 t run.3)

pub answered_stands : (P : List Event → World → Type 0) (s t : State) → Since P s t → IsAnswered s t → StandsOnceAnswered s t
answered_stands P s t since answered = λ begun new left later loses.
    loses_in_part begun s t new left (since_weaker P (λ so_far w. Unit {0}) s t (λ so_far w is. tt) since) later answered loses

pub run_stands : (auto : UnpackOptions) (P : List Event → World → Type 0) (cs : List Candidate) (us : List AUnit) (before after : Held) (s t : State) → Since P s t → IsRun auto cs us before after s t → StandsOnceAnswered s t
run_stands auto P cs us before after s t since run = answered_stands P s t since (run_answered auto cs us before after s t run)
