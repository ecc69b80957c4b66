use Rattle.diversions.proofs.Turning.{turns_still_behind}
use Rattle.dpkg_session.proofs.TableUnits.{flushed_by, since_still}
use Rattle.dpkg_session.proofs.diverting.add_to_disk.Goals as goal

pub returns-in_err-flush_done-clause-any_moment : goal.returns-in_err-flush_done-clause-any_moment
returns-in_err-flush_done-clause-any_moment g c = since_still _ _ _ _ c.add.ensures.any_moment c.flush_done.ensures.any_moment

pub returns-clause-any_moment : goal.returns-clause-any_moment
returns-clause-any_moment g c = since_still _ _ _ _ c.add.ensures.any_moment c.flush_done.ensures.any_moment

pub returns-clause-flushed : goal.returns-clause-flushed
returns-clause-flushed g c = flushed_by c.in_ok-answer.answer _ _ _ c.in_ok-flush_done.ensures.done c.flush_done.ensures.refused c.in_ok-answer.ensures.same

pub returns-in_err-flush_done-clause-turns : goal.returns-in_err-flush_done-clause-turns
returns-in_err-flush_done-clause-turns g c = turns_still_behind _ _ _ _ c.add.ensures.any_moment c.add.ensures.turns c.flush_done.ensures.any_moment

pub returns-clause-turns : goal.returns-clause-turns
returns-clause-turns g c = turns_still_behind _ _ _ _ c.add.ensures.any_moment c.add.ensures.turns c.flush_done.ensures.any_moment
