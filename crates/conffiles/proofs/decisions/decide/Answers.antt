use Rattle.std.proofs.Common.{refl, sym, ap, ◌∙◌, ◌≡◌, None, rules}
use Rattle.conffiles.specs.Decisions.{Unrecorded, UnrecordedUpToDate, UnrecordedOther, Deleted, DeletedAndShippedAnew, UpToDate, ShippedAnew, Edited, EditedAndShippedAnew, FlaggedMissing, FlaggedUntouched, FlaggedEdited, restored_if}
use Rattle.conffiles.proofs.Rows.{some_of, same_of, other_of, other_none}
use Rattle.conffiles.proofs.decisions.decide.Goals as goal

pub returns-in-None-None-Some : goal.returns-in-None-None-Some
returns-in-None-None-Some c = let at = c.in-None-None-Some in (Unrecorded, (at.is-0, at.is-1, some_of _ _ at.is-2), refl)

pub returns-in-None-Some-Some : goal.returns-in-None-Some-Some
returns-in-None-Some-Some c =
    let at = c.in-None-Some-Some in
    (UnrecordedUpToDate, (at.is-0, some_of _ _ at.is-1, same_of _ _ _ _ at.is-1 at.is-2 c.if-eq.ensures), refl)

pub returns-in-None-Some-Some-2 : goal.returns-in-None-Some-Some-2
returns-in-None-Some-Some-2 c =
    let at = c.in-None-Some-Some in
    (UnrecordedOther, (at.is-0, some_of _ _ at.is-1, some_of _ _ at.is-2, other_of _ _ _ _ at.is-1 at.is-2 c.if-eq.ensures), c.answer.ensures)

pub returns-in-Some-None-Some : goal.returns-in-Some-None-Some
returns-in-Some-None-Some c =
    let at = c.in-Some-None-Some in
    (Deleted, (some_of _ _ at.is-0, at.is-1, same_of _ _ _ _ at.is-2 at.is-0 c.if-eq-2.ensures), c.restored.ensures)

pub returns-in-Some-None-Some-2 : goal.returns-in-Some-None-Some-2
returns-in-Some-None-Some-2 c =
    let at = c.in-Some-None-Some in
    (DeletedAndShippedAnew, (some_of _ _ at.is-0, at.is-1, some_of _ _ at.is-2, other_of _ _ _ _ at.is-2 at.is-0 c.if-eq-2.ensures), c.restored-in-Some-None-Some-2.ensures ∙ ap restored_if c.is_wanted_anew.ensures)

pub returns-in-Some-Some-Some : goal.returns-in-Some-Some-Some
returns-in-Some-Some-Some c =
    let at = c.in-Some-Some-Some in
    (UpToDate, (some_of _ _ at.is-0, some_of _ _ at.is-1, same_of _ _ _ _ at.is-1 at.is-2 c.if-eq-3.ensures), refl)

pub returns-in-Some-Some-Some-2 : goal.returns-in-Some-Some-Some-2
returns-in-Some-Some-Some-2 c =
    let at = c.in-Some-Some-Some in
    let next = c.in-Some-Some-Some-2 in
    let as_recorded = same_of c.args.current c.args.recorded _ _ next.is-1 next.is-0 c.if-eq-4.ensures in
    let apart = other_of c.args.current c.args.shipped _ _ at.is-1 at.is-2 c.if-eq-3.ensures in
    (ShippedAnew, (some_of _ _ at.is-0, as_recorded, some_of _ _ at.is-2, λ same. apart (as_recorded ∙ sym same)), refl)

pub returns-in-Some-Some-Some-3 : goal.returns-in-Some-Some-Some-3
returns-in-Some-Some-Some-3 c =
    let at = c.in-Some-Some-Some in
    let next = c.in-Some-Some-Some-2 in
    let last = c.in-Some-Some-Some-3 in
    (Edited, (some_of _ _ at.is-0, some_of _ _ at.is-1, other_of _ _ _ _ next.is-1 next.is-0 c.if-eq-4.ensures, other_of _ _ _ _ at.is-1 at.is-2 c.if-eq-3.ensures, same_of _ _ _ _ last.is-2 last.is-0 c.if-eq-5.ensures), refl)

pub returns-in-Some-Some-Some-4 : goal.returns-in-Some-Some-Some-4
returns-in-Some-Some-Some-4 c =
    let at = c.in-Some-Some-Some in
    let next = c.in-Some-Some-Some-2 in
    let last = c.in-Some-Some-Some-3 in
    (EditedAndShippedAnew, (some_of _ _ at.is-0, some_of _ _ at.is-1, some_of _ _ at.is-2, other_of _ _ _ _ next.is-1 next.is-0 c.if-eq-4.ensures, other_of _ _ _ _ at.is-1 at.is-2 c.if-eq-3.ensures, other_of _ _ _ _ last.is-2 last.is-0 c.if-eq-5.ensures), c.answer-in-Some-Some-Some-4.ensures)

pub returns-in-Some-Some-None : goal.returns-in-Some-Some-None
returns-in-Some-Some-None c =
    let at = c.in-Some-Some-None in
    (FlaggedUntouched, (some_of _ _ at.is-1, same_of _ _ _ _ at.is-1 at.is-0 c.if-eq-6.ensures, at.is-2), refl)

pub returns-in_default-None-None : goal.returns-in_default-None-None
returns-in_default-None-None c = (FlaggedMissing, (c.in_default-None-None.is-1, c.in_default-None-None.is-2), refl)

pub returns-in_default-None-None-2 : goal.returns-in_default-None-None-2
returns-in_default-None-None-2 c = (FlaggedMissing, (c.in_default-None-None.is-1, c.in_default-None-None.is-2), refl)

pub returns-in_default-Some-None : goal.returns-in_default-Some-None
returns-in_default-Some-None c =
    let at = c.in_default-Some-None in
    let none : c.args.recorded ≡ None = search rules in
    (FlaggedEdited, (some_of _ _ at.is-1, other_none _ _ _ at.is-1 none, at.is-2), refl)

pub returns-in_default-Some-None-2 : goal.returns-in_default-Some-None-2
returns-in_default-Some-None-2 c =
    let at = c.in-Some-Some-None in
    (FlaggedEdited, (some_of _ _ at.is-1, other_of _ _ _ _ at.is-1 at.is-0 c.if-eq-6.ensures, at.is-2), refl)
