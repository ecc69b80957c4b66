use Rattle.std.proofs.Common.{◌≡◌, ◌<◌, ◌≤◌, Bool, List, length, get_or, ap, sym, subst, ◌∙◌}
use Rattle.std.proofs.lemmas.List.{take_all}
use Rattle.status_records.specs.declared.entries.ConffileEntry.{ConffileEntry}
use Rattle.status_records.specs.Conffiles.{marked_entry, left_entries}
use Rattle.std.proofs.lemmas.Bool.{not-true}
use Rattle.status_records.proofs.Answered.{unturned}
use Rattle.status_records.proofs.Placing.{left_behind, left_kept, left_gone, gone_shipped, gone_other}
use Rattle.status_records.proofs.committed.left_entries.Goals as goal
use Rattle.status_records.proofs.committed.left_entries.Goals.{then-not-has+then-stays+in_ok-marked_entry+in_ok-push, else-not-has, else-not-has-via-then-not-has+else-stays, else-not-has-via-else-not-has}

pub push-requires : goal.push-requires
push-requires g c =
    let es = c.args.entries.now in
    let i = c.loop-entry.entry-index in
    let e = c.entry-item.result in
    let value = c.as_slice-entry-items.ensures in
    let lt : i < length es = subst (λ (l : List ConffileEntry). i < length l) value c.loop-entry-test.true in
    let at : e ≡ get_or es i e = c.entry-item.is ∙ ap (λ (l : List ConffileEntry). get_or l i e) value in
    left_behind c.args.shipped.now c.args.flagged.now (g.S.Ships.shipped c.args.ships.now) es i e c.in_ok-marked_entry.field-0 c.loop-entry.left lt at c.law.ensures
    (c.in_ok-marked_entry.ensures ∙ ap (λ (b : Bool). marked_entry b e) c.has_path.ensures) c.loop-entry.invariant

pub loop-entry-preserved : goal.loop-entry-preserved
loop-entry-preserved g c =
    let es = c.args.entries.now in
    let shipped = c.args.shipped.now in
    let flagged = c.args.flagged.now in
    let ships = g.S.Ships.shipped c.args.ships.now in
    let i = c.loop-entry.entry-index in
    let e = c.entry-item.result in
    let value = c.as_slice-entry-items.ensures in
    let lt : i < length es = subst (λ (l : List ConffileEntry). i < length l) value c.loop-entry-test.true in
    let at : e ≡ get_or es i e = c.entry-item.is ∙ ap (λ (l : List ConffileEntry). get_or l i e) value in
    elim c.if-not-has.branch [
      | then-not-has+then-stays+in_ok-marked_entry+in_ok-push w ↦
          left_kept shipped flagged ships es i e w.in_ok-marked_entry.field-0 c.loop-entry.left c.if-not-has.left lt at (sym c.has.ensures ∙ w.if-not-has.true) (not-true _ (sym w.stays.ensures ∙ w.if-stays.true))
          (w.in_ok-marked_entry.ensures ∙ ap (λ (b : Bool). marked_entry b e) w.has_path.ensures) c.loop-entry.invariant (w.left-is ∙ w.in_ok-push.ensures.ok)
      | else-not-has w ↦ elim w.else-not-has.branch [
        | else-not-has-via-then-not-has+else-stays w' ↦
            left_gone shipped flagged ships es i e c.loop-entry.left c.if-not-has.left lt at (gone_other shipped flagged ships e (sym c.has.ensures ∙ w'.if-not-has.true) (unturned _ (sym w'.stays.ensures ∙ w'.if-stays.false))) c.loop-entry.invariant w.left-is
        | else-not-has-via-else-not-has w' ↦
            left_gone shipped flagged ships es i e c.loop-entry.left c.if-not-has.left lt at (gone_shipped shipped flagged ships e (sym c.has.ensures ∙ w'.if-not-has.false)) c.loop-entry.invariant w.left-is
      ]
    ]

pub returns : goal.returns
returns g c =
    c.loop-entry.invariant
    ∙ ap (λ (l : List ConffileEntry). left_entries l c.args.shipped.now c.args.flagged.now (g.S.Ships.shipped c.args.ships.now))
    (take_all c.loop-entry.entry-index c.args.entries.now (subst (λ (l : List ConffileEntry). length l ≤ c.loop-entry.entry-index) c.as_slice-entry-items.ensures c.loop-entry-test.false))
