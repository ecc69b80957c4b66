use Rattle.std.proofs.Common.{ap, sym, ◌∙◌}
use Rattle.package_files.specs.declared.work.Work.{Work}
use Rattle.unpack_commit.specs.Takeover.{is_taken}
use Rattle.unpack_commit.proofs.Filtering.{told_more, untold}
use Rattle.unpack_commit.proofs.taken.places_of.Goals as goal
use Rattle.unpack_commit.proofs.taken.places_of.Goals.{then-is_taken+in_ok-copy+in_ok-push, else-is_taken}

pub loop-work-preserved : goal.loop-work-preserved
loop-work-preserved c =
    let i = c.loop-work.work-index in
    let x = c.work-item.result in
    elim c.if-is_taken.branch [
      | then-is_taken+in_ok-copy+in_ok-push w ↦
          told_more (λ (y : Work). is_taken y.node y.had) c.args.works.now i x c.loop-work-test.true c.work-item.is (λ (y : Work). y.place) (sym c.is_taken.ensures ∙ w.if-is_taken.true)
          c.loop-work.places.items c.if-is_taken.places.items w.in_ok-copy.field-0 c.loop-work.invariant w.in_ok-copy.ensures (ap (λ v. v.items) w.places-is ∙ w.in_ok-push.ensures.items)
      | else-is_taken w ↦
          untold (λ (y : Work). is_taken y.node y.had) c.args.works.now i x c.loop-work-test.true c.work-item.is (λ (y : Work). y.place) (sym c.is_taken.ensures ∙ w.if-is_taken.false)
          c.loop-work.places.items c.if-is_taken.places.items c.loop-work.invariant (ap (λ v. v.items) w.places-is)
    ]
