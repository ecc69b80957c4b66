use Rattle.std.specs.Ordering.{nat_cmp, is_lt}
use Rattle.std.specs.Cmp.Lexicographic.{slice_cmp}
use Rattle.std.proofs.Common.{◌∙◌, ◌+◌, ℕ, Bool, ap, cond, length}
use Rattle.file_lists.proofs.SameBeside.{count_more}
use Rattle.file_lists.proofs.renewing.counts_beside.Goals as goal

pub loop-list-preserved : goal.loop-list-preserved
loop-list-preserved c =
    let i = c.loop-list.list-index in
    let l = c.list-item.result in
    let name = c.args.name.now in
    record {
      before = count_more (λ x. is_lt (slice_cmp nat_cmp x.name name)) c.args.lists.now i l c.loop-list.before _ c.loop-list-test.true c.list-item.is c.loop-list.invariant.before
          (c.in_ok-before.ensures ∙ ap (λ (b : Bool). c.loop-list.before + cond b (length l.paths) 0) c.is_before.ensures);
      behind = count_more (λ x. is_lt (slice_cmp nat_cmp name x.name)) c.args.lists.now i l c.loop-list.behind _ c.loop-list-test.true c.list-item.is c.loop-list.invariant.behind
          (c.in_ok-behind.ensures ∙ ap (λ (b : Bool). c.loop-list.behind + cond b (length l.paths) 0) c.is_behind.ensures);
    }
