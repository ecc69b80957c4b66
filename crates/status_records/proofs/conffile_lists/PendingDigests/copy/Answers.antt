use Rattle.std.proofs.Common.{List, map, length, ap, ◌∙◌, sym, subst, arith}
use Rattle.std.proofs.lemmas.Grind.{common_steps}
use Rattle.std.proofs.lemmas.List.{take_all}
use Rattle.status_records.specs.ConffilePaths.{AreInOrder}
use Rattle.status_records.specs.declared.entries.PendingDigest.{PendingDigest}
use Rattle.status_records.proofs.conffile_lists.PendingDigests.copy.Goals as goal

pub loop-digest-preserved : goal.loop-digest-preserved
loop-digest-preserved c = grind (arith, common_steps)

pub invariant_of-result : goal.invariant_of-result
invariant_of-result c =
    let whole = take_all c.loop-digest.digest-index c.args.self.now (omega (arith, c.loop-digest-test.false, ap length (c.deref-digest-items.ensures.value ∙ c.self.view_is))) in
    subst (λ (l : List PendingDigest). AreInOrder (map (λ (x : PendingDigest). x.path) l)) (sym (c.loop-digest.invariant ∙ whole ∙ sym c.self.view_is)) c.self.invariant
