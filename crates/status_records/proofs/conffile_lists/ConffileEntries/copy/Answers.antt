use Rattle.std.proofs.Common.{List, map, length, ap, ◌∙◌, sym, subst, arith}
use Rattle.std.proofs.lemmas.Grind.{common_steps}
use Rattle.std.proofs.lemmas.List.{take_all}
use Rattle.status_records.specs.ConffilePaths.{AreInOrder}
use Rattle.status_records.specs.declared.entries.ConffileEntry.{ConffileEntry}
use Rattle.status_records.proofs.conffile_lists.ConffileEntries.copy.Goals as goal

pub loop-entry-preserved : goal.loop-entry-preserved
loop-entry-preserved c = grind (arith, common_steps)

pub invariant_of-result : goal.invariant_of-result
invariant_of-result c =
    let whole = take_all c.loop-entry.entry-index c.args.self.now (omega (arith, c.loop-entry-test.false, ap length (c.deref-entry-items.ensures.value ∙ c.self.view_is))) in
    subst (λ (l : List ConffileEntry). AreInOrder (map (λ (x : ConffileEntry). x.path) l)) (sym (c.loop-entry.invariant ∙ whole ∙ sym c.self.view_is)) c.self.invariant
