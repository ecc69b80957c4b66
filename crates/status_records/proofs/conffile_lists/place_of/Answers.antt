use Rattle.std.proofs.Common.{◌≡◌, ◌++◌, ℕ, length, take, drop, sym, subst, ◌∙◌, arith}
use Rattle.std.proofs.lemmas.Grind.{common_steps}
use Rattle.status_records.specs.declared.entries.ConffileEntry.{ConffileEntry}
use Rattle.status_records.specs.ConffilePaths.{placed_by}
use Rattle.status_records.proofs.PathOrder.{placed_here, placed_behind}
use Rattle.status_records.proofs.conffile_lists.place_of.Goals as goal

pub returns-then-not-is_before-clause-place : goal.returns-then-not-is_before-clause-place
returns-then-not-is_before-clause-place c = λ e named.
    placed_here (λ (x : ConffileEntry). x.path) e c.args.entries.now c.loop-i.i c.index-entries-i.result c.args.path.now c.loop-i-test.true c.index-entries-i.is (sym c.is_before.ensures ∙ c.if-not-is_before.true) named (c.loop-i.invariant e named)

pub loop-i-preserved : goal.loop-i-preserved
loop-i-preserved c = grind (arith, common_steps)

pub returns-clause-place : goal.returns-clause-place
returns-clause-place c = λ e named.
    let xs = c.args.entries.now in
    let same : c.loop-i.i ≡ length xs = omega arith in
    placed_behind (λ (x : ConffileEntry). x.path) e xs (length xs) (omega arith)
    (subst (λ (n : ℕ). placed_by (λ (x : ConffileEntry). x.path) e xs ≡ take n xs ++ placed_by (λ (x : ConffileEntry). x.path) e (drop n xs)) same (c.loop-i.invariant e named))
