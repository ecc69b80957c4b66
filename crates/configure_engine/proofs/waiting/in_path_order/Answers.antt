use Rattle.std.proofs.Common.{List, [], sym, ap, ◌∙◌, arith}
use Rattle.std.proofs.lemmas.Grind.{common_steps}
use Rattle.std.specs.List.{insert}
use Rattle.host_core.specs.Paths.{Path}
use Rattle.status_records.specs.ConffilePaths.{placed_by}
use Rattle.status_records.proofs.Placing.{all_placed_more}
use Rattle.configure_engine.proofs.waiting.in_path_order.Goals as goal

pub loop-path-preserved : goal.loop-path-preserved
loop-path-preserved c = (
  c.in_ok-insert.ensures.items ∙ ap (λ (l : List Path). insert l c.index_of-index.result c.in-Some.path) (sym c.as_slice.ensures.value) ∙ sym c.index_of-index.ensures.place ∙ ap (placed_by (λ (q : Path). q) c.in-Some.path) (c.as_slice.ensures.value ∙ c.loop-path.invariant.0)
      ∙ sym (all_placed_more (λ (q : Path). q) [] c.loop-path.yielded c.in-Some.path),
  grind (arith, common_steps),
)
