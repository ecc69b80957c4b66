use Rattle.std.proofs.Common.{◌∙◌, ap}
use Rattle.adopted_conffiles.specs.Adopted.{all_taken}
use Rattle.adopted_conffiles.specs.Adopting.{IsAdopting}
use Rattle.adopted_conffiles.proofs.Putting.{moments_looked, moments_putting, none_adopted, none_of, on_ok}
use Rattle.adopted_conffiles.proofs.Taken.{all_noted, none_taken}
use Rattle.adopted_conffiles.proofs.noting.adopt.Goals as goal

pub returns-then-is_empty-clause-records : goal.returns-then-is_empty-clause-records
returns-then-is_empty-clause-records g c = λ h.
    let w = (g.H.Host.state c.args.host.now).world in
    let ways = c.args.diversions.now.ways in
    none_taken w ways c.as_slice-found.result.now c.args.database.now.records c.law.ensures.order (none_of c.as_slice-found.result.now c.is_empty.result c.is_empty.ensures c.if-is_empty.true)
    (c.as_slice-found.ensures.value ∙ c.in-Ok.ensures.looks.found h ∙ ap (all_taken w ways) c.records.ensures)

pub returns-then-is_empty-clause-any_moment : goal.returns-then-is_empty-clause-any_moment
returns-then-is_empty-clause-any_moment g c =
    let a = g.H.Host.state c.args.host.now in
    let ways = c.args.diversions.now.ways in
    let d = c.args.database.now in
    moments_looked (IsAdopting ways d.records a.world) a _ c.find_taken.ensures.looks.reads (λ h. none_adopted ways d.records d.notes a.world (c.requires.kept h))

pub returns-in-Ok-clause-records : goal.returns-in-Ok-clause-records
returns-in-Ok-clause-records g c = λ h.
    let w = (g.H.Host.state c.args.host.now).world in
    let ways = c.args.diversions.now.ways in
    on_ok c.note_each.result
    (all_noted w ways c.as_slice-found.result.now c.args.database.now.records c.note_each.new.database.records c.law.ensures.order
    (c.as_slice-found.ensures.value ∙ c.in-Ok.ensures.looks.found (c.note_each.ensures.silent.honest h) ∙ ap (all_taken w ways) c.records.ensures))
    c.note_each.ensures.records

pub returns-in-Ok-clause-any_moment : goal.returns-in-Ok-clause-any_moment
returns-in-Ok-clause-any_moment g c =
    let a = g.H.Host.state c.args.host.now in
    let ways = c.args.diversions.now.ways in
    let d = c.args.database.now in
    moments_putting ways c.as_slice-found.result.now d.records d.notes a _ _ c.law.ensures.order c.find_taken.ensures.looks.reads c.requires.kept
    (λ h. c.as_slice-found.ensures.value ∙ c.in-Ok.ensures.looks.found h ∙ ap (all_taken a.world ways) c.records.ensures) c.note_each.ensures.silent.honest c.note_each.ensures.any_moment

pub returns-clause-any_moment : goal.returns-clause-any_moment
returns-clause-any_moment g c =
    let a = g.H.Host.state c.args.host.now in
    let ways = c.args.diversions.now.ways in
    let d = c.args.database.now in
    moments_looked (IsAdopting ways d.records a.world) a _ c.find_taken.ensures.looks.reads (λ h. none_adopted ways d.records d.notes a.world (c.requires.kept h))
