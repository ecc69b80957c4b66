use Rattle.file_lists.specs.Taking.{IsTaking}
use Rattle.file_lists.proofs.TakingAll.{since_start_if, taking_start}
use Rattle.file_lists.proofs.lists.FileLists.take.Goals as goal

pub returns-then-self-clause-any_moment : goal.returns-then-self-clause-any_moment
returns-then-self-clause-any_moment g c =
    let s = g.H.Host.state c.args.host.now in
    since_start_if (IsTaking c.args.diversions.now.ways c.args.places.now c.args.from.now c.args.self.now.lists s.world) s (λ h. taking_start c.args.diversions.now.ways c.args.places.now c.args.from.now c.args.self.now.lists s.world (c.requires.ready h))
