use Rattle.std.proofs.Common.{sym, subst}
use Rattle.host_core.specs.Tree.{IsTree}
use Rattle.host_core.specs.World.{World}
use Rattle.dpkg_session.specs.History.{Stands}
use Rattle.dpkg_session.specs.Rereading.{with_ways}
use Rattle.dpkg_session.proofs.Reread.{found_reread}
use Rattle.info_format.specs.Stage.{HaveShortNames}
use Rattle.reopening.proofs.laws.a_table_that_was_read_again_stands.Goals as goal

pub returns : goal.returns
returns c = λ before ways s m finds read h.
    let was = finds (read.reads.honest h) in
    subst (λ (w : World). IsTree w × Stands (with_ways before ways) w × HaveShortNames w) (sym read.reads.world) (was.0, found_reread before ways s.world (read.found h) was.1, was.2)
