use Rattle.std.proofs.Common.{◌≡◌, false, take, IsTrue}
use Rattle.host_core.specs.World.{KeepsBut}
use Rattle.host_core.specs.Host.{AtEachMoment, Silent, NoFault}
use Rattle.scattered_losses.proofs.GoingApart.{HasGone}
use Rattle.status_db.specs.Held.{IsKept, is_record_place}
use Rattle.unpack_commit.specs.Commit.{AreNoting}
use Rattle.unpack_commit.specs.Takeover.{put_records}
use Rattle.unpack_commit.proofs.noting.note_records.Given as goal

abbrev pub invariant-loop-entry : goal.invariant-loop-entry
invariant-loop-entry g l = record {
  silent : Silent (g.H.Host.state l.fn.host) (g.H.Host.state l.host);
  counts : NoFault (g.H.Host.state l.fn.host) (g.H.Host.state l.host);
  records : l.database.records ≡ put_records (take l.entry-index l.records) l.fn.database.records;
  opened : l.database.closed ≡ false;
  kept : IsTrue (g.H.Host.state l.host).honest → IsKept l.database (g.H.Host.state l.host).world;
  rest : IsTrue (g.H.Host.state l.host).honest → KeepsBut is_record_place (g.H.Host.state l.fn.host).world (g.H.Host.state l.host).world;
  any_moment : AtEachMoment (AreNoting l.records l.fn.database.records) (g.H.Host.state l.fn.host) (g.H.Host.state l.host);
  apart : HasGone is_record_place (g.H.Host.state l.fn.host) (g.H.Host.state l.host);
}
