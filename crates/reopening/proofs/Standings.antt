-- An administration that stands is sound.
use Rattle.std.proofs.Common.{IsTrue}
use Rattle.host_core.proofs.Nodes.{directory_is}
use Rattle.host_core.specs.Host.{State}
use Rattle.host_core.specs.Tree.{IsTree}
use Rattle.host_core.specs.World.{World}
use Rattle.administration.specs.Places.{home_path, info_path}
use Rattle.dpkg_session.specs.History.{Stands}
use Rattle.info_format.specs.Stage.{HaveShortNames}
use Rattle.status_db.proofs.Ordered.{same_standing}
use Rattle.unit_reports.specs.Held.{Held}
use Rattle.reopening.proofs.Sounds.{IsSound}
use Rattle.reopening.proofs.Units.{emptied_tree}
use Rattle.reopening.specs.Opens.{FindsStanding}

pub stands_sound : (h : Held) (w : World) → IsTree w → Stands h w → HaveShortNames w → IsSound h w
stands_sound h w tree found short = record {
  order = record {
    home = directory_is (w home_path) found.home;
    info = directory_is (w info_path) found.info;
    loose = λ name plain. (found.listed.sound name plain).loose;
    tmp = found.tmp;
    kept = found.records;
    listed = ∣ found.listed.lists ∣₁;
  };
  safe = record {
    info = found.info;
    text = found.text;
    sound = found.listed.sound;
    short = short;
    diversions = found.diversions;
    spare = found.diversions_spare;
  };
  standing = same_standing h.records.records found.standing;
  empty = emptied_tree w tree found.tmp;
}

pub finds_sound : (h : Held) (s : State) → FindsStanding h s → IsTrue s.honest → IsSound h s.world
finds_sound h s finds honest = (let all = finds honest in stands_sound h s.world all.0 all.1 all.2)
