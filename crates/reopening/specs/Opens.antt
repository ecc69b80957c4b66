-- What the next opening can read, also where a command was broken off.
use Rattle.std.specs.Prelude.{List}
use Rattle.host_core.specs.Host.{AtEachMoment, Needs, State}
use Rattle.host_core.specs.Tree.{IsTree}
use Rattle.host_core.specs.World.{World, IsDirectory}
use Rattle.administration.specs.Files.{NoDirectory}
use Rattle.administration.specs.Places.{diversions_path, info_path, temporary}
use Rattle.control_members.specs.LaidOut.{IsIncoming}
use Rattle.diversions.specs.declared.entry.Diversion.{Diversion}
use Rattle.diversions.specs.Lines.{HasDiversions}
use Rattle.dpkg_session.specs.History.{Stands}
use Rattle.info_format.specs.Stage.{AreReadShort, HaveShortNames}
use Rattle.opening.specs.Parts.{IsReadableInfo}
use Rattle.status_db.specs.Held.{CanOpenRecords}
use Rattle.unit_reports.specs.Held.{Held}

-- Each part of the administration can be read: the records with their notes, the lists and stored scripts of recorded packages, none by a
-- name with an architecture, the diversions; no directory is in a file's way, and what a unit has left in `tmp.ci` can be taken away.
pub record CanBeOpened (w : World) : Type 0 where
  pub records : CanOpenRecords w
  pub info : IsDirectory (w info_path)
  pub readable : IsReadableInfo w
  pub short : AreReadShort w
  pub diversions : (entries : List Diversion) × HasDiversions w entries
  pub spare : NoDirectory (w (temporary diversions_path))
  pub incoming : IsIncoming w

-- so it is at each moment from one state of the host to a later one
abbrev pub CanBeOpenedAmid : State → State → Type 0
CanBeOpenedAmid s t = AtEachMoment (λ old now. CanBeOpened now) s t

-- a command finds an administration that stands for what is held, in which no control file of any package has a name with an architecture,
-- and below what isn't a directory nothing stands
abbrev pub FindsStanding : Held → State → Type 0
FindsStanding h s = Needs s (λ w. IsTree w × Stands h w × HaveShortNames w)
