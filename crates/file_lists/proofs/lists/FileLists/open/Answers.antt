use Rattle.std.proofs.Common.{IfErr, IfOk, subst}
use Rattle.host_core.specs.World.{World}
use Rattle.host_overlay.proofs.SeenThrough.{seen_none, sources_none}
use Rattle.administration.specs.Directories.{HasBadName}
use Rattle.administration.specs.Places.{info_path}
use Rattle.file_lists.specs.Filed.{Filed}
use Rattle.file_lists.specs.Info.{AreSound, IsInfoDamage}
use Rattle.file_lists.specs.Lists.{HasLists}
use Rattle.file_lists.proofs.lists.FileLists.open.Goals as goal

pub open_seen-requires : goal.open_seen-requires
open_seen-requires g c = record { sources = λ h. sources_none c.none-shown.result (g.H.Host.state c.args.host.now).world c.none-shown.ensures (g.H.Host.tree c.args.host.now h) }

pub returns-clause-lists : goal.returns-clause-lists
returns-clause-lists g c = λ h. subst (λ (w : World). IfOk c.open_seen.result (λ (f : Filed). HasLists w c.args.names.now f.lists)) (seen_none c.none-shown.result (g.H.Host.state c.args.host.now).world c.none-shown.ensures) (c.open_seen.ensures.lists h)

pub returns-clause-text : goal.returns-clause-text
returns-clause-text g c = λ h. subst (λ (w : World). IfOk c.open_seen.result (λ (f : Filed). HasBadName w info_path → ⊥)) (seen_none c.none-shown.result (g.H.Host.state c.args.host.now).world c.none-shown.ensures) (c.open_seen.ensures.text h)

pub returns-clause-sound : goal.returns-clause-sound
returns-clause-sound g c = λ h. subst (λ (w : World). IfOk c.open_seen.result (λ (f : Filed). AreSound w c.args.names.now)) (seen_none c.none-shown.result (g.H.Host.state c.args.host.now).world c.none-shown.ensures) (c.open_seen.ensures.sound h)

pub returns-clause-damage : goal.returns-clause-damage
returns-clause-damage g c = λ h. subst (λ (w : World). IfErr c.open_seen.result (IsInfoDamage w c.args.names.now)) (seen_none c.none-shown.result (g.H.Host.state c.args.host.now).world c.none-shown.ensures) (c.open_seen.ensures.damage h)
