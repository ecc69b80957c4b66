-- The table of diversions, read again.
use Rattle.std.proofs.Common.{◌≡◌, Bool, IsTrue, List, ap, subst, sym, ◌∙◌}
use Rattle.aliases.specs.Reading.{AreAliasesIn}
use Rattle.diversions.specs.Diverted.{Diverted}
use Rattle.diversions.specs.Lines.{HasDiversions}
use Rattle.diversions.specs.Ways.{Ways}
use Rattle.diversions.specs.declared.entry.Diversion.{Diversion}
use Rattle.file_lists.specs.Followed.{AreFollowed, AreWhole, HasMoreAliases, diverted_paths}
use Rattle.file_lists.specs.declared.paths.PackageList.{PackageList}
use Rattle.host_core.specs.World.{World}
use Rattle.file_lists.proofs.Growing.{each_grown}
use Rattle.package_tree.specs.declared.package.Package.{Package}
use Rattle.unit_reports.specs.Held.{Held}
use Rattle.dpkg_session.specs.History.{Stands}
use Rattle.dpkg_session.specs.Rereading.{AreReadAnew, IsReadFor, IsReread, with_ways}

-- the paths of diversions are followed, and then the listed ones
pub anew_both : (honest : Bool) (w : World) (lists : List PackageList) (old mid new : Diverted) (then : Bool) → HasMoreAliases then w old mid → HasMoreAliases honest w mid new → IsTrue honest → AreAliasesIn w mid.ways.aliases
    → AreWhole w (diverted_paths old.ways.entries) mid.ways.aliases → AreFollowed lists new.ways w → AreReadAnew lists new.ways w
anew_both honest w lists old mid new then first more h each diverted listed = record {
  listed = listed;
  diverted = subst (λ (entries : List Diversion). AreWhole w (diverted_paths entries) new.ways.aliases) (sym (ap (λ (d : Diverted). d.ways.entries) more.kept ∙ ap (λ (d : Diverted). d.ways.entries) first.kept))
      (each_grown honest w (diverted_paths old.ways.entries) mid new more h each diverted);
}

-- the entries that a unit goes by are those of the file
pub read_entries : (p : Package) (before : Held) (ways : Ways) (w : World) → IsReadFor p before w ways → HasDiversions w ways.entries
read_entries p before ways w read = subst (λ (l : List Diversion). HasDiversions w l) (sym (ap (λ (v : Ways). v.entries) read.more)) read.reread.entries

-- the administration stands with the table that was read again
pub found_reread : (before : Held) (ways : Ways) (w : World) → IsReread before w ways → Stands before w → Stands (with_ways before ways) w
found_reread before ways w read found = record {
  home = found.home;
  info = found.info;
  updates = found.updates;
  text = found.text;
  diversions = read.entries;
  diversions_spare = found.diversions_spare;
  tmp = found.tmp;
  records = found.records;
  standing = found.standing;
  listed = found.listed;
}
