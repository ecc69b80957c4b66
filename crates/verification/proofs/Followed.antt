-- What is known of an administration once the links above further paths were read.
use Rattle.std.proofs.Common.{◌≡◌, ◌+◌, ℕ, List, IsTrue, Result, Ok, Err, IfOk, sym, ap, subst, ◌∙◌}
use Rattle.std.specs.Prelude.{count_by}
use Rattle.aliases.specs.Reading.{AreAliasesIn}
use Rattle.diversions.specs.Diverted.{Diverted}
use Rattle.diversions.specs.declared.entry.Diversion.{Diversion}
use Rattle.file_lists.specs.Followed.{AreWhole, HasMoreAliases}
use Rattle.file_lists.specs.declared.paths.PackageList.{PackageList}
use Rattle.host_core.specs.Host.{Needs, NoFault, Reads, State}
use Rattle.host_core.specs.Paths.{Path}
use Rattle.host_core.specs.World.{World}
use Rattle.host_core.specs.declared.fault.HostFault.{HostFault}
use Rattle.diversions.specs.Ways.{Ways}
use Rattle.inquiries.specs.Read.{HasAll, HasFollowed, Sight}
use Rattle.opening.proofs.Followed.{stays_followed}
use Rattle.package_tree.specs.declared.package.Package.{Package}
use Rattle.package_tree.specs.declared.shipped.Shipped.{Shipped}
use Rattle.status_records.specs.Records.{record_in}
use Rattle.status_records.specs.declared.record.Record.{Record}
use Rattle.verification.specs.Compared.{IsCompared, compared_files, heading_lines}
use Rattle.verification.specs.Looks.{AddsEach, Look}
use Rattle.verification.specs.Shipped.{looked_paths, shipped_lines}
use Rattle.verification.specs.declared.verifying.Verified.{Verified}

pub followed_more : (table : List Record) (lists : List PackageList) (sight : Sight) (a b : Diverted) (paths : List Path) (s m t : State) → Reads s m → Reads m t → HasMoreAliases m.honest s.world a b
    → (IsTrue m.honest → AreAliasesIn s.world a.ways.aliases → AreWhole s.world paths b.ways.aliases) → Needs s (HasFollowed table lists a.ways sight) → Needs t (λ w. HasFollowed table lists b.ways sight w × AreWhole w paths b.ways.aliases)
followed_more table lists sight a b paths s m t first second more whole held = λ h.
    let then : IsTrue m.honest = second.honest h in
    let was : HasFollowed table lists a.ways sight s.world = held (first.honest then) in
    let all : HasAll table lists b.ways.entries sight s.world = subst (λ (es : List Diversion). HasAll table lists es sight s.world) (sym (ap (λ (d : Diverted). d.ways.entries) more.kept)) was.0 in
    subst (λ (w : World). HasFollowed table lists b.ways sight w × AreWhole w paths b.ways.aliases) (sym (second.world ∙ first.world))
    ((all, stays_followed m.honest s.world lists a b more then was.1), whole then was.1.listed.aliases)

-- the looks behind that reading, at which the device didn't fail
pub compared_behind : (p : Package) (table : List Record) (lists : List PackageList) (ways : Ways) (sight : Sight) (s m t : State) (result : Result Verified HostFault) → NoFault s m
    → Needs t (λ w. HasFollowed table lists ways sight w × AreWhole w (looked_paths p.files) ways.aliases)
    → IfOk result (λ v. AddsEach (shipped_lines ways p.name) (compared_files (record_in table p.name) p) m t (heading_lines table p) v.text) → IfOk result (λ v. IsCompared p s t v.text)
compared_behind p table lists ways sight s m t (Ok v) none read added = record {
  table = table;
  lists = lists;
  ways = ways;
  sight = sight;
  read = read;
  looks = added.looks;
  each = added.each;
  failed = added.failed ∙ ap (λ (n : ℕ). n + count_by (λ (k : Look Shipped). k.failed) added.looks) none.faults;
  told = added.told;
}
compared_behind p table lists ways sight s m t (Err fault) none read added = tt
