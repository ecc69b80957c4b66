-- The aliases of a root: paths that were followed stay so as more are read, and reading them changes nothing that was opened.
use Rattle.std.proofs.Common.{◌≡◌, ◌+◌, ◌<◌, ℕ, Bool, IsTrue, List, [], ◌∷◌, ◌++◌, Option, Some, None, Result, Ok, Err, length, get_or, take, refl, sym, ap, subst, ◌∙◌}
use Rattle.std.specs.Prelude.{IfOk, OnOk}
use Rattle.administration.specs.declared.fault.AdministrationFault.{AdministrationFault}
use Rattle.aliases.specs.Aliases.{Alias}
use Rattle.aliases.specs.Reading.{AreAliasesIn}
use Rattle.diversions.specs.Diverted.{Diverted}
use Rattle.diversions.specs.declared.entry.Diversion.{Diversion}
use Rattle.file_lists.specs.Followed.{AreFollowed, AreWhole, HasMoreAliases}
use Rattle.file_lists.specs.declared.paths.PackageList.{PackageList}
use Rattle.file_lists.proofs.Growing.{each_grown, followed_more}
use Rattle.host_core.specs.Events.{Event}
use Rattle.host_core.specs.Host.{AllFailed, Reads, Since, State}
use Rattle.host_core.specs.Loss.{IsLater}
use Rattle.host_core.specs.Paths.{Path}
use Rattle.host_core.specs.World.{World}
use Rattle.host_core.proofs.Moments.{since_now, since_reads, since_then, since_weaker_if}
use Rattle.opening.specs.Followed.{IsFollowed, named_paths}
use Rattle.opening.specs.Opened.{IsOpened}
use Rattle.opening.specs.Parts.{GoesOn, HasMerged, IsDamaged, Merges, Opens, OpensAndMerges, ReadsAndMerges, fault_in, parts}
use Rattle.opening.specs.Stopped.{BeginsOnDisk, IsBrought}
use Rattle.opening.specs.declared.open.Opened.{Opened as AnOpened}
use Rattle.opening.proofs.Brought.{brought_then}
use Rattle.status_db.specs.Noting.{IsMerging}

pub on_ok : {T E P Q : Type 0} (result : Result T E) → (P → Q) → OnOk result P → OnOk result Q
on_ok (Ok x) f p = f p
on_ok (Err e) f p = tt

-- the paths that diversions name are followed, and then the listed ones
pub followed_both : (honest : Bool) (w : World) (lists : List PackageList) (mid new : Diverted) → HasMoreAliases honest w mid new → IsTrue honest → AreAliasesIn w mid.ways.aliases → AreWhole w (named_paths mid.ways.entries) mid.ways.aliases
    → AreFollowed lists new.ways w → IsFollowed lists new.ways w
followed_both honest w lists mid new more h each named listed = record {
  listed = listed;
  named = subst (λ (entries : List Diversion). AreWhole w (named_paths entries) new.ways.aliases) (sym (ap (λ (d : Diverted). d.ways.entries) more.kept)) (each_grown honest w (named_paths mid.ways.entries) mid new more h each named);
}

-- all of them stay so
pub stays_followed : (honest : Bool) (w : World) (lists : List PackageList) (old new : Diverted) → HasMoreAliases honest w old new → IsTrue honest → IsFollowed lists old.ways w → IsFollowed lists new.ways w
stays_followed honest w lists old new more h is =
    followed_both honest w lists old new more h is.listed.aliases is.named
    (subst (λ (d : Diverted). AreFollowed lists d.ways w) (sym more.kept) (followed_more lists old.ways w more.added is.listed (more.sound h)))

-- behind an opening

pub opens_looked : {T : Type 0} (result : Result T AdministrationFault) (u v w : World) → OpensAndMerges None u v → w ≡ v → (IsDamaged (fault_in result) → ⊥) → OpensAndMerges (fault_in result) u w
opens_looked result u v w all same sound = record { begun = all.begun; first = all.first; names = all.names; goes = going all.first all.goes }
  where
    merged : (read : World) → HasMerged None read v → HasMerged (fault_in result) read w
    merged read has = record { sound = sound; table = has.table; records = has.records; merging = subst (IsMerging has.table read) (sym same) has.merging }

    by : (begun read : World) (found : Option AdministrationFault) → Opens parts found begun read → Merges found None read v → ReadsAndMerges (fault_in result) begun w
    by begun read None goes merges = record { read = read; found = None; opens = goes; merges = merged read merges }
    by begun read (Some f) goes merges = absurd (let e : None ≡ Some f = merges.0 in cc)

    going : (first : Option AdministrationFault) → GoesOn first None all.begun v → GoesOn first (fault_in result) all.begun w
    going None reads = by all.begun reads.read reads.found reads.opens reads.merges
    going (Some f) goes = absurd (let e : None ≡ Some f = goes.0 in cc)

pub moments_looked : (P : World → Type 0) (a b c : State) → Since (λ so_far. P) a b → Reads b c → Since (λ so_far. P) a c
moments_looked P a b c first reads =
    since_then (λ so_far. P) a b c first
    (since_weaker_if (λ so_far now. now ≡ b.world) (λ so_far. P) b c (λ h so_far w same. subst P (sym same) (since_now (λ so_far. P) a b first (reads.honest h))) (since_reads (λ so_far now. now ≡ b.world) b c reads (λ fs all. refl)))

reads_later : (b c : State) → Reads b c → IsLater b c
reads_later b c reads = since_reads (λ so_far w. Unit {0}) b c reads (λ fs all. tt)

pub brought_looked : {T E : Type 0} (result : Result T E) (a b c : State) → BeginsOnDisk a b → Reads b c → IsBrought result a c
brought_looked result a b c begins reads = brought_then result a b c begins (reads_later b c reads)

pub opened_looked : (result : Result AnOpened AdministrationFault) (opened : AnOpened) (v w : World) → IfOk result (λ kept. kept.database ≡ opened.database) → IfOk result (λ kept. kept.lists ≡ opened.lists) → IfOk result (λ kept. kept.diversions.ways.entries ≡ opened.diversions.ways.entries) → w ≡ v
    → IsOpened opened.database.records opened.lists.lists opened.diversions.ways.entries v → IfOk result (λ kept. IsOpened kept.database.records kept.lists.lists kept.diversions.ways.entries w)
opened_looked (Ok kept) opened v w database lists entries same is =
    subst (IsOpened kept.database.records kept.lists.lists kept.diversions.ways.entries) (sym same)
    (subst (λ (es : List Diversion). IsOpened kept.database.records kept.lists.lists es v) (sym entries)
    (rw (database, lists) is))
opened_looked (Err fault) opened v w database lists entries same is = tt
