-- The aliases of a root, read behind the records, lists and diversions.
use Rattle.std.proofs.Common.{◌≡◌, ℕ, IsTrue, List, Result, Ok, Err, inl, sym, ap, subst, ◌∙◌}
use Rattle.std.specs.Prelude.{None}
use Rattle.administration.specs.declared.fault.AdministrationFault.{AdministrationFault}
use Rattle.administration.specs.declared.fault.AdministrationFault.TheVariants.{Damaged, Device, NoMemory, Declined}
use Rattle.aliases.specs.Aliases.{resolved}
use Rattle.aliases.specs.Reading.{AreAliasesIn, Grows, IsWhole}
use Rattle.diversions.specs.Diverted.{Diverted}
use Rattle.diversions.specs.declared.entry.Diversion.{Diversion}
use Rattle.file_lists.specs.declared.paths.PackageList.{PackageList}
use Rattle.file_lists.proofs.Growing.{more_one}
use Rattle.host_core.specs.Host.{Needs, Reads, State}
use Rattle.host_core.specs.Paths.{Path}
use Rattle.host_core.specs.World.{World}
use Rattle.inquiries.specs.Read.{FindsAll, HasAll, HasFollowed, IsSearch, Sight}
use Rattle.opening.specs.Followed.{IsFollowed}
use Rattle.opening.specs.Parts.{IsDamaged, fault_in}
use Rattle.opening.specs.declared.open.Opened.{Opened as AnOpened}
use Rattle.opening.proofs.Followed.{stays_followed}
use Rattle.queries.specs.Files.{search_text}
use Rattle.status_records.specs.declared.record.Record.{Record}

-- a fault at that is none of the parts
pub finds_looked : {T : Type 0} (result : Result T AdministrationFault) (u : World) → FindsAll u None → (IsDamaged (fault_in result) → ⊥) → FindsAll u (fault_in result)
finds_looked (Ok x) u all sound = all
finds_looked (Err (Damaged file line)) u all sound = absurd (sound tt)
finds_looked (Err Device) u all sound = inl tt
finds_looked (Err NoMemory) u all sound = inl tt
finds_looked (Err Declined) u all sound = inl tt

pub held_followed : (kept opened : AnOpened) (sight : Sight) (s t : State) → Reads s t → kept.database ≡ opened.database → kept.lists ≡ opened.lists → kept.diversions.ways.entries ≡ opened.diversions.ways.entries
    → Needs t (IsFollowed kept.lists.lists kept.diversions.ways) → Needs s (HasAll opened.database.records opened.lists.lists opened.diversions.ways.entries sight) → Needs t (HasFollowed kept.database.records kept.lists.lists kept.diversions.ways sight)
held_followed kept opened sight s t reads database lists entries followed held = λ h. (
  subst (HasAll kept.database.records kept.lists.lists kept.diversions.ways.entries sight) (sym reads.world)
      (subst (λ (es : List Diversion). HasAll kept.database.records kept.lists.lists es sight s.world) (sym entries)
      (rw (database, lists) (held (reads.honest h)))),
  followed h,
)

-- the place of a path is looked for, with the aliases above it
pub search_told : (table : List Record) (lists : List PackageList) (sight : Sight) (a b : Diverted) (path place : Path) (text : List ℕ) (s t : State) → Reads s t → Grows t.honest s.world path a.ways.aliases b.ways.aliases
    → b ≡ record a { ways = record a.ways { aliases = b.ways.aliases } } → (IsTrue t.honest → AreAliasesIn s.world a.ways.aliases → IsWhole s.world path b.ways.aliases)
    → Needs s (HasFollowed table lists a.ways sight) → place ≡ resolved b.ways.aliases path → text ≡ search_text b.ways lists place → IsSearch path t text
search_told table lists sight a b path place text s t reads grows kept whole held place_is text_is = (
  table,
  lists,
  b.ways,
  sight,
  (λ h.
      let was = held (reads.honest h) in
      let more = more_one t.honest s.world a b path grows kept in (
        (
          subst (HasAll table lists b.ways.entries sight) (sym reads.world) (subst (λ (es : List Diversion). HasAll table lists es sight s.world) (sym (ap (λ (d : Diverted). d.ways.entries) kept)) was.0),
          subst (IsFollowed lists b.ways) (sym reads.world) (stays_followed t.honest s.world lists a b more h was.1),
        ),
        subst (λ (w : World). IsWhole w path b.ways.aliases) (sym reads.world) (whole h was.1.listed.aliases),
      )),
  text_is ∙ ap (search_text b.ways lists) place_is,
)
