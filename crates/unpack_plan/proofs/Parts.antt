-- The parts of a plan, told of the record found.
use Rattle.std.proofs.Common.{◌≡◌, true, Option, sym, ap, subst, ◌∙◌}
use Rattle.texts.specs.PackageNames.{is_package_name}
use Rattle.file_lists.specs.Owners.{AreListPaths, paths_of}
use Rattle.package_tree.specs.ShipMap.{paths_of as shipped_paths}
use Rattle.status_records.specs.Records.{record_in}
use Rattle.status_records.specs.declared.record.Record.{Record}
use Rattle.listed_files.specs.Closing.{SparesAdministration}
use Rattle.listed_files.specs.Concluding.{AreElsewhere}
use Rattle.unpack_rows.specs.ForwardRows.{others_rows, records_of, rows_of}
use Rattle.unpack_rows.specs.Kinds.{kinds_of}
use Rattle.unpack_plan.specs.Lists.{IsAfter, IsUnion, old_leaving}
use Rattle.unpack_plan.specs.Members.{scripts_in}
use Rattle.unpack_plan.specs.Names.{cleared_names}
use Rattle.unpack_plan.specs.Planned.{name_of, yielding_of, ArePlannedLists, ArePlannedNames, ArePlannedRecords, ArePlannedRows, Job, Planned}
use Rattle.unpack_plan.specs.Records.{IsFresh, IsIncoming}
use Rattle.unpack_plan.proofs.Own.{own_named}

module _ (j : Job) (p : Planned) (found : Option Record) (same : p.found ≡ found) where
  pub records_planned : is_package_name (name_of j) ≡ true → found ≡ record_in j.records (name_of j) → IsIncoming j.«package» p.incoming → IsFresh (yielding_of j) j.«package» found p.fresh → ArePlannedRecords j p
  records_planned named is incoming fresh = record {
    found_is = same ∙ is;
    incoming_is = incoming;
    fresh_is = subst (λ (f : Option Record). IsFresh (yielding_of j) j.«package» f p.fresh) (sym same) fresh;
    named = named;
    own = own_named j.records (name_of j) p.found p.incoming (same ∙ is) incoming.name_is;
  }

  pub rows_planned : p.rows ≡ rows_of found p.incoming j.stored (scripts_in j.«package».scripts) (others_rows j.others) → p.kinds ≡ kinds_of found (records_of j.others) → p.others ≡ records_of j.others → ArePlannedRows j p
  rows_planned rows kinds others = record {
    rows_are = rows ∙ ap (λ (f : Option Record). rows_of f p.incoming j.stored (scripts_in j.«package».scripts) (others_rows j.others)) (sym same);
    kinds_are = kinds ∙ ap (λ (f : Option Record). kinds_of f (records_of j.others)) (sym same);
    others_are = others;
  }

  pub lists_planned : p.listed ≡ paths_of j.lists (name_of j) → AreListPaths p.listed → IsUnion p.listed (shipped_paths j.«package».files) p.union → IsAfter j.«package».files p.fresh p.new_list → p.leaving ≡ old_leaving j.ways j.lists (name_of j) found p.new_list p.listed → SparesAdministration p.leaving → ArePlannedLists j p
  lists_planned listed paths union after leaving spares = record {
    listed_is = listed;
    listed_paths = paths;
    union_is = union;
    new_is = after;
    leaving_is = leaving ∙ ap (λ (f : Option Record). old_leaving j.ways j.lists (name_of j) f p.new_list p.listed) (sym same);
    spares = spares;
  }

  pub names_planned : p.names ≡ cleared_names j.ways (name_of j) found j.«package».conffiles p.works p.leaving → AreElsewhere p.names → ArePlannedNames j p
  names_planned names elsewhere = record {
    names_are = names ∙ ap (λ (f : Option Record). cleared_names j.ways (name_of j) f j.«package».conffiles p.works p.leaving) (sym same);
    elsewhere = elsewhere;
  }
