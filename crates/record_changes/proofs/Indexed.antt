-- The packages of records tell neither what is wanted of them nor what they are to process.
use Rattle.std.proofs.Common.{◌≡◌, ℕ, Bool, true, false, cond, List, [], ◌∷◌, ◌++◌, Option, Some, None, refl, sym, ap, subst, ◌∙◌}
use Rattle.std.specs.Prelude.{IfSome, is_some}
use Rattle.std.specs.Str.{bytes_eq}
use Rattle.std.proofs.lemmas.Slice.Eq.{bytes_eq-Decides}
use Rattle.control_fields.specs.declared.field.Field.{Field}
use Rattle.name_tables.specs.Tables.{place_value}
use Rattle.name_tables.proofs.Ordered as values
use Rattle.recorded_packages.specs.Packages.{ArePackagesIn, ArePackagesOf, IsPackageOf, root_architecture}
use Rattle.relation_index.specs.declared.package.Package.{Package}
use Rattle.stated_relations.specs.Relations.{architecture_of, counted_as}
use Rattle.status_db.proofs.Ordered.{put_is}
use Rattle.status_db.specs.Order.{AreInOrder, IsBefore, IsBeforeAll, name_of}
use Rattle.status_records.specs.Records.{put_record, record_in}
use Rattle.status_records.specs.declared.record.Record.{Record}
use Rattle.status_records.specs.Standings.{wanting}
use Rattle.status_records.specs.declared.words.Want.{Want}
use Rattle.record_changes.specs.Activated.{IsMade, activated, changed}
use Rattle.record_changes.specs.Taking.{packages_behind}
use Rattle.record_changes.specs.declared.change.Change.{Change}
use Rattle.record_changes.specs.declared.change.Change.TheVariants as change
use Rattle.record_changes.proofs.Changing.{awaited_stays}
use Rattle.record_changes.proofs.Found.{some_is}

-- a record stands in a table at the place of another
record Takes (old r : Record) (rs new : List Record) : Type 0 where
  pub front : List Record
  pub back : List Record
  pub was : rs ≡ front ++ old ∷ back
  pub is : new ≡ front ++ r ∷ back

before_found : (name other : List ℕ) (rs : List Record) (old : Record) → IsBeforeAll name rs → record_in rs other ≡ Some old → IsBefore name other
before_found name other [] old all found = absurd cc
before_found name other (x ∷ xs) old all found = by (bytes_eq x.name other) refl (before_found name other xs old all.1) found
  where
    by : (b : Bool) → bytes_eq x.name other ≡ b → (record_in xs other ≡ Some old → IsBefore name other) → cond b (Some x) (record_in xs other) ≡ Some old → IsBefore name other
    by true same rest is = subst (IsBefore name) ((bytes_eq-Decides x.name other).0 same) all.0
    by false apart rest is = rest is

-- put in the place of that of its name
put_takes : (rs : List Record) (old r : Record) → AreInOrder rs → record_in rs r.name ≡ Some old → Takes old r rs (put_record r rs)
put_takes [] old r order found = absurd cc
put_takes (x ∷ xs) old r order found = by (bytes_eq x.name r.name) refl (put_takes xs old r order.1) found
  where
    here : x.name ≡ r.name → put_record r (x ∷ xs) ≡ r ∷ xs
    here same =
        sym (put_is r (x ∷ xs)) ∙ ap (place_value name_of r) (values.dropped_here name_of r.name x xs same order.0)
        ∙ values.placed_first name_of r xs (subst (λ (n : List ℕ). IsBeforeAll n xs) same order.0)

    later : IsBefore x.name r.name → put_record r (x ∷ xs) ≡ x ∷ put_record r xs
    later before = sym (put_is r (x ∷ xs)) ∙ values.put_later name_of r x xs before ∙ ap (λ (l : List Record). x ∷ l) (put_is r xs)

    by : (b : Bool) → bytes_eq x.name r.name ≡ b → (record_in xs r.name ≡ Some old → Takes old r xs (put_record r xs)) → cond b (Some x) (record_in xs r.name) ≡ Some old → Takes old r (x ∷ xs) (put_record r (x ∷ xs))
    by true same rest is = record { front = []; back = xs; was = ap (λ (y : Record). y ∷ xs) (some_is x old is); is = here ((bytes_eq-Decides x.name r.name).0 same) }
    by false apart rest is =
        let takes = rest is in
        record { front = x ∷ takes.front; back = takes.back; was = ap (λ (l : List Record). x ∷ l) takes.was; is = later (before_found x.name r.name xs old order.0 is) ∙ ap (λ (l : List Record). x ∷ l) takes.is }

-- the record tells of the package what the other one tells
abbrev TellsSame : Record → Record → Type 0
TellsSame old r = (root : Option (List ℕ)) (p : Package) → IsPackageOf root old p → IsPackageOf root r p

same_root : (front back : List Record) (old r : Record) → r.fields ≡ old.fields → root_architecture (front ++ r ∷ back) ≡ root_architecture (front ++ old ∷ back)
same_root [] back old r fields = ap (λ (f : List Field). counted_as (root_architecture back) (architecture_of f)) fields
same_root (x ∷ front) back old r fields = ap (λ (o : Option (List ℕ)). counted_as o (architecture_of x.fields)) (same_root front back old r fields)

same_packages : (root : Option (List ℕ)) (front back : List Record) (old r : Record) (ps : List Package) → TellsSame old r → ArePackagesIn root (front ++ old ∷ back) ps → ArePackagesIn root (front ++ r ∷ back) ps
same_packages root [] back old r [] same are = absurd are
same_packages root [] back old r (p ∷ ps) same are = (same root p are.0, are.1)
same_packages root (x ∷ front) back old r [] same are = absurd are
same_packages root (x ∷ front) back old r (p ∷ ps) same are = (are.0, same_packages root front back old r ps same are.1)

packages_taken : (rs new : List Record) (old r : Record) (ps : List Package) → r.fields ≡ old.fields → TellsSame old r → Takes old r rs new → ArePackagesOf rs ps → ArePackagesOf new ps
packages_taken rs new old r ps fields same takes are =
    subst (λ (l : List Record). ArePackagesOf l ps) (sym takes.is)
    (subst (λ root. ArePackagesIn root (takes.front ++ r ∷ takes.back) ps) (sym (same_root takes.front takes.back old r fields))
    (same_packages _ takes.front takes.back old r ps same (subst (λ (l : List Record). ArePackagesOf l ps) takes.was are)))

still : (rs : List Record) (old r : Record) → AreInOrder rs → record_in rs r.name ≡ Some old → r.fields ≡ old.fields → TellsSame old r → (o : Option (List Package)) → IfSome o (ArePackagesOf rs) → IfSome o (ArePackagesOf (put_record r rs))
still rs old r order found fields same None are = tt
still rs old r order found fields same (Some ps) are = packages_taken rs (put_record r rs) old r ps fields same (put_takes rs old r order found) are

wanted_same : (want : Want) (old : Record) → TellsSame old (wanting want old)
wanted_same want old root p is = record {
  name = is.name;
  architecture = is.architecture;
  version = is.version;
  state = is.state;
  awaits = is.awaits;
  reinstreq = is.reinstreq;
  essential = is.essential;
  configured = is.configured;
  removed_since = is.removed_since;
  provides = is.provides;
  pre_depends = is.pre_depends;
  depends = is.depends;
  breaks = is.breaks;
  conflicts = is.conflicts;
  replaces = is.replaces;
}

activated_same : (names : List ℕ) (old : Record) → (activated names old).triggers.awaited ≡ old.triggers.awaited → TellsSame old (activated names old)
activated_same names old awaited root p is = record {
  name = is.name;
  architecture = is.architecture;
  version = is.version;
  state = is.state;
  awaits = is.awaits ∙ ap is_some (sym awaited);
  reinstreq = is.reinstreq;
  essential = is.essential;
  configured = is.configured;
  removed_since = is.removed_since;
  provides = is.provides;
  pre_depends = is.pre_depends;
  depends = is.depends;
  breaks = is.breaks;
  conflicts = is.conflicts;
  replaces = is.replaces;
}

-- no packages are held behind one that was abandoned or awaits others
still_behind : (asked : Change) (rs : List Record) (old : Record) → AreInOrder rs → record_in rs old.name ≡ Some old → (IsMade asked old → ⊥) → (o : Option (List Package)) → IfSome o (ArePackagesOf rs) → IfSome (packages_behind asked o) (ArePackagesOf (put_record (changed asked old) rs))
still_behind (change.Want want) rs old order found other o are = still rs old (wanting want old) order found refl (wanted_same want old) o are
still_behind (change.Activate names) rs old order found other o are = still rs old (activated names old) order found refl (activated_same names old (awaited_stays names old other)) o are
still_behind (change.Abandon trigger) rs old order found other o are = tt
still_behind (change.Await names) rs old order found other o are = tt

pub still_indexed : (rs new : List Record) (asked : Change) (old : Record) → AreInOrder rs → record_in rs old.name ≡ Some old → (IsMade asked old → ⊥) → new ≡ put_record (changed asked old) rs → (o behind : Option (List Package)) → behind ≡ packages_behind asked o
    → IfSome o (ArePackagesOf rs) → IfSome behind (ArePackagesOf new)
still_indexed rs new asked old order found other is o behind left are =
    subst (λ (x : Option (List Package)). IfSome x (ArePackagesOf new)) (sym left) (subst (λ (l : List Record). IfSome (packages_behind asked o) (ArePackagesOf l)) (sym is) (still_behind asked rs old order found other o are))
