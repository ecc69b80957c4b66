-- The names of packages are those of their records.
use Rattle.std.proofs.Common.{◌≡◌, ℕ, zero, suc, ◌<◌, Bool, true, false, cond, List, [], ◌∷◌, length, get_or, map, is_some, Option, Some, refl, sym, ap, subst, ◌∙◌, arith}
use Rattle.std.specs.Str.{bytes_eq}
use Rattle.recorded_packages.specs.Packages.{ArePackagesOf}
use Rattle.recorded_packages.proofs.Named.{as_many, names_are}
use Rattle.relation_index.proofs.Ordered.{in_order}
use Rattle.relation_index.specs.Order.{AreInOrder, IsBefore, IsBeforeAll}
use Rattle.relation_index.specs.Packages.{AreInNameOrder}
use Rattle.relation_index.specs.declared.package.Package.{Package}
use Rattle.status_db.specs.Order.{names_of}
use Rattle.status_records.specs.Records.{record_in}
use Rattle.status_records.specs.declared.record.Record.{Record}
use Rattle.status_db.proofs.Ordered.{before_differs}
use Rattle.status_records.proofs.Tables.{found_here}
use Rattle.unpack_relations.specs.Beside.{name_at}

name_later : (name : List ℕ) (ps : List Package) (y : ℕ) → IsBeforeAll name ps → y < length ps → IsBefore name (name_at ps y)
name_later name [] y all lt = absurd (omega (arith, lt))
name_later name (p ∷ ps) zero all lt = all.0
name_later name (p ∷ ps) (suc y) all lt = name_later name ps y all.1 (omega (arith, lt))

names_apart : (ps : List Package) → AreInOrder ps → (x y : ℕ) → x < length ps → y < length ps → name_at ps x ≡ name_at ps y → x ≡ y
names_apart [] order x y here there same = absurd (omega (arith, here))
names_apart (p ∷ ps) order zero zero here there same = refl
names_apart (p ∷ ps) order zero (suc y) here there same = absurd (before_differs _ _ (name_later p.name ps y order.0 (omega (arith, there))) same)
names_apart (p ∷ ps) order (suc x) zero here there same = absurd (before_differs _ _ (name_later p.name ps x order.0 (omega (arith, here))) (sym same))
names_apart (p ∷ ps) order (suc x) (suc y) here there same = ap suc (names_apart ps order.1 x y (omega (arith, here)) (omega (arith, there)) same)

-- each package has a name of its own
pub named_apart : (packages : List Package) → AreInNameOrder packages → (x y : ℕ) → x < length packages → y < length packages → name_at packages x ≡ name_at packages y → x ≡ y
named_apart packages order = names_apart packages (in_order packages order)

found_either : (b : Bool) (r : Record) (o : Option Record) → is_some o ≡ true → is_some (cond b (Some r) o) ≡ true
found_either true r o found = refl
found_either false r o found = found

recorded_at : (rs : List Record) (x : ℕ) → x < length rs → is_some (record_in rs (get_or (names_of rs) x [])) ≡ true
recorded_at [] x lt = absurd (omega (arith, lt))
recorded_at (r ∷ rs) zero lt = ap is_some (found_here rs r r.name refl)
recorded_at (r ∷ rs) (suc x) lt =
    let name = get_or (names_of rs) x [] in
    found_either (bytes_eq r.name name) r (record_in rs name) (recorded_at rs x (omega (arith, lt)))

pub is_recorded : (records : List Record) (packages : List Package) → ArePackagesOf records packages → (x : ℕ) → x < length packages → is_some (record_in records (name_at packages x)) ≡ true
is_recorded records packages are x lt =
    let count = as_many records packages are in
    let names = names_are records packages are in
    subst (λ (l : List (List ℕ)). is_some (record_in records (get_or l x [])) ≡ true) (sym names) (recorded_at records x (subst (λ n. x < n) count lt))
