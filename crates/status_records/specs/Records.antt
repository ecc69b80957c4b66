-- Records of packages, and a table of them.
use Rattle.std.specs.Prelude.{◌≡◌, ℕ, false, cond, not, List, [], ◌∷◌, Option, Some, None, filter}
use Rattle.std.specs.List.{AllByRecursion}
use Rattle.std.specs.Str.{bytes_eq}
use Rattle.std.specs.Ordering.{nat_cmp, is_lt}
use Rattle.std.specs.Cmp.Lexicographic.{slice_cmp}
use Rattle.status_records.specs.Words.{is_not_installed}
use Rattle.status_records.specs.declared.record.Record.{Record}

-- the record of a name
abbrev pub record_in : List Record → List ℕ → Option Record
record_in [] name = None
record_in (r ∷ rs) name = cond (bytes_eq r.name name) (Some r) (record_in rs name)

-- all records but that of a name
abbrev pub drop_record : List ℕ → List Record → List Record
drop_record name rs = filter (λ r. not (bytes_eq r.name name)) rs

-- a record before the first of a greater name
abbrev pub place_record : Record → List Record → List Record
place_record r [] = r ∷ []
place_record r (x ∷ xs) = cond (is_lt (slice_cmp nat_cmp x.name r.name)) (x ∷ place_record r xs) (r ∷ x ∷ xs)

-- the record of its name is this one
abbrev pub put_record : Record → List Record → List Record
put_record r rs = place_record r (drop_record r.name rs)

-- no record is of this name
abbrev pub IsWithout : List ℕ → List Record → Type 0
IsWithout name [] = Unit {0}
IsWithout name (r ∷ rs) = (bytes_eq r.name name ≡ false) × IsWithout name rs

-- each record is of a name of its own
abbrev pub AreApart : List Record → Type 0
AreApart [] = Unit {0}
AreApart (r ∷ rs) = IsWithout r.name rs × AreApart rs

-- the records that the status file has: those of packages that aren't gone
abbrev pub standing : List Record → List Record
standing rs = filter (λ r. not (is_not_installed r.state)) rs

-- none of them is of a package that is gone
abbrev pub AreStanding : List Record → Type 0
AreStanding rs = AllByRecursion (λ r. is_not_installed r.state ≡ false) rs
