-- Which packages the unit of an unpack tells, and which of them it deconfigured.
use Rattle.std.specs.Prelude.{◌≡◌, ◌≢◌, ◌⊎◌, ◌||◌, ◌&&◌, ◌↔◌, true, false, not, ℕ, Bool, List, Option, Some, None, Contains, filter, map}
use Rattle.std.specs.Str.{bytes_eq}
use Rattle.file_lists.specs.Increasing.{AreIncreasing}
use Rattle.name_sets.specs.Names.{is_among}
use Rattle.status_records.specs.Records.{record_in}
use Rattle.status_records.specs.declared.record.Record.{Record}
use Rattle.unpack_engine.specs.Touched.{is_half_configured}
use Rattle.unit_reports.specs.Units.{touched_at}
use Rattle.unit_reports.specs.declared.report.Touched.{Touched}

-- the record of this package is another one than before
abbrev pub Differs : (before after : List Record) → List ℕ → Type 0
Differs before after q = record_in after q ≡ record_in before q → ⊥

-- the packages of a unit, in the order of names: the one that was named, and each whose record differs since
pub record IsTouchedBeside (name : List ℕ) (before after : List Record) (touched : List (List ℕ)) : Type 0 where
  pub order : AreIncreasing touched
  pub exact : (q : List ℕ) → Contains touched q ↔ ((q ≡ name) ⊎ Differs before after q)

-- the package has a record, which is half-configured
abbrev pub is_half : Option Record → Bool
is_half None = false
is_half (Some r) = is_half_configured r.state

-- the packages that an unpack deconfigured (Policy 7.3), in the order of names: the others that are half-configured now and weren't
-- before
pub record AreDeconfigured (name : List ℕ) (before after : List Record) (names : List (List ℕ)) : Type 0 where
  pub order : AreIncreasing names
  pub exact : (q : List ℕ) → Contains names q ↔ ((q ≢ name) × (is_half (record_in after q) ≡ true) × (is_half (record_in before q) ≡ false))

-- the names of both lists, in order, each once
pub record AreOfBoth (first second names : List (List ℕ)) : Type 0 where
  pub order : AreIncreasing names
  pub exact : (q : List ℕ) → Contains names q ↔ (Contains first q ⊎ Contains second q)

-- those of the records that are half-configured
abbrev pub half_configured : List Record → List (List ℕ)
half_configured records = map (λ r. r.name) (filter (λ r. is_half_configured r.state) records)

-- of these packages those are named whose record doesn't differ
pub record AreUnchanged (before after : List Record) (packages names : List (List ℕ)) : Type 0 where
  pub same : (q : List ℕ) → is_among names q ≡ true → Differs before after q → ⊥
  pub others : (q : List ℕ) → Contains packages q → is_among names q ≡ false → Differs before after q

-- the one that was named is told, and of the others those that aren't unchanged
abbrev pub is_told : List ℕ → List (List ℕ) → List ℕ → Bool
is_told name unchanged q = bytes_eq q name || not (is_among unchanged q)

abbrev pub told_among : List ℕ → List (List ℕ) → List (List ℕ) → List (List ℕ)
told_among name unchanged names = filter (is_told name unchanged) names

-- another package than the one that was named is half-configured by these records, and isn't one of those that were so
abbrev pub is_deconfigured : List ℕ → List Record → List (List ℕ) → List ℕ → Bool
is_deconfigured name after half q = not (bytes_eq q name) && (is_half (record_in after q) && not (is_among half q))

abbrev pub deconfigured_among : List ℕ → List Record → List (List ℕ) → List (List ℕ) → List (List ℕ)
deconfigured_among name after half names = filter (is_deconfigured name after half) names

-- What a unit tells of the packages of two lists, where of some packages the records of before are known by copies, and those that
-- were half-configured.
pub record AreTold (name : List ℕ) (after : List Record) (copies : List Touched) (half first second : List (List ℕ)) (touched : List Touched) (deconfigured : List (List ℕ)) : Type 0 where
  pub names : List (List ℕ)
  pub both : AreOfBoth first second names
  pub unchanged : List (List ℕ)
  pub known : (before : List Record) (packages : List (List ℕ)) → copies ≡ map (touched_at before) packages → AreUnchanged before after packages unchanged
  pub touched_are : touched ≡ map (touched_at after) (told_among name unchanged names)
  pub deconfigured_are : deconfigured ≡ deconfigured_among name after half (told_among name unchanged names)
