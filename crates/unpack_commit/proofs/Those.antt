-- The packages that yield, and those of them that lose.
use Rattle.std.proofs.Common.{◌≡◌, inl, inr, zero, suc, Bool, true, false, cond, List, [], ◌∷◌, ◌&&◌, filter, map, subst, arith, Contains}
use Rattle.std.specs.List.{list_any}
use Rattle.std.specs.Str.{bytes_eq}
use Rattle.std.proofs.Props.{props}
use Rattle.std.proofs.Math.Logic.{∥∥₁_elim}
use Rattle.std.proofs.lemmas.List.Elements.{Contains-append_cases, Contains-append_left, Contains-append_right}
use Rattle.texts.specs.PackageNames.{is_package_name}
use Rattle.host_core.specs.Paths.{Path}
use Rattle.diversions.specs.Ways.{Ways}
use Rattle.status_records.specs.Records.{AreStanding}
use Rattle.status_records.specs.declared.record.Record.{Record}
use Rattle.unpack_commit.specs.Takeover.{is_config_files, loses_conffile, losing_records, without_conffiles, yields_of}

only : (x y : Path) → Contains (x ∷ []) y → x ≡ y
only x y (zero, lt, is) = is
only x y (suc i, lt, is) = absurd (omega (arith, lt))

record_named : (r : Record) → is_package_name r.name ≡ true
record_named r = ∥∥₁_elim r.writable (hlevel props) (λ known. known.named)

pub yields_named : (records : List Record) (name : Path) → Contains (yields_of records) name → is_package_name name ≡ true
yields_named [] name has = absurd (omega (arith, has.1))
yields_named (r ∷ rs) name has = by (is_config_files r.state) (yields_named rs name) has
  where
    by : (b : Bool) → (Contains (yields_of rs) name → is_package_name name ≡ true) → Contains (map (λ (x : Record). x.name) (cond b (r ∷ filter (λ x. is_config_files x.state) rs) (filter (λ x. is_config_files x.state) rs))) name → is_package_name name ≡ true
    by true rest has = elim (Contains-append_cases (r.name ∷ []) (yields_of rs) name has) [
      | inl one ↦ subst (λ (n : Path). is_package_name n ≡ true) (only r.name name one) (record_named r)
      | inr later ↦ rest later
    ]
    by false rest has = rest has

pub among_all : (keep : Path → Bool) (names : List Path) (name : Path) → Contains (filter keep names) name → Contains names name
among_all keep [] name has = has
among_all keep (n ∷ ns) name has = by (keep n) (among_all keep ns name) has
  where
    by : (b : Bool) → (Contains (filter keep ns) name → Contains ns name) → Contains (cond b (n ∷ filter keep ns) (filter keep ns)) name → Contains (n ∷ ns) name
    by true rest has = elim (Contains-append_cases (n ∷ []) (filter keep ns) name has) [
      | inl one ↦ Contains-append_left (n ∷ []) ns name one
      | inr later ↦ Contains-append_right (n ∷ []) ns name (rest later)
    ]
    by false rest has = Contains-append_right (n ∷ []) ns name (rest has)

module _ (ways : Ways) (places : List Path) (names : List Path) where
  pub losing_stand : (records : List Record) → AreStanding records → AreStanding (losing_records ways places names records)
  losing_stand [] all = tt
  losing_stand (r ∷ rs) all = by (list_any (bytes_eq r.name) names && loses_conffile ways places r) (losing_stand rs all.1)
    where
      by : (b : Bool) → AreStanding (losing_records ways places names rs)
          → AreStanding (map (without_conffiles ways places) (cond b (r ∷ filter (λ x. list_any (bytes_eq x.name) names && loses_conffile ways places x) rs) (filter (λ x. list_any (bytes_eq x.name) names && loses_conffile ways places x) rs)))
      by true rest = (all.0, rest)
      by false rest = rest
