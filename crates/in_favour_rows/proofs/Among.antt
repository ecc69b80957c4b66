-- Records of some of these names, in their order.
use Rattle.std.proofs.Common.{◌≡◌, ℕ, zero, Bool, true, false, cond, List, [], ◌∷◌, ◌++◌, Option, Some, None, arith, refl, sym, ap, subst, ◌∙◌}
use Rattle.std.specs.List.{Contains}
use Rattle.std.specs.Str.{bytes_eq}
use Rattle.std.proofs.lemmas.Bool.{false_from_ne_true}
use Rattle.std.proofs.lemmas.List.Elements.{Contains-append_right}
use Rattle.std.proofs.lemmas.Slice.Eq.{bytes_eq-Decides}
use Rattle.status_records.specs.Records.{AreApart, IsWithout, record_in}
use Rattle.status_records.specs.declared.record.Record.{Record}
use Rattle.unpack_relations.specs.Checks.{AreDistinct}
use Rattle.unpack_rows.specs.EndStates.{AreRecorded}

abbrev Name : Type 0
Name = List ℕ

abbrev held : Record → Option Record → Record
held r None = r
held r (Some s) = s

-- the record of a name has that name
is_named : (table : List Record) (name : Name) (r : Record) → record_in table name ≡ Some r → r.name ≡ name
is_named [] name r found = cc
is_named (x ∷ rs) name r found = by (bytes_eq x.name name) refl (is_named rs name r) found
  where
    by : (b : Bool) → bytes_eq x.name name ≡ b → (record_in rs name ≡ Some r → r.name ≡ name) → cond b (Some x) (record_in rs name) ≡ Some r → r.name ≡ name
    by true same rest is = ap (λ (s : Record). s.name) (sym (ap (held x) is)) ∙ (bytes_eq-Decides x.name name).0 same
    by false other rest is = rest is

pub data AreAmong (table : List Record) : List Name → List Record → Type 0 where
  none : AreAmong table [] []
  passed : (q : Name) (names : List Name) (rs : List Record) → AreAmong table names rs → AreAmong table (q ∷ names) rs
  taken : (q : Name) (names : List Name) (r : Record) (rs : List Record) → record_in table q ≡ Some r → AreAmong table names rs → AreAmong table (q ∷ names) (r ∷ rs)

module _ (table : List Record) where
  pub among_both : (ns ms : List Name) (rs ss : List Record) → AreAmong table ns rs → AreAmong table ms ss → AreAmong table (ns ++ ms) (rs ++ ss)
  among_both _ ms _ ss AreAmong.none more = more
  among_both _ ms _ ss (AreAmong.passed q ns rs first) more = AreAmong.passed q (ns ++ ms) (rs ++ ss) (among_both ns ms rs ss first more)
  among_both _ ms _ ss (AreAmong.taken q ns r rs found first) more = AreAmong.taken q (ns ++ ms) r (rs ++ ss) found (among_both ns ms rs ss first more)

  pub among_recorded : (ns : List Name) (rs : List Record) → AreAmong table ns rs → AreRecorded table rs
  among_recorded _ _ AreAmong.none = tt
  among_recorded _ _ (AreAmong.passed q ns rs rest) = among_recorded ns rs rest
  among_recorded _ _ (AreAmong.taken q ns r rs found rest) =
      (ap (record_in table) (is_named table q r found) ∙ found, among_recorded ns rs rest)

  -- a name that isn't one of these is that of no record
  pub among_without : (ns : List Name) (rs : List Record) (name : Name) → AreAmong table ns rs → (Contains ns name → ⊥) → IsWithout name rs
  among_without _ _ name AreAmong.none other = tt
  among_without _ _ name (AreAmong.passed q ns rs rest) other =
      among_without ns rs name rest (λ in_rest. other (Contains-append_right (q ∷ []) ns name in_rest))
  among_without _ _ name (AreAmong.taken q ns r rs found rest) other = (
    false_from_ne_true (bytes_eq r.name name) (λ same. other (zero, omega arith, sym (is_named table q r found) ∙ (bytes_eq-Decides r.name name).0 same)),
    among_without ns rs name rest (λ in_rest. other (Contains-append_right (q ∷ []) ns name in_rest)),
  )

  pub among_apart : (ns : List Name) (rs : List Record) → AreAmong table ns rs → AreDistinct ns → AreApart rs
  among_apart _ _ AreAmong.none distinct = tt
  among_apart _ _ (AreAmong.passed q ns rs rest) distinct = among_apart ns rs rest distinct.1
  among_apart _ _ (AreAmong.taken q ns r rs found rest) distinct =
      (subst (λ (n : Name). IsWithout n rs) (sym (is_named table q r found)) (among_without ns rs q rest distinct.0), among_apart ns rs rest distinct.1)
