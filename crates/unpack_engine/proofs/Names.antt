-- Names that go into a set and come out of it in order.
use Rattle.std.proofs.Common.{◌≡◌, ◌+◌, ◌<◌, ◌||◌, ◌&&◌, ℕ, Bool, true, false, cond, List, [], ◌∷◌, filter, take, length, get_or, refl, sym, ap, ◌∙◌}
use Rattle.std.specs.List.{list_any}
use Rattle.std.specs.Str.{bytes_eq}
use Rattle.std.proofs.lemmas.Cmp.{nat_list_eq_equiv}
use Rattle.std.proofs.lemmas.List.Folds.{list_any_more}
use Rattle.host_core.specs.Paths.{Path}
use Rattle.control_members.specs.Members.{AreInOrder}
use Rattle.file_lists.specs.Increasing.{AreIncreasing}
use Rattle.status_records.specs.declared.record.Record.{Record}
use Rattle.unpack_engine.specs.Touched.{is_named}

joined : (b m : Bool) → cond b true m ≡ m || b
joined true true = refl
joined true false = refl
joined false true = refl
joined false false = refl

pub entered : (q key : Path) (new mid before : Bool) (name : Path) → key ≡ name → new ≡ cond (bytes_eq key q) true mid → mid ≡ before → new ≡ before || bytes_eq q name
entered q key new mid before name same new_is mid_is =
    new_is ∙ joined (bytes_eq key q) mid ∙ ap (λ b. b || bytes_eq key q) mid_is ∙ ap (λ b. before || b) (nat_list_eq_equiv.symm key q ∙ ap (bytes_eq q) same)

pub record_entered : (records : List Record) (i : ℕ) (r : Record) (key q : Path) (new mid : Bool) → i < length records → r ≡ get_or records i r → key ≡ r.name
    → new ≡ cond (bytes_eq key q) true mid → mid ≡ is_named (take i records) q → new ≡ is_named (take (i + 1) records) q
record_entered records i r key q new mid lt is same new_is mid_is =
    entered q key new mid (is_named (take i records) q) r.name same new_is mid_is
    ∙ ap (λ (x : Record). is_named (take i records) q || bytes_eq q x.name) is ∙ sym (list_any_more (λ (x : Record). bytes_eq q x.name) records i r lt)

or_assoc : (a b c : Bool) → (a || b) || c ≡ a || (b || c)
or_assoc true b c = refl
or_assoc false b c = refl

-- of the records some are entered
module _ (keep : Record → Bool) (q : Path) where
  abbrev pub is_kept_so : Record → Bool
  is_kept_so r = keep r && bytes_eq q r.name

  pub named_kept : (records : List Record) → is_named (filter keep records) q ≡ list_any is_kept_so records
  named_kept [] = refl
  named_kept (r ∷ rs) = by (keep r) (named_kept rs)
    where
      by : (b : Bool) → is_named (filter keep rs) q ≡ list_any is_kept_so rs → is_named (cond b (r ∷ filter keep rs) (filter keep rs)) q ≡ (b && bytes_eq q r.name) || list_any is_kept_so rs
      by true e = ap (λ b. bytes_eq q r.name || b) e
      by false e = e

  module _ (records : List Record) (i : ℕ) (r : Record) (lt : i < length records) (is : r ≡ get_or records i r) (before mid : Bool) (mid_is : mid ≡ before || list_any is_kept_so (take i records)) where
    one_more : (b : Bool) → is_kept_so r ≡ b → (before || list_any is_kept_so (take i records)) || b ≡ before || list_any is_kept_so (take (i + 1) records)
    one_more b e =
        or_assoc before (list_any is_kept_so (take i records)) b
        ∙ ap (λ c. before || (list_any is_kept_so (take i records) || c)) (sym e ∙ ap is_kept_so is)
        ∙ ap (λ c. before || c) (sym (list_any_more is_kept_so records i r lt))

    pub kept_entered : (key : Path) (new : Bool) → keep r ≡ true → key ≡ r.name → new ≡ cond (bytes_eq key q) true mid → new ≡ before || list_any is_kept_so (take (i + 1) records)
    kept_entered key new kept same new_is =
        entered q key new mid (before || list_any is_kept_so (take i records)) r.name same new_is mid_is ∙ one_more (bytes_eq q r.name) (ap (λ b. b && bytes_eq q r.name) kept)

    pub passed_by : keep r ≡ false → mid ≡ before || list_any is_kept_so (take (i + 1) records)
    passed_by passed = mid_is ∙ or_none (before || list_any is_kept_so (take i records)) ∙ one_more false (ap (λ b. b && bytes_eq q r.name) passed)
      where
        or_none : (b : Bool) → b ≡ b || false
        or_none true = refl
        or_none false = refl

pub increasing : (names : List Path) → AreInOrder names → AreIncreasing names
increasing [] order = tt
increasing (p ∷ ps) order = (order.0, increasing ps order.1)
