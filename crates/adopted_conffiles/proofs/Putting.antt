-- Notes of records, one after another.
use Rattle.std.proofs.Common.{◌≡◌, ◌+◌, ◌<◌, ◌≤◌, ℕ, zero, suc, arith, Bool, true, false, ◌==◌, IsTrue, Result, Ok, Err, List, [], ◌∷◌, ◌++◌, length, take, get_or, refl, sym, ap, subst, ◌∙◌, inl, inr, append-nil}
use Rattle.std.specs.Prelude.{OnOk}
use Rattle.std.proofs.lemmas.List.{take_more}
use Rattle.std.proofs.lemmas.Bool.{eqb-true}
use Rattle.diversions.specs.Ways.{Ways}
use Rattle.host_core.specs.Host.{AtEachMoment, Reads, Since, State}
use Rattle.host_core.specs.World.{World, KeepsBut}
use Rattle.host_core.proofs.Moments.{since_reads, since_then, since_weaker_if}
use Rattle.status_db.specs.Held.{AreKept, HasRecords, is_record_place}
use Rattle.status_db.specs.Noting.{IsNoting}
use Rattle.status_db.specs.Order.{AreInOrder}
use Rattle.status_records.specs.Records.{AreStanding, put_record}
use Rattle.status_records.specs.Words.{is_not_installed}
use Rattle.status_records.specs.declared.record.Record.{Record}
use Rattle.adopted_conffiles.specs.Adopted.{all_adopted, all_taken}
use Rattle.adopted_conffiles.specs.Adopting.{IsAdopting, IsPutting, put_each}
use Rattle.adopted_conffiles.proofs.Taken.{part_put}

pub none_put : (given table : List Record) (notes : ℕ) (w : World) → AreKept table notes w → IsPutting given table w w
none_put given table notes w kept = record {
  count = 0;
  within = omega arith;
  records = kept.holds;
  opens = record { unblocked = kept.unblocked; table = table; records = kept.holds };
  rest = λ q out. refl;
}

-- while one is noted
pub one_put : (r : Record) (before after : List Record) (old now : World) → after ≡ put_record r before → IsNoting before after old now → IsPutting (r ∷ []) before old now
one_put r before after old now is noting = elim noting.records [
  | inl before_it ↦ record { count = 0; within = omega arith; records = before_it; opens = noting.opens; rest = noting.rest }
  | inr behind ↦ record { count = 1; within = omega arith; records = subst (HasRecords now) is behind; opens = noting.opens; rest = noting.rest }
]

put_both : (a b table : List Record) → put_each (a ++ b) table ≡ put_each b (put_each a table)
put_both [] b table = refl
put_both (r ∷ a) b table = put_both a b (put_record r table)

pub put_more : (given : List Record) (i : ℕ) (r : Record) (table old new : List Record) → i < length given → r ≡ get_or given i r → old ≡ put_each (take i given) table → new ≡ put_record r old → new ≡ put_each (take (i + 1) given) table
put_more given i r table old new lt is so_far more =
    more ∙ ap (put_record r) so_far ∙ sym (put_both (take i given) (r ∷ []) table) ∙ ap (λ (l : List Record). put_each l table) (ap (λ (x : Record). take i given ++ x ∷ []) is ∙ sym (take_more given i r lt))

kept_both : (u v w : World) → KeepsBut is_record_place u v → KeepsBut is_record_place v w → KeepsBut is_record_place u w
kept_both u v w first second q out = second q out ∙ first q out

-- one of them, behind those in front
pub next_put : (given : List Record) (i : ℕ) (r : Record) (table so_far : List Record) (u v w : World) → i < length given → r ≡ get_or given i r → so_far ≡ put_each (take i given) table → KeepsBut is_record_place u v → IsPutting (r ∷ []) so_far v w → IsPutting given table u w
next_put given i r table so_far u v w lt is front kept putting = at putting.count putting.records
  where
    made : (k : ℕ) → k ≤ length given → HasRecords w (put_each (take k given) table) → IsPutting given table u w
    made k within records = record { count = k; within = within; records = records; opens = putting.opens; rest = kept_both u v w kept putting.rest }

    one : (k : ℕ) → take (suc k) (r ∷ []) ≡ r ∷ []
    one zero = refl
    one (suc k) = refl

    at : (k : ℕ) → HasRecords w (put_each (take k (r ∷ [])) so_far) → IsPutting given table u w
    at zero records = made i (omega (arith, lt)) (subst (HasRecords w) front records)
    at (suc k) records = made (i + 1) (omega (arith, lt)) (subst (HasRecords w) (put_more given i r table so_far _ lt is front (ap (λ (l : List Record). put_each l so_far) (one k))) records)

pub rest_kept : (u v w : World) → KeepsBut is_record_place u v → KeepsBut is_record_place v w → KeepsBut is_record_place u w
rest_kept u v w first second = kept_both u v w first second

pub stands_at : (rs : List Record) (i : ℕ) (r : Record) → AreStanding rs → i < length rs → r ≡ get_or rs i r → is_not_installed r.state ≡ false
stands_at [] i r all lt is = absurd (omega (arith, lt))
stands_at (x ∷ rs) zero r all lt is = subst (λ (y : Record). is_not_installed y.state ≡ false) (sym is) all.0
stands_at (x ∷ rs) (suc i) r all lt is = stands_at rs i r all.1 (omega (arith, lt)) is

-- of a table those in front are taken up
pub adopting : (w now : World) (ways : Ways) (given table : List Record) → AreInOrder table → given ≡ all_taken w ways table → IsPutting given table w now → IsAdopting ways table w now
adopting w now ways given table order is putting =
    let part = part_put w ways [] table putting.count order in
    record {
      front = part.front;
      back = part.back;
      is = part.is;
      records = subst (HasRecords now) (ap (λ (l : List Record). put_each (take putting.count l) table) is ∙ part.put) putting.records;
      opens = putting.opens;
      rest = putting.rest;
    }

pub none_adopted : (ways : Ways) (table : List Record) (notes : ℕ) (w : World) → AreKept table notes w → IsAdopting ways table w w
none_adopted ways table notes w kept = record {
  front = [];
  back = table;
  is = refl;
  records = kept.holds;
  opens = record { unblocked = kept.unblocked; table = table; records = kept.holds };
  rest = λ q out. refl;
}

-- at each moment

pub moments_looked : (P : World → Type 0) (a b : State) → Reads a b → (IsTrue a.honest → P a.world) → Since (λ so_far. P) a b
moments_looked P a b reads holds =
    since_weaker_if (λ so_far now. now ≡ a.world) (λ so_far. P) a b (λ h so_far w same. subst P (sym same) (holds (reads.honest h))) (since_reads (λ so_far now. now ≡ a.world) a b reads (λ fs all. refl))

pub moments_putting : (ways : Ways) (given table : List Record) (notes : ℕ) (a b c : State) → AreInOrder table → Reads a b → (IsTrue a.honest → AreKept table notes a.world) → (IsTrue b.honest → given ≡ all_taken a.world ways table) → (IsTrue c.honest → IsTrue b.honest)
    → AtEachMoment (IsPutting given table) b c → AtEachMoment (IsAdopting ways table) a c
moments_putting ways given table notes a b c order reads kept found falls putting =
    since_then (λ so_far. IsAdopting ways table a.world) a b c (moments_looked (IsAdopting ways table a.world) a b reads (λ h. none_adopted ways table notes a.world (kept h)))
    (since_weaker_if (λ so_far. IsPutting given table b.world) (λ so_far. IsAdopting ways table a.world) b c
    (λ h so_far w is. adopting a.world w ways given table order (found (falls h)) (subst (λ (u : World). IsPutting given table u w) reads.world is)) putting)

pub moments_next : (given : List Record) (i : ℕ) (r : Record) (table so_far : List Record) (a b c : State) → i < length given → r ≡ get_or given i r → so_far ≡ put_each (take i given) table → AtEachMoment (IsPutting given table) a b
    → (IsTrue b.honest → KeepsBut is_record_place a.world b.world) → (IsTrue c.honest → IsTrue b.honest) → AtEachMoment (IsPutting (r ∷ []) so_far) b c → AtEachMoment (IsPutting given table) a c
moments_next given i r table so_far a b c lt is front first kept falls next =
    since_then (λ so_far. IsPutting given table a.world) a b c first
    (since_weaker_if (λ done. IsPutting (r ∷ []) so_far b.world) (λ done. IsPutting given table a.world) b c (λ h done w putting. next_put given i r table so_far a.world b.world w lt is front (kept (falls h)) putting) next)

pub moments_none : (given table : List Record) (notes : ℕ) (a : State) → (IsTrue a.honest → AreKept table notes a.world) → AtEachMoment (IsPutting given table) a a
moments_none given table notes a kept = record { added = []; events = sym (append-nil a.events); honest = λ h. h; world = refl; each = λ h. none_put given table notes a.world (kept h) }

pub on_ok : {T E P Q : Type 0} (result : Result T E) → (P → Q) → OnOk result P → OnOk result Q
on_ok (Ok x) f p = f p
on_ok (Err e) f p = tt

pub none_of : (xs : List Record) (b : Bool) → b ≡ (length xs == 0) → b ≡ true → xs ≡ []
none_of [] b is e = refl
none_of (x ∷ xs) b is e = absurd (omega (arith, eqb-true (length (x ∷ xs)) 0 (sym is ∙ e)))
