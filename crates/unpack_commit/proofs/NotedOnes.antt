-- Records noted one after another.
use Rattle.std.proofs.Common.{◌≡◌, inl, inr, ℕ, zero, suc, ◌+◌, ◌<◌, false, List, [], ◌∷◌, ◌++◌, take, drop, length, get_or, IsTrue, refl, sym, ap, subst, ◌∙◌, arith}
use Rattle.std.proofs.lemmas.List.{take-append-drop}
use Rattle.host_core.specs.World.{World, KeepsBut}
use Rattle.host_core.specs.Host.{State, AtEachMoment}
use Rattle.host_core.proofs.Moments.{since_then, since_weaker_if}
use Rattle.administration.proofs.Within.{taken_more}
use Rattle.status_db.specs.Held.{HasRecords, is_record_place}
use Rattle.status_db.specs.Noting.{IsNoting}
use Rattle.status_db.specs.Recorded.{Recorded}
use Rattle.status_db.specs.Held.{IsKept}
use Rattle.status_records.specs.Records.{AreStanding, put_record}
use Rattle.status_records.specs.Words.{is_not_installed}
use Rattle.status_records.specs.declared.record.Record.{Record}
use Rattle.unpack_commit.specs.Commit.{AreNoting, HasSomeNoted}
use Rattle.unpack_commit.specs.Takeover.{put_records}
use Rattle.unpack_commit.proofs.Stays.{kept_opens}

put_last : (front : List Record) (r : Record) (before : List Record) → put_records (front ++ r ∷ []) before ≡ put_record r (put_records front before)
put_last [] r before = refl
put_last (x ∷ front) r before = put_last front r (put_record x before)

-- one more of the records
pub put_more : (records before : List Record) (i : ℕ) (r : Record) → i < length records → r ≡ get_or records i r → put_records (take (i + 1) records) before ≡ put_record r (put_records (take i records) before)
put_more records before i r lt at = ap (λ rs. put_records rs before) (taken_more records i r lt at) ∙ put_last (take i records) r before

pub standing_at : (records : List Record) (i : ℕ) (r : Record) → AreStanding records → i < length records → r ≡ get_or records i r → is_not_installed r.state ≡ false
standing_at [] i r all lt at = absurd (omega (arith, lt))
standing_at (x ∷ xs) zero r all lt at = ap (λ (y : Record). is_not_installed y.state) at ∙ all.0
standing_at (x ∷ xs) (suc i) r all lt at = standing_at xs i r all.1 (omega (arith, lt)) at

pub some_noted : (records before table now : List Record) (i : ℕ) → table ≡ put_records (take i records) before → now ≡ table → HasSomeNoted records before now
some_noted records before table now i is same = record { front = take i records; back = drop i records; are = sym (take-append-drop i records); is = same ∙ is }

pub noting_start : (records : List Record) (d : Recorded) (w : World) → IsKept d w → AreNoting records d.records w w
noting_start records d w kept = record { front = []; back = records; are = refl; has = kept.holds; opens = kept_opens d w kept; rest = λ q out. refl }

noting_more : (records before : List Record) (i : ℕ) (r : Record) (table : List Record) (old mid now : World) → i < length records → r ≡ get_or records i r → table ≡ put_records (take i records) before
    → KeepsBut is_record_place old mid → IsNoting table (put_record r table) mid now → AreNoting records before old now
noting_more records before i r table old mid now lt at is keeps noting =
    let rest : KeepsBut is_record_place old now = λ q out. noting.rest q out ∙ keeps q out in
    elim noting.records [
      | inl first ↦ record { front = take i records; back = drop i records; are = sym (take-append-drop i records); has = subst (HasRecords now) is first; opens = noting.opens; rest = rest }
      | inr second ↦ record {
        front = take (i + 1) records;
        back = drop (i + 1) records;
        are = sym (take-append-drop (i + 1) records);
        has = subst (HasRecords now) (ap (put_record r) is ∙ sym (put_more records before i r lt at)) second;
        opens = noting.opens;
        rest = rest;
      }
    ]

pub since_noting : (records before : List Record) (i : ℕ) (r : Record) (table : List Record) (a b c : State) → i < length records → r ≡ get_or records i r → table ≡ put_records (take i records) before
    → (IsTrue b.honest → KeepsBut is_record_place a.world b.world) → AtEachMoment (AreNoting records before) a b → AtEachMoment (IsNoting table (put_record r table)) b c → AtEachMoment (AreNoting records before) a c
since_noting records before i r table a b c lt at is keeps first second =
    since_then (λ so_far. AreNoting records before a.world) a b c first
    (since_weaker_if (λ so_far. IsNoting table (put_record r table) b.world) (λ so_far. AreNoting records before a.world) b c
    (λ h so_far now noting. noting_more records before i r table a.world b.world now lt at is (keeps (second.honest h)) noting) second)
