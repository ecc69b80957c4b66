-- Records that are taken up, one by one and in a table.
use Rattle.std.proofs.Common.{◌≡◌, ◌+◌, ◌<◌, ◌≤◌, ◌&&◌, ◌||◌, ℕ, zero, suc, arith, Bool, true, false, cond, not, List, [], ◌∷◌, ◌++◌, length, take, get_or, map, refl, sym, ap, subst, ◌∙◌, inl, inr, ◌⊎◌, append-nil}
use Rattle.std.specs.List.{AllByRecursion, flat_map}
use Rattle.std.proofs.lemmas.Bool.{true≢false, and_right}
use Rattle.std.proofs.lemmas.List.{append_assoc, map-append, take_more}
use Rattle.std.proofs.lemmas.List.Concat.{flat_map-append}
use Rattle.diversions.specs.Ways.{Ways}
use Rattle.host_core.specs.World.{World}
use Rattle.name_tables.proofs.Ordered as values
use Rattle.name_tables.specs.Tables.{place_value}
use Rattle.status_db.specs.Order.{AreInOrder, IsBefore, IsBeforeAll, name_of}
use Rattle.status_db.proofs.Ordered.{put_is, put_order, same_standing, standing_same}
use Rattle.status_records.specs.Records.{AreStanding, put_record, standing}
use Rattle.status_records.specs.Standings.{with_conffiles}
use Rattle.status_records.specs.Words.{is_installed, is_not_installed}
use Rattle.status_records.specs.declared.entries.PendingDigest.{PendingDigest}
use Rattle.status_records.specs.declared.record.Record.{Record}
use Rattle.status_records.specs.declared.words.State.{State}
use Rattle.status_records.specs.declared.words.State.TheVariants as state
use Rattle.adopted_conffiles.specs.Adopted.{adopted, all_adopted, all_taken, awaits, has_none, is_waiting, pending_beside, settled, taken, taken_with, tells_more, first_or}
use Rattle.adopted_conffiles.specs.Adopting.{put_each}

first_of : (a b : Bool) → (a && b) ≡ true → a ≡ true
first_of true b e = refl
first_of false b e = e

pub waiting_stands : (s : State) → is_waiting s ≡ true → is_not_installed s ≡ false
waiting_stands state.NotInstalled e = absurd (true≢false (sym e))
waiting_stands state.ConfigFiles e = refl
waiting_stands state.HalfInstalled e = refl
waiting_stands state.Unpacked e = refl
waiting_stands state.HalfConfigured e = refl
waiting_stands state.Installed e = refl

pub awaits_stands : (r : Record) → awaits r ≡ true → is_not_installed r.state ≡ false
awaits_stands r e = waiting_stands r.state (first_of (is_waiting r.state) (has_none r.pending) e)

pub tells_stands : (r : Record) → tells_more r ≡ true → is_not_installed r.state ≡ false
tells_stands r e = installed_stands r.state (first_of (is_installed r.state) (not (has_none r.pending) || r.removed_since) e)
  where
    installed_stands : (s : State) → is_installed s ≡ true → is_not_installed s ≡ false
    installed_stands state.NotInstalled e = absurd (true≢false (sym e))
    installed_stands state.ConfigFiles e = refl
    installed_stands state.HalfInstalled e = refl
    installed_stands state.Unpacked e = refl
    installed_stands state.HalfConfigured e = refl
    installed_stands state.Installed e = refl

-- the three ways of a record
pub way : (w : World) (ways : Ways) (r : Record) → tells_more r ≡ false → taken w ways r ≡ cond (awaits r) (taken_with r (pending_beside w ways r)) []
way w ways r e = ap (λ t. cond t (settled r ∷ []) (cond (awaits r) (taken_with r (pending_beside w ways r)) [])) e

waits_not_installed : (s : State) → is_waiting s ≡ true → is_installed s ≡ false
waits_not_installed state.NotInstalled e = refl
waits_not_installed state.ConfigFiles e = refl
waits_not_installed state.HalfInstalled e = refl
waits_not_installed state.Unpacked e = refl
waits_not_installed state.HalfConfigured e = refl
waits_not_installed state.Installed e = absurd (true≢false (sym e))

installed_not_waiting : (s : State) → is_installed s ≡ true → is_waiting s ≡ false
installed_not_waiting state.NotInstalled e = refl
installed_not_waiting state.ConfigFiles e = refl
installed_not_waiting state.HalfInstalled e = refl
installed_not_waiting state.Unpacked e = absurd (true≢false (sym e))
installed_not_waiting state.HalfConfigured e = absurd (true≢false (sym e))
installed_not_waiting state.Installed e = refl

waits_no_more : (r : Record) → is_waiting r.state ≡ true → tells_more r ≡ false
waits_no_more r e = ap (λ b. b && (not (has_none r.pending) || r.removed_since)) (waits_not_installed r.state e)

-- a record is taken up as one of the same package in the same state, which stays, or it stays
record IsTaken (w : World) (ways : Ways) (r : Record) : Type 0 where
  made : Record
  is : taken w ways r ≡ made ∷ []
  named : r.name ≡ made.name
  state : made.state ≡ r.state
  once : taken w ways made ≡ []

either : (w : World) (ways : Ways) (r : Record) → (taken w ways r ≡ []) ⊎ IsTaken w ways r
either w ways r = told (tells_more r) refl
  where
    settled_once : tells_more r ≡ true → taken w ways (settled r) ≡ []
    settled_once e =
        way w ways (settled r) (and_right (is_installed r.state) false refl)
        ∙ ap (λ b. cond (b && true) (taken_with (settled r) (pending_beside w ways (settled r))) []) (installed_not_waiting r.state (first_of (is_installed r.state) (not (has_none r.pending) || r.removed_since) e))

    with_once : (p : PendingDigest) (ps : List PendingDigest) → awaits r ≡ true → taken w ways (with_conffiles r.conffiles (p ∷ ps) r) ≡ []
    with_once p ps e =
        let x = with_conffiles r.conffiles (p ∷ ps) r in
        way w ways x (waits_no_more x (first_of (is_waiting r.state) (has_none r.pending) e)) ∙ ap (λ t. cond t (taken_with x (pending_beside w ways x)) []) (and_right (is_waiting x.state) false refl)

    at : tells_more r ≡ false → (b : Bool) → awaits r ≡ b → (ps : List PendingDigest) → pending_beside w ways r ≡ ps → (taken w ways r ≡ []) ⊎ IsTaken w ways r
    at more false e ps is = inl (way w ways r more ∙ ap (λ t. cond t (taken_with r (pending_beside w ways r)) []) e)
    at more true e [] is = inl (way w ways r more ∙ ap (λ t. cond t (taken_with r (pending_beside w ways r)) []) e ∙ ap (taken_with r) is)
    at more true e (p ∷ ps) is = inr (record {
      made = with_conffiles r.conffiles (p ∷ ps) r;
      is = way w ways r more ∙ ap (λ t. cond t (taken_with r (pending_beside w ways r)) []) e ∙ ap (taken_with r) is;
      named = refl;
      state = refl;
      once = with_once p ps e;
    })

    told : (b : Bool) → tells_more r ≡ b → (taken w ways r ≡ []) ⊎ IsTaken w ways r
    told false e = at e (awaits r) refl (pending_beside w ways r) refl
    told true e = inr (record {
      made = settled r;
      is = ap (λ t. cond t (settled r ∷ []) (cond (awaits r) (taken_with r (pending_beside w ways r)) [])) e;
      named = refl;
      state = refl;
      once = settled_once e;
    })

stays : (w : World) (ways : Ways) (r : Record) → taken w ways r ≡ [] → adopted w ways r ≡ r
stays w ways r e = ap (λ (l : List Record). first_or l r) e

comes : (w : World) (ways : Ways) (r x : Record) → taken w ways r ≡ x ∷ [] → adopted w ways r ≡ x
comes w ways r x e = ap (λ (l : List Record). first_or l r) e

adopted_again : (w : World) (ways : Ways) (r : Record) → adopted w ways (adopted w ways r) ≡ adopted w ways r
adopted_again w ways r = elim (either w ways r) [
  | inl none ↦ ap (adopted w ways) (stays w ways r none)
  | inr is ↦ ap (adopted w ways) (comes w ways r is.made is.is) ∙ stays w ways is.made is.once ∙ sym (comes w ways r is.made is.is)
]

all_again : (w : World) (ways : Ways) (table : List Record) → all_adopted w ways (all_adopted w ways table) ≡ all_adopted w ways table
all_again w ways [] = refl
all_again w ways (r ∷ table) = λ i. adopted_again w ways r i ∷ all_again w ways table i

pub adopted_on : (w : World) (ways : Ways) (front back : List Record) → all_adopted w ways (all_adopted w ways front ++ back) ≡ all_adopted w ways (front ++ back)
adopted_on w ways front back =
    map-append (adopted w ways) (all_adopted w ways front) back ∙ ap (λ (l : List Record). l ++ all_adopted w ways back) (all_again w ways front) ∙ sym (map-append (adopted w ways) front back)

same_name : (w : World) (ways : Ways) (r : Record) → (adopted w ways r).name ≡ r.name
same_name w ways r = elim (either w ways r) [
  | inl none ↦ ap (λ (x : Record). x.name) (stays w ways r none)
  | inr is ↦ ap (λ (x : Record). x.name) (comes w ways r is.made is.is) ∙ sym is.named
]

pub same_names : (w : World) (ways : Ways) (table : List Record) → map (λ (r : Record). r.name) (all_adopted w ways table) ≡ map (λ (r : Record). r.name) table
same_names w ways [] = refl
same_names w ways (r ∷ table) = λ i. same_name w ways r i ∷ same_names w ways table i

same_state : (w : World) (ways : Ways) (r : Record) → (adopted w ways r).state ≡ r.state
same_state w ways r = elim (either w ways r) [
  | inl none ↦ ap (λ (x : Record). x.state) (stays w ways r none)
  | inr is ↦ ap (λ (x : Record). x.state) (comes w ways r is.made is.is) ∙ is.state
]

standing_adopted : (w : World) (ways : Ways) (table : List Record) → standing (all_adopted w ways table) ≡ all_adopted w ways (standing table)
standing_adopted w ways [] = refl
standing_adopted w ways (r ∷ table) =
    ap (λ s. cond (not (is_not_installed s)) (adopted w ways r ∷ standing (all_adopted w ways table)) (standing (all_adopted w ways table))) (same_state w ways r)
    ∙ ap (λ (l : List Record). cond (not (is_not_installed r.state)) (adopted w ways r ∷ l) l) (standing_adopted w ways table)
    ∙ at (is_not_installed r.state)
  where
    at : (b : Bool) → cond (not b) (adopted w ways r ∷ all_adopted w ways (standing table)) (all_adopted w ways (standing table)) ≡ all_adopted w ways (cond (not b) (r ∷ standing table) (standing table))
    at true = refl
    at false = refl

pub stands_still : (w : World) (ways : Ways) (table : List Record) → standing table ≡ table → standing (all_adopted w ways table) ≡ all_adopted w ways table
stands_still w ways table e = standing_adopted w ways table ∙ ap (all_adopted w ways) e

-- a table with one record in the place of that of its name

at_end : (P : Record → Type 0) (front rest : List Record) (r : Record) → AllByRecursion P (front ++ r ∷ rest) → P r
at_end P [] rest r all = all.0
at_end P (x ∷ front) rest r all = at_end P front rest r all.1

put_at : (front rest : List Record) (r x : Record) → AreInOrder (front ++ r ∷ rest) → r.name ≡ x.name → put_record x (front ++ r ∷ rest) ≡ front ++ x ∷ rest
put_at [] rest r x order e =
    sym (put_is x (r ∷ rest)) ∙ ap (place_value name_of x) (values.dropped_here name_of x.name r rest e order.0)
    ∙ values.placed_first name_of x rest (subst (λ (n : List ℕ). IsBeforeAll n rest) e order.0)
put_at (y ∷ front) rest r x order e =
    sym (put_is x (y ∷ front ++ r ∷ rest)) ∙ values.put_later name_of x y (front ++ r ∷ rest) (subst (IsBefore y.name) e (at_end (λ z. IsBefore y.name z.name) front rest r order.0))
    ∙ ap (λ (l : List Record). y ∷ l) (put_is x (front ++ r ∷ rest) ∙ put_at front rest r x order.1 e)

replaced : (front rest : List Record) (r x : Record) → AreInOrder (front ++ r ∷ rest) → r.name ≡ x.name → AreInOrder (front ++ x ∷ rest)
replaced front rest r x order e = subst AreInOrder (put_at front rest r x order e) (put_order x (front ++ r ∷ rest) order)

further : (front rest : List Record) (r : Record) → AreInOrder (front ++ r ∷ rest) → AreInOrder ((front ++ r ∷ []) ++ rest)
further front rest r order = subst AreInOrder (sym (append_assoc front (r ∷ []) rest)) order

-- all that are taken up are put in, behind some that stay

pub all_put : (w : World) (ways : Ways) (front table : List Record) → AreInOrder (front ++ table) → put_each (all_taken w ways table) (front ++ table) ≡ front ++ all_adopted w ways table
all_put w ways front [] order = refl
all_put w ways front (r ∷ table) order = elim (either w ways r) [
  | inl none ↦
      ap (λ (l : List Record). put_each (l ++ all_taken w ways table) (front ++ r ∷ table)) none
      ∙ ap (put_each (all_taken w ways table)) (sym (append_assoc front (r ∷ []) table))
      ∙ all_put w ways (front ++ r ∷ []) table (further front table r order)
      ∙ append_assoc front (r ∷ []) (all_adopted w ways table)
      ∙ ap (λ (y : Record). front ++ y ∷ all_adopted w ways table) (sym (stays w ways r none))
  | inr is ↦
      let x = is.made in
      ap (λ (l : List Record). put_each (l ++ all_taken w ways table) (front ++ r ∷ table)) is.is
      ∙ ap (put_each (all_taken w ways table)) (put_at front table r x order is.named ∙ sym (append_assoc front (x ∷ []) table))
      ∙ all_put w ways (front ++ x ∷ []) table (further front table x (replaced front table r x order is.named))
      ∙ append_assoc front (x ∷ []) (all_adopted w ways table)
      ∙ ap (λ (y : Record). front ++ y ∷ all_adopted w ways table) (sym (comes w ways r x is.is))
]

-- so many of them

abbrev nothing : List Record
nothing = []

take_nothing : (k : ℕ) → take k nothing ≡ nothing
take_nothing zero = refl
take_nothing (suc k) = refl

pub record IsPart (w : World) (ways : Ways) (before table : List Record) (k : ℕ) : Type 0 where
  pub front : List Record
  pub back : List Record
  pub is : table ≡ front ++ back
  pub put : put_each (take k (all_taken w ways table)) (before ++ table) ≡ before ++ (all_adopted w ways front ++ back)

pub part_put : (w : World) (ways : Ways) (before table : List Record) (k : ℕ) → AreInOrder (before ++ table) → IsPart w ways before table k
part_put w ways before [] k order = record { front = []; back = []; is = refl; put = ap (λ (l : List Record). put_each l (before ++ [])) (take_nothing k) }
part_put w ways before (r ∷ table) k order = elim (either w ways r) [
  | inl none ↦ passed none (part_put w ways (before ++ r ∷ []) table k (further before table r order))
  | inr is ↦ put_in k is (λ n x sorted. part_put w ways (before ++ x ∷ []) table n (further before table x sorted))
]
  where
    passed : taken w ways r ≡ [] → IsPart w ways (before ++ r ∷ []) table k → IsPart w ways before (r ∷ table) k
    passed none p = record {
      front = r ∷ p.front;
      back = p.back;
      is = ap (λ (l : List Record). r ∷ l) p.is;
      put = ap (λ (l : List Record). put_each (take k (l ++ all_taken w ways table)) (before ++ r ∷ table)) none
          ∙ ap (put_each (take k (all_taken w ways table))) (sym (append_assoc before (r ∷ []) table))
          ∙ p.put
          ∙ append_assoc before (r ∷ []) (all_adopted w ways p.front ++ p.back)
          ∙ ap (λ (y : Record). before ++ y ∷ (all_adopted w ways p.front ++ p.back)) (sym (stays w ways r none));
    }

    put_in : (n : ℕ) → IsTaken w ways r → ((m : ℕ) (x : Record) → AreInOrder (before ++ x ∷ table) → IsPart w ways (before ++ x ∷ []) table m) → IsPart w ways before (r ∷ table) n
    put_in zero is later = record { front = []; back = r ∷ table; is = refl; put = refl }
    put_in (suc n) is later =
        let x = is.made in
        let p = later n x (replaced before table r x order is.named) in
        record {
          front = r ∷ p.front;
          back = p.back;
          is = ap (λ (l : List Record). r ∷ l) p.is;
          put = ap (λ (l : List Record). put_each (take (suc n) (l ++ all_taken w ways table)) (before ++ r ∷ table)) is.is
              ∙ ap (put_each (take n (all_taken w ways table))) (put_at before table r x order is.named ∙ sym (append_assoc before (x ∷ []) table))
              ∙ p.put
              ∙ append_assoc before (x ∷ []) (all_adopted w ways p.front ++ p.back)
              ∙ ap (λ (y : Record). before ++ y ∷ (all_adopted w ways p.front ++ p.back)) (sym (comes w ways r x is.is));
        }

-- as more are found

pub taken_more : (w : World) (ways : Ways) (rs : List Record) (i : ℕ) (r : Record) (old new : List Record) → i < length rs → r ≡ get_or rs i r → old ≡ all_taken w ways (take i rs) → new ≡ old ++ taken w ways r → new ≡ all_taken w ways (take (i + 1) rs)
taken_more w ways rs i r old new lt is so_far more =
    more ∙ ap (λ (l : List Record). l ++ taken w ways r) so_far ∙ ap (λ (l : List Record). all_taken w ways (take i rs) ++ l) (sym (append-nil (taken w ways r)))
    ∙ sym (flat_map-append (taken w ways) (take i rs) (r ∷ [])) ∙ ap (all_taken w ways) (ap (λ (x : Record). take i rs ++ x ∷ []) is ∙ sym (take_more rs i r lt))

pub not_awaited : (w : World) (ways : Ways) (r : Record) (old : List Record) → tells_more r ≡ false → awaits r ≡ false → old ≡ old ++ taken w ways r
not_awaited w ways r old more e = sym (append-nil old) ∙ ap (λ t. old ++ cond t (taken_with r (pending_beside w ways r)) []) (sym e) ∙ ap (λ (l : List Record). old ++ l) (sym (way w ways r more))

pub awaited : (w : World) (ways : Ways) (r : Record) (old new : List Record) → tells_more r ≡ false → awaits r ≡ true → new ≡ old ++ taken_with r (pending_beside w ways r) → new ≡ old ++ taken w ways r
awaited w ways r old new more e put =
    put ∙ ap (λ t. old ++ cond t (taken_with r (pending_beside w ways r)) []) (sym e) ∙ ap (λ (l : List Record). old ++ l) (sym (way w ways r more))

pub told_more : (w : World) (ways : Ways) (r : Record) (old new : List Record) → tells_more r ≡ true → new ≡ old ++ settled r ∷ [] → new ≡ old ++ taken w ways r
told_more w ways r old new e put = put ∙ ap (λ t. old ++ cond t (settled r ∷ []) (cond (awaits r) (taken_with r (pending_beside w ways r)) [])) (sym e)

one_more : (xs : List Record) (x : Record) → AreStanding xs → is_not_installed x.state ≡ false → AreStanding (xs ++ x ∷ [])
one_more [] x all here = (here, tt)
one_more (y ∷ xs) x all here = (all.0, one_more xs x all.1 here)

pub settled_standing : (r : Record) (old new : List Record) → tells_more r ≡ true → new ≡ old ++ settled r ∷ [] → AreStanding old → AreStanding new
settled_standing r old new e put all = subst AreStanding (sym put) (one_more old (settled r) all (tells_stands r e))

pub with_standing : (r : Record) (ps : List PendingDigest) (old new : List Record) → awaits r ≡ true → new ≡ old ++ taken_with r ps → AreStanding old → AreStanding new
with_standing r [] old new e put all = subst AreStanding (sym (put ∙ append-nil old)) all
with_standing r (p ∷ ps) old new e put all = subst AreStanding (sym put) (one_more old (with_conffiles r.conffiles (p ∷ ps) r) all (awaits_stands r e))

-- where none is found the table is as it is taken up
pub none_taken : (w : World) (ways : Ways) (given table : List Record) → AreInOrder table → given ≡ [] → given ≡ all_taken w ways table → table ≡ all_adopted w ways table
none_taken w ways given table order none is = ap (λ (l : List Record). put_each l table) (sym none ∙ is) ∙ all_put w ways [] table order

pub all_noted : (w : World) (ways : Ways) (given table new : List Record) → AreInOrder table → given ≡ all_taken w ways table → new ≡ put_each given table → new ≡ all_adopted w ways table
all_noted w ways given table new order is put = put ∙ ap (λ (l : List Record). put_each l table) is ∙ all_put w ways [] table order

-- of a table whose first records are taken up

pub names_partly : (w : World) (ways : Ways) (front back : List Record) → map (λ (r : Record). r.name) (all_adopted w ways front ++ back) ≡ map (λ (r : Record). r.name) (front ++ back)
names_partly w ways front back =
    map-append (λ (r : Record). r.name) (all_adopted w ways front) back ∙ ap (λ (l : List (List ℕ)). l ++ map (λ (r : Record). r.name) back) (same_names w ways front)
    ∙ sym (map-append (λ (r : Record). r.name) front back)

stand_back : (w : World) (ways : Ways) (front back : List Record) → AreStanding (all_adopted w ways front ++ back) → AreStanding (front ++ back)
stand_back w ways [] back all = all
stand_back w ways (r ∷ front) back all = (ap is_not_installed (sym (same_state w ways r)) ∙ all.0, stand_back w ways front back all.1)

pub standing_partly : (w : World) (ways : Ways) (front back : List Record) → standing (all_adopted w ways front ++ back) ≡ all_adopted w ways front ++ back → standing (front ++ back) ≡ front ++ back
standing_partly w ways front back e = standing_same (front ++ back) (stand_back w ways front back (same_standing (all_adopted w ways front ++ back) e))

stand_on : (w : World) (ways : Ways) (front back : List Record) → AreStanding (front ++ back) → AreStanding (all_adopted w ways front ++ back)
stand_on w ways [] back all = all
stand_on w ways (r ∷ front) back all = (ap is_not_installed (same_state w ways r) ∙ all.0, stand_on w ways front back all.1)

pub partly_standing : (w : World) (ways : Ways) (front back : List Record) → standing (front ++ back) ≡ front ++ back → standing (all_adopted w ways front ++ back) ≡ all_adopted w ways front ++ back
partly_standing w ways front back e = standing_same (all_adopted w ways front ++ back) (stand_on w ways front back (same_standing (front ++ back) e))
