-- Which packages a unit has touched, by what it noted.
use Rattle.std.proofs.Common.{◌≡◌, ◌≢◌, ◌||◌, ◌&&◌, ◌⊎◌, inl, inr, zero, suc, Bool, true, false, not, cond, List, [], ◌∷◌, ◌++◌, Option, Some, None, Contains, map, refl, sym, ap, subst, ◌∙◌, arith}
use Rattle.std.specs.Prelude.{filter}
use Rattle.std.specs.List.{AllByRecursion, list_any}
use Rattle.std.specs.Str.{bytes_eq}
use Rattle.std.proofs.lemmas.Bool.{false≢true, true≢false, or_cases, or_parts, or_left, or_right}
use Rattle.std.proofs.lemmas.Cmp.{nat_list_eq_equiv}
use Rattle.std.proofs.lemmas.List.Folds.{list_any-append}
use Rattle.std.proofs.lemmas.Slice.Eq.{bytes_eq-Decides}
use Rattle.host_core.specs.Paths.{Path}
use Rattle.diversions.specs.Ways.{Ways}
use Rattle.status_records.specs.declared.record.Record.{Record}
use Rattle.status_records.specs.Records.{AreApart, IsWithout, put_record, record_in}
use Rattle.status_records.specs.Standings.{with_conffiles}
use Rattle.status_records.proofs.Tables.{found_here, passed_over, record_in-put_record}
use Rattle.unpack_commit.specs.Takeover.{losing_records, loses_conffile, put_records, without_conffiles}
use Rattle.unpack_commit.proofs.Left.{losing_differs}
use Rattle.unpack_rows.specs.EndStates.{AreRecorded}
use Rattle.unpack_rows.specs.Notes.{half_configured}
use Rattle.unpack_engine.specs.Touched.{AreTold, deconfigured, is_deconfigured, is_half_configured, is_named, is_touched}
use Rattle.unpack_engine.specs.Units.{IsTouched}
use Rattle.unpack_engine.proofs.EndOthers.{EndsFor, half_already}

-- a record that a table has, or one that it doesn't have
abbrev held : Record → Option Record → Record
held r None = r
held r (Some s) = s

some_same : (x y : Record) → Some x ≡ Some y → x ≡ y
some_same x y e = ap (held x) e

named_first : (a b : Bool) → a || b ≡ true → b ≡ false → a ≡ true
named_first true b e f = refl
named_first false b e f = absurd (true≢false (sym e ∙ f))

both_second : (a b : Bool) → a && b ≡ true → b ≡ true
both_second true b e = e
both_second false b e = absurd (false≢true e)

module _ (q : Path) where
  -- what is noted of others leaves a record alone
  put_other : (r : Record) (table : List Record) → bytes_eq q r.name ≡ false → record_in (put_record r table) q ≡ record_in table q
  put_other r table other = record_in-put_record r table q ∙ ap (λ b. cond b (Some r) (record_in table q)) (nat_list_eq_equiv.symm r.name q ∙ other)

  put_own : (r : Record) (table : List Record) → bytes_eq q r.name ≡ true → record_in (put_record r table) q ≡ Some r
  put_own r table own = record_in-put_record r table q ∙ ap (λ b. cond b (Some r) (record_in table q)) (nat_list_eq_equiv.symm r.name q ∙ own)

  put_unnamed : (rs table : List Record) → is_named rs q ≡ false → record_in (put_records rs table) q ≡ record_in table q
  put_unnamed [] table none = refl
  put_unnamed (r ∷ rs) table none =
      let each = or_parts (bytes_eq q r.name) (is_named rs q) none in
      put_unnamed rs (put_record r table) each.1 ∙ put_other r table each.0

  named_by : (P : Option Record → Type 0) (r : Record) (rs table : List Record) (b : Bool) → is_named rs q ≡ b → (r.name ≡ q → P (Some r))
      → (is_named rs q ≡ true → P (record_in (put_records rs (put_record r table)) q)) → is_named (r ∷ rs) q ≡ true → P (record_in (put_records (r ∷ rs) table) q)
  named_by P r rs table true e here later named = later e
  named_by P r rs table false e here later named =
      let own = named_first (bytes_eq q r.name) (is_named rs q) named e in
      subst P (sym (put_unnamed rs (put_record r table) e ∙ put_own r table own)) (here (sym ((bytes_eq-Decides q r.name).0 own)))

  put_named : (P : Option Record → Type 0) (rs table : List Record) → AllByRecursion (λ r. r.name ≡ q → P (Some r)) rs → is_named rs q ≡ true → P (record_in (put_records rs table) q)
  put_named P [] table all named = absurd (false≢true named)
  put_named P (r ∷ rs) table all named = named_by P r rs table (is_named rs q) refl all.0 (λ e. put_named P rs (put_record r table) all.1 e) named

-- each record of a table is found by its name
widened : (x : Record) (all rs : List Record) → IsWithout x.name rs → AllByRecursion (λ r. record_in all r.name ≡ Some r) rs → AllByRecursion (λ r. record_in (x ∷ all) r.name ≡ Some r) rs
widened x all [] without found = tt
widened x all (r ∷ rs) without found =
    (passed_over all x r.name (λ e. true≢false (sym ((bytes_eq-Decides r.name x.name).1 (sym e)) ∙ without.0)) ∙ found.0, widened x all rs without.1 found.1)

each_found : (rs : List Record) → AreApart rs → AllByRecursion (λ r. record_in rs r.name ≡ Some r) rs
each_found [] apart = tt
each_found (r ∷ rs) apart = (found_here rs r r.name refl, widened r rs rs apart.0 (each_found rs apart.1))

module _ (ways : Ways) (places : List Path) where
  -- a record without conffiles that another one has isn't that other one
  losing_other : (r s : Record) → r.conffiles ≡ s.conffiles → r.pending ≡ s.pending → loses_conffile ways places r ≡ true → without_conffiles ways places r ≢ s
  losing_other r s same_conffiles same_pending loses e =
      let conffiles : (without_conffiles ways places r).conffiles ≡ r.conffiles = ap (λ (x : Record). x.conffiles) e ∙ sym same_conffiles in
      let pending : (without_conffiles ways places r).pending ≡ r.pending = ap (λ (x : Record). x.pending) e ∙ sym same_pending in
      losing_differs ways places r loses
      (ap (λ c. with_conffiles c (without_conffiles ways places r).pending r) conffiles ∙ ap (λ p. with_conffiles r.conffiles p r) pending)

module _ (ways : Ways) (places : List Path) (names : List Path) (others before table : List Record) (q : Path) (ends : EndsFor others before q (record_in table q)) where
  abbrev Changed : Record → Type 0
  Changed r = r.name ≡ q → Some r ≢ record_in before q

  -- a record that loses conffiles is another one than that of before
  one_changed : (r : Record) → record_in table q ≡ Some r → loses_conffile ways places r ≡ true → Some (without_conffiles ways places r) ≢ record_in before q
  one_changed r found loses e = by ends
    where
      by : EndsFor others before q (record_in table q) → ⊥
      by (EndsFor.stayed is) = losing_differs ways places r loses (some_same (without_conffiles ways places r) r (e ∙ sym is ∙ found))
      by (EndsFor.deconfigured s has named recorded is) =
          let same : r ≡ half_configured s = some_same r (half_configured s) (sym found ∙ is) in
          losing_other ways places r s (ap (λ (x : Record). x.conffiles) same) (ap (λ (x : Record). x.pending) same) loses (some_same (without_conffiles ways places r) s (e ∙ recorded))

  losing_changed : (rs : List Record) → AllByRecursion (λ r. record_in table r.name ≡ Some r) rs → AllByRecursion Changed (losing_records ways places names rs)
  losing_changed [] all = tt
  losing_changed (r ∷ rs) all = by (list_any (bytes_eq r.name) names && loses_conffile ways places r) refl (losing_changed rs all.1)
    where
      by : (b : Bool) → list_any (bytes_eq r.name) names && loses_conffile ways places r ≡ b → AllByRecursion Changed (losing_records ways places names rs)
          → AllByRecursion Changed (map (without_conffiles ways places) (cond b (r ∷ filter (λ x. list_any (bytes_eq x.name) names && loses_conffile ways places x) rs) (filter (λ x. list_any (bytes_eq x.name) names && loses_conffile ways places x) rs)))
      by true e rest = (
        (λ named. one_changed r (ap (record_in table) (sym named) ∙ all.0) (both_second (list_any (bytes_eq r.name) names) (loses_conffile ways places r) e)),
        rest,
      )
      by false e rest = rest

  with_last : (rs : List Record) (r : Record) → AllByRecursion Changed rs → Changed r → AllByRecursion Changed (rs ++ r ∷ [])
  with_last [] r all here = (here, tt)
  with_last (s ∷ rs) r all here = (all.0, with_last rs r all.1 here)

  pub noted_changed : (fresh : Record) (name : Path) → AreApart table → fresh.name ≡ name → q ≢ name → AllByRecursion Changed (losing_records ways places names table ++ fresh ∷ [])
  noted_changed fresh name apart same other = with_last (losing_records ways places names table) fresh (losing_changed table (each_found table apart)) (λ e. absurd (other (sym e ∙ same)))

-- the packages that are half-configured then and weren't before
module _ (before after : List Record) where
  abbrev is_moved : Record → Bool
  is_moved r = is_deconfigured (record_in after r.name) r

  record IsMoved (q : Path) : Type 0 where
    one : Record
    recorded : record_in before q ≡ Some one
    moved : is_deconfigured (record_in after q) one ≡ true

  one_moved : (q : Path) (r : Record) → r.name ≡ q → record_in before r.name ≡ Some r → is_moved r ≡ true → IsMoved q
  one_moved q r named recorded moved = record {
    one = r;
    recorded = ap (record_in before) (sym named) ∙ recorded;
    moved = ap (λ n. is_deconfigured (record_in after n) r) (sym named) ∙ moved;
  }

  moved_named : (q : Path) (others : List Record) → AreRecorded before others → is_named (deconfigured after others) q ≡ true → IsMoved q
  moved_named q [] recorded e = absurd (false≢true e)
  moved_named q (r ∷ rs) recorded e = by (is_moved r) refl (moved_named q rs recorded.1) e
    where
      by : (b : Bool) → is_moved r ≡ b → (is_named (deconfigured after rs) q ≡ true → IsMoved q) → is_named (cond b (r ∷ deconfigured after rs) (deconfigured after rs)) q ≡ true → IsMoved q
      by true moved later e = elim (or_cases (bytes_eq q r.name) (is_named (deconfigured after rs) q) e) [
        | inl here ↦ one_moved q r (sym ((bytes_eq-Decides q r.name).0 here)) recorded.0 moved
        | inr there ↦ later there
      ]
      by false moved later e = later e

  named_moved : (others : List Record) (r : Record) → Contains others r → is_moved r ≡ true → is_named (deconfigured after others) r.name ≡ true
  named_moved [] r has moved = absurd (omega (arith, has.1))
  named_moved (x ∷ xs) r has moved = by (is_moved x) refl (λ h. named_moved xs r h moved) has
    where
      by : (b : Bool) → is_moved x ≡ b → (Contains xs r → is_named (deconfigured after xs) r.name ≡ true) → Contains (x ∷ xs) r → is_named (cond b (x ∷ deconfigured after xs) (deconfigured after xs)) r.name ≡ true
      by true is later (zero, lt, same) = or_left (bytes_eq r.name x.name) (is_named (deconfigured after xs) r.name) ((bytes_eq-Decides r.name x.name).1 (ap (λ (y : Record). y.name) (sym same)))
      by true is later (suc k, lt, same) = or_right (bytes_eq r.name x.name) (is_named (deconfigured after xs) r.name) (later (k, omega (arith, lt), same))
      by false is later (zero, lt, same) = absurd (true≢false (sym moved ∙ ap is_moved (sym same) ∙ is))
      by false is later (suc k, lt, same) = later (k, omega (arith, lt), same)

  -- a record that was half-configured can't be so and be the same
  moved_differs : (q : Path) → IsMoved q → record_in after q ≡ record_in before q → ⊥
  moved_differs q m same = neither (is_half_configured m.one.state) (ap (λ o. is_deconfigured o m.one) (sym (same ∙ m.recorded)) ∙ m.moved)
    where
      neither : (b : Bool) → b && not b ≡ true → ⊥
      neither true e = false≢true e
      neither false e = false≢true e

-- the packages of these records and those that were deconfigured, beside the one that was named, are those whose record differs
module _ (name : Path) (others before table after rs : List Record) (recorded : AreRecorded before others) (ends : (q : Path) → q ≢ name → EndsFor others before q (record_in table q))
    (changed : (q : Path) → q ≢ name → AllByRecursion (λ r. r.name ≡ q → Some r ≢ record_in before q) rs) (is : after ≡ put_records rs table) where
  abbrev noted : List Record
  noted = rs ++ deconfigured after others

  noted_named : (q : Path) → is_named noted q ≡ is_named rs q || is_named (deconfigured after others) q
  noted_named q = list_any-append (λ (r : Record). bytes_eq q r.name) rs (deconfigured after others)

  differs : (q : Path) → q ≢ name → is_named noted q ≡ true → record_in after q ≡ record_in before q → ⊥
  differs q other named same = elim (or_cases (is_named rs q) (is_named (deconfigured after others) q) (sym (noted_named q) ∙ named)) [
    | inl one ↦ put_named q (λ x. x ≢ record_in before q) rs table (changed q other) one (ap (λ t. record_in t q) (sym is) ∙ same)
    | inr moved ↦ moved_differs before after q (moved_named before after q others recorded moved) same
  ]

  still : (q : Path) → is_named rs q ≡ false → record_in after q ≡ record_in table q
  still q none = ap (λ t. record_in t q) is ∙ put_unnamed q rs table none

  -- one that is half-configured then was so before, where it isn't told
  half_stays : (q : Path) (r : Record) → Contains others r → r.name ≡ q → record_in before q ≡ Some r → is_named (deconfigured after others) q ≡ false → record_in after q ≡ Some (half_configured r) → record_in after q ≡ record_in before q
  half_stays q r has named at_first none found = by (is_half_configured r.state) refl
    where
      moved : is_half_configured r.state ≡ false → is_moved before after r ≡ true
      moved e = ap (λ n. is_deconfigured (record_in after n) r) named ∙ ap (λ o. is_deconfigured o r) found ∙ ap not e

      by : (b : Bool) → is_half_configured r.state ≡ b → record_in after q ≡ record_in before q
      by true e = found ∙ ap (λ (x : Record). Some x) (half_already r e) ∙ sym at_first
      by false e = absurd (true≢false (sym (named_moved before after others r has (moved e)) ∙ ap (is_named (deconfigured after others)) named ∙ none))

  stays : (q : Path) → q ≢ name → is_named noted q ≡ false → record_in after q ≡ record_in before q
  stays q other none = by (ends q other)
    where
      each : (is_named rs q ≡ false) × (is_named (deconfigured after others) q ≡ false)
      each = or_parts (is_named rs q) (is_named (deconfigured after others) q) (sym (noted_named q) ∙ none)

      by : EndsFor others before q (record_in table q) → record_in after q ≡ record_in before q
      by (EndsFor.stayed same) = still q each.0 ∙ same
      by (EndsFor.deconfigured r has named at_first half) = half_stays q r has named at_first each.1 (still q each.0 ∙ half)

  told_by : (q : Path) (b : Bool) → bytes_eq q name ≡ b → is_touched name noted q ≡ true → (q ≡ name) ⊎ (record_in after q ≡ record_in before q → ⊥)
  told_by q true e told = inl ((bytes_eq-Decides q name).0 e)
  told_by q false e told = inr (differs q (λ s. true≢false (sym ((bytes_eq-Decides q name).1 s) ∙ e)) (named_first (is_named noted q) (bytes_eq q name) told e))

  named_told : (q : Path) (b : Bool) → is_named noted q ≡ b → (c : Bool) → bytes_eq q name ≡ c → (record_in after q ≡ record_in before q → ⊥) → is_touched name noted q ≡ true
  named_told q true e c f differ = or_left (is_named noted q) (bytes_eq q name) e
  named_told q false e true f differ = or_right (is_named noted q) (bytes_eq q name) f
  named_told q false e false f differ = absurd (differ (stays q (λ s. true≢false (sym ((bytes_eq-Decides q name).1 s) ∙ f)) e))

  told_of : (q : Path) → (q ≡ name) ⊎ (record_in after q ≡ record_in before q → ⊥) → is_touched name noted q ≡ true
  told_of q (inl same) = or_right (is_named noted q) (bytes_eq q name) ((bytes_eq-Decides q name).1 same)
  told_of q (inr differ) = named_told q (is_named noted q) refl (bytes_eq q name) refl differ

  unmoved : (q : Path) (b : Bool) → is_touched name noted q ≡ b → (is_touched name noted q ≡ true → ⊥) → record_in after q ≡ record_in before q
  unmoved q true e untold = absurd (untold e)
  unmoved q false e untold = stays q (λ s. true≢false (sym ((bytes_eq-Decides q name).1 s) ∙ (or_parts (is_named noted q) (bytes_eq q name) e).1)) (or_parts (is_named noted q) (bytes_eq q name) e).0

  pub touched_by : (touched : List Path) → AreTold name noted touched → IsTouched name before after touched
  touched_by touched told = record {
    order = told.order;
    exact = λ q. (λ has. told_by q (bytes_eq q name) refl ((told.exact q).0 has), λ either. (told.exact q).1 (told_of q either));
    others = λ q untold. unmoved q (is_touched name noted q) refl (λ is. untold ((told.exact q).1 is));
  }
