-- Look-ups in a table of records.
use Rattle.std.proofs.Common.{◌≡◌, ◌≢◌, ℕ, ◌+◌, ◌<◌, Bool, true, false, cond, not, List, [], ◌∷◌, Option, Some, None, drop, get_or, length, refl, sym, ap, ◌∙◌, add-one, suc, zero, arith}
use Rattle.std.specs.Prelude.{filter}
use Rattle.std.specs.Map.{update}
use Rattle.std.specs.Str.{bytes_eq}
use Rattle.std.specs.Ordering.{nat_cmp, is_lt}
use Rattle.std.specs.Cmp.Lexicographic.{slice_cmp}
use Rattle.std.proofs.Math.Seq.{drop-cons}
use Rattle.std.proofs.lemmas.Bool.{true≢false, false_from_ne_true}
use Rattle.std.proofs.lemmas.Slice.Eq.{bytes_eq-Decides}
use Rattle.std.proofs.lemmas.Cmp.{nat_list_eq_equiv}
use Rattle.status_records.specs.declared.record.Record.{Record}
use Rattle.status_records.specs.Records.{record_in, drop_record, place_record, put_record, IsWithout, AreApart}

pub found_here : (rs : List Record) (r : Record) (name : List ℕ) → r.name ≡ name → record_in (r ∷ rs) name ≡ Some r
found_here rs r name e = ap (λ b. cond b (Some r) (record_in rs name)) ((bytes_eq-Decides r.name name).1 e)

pub passed_over : (rs : List Record) (r : Record) (name : List ℕ) → r.name ≢ name → record_in (r ∷ rs) name ≡ record_in rs name
passed_over rs r name ne = ap (λ b. cond b (Some r) (record_in rs name)) (false_from_ne_true (bytes_eq r.name name) (λ t. ne ((bytes_eq-Decides r.name name).0 t)))

-- what is left of the table begins with the record at hand
pub left_here : (rs : List Record) (i : ℕ) (r : Record) → i < length rs → r ≡ get_or rs i r → drop i rs ≡ r ∷ drop (i + 1) rs
left_here rs i r lt e = drop-cons rs i r lt ∙ ap (λ x. x ∷ drop (suc i) rs) (sym e) ∙ ap (λ k. r ∷ drop k rs) (sym (add-one i))

-- the record of a name, by its place

lacks_at : (rs : List Record) (i : ℕ) (d : Record) (name : List ℕ) → IsWithout name rs → i < length rs → bytes_eq (get_or rs i d).name name ≡ false
lacks_at [] i d name without lt = absurd (omega arith)
lacks_at (r ∷ rs) zero d name without lt = without.0
lacks_at (r ∷ rs) (suc i) d name without lt = lacks_at rs i d name without.1 (omega arith)

pub record_at : (rs : List Record) (i : ℕ) (d : Record) (name : List ℕ) → AreApart rs → i < length rs → (get_or rs i d).name ≡ name → record_in rs name ≡ Some (get_or rs i d)
record_at [] i d name apart lt named = absurd (omega arith)
record_at (r ∷ rs) zero d name apart lt named = found_here rs r name named
record_at (r ∷ rs) (suc i) d name apart lt named =
    let other = lacks_at rs i d r.name apart.0 (omega arith) in
    passed_over rs r name (λ same. true≢false (sym ((bytes_eq-Decides (get_or rs i d).name r.name).1 (named ∙ sym same)) ∙ other))
    ∙ record_at rs i d name apart.1 (omega arith) named

-- without a name

without_head : (b d : Bool) (name q : List ℕ) (r : Record) (rest : List Record) (old : Option Record) → bytes_eq r.name name ≡ b → bytes_eq r.name q ≡ d → record_in rest q ≡ cond (bytes_eq name q) None old
    → record_in (cond (not b) (r ∷ rest) rest) q ≡ cond (bytes_eq name q) None (cond d (Some r) old)
without_head true true name q r rest old e f so_far =
    so_far ∙ ap (λ t. cond t None old) yes ∙ sym (ap (λ t. cond t None (Some r)) yes)
  where
    yes : bytes_eq name q ≡ true
    yes = (bytes_eq-Decides name q).1 (sym ((bytes_eq-Decides r.name name).0 e) ∙ (bytes_eq-Decides r.name q).0 f)
without_head true false name q r rest old e f so_far = so_far
without_head false true name q r rest old e f so_far =
    ap (λ t. cond t (Some r) (record_in rest q)) f ∙ sym (ap (λ t. cond t None (Some r)) differ)
  where
    differ : bytes_eq name q ≡ false
    differ = false_from_ne_true (bytes_eq name q) (λ t. true≢false (sym ((bytes_eq-Decides r.name name).1 ((bytes_eq-Decides r.name q).0 f ∙ sym ((bytes_eq-Decides name q).0 t))) ∙ e))
without_head false false name q r rest old e f so_far = ap (λ t. cond t (Some r) (record_in rest q)) f ∙ so_far

pub record_in-drop_record : (name : List ℕ) (rs : List Record) (q : List ℕ) → record_in (drop_record name rs) q ≡ update bytes_eq (record_in rs) name None q
record_in-drop_record name [] q = none_either (bytes_eq name q)
  where
    none_either : (b : Bool) → ◌≡◌ {A = Option Record} None (cond b None None)
    none_either true = refl
    none_either false = refl
record_in-drop_record name (r ∷ rs) q = without_head (bytes_eq r.name name) (bytes_eq r.name q) name q r (drop_record name rs) (record_in rs q) refl refl (record_in-drop_record name rs q)

-- with a record

placed_head : (l b : Bool) (r x : Record) (q : List ℕ) (rest old : List Record) → bytes_eq x.name r.name ≡ false → record_in rest q ≡ cond (bytes_eq r.name q) (Some r) (record_in old q)
    → bytes_eq x.name q ≡ b → record_in (cond l (x ∷ rest) (r ∷ x ∷ old)) q ≡ cond (bytes_eq r.name q) (Some r) (record_in (x ∷ old) q)
placed_head false b r x q rest old differ so_far e = refl
placed_head true true r x q rest old differ so_far e =
    ap (λ t. cond t (Some x) (record_in rest q)) e ∙ sym (ap (λ t. cond t (Some r) (cond (bytes_eq x.name q) (Some x) (record_in old q))) other ∙ ap (λ t. cond t (Some x) (record_in old q)) e)
  where
    other : bytes_eq r.name q ≡ false
    other = false_from_ne_true (bytes_eq r.name q) (λ t. true≢false (sym ((bytes_eq-Decides x.name r.name).1 ((bytes_eq-Decides x.name q).0 e ∙ sym ((bytes_eq-Decides r.name q).0 t))) ∙ differ))
placed_head true false r x q rest old differ so_far e =
    ap (λ t. cond t (Some x) (record_in rest q)) e ∙ so_far ∙ ap (λ o. cond (bytes_eq r.name q) (Some r) o) (sym (ap (λ t. cond t (Some x) (record_in old q)) e))

lacks_head : (b : Bool) (name : List ℕ) (r : Record) (rs : List Record) → bytes_eq r.name name ≡ b → IsWithout name rs → IsWithout name (cond (not b) (r ∷ rs) rs)
lacks_head true name r rs e lacks = lacks
lacks_head false name r rs e lacks = (e, lacks)

pub lacks-drop_record : (name : List ℕ) (rs : List Record) → IsWithout name (drop_record name rs)
lacks-drop_record name [] = tt
lacks-drop_record name (r ∷ rs) = lacks_head (bytes_eq r.name name) name r (drop_record name rs) refl (lacks-drop_record name rs)

pub record_in-place_record : (r : Record) (rs : List Record) (q : List ℕ) → IsWithout r.name rs → record_in (place_record r rs) q ≡ cond (bytes_eq r.name q) (Some r) (record_in rs q)
record_in-place_record r [] q lacks = refl
record_in-place_record r (x ∷ xs) q lacks = placed_head (is_lt (slice_cmp nat_cmp x.name r.name)) (bytes_eq x.name q) r x q (place_record r xs) xs lacks.0 (record_in-place_record r xs q lacks.1) refl

pub covered : (b : Bool) (m n o : Option Record) → cond b m (cond b n o) ≡ cond b m o
covered true m n o = refl
covered false m n o = refl

pub record_in-put_record : (r : Record) (rs : List Record) (q : List ℕ) → record_in (put_record r rs) q ≡ update bytes_eq (record_in rs) r.name (Some r) q
record_in-put_record r rs q =
    record_in-place_record r (drop_record r.name rs) q (lacks-drop_record r.name rs)
    ∙ ap (λ o. cond (bytes_eq r.name q) (Some r) o) (record_in-drop_record r.name rs q)
    ∙ covered (bytes_eq r.name q) (Some r) None (record_in rs q)

-- names stay apart

without_by : (b : Bool) (name : List ℕ) (r : Record) (rs : List Record) → bytes_eq r.name name ≡ false → IsWithout name rs → IsWithout name (cond b (r ∷ rs) rs)
without_by true name r rs other rest = (other, rest)
without_by false name r rs other rest = rest

pub without_filter : (keep : Record → Bool) (name : List ℕ) (rs : List Record) → IsWithout name rs → IsWithout name (filter keep rs)
without_filter keep name [] without = tt
without_filter keep name (r ∷ rs) without = without_by (keep r) name r (filter keep rs) without.0 (without_filter keep name rs without.1)

apart_by : (b : Bool) (r : Record) (rs : List Record) → IsWithout r.name rs → AreApart rs → AreApart (cond b (r ∷ rs) rs)
apart_by true r rs without rest = (without, rest)
apart_by false r rs without rest = rest

pub apart_filter : (keep : Record → Bool) (rs : List Record) → AreApart rs → AreApart (filter keep rs)
apart_filter keep [] apart = tt
apart_filter keep (r ∷ rs) apart = apart_by (keep r) r (filter keep rs) (without_filter keep r.name rs apart.0) (apart_filter keep rs apart.1)

pub apart_dropped : (name : List ℕ) (rs : List Record) → AreApart rs → AreApart (drop_record name rs)
apart_dropped name rs apart = apart_filter (λ r. not (bytes_eq r.name name)) rs apart

without_placed_by : (b : Bool) (name : List ℕ) (r x : Record) (rest xs : List Record) → bytes_eq r.name name ≡ false → bytes_eq x.name name ≡ false → IsWithout name xs → IsWithout name rest → IsWithout name (cond b (x ∷ rest) (r ∷ x ∷ xs))
without_placed_by true name r x rest xs new here behind placed = (here, placed)
without_placed_by false name r x rest xs new here behind placed = (new, (here, behind))

without_placed : (name : List ℕ) (r : Record) (rs : List Record) → bytes_eq r.name name ≡ false → IsWithout name rs → IsWithout name (place_record r rs)
without_placed name r [] new without = (new, tt)
without_placed name r (x ∷ xs) new without =
    without_placed_by (is_lt (slice_cmp nat_cmp x.name r.name)) name r x (place_record r xs) xs new without.0 without.1 (without_placed name r xs new without.1)

apart_placed_by : (b : Bool) (r x : Record) (rest xs : List Record) → IsWithout r.name (x ∷ xs) → AreApart (x ∷ xs) → IsWithout x.name rest → AreApart rest → AreApart (cond b (x ∷ rest) (r ∷ x ∷ xs))
apart_placed_by true r x rest xs without apart fresh placed = (fresh, placed)
apart_placed_by false r x rest xs without apart fresh placed = (without, apart)

apart_placed : (r : Record) (rs : List Record) → IsWithout r.name rs → AreApart rs → AreApart (place_record r rs)
apart_placed r [] without apart = (tt, tt)
apart_placed r (x ∷ xs) without apart =
    apart_placed_by (is_lt (slice_cmp nat_cmp x.name r.name)) r x (place_record r xs) xs without apart (without_placed x.name r xs (nat_list_eq_equiv.symm r.name x.name ∙ without.0) apart.0) (apart_placed r xs without.1 apart.1)

pub apart_put : (r : Record) (rs : List Record) → AreApart rs → AreApart (put_record r rs)
apart_put r rs apart = apart_placed r (drop_record r.name rs) (lacks-drop_record r.name rs) (apart_dropped r.name rs apart)
