-- Packages follow their records.
use Rattle.std.proofs.Common.{◌≡◌, ℕ, ◌+◌, ◌<◌, Bool, true, false, cond, not, ◌||◌, List, [], ◌∷◌, Option, Some, None, Result, Ok, Err, length, get_or, take, refl, sym, ap, subst, ◌∙◌, arith}
use Rattle.std.specs.Prelude.{OnOk}
use Rattle.std.specs.List.{Contains, list_any}
use Rattle.std.specs.Str.{bytes_eq}
use Rattle.std.specs.Ordering.{nat_cmp, is_lt}
use Rattle.std.specs.Cmp.Lexicographic.{slice_cmp}
use Rattle.std.proofs.lemmas.Bool.{true≢false}
use Rattle.std.proofs.lemmas.List.Folds.{list_any_more, list_any_at}
use Rattle.std.proofs.lemmas.Slice.Eq.{bytes_eq-Decides}
use Rattle.relation_index.specs.Packages.{drop_package, place_package, put_package}
use Rattle.relation_index.specs.declared.package.Package.{Package}
use Rattle.status_db.specs.Order.{AreInOrder}
use Rattle.status_records.specs.Records.{record_in, drop_record, place_record, put_record}
use Rattle.status_records.specs.declared.record.Record.{Record}
use Rattle.status_db.proofs.Ordered.{dropped_order, put_order, one_table}
use Rattle.status_records.proofs.Tables.{record_in-drop_record, record_in-put_record}
use Rattle.recorded_packages.specs.Packages.{IsPackageOf, ArePackagesIn, ArePackagesOf, root_architecture}
use Rattle.recorded_packages.specs.Renewal.{AreSameBut, AreUpToDate, IsRenewedBy, IsRenewed}

module _ (root : Option (List ℕ)) where
  -- one is taken away, or put in

  dropped_both : (name : List ℕ) (rs : List Record) (ps : List Package) → ArePackagesIn root rs ps → ArePackagesIn root (drop_record name rs) (drop_package name ps)
  dropped_both name [] [] are = tt
  dropped_both name [] (p ∷ ps) are = absurd are
  dropped_both name (r ∷ rs) [] are = absurd are
  dropped_both name (r ∷ rs) (p ∷ ps) are =
      subst (λ (n : List ℕ). ArePackagesIn root (drop_record name (r ∷ rs)) (cond (not (bytes_eq n name)) (p ∷ drop_package name ps) (drop_package name ps))) (sym are.0.name)
      (by (not (bytes_eq r.name name)) (dropped_both name rs ps are.1))
    where
      by : (b : Bool) → ArePackagesIn root (drop_record name rs) (drop_package name ps) → ArePackagesIn root (cond b (r ∷ drop_record name rs) (drop_record name rs)) (cond b (p ∷ drop_package name ps) (drop_package name ps))
      by true rest = (are.0, rest)
      by false rest = rest

  placed_both : (r : Record) (p : Package) (rs : List Record) (ps : List Package) → IsPackageOf root r p → ArePackagesIn root rs ps → ArePackagesIn root (place_record r rs) (place_package p ps)
  placed_both r p [] [] is are = (is, tt)
  placed_both r p [] (q ∷ qs) is are = absurd are
  placed_both r p (s ∷ ss) [] is are = absurd are
  placed_both r p (s ∷ ss) (q ∷ qs) is are =
      subst (λ (b : Bool). ArePackagesIn root (place_record r (s ∷ ss)) (cond b (q ∷ place_package p qs) (p ∷ q ∷ qs))) same
      (by (is_lt (slice_cmp nat_cmp s.name r.name)) (placed_both r p ss qs is are.1))
    where
      same : is_lt (slice_cmp nat_cmp s.name r.name) ≡ is_lt (slice_cmp nat_cmp q.name p.name)
      same = λ i. is_lt (slice_cmp nat_cmp (sym are.0.name i) (sym is.name i))

      by : (b : Bool) → ArePackagesIn root (place_record r ss) (place_package p qs) → ArePackagesIn root (cond b (s ∷ place_record r ss) (r ∷ s ∷ ss)) (cond b (q ∷ place_package p qs) (p ∷ q ∷ qs))
      by true rest = (are.0, rest)
      by false rest = (is, are)

  put_both : (r : Record) (p : Package) (rs : List Record) (ps : List Package) → IsPackageOf root r p → ArePackagesIn root rs ps → ArePackagesIn root (put_record r rs) (put_package p ps)
  put_both r p rs ps is are =
      placed_both r p (drop_record r.name rs) (drop_package p.name ps) is
      (subst (λ (n : List ℕ). ArePackagesIn root (drop_record r.name rs) (drop_package n ps)) (sym is.name) (dropped_both r.name rs ps are))

  -- look-ups

  named : (rs : List Record) (q : List ℕ) (r : Record) → record_in rs q ≡ Some r → r.name ≡ q
  named [] q r e = absurd (cc e)
  named (x ∷ xs) q r e = by (bytes_eq x.name q) refl e (named xs q r)
    where
      by : (b : Bool) → bytes_eq x.name q ≡ b → cond b (Some x) (record_in xs q) ≡ Some r → (record_in xs q ≡ Some r → r.name ≡ q) → r.name ≡ q
      by true is here later = let same : x ≡ r = cc here in ap (λ (s : Record). s.name) (sym same) ∙ (bytes_eq-Decides x.name q).0 is
      by false is here later = later here

  -- the look-up of a name alone is that among the records
  abbrev OneRenewed : List Record → List ℕ → List Record → List Package → Type 0
  OneRenewed records name rs new = (table : List Record) × AreInOrder table × ArePackagesIn root table new × ((q : List ℕ) → record_in table q ≡ cond (bytes_eq name q) (record_in records q) (record_in rs q))

  looked_up : (records : List Record) (name q : List ℕ) (o : Option Record) → record_in records name ≡ o → (rest : Option Record) → cond (bytes_eq name q) o rest ≡ cond (bytes_eq name q) (record_in records q) rest
  looked_up records name q o e rest = by (bytes_eq name q) refl
    where
      by : (b : Bool) → bytes_eq name q ≡ b → cond b o rest ≡ cond b (record_in records q) rest
      by true is = sym e ∙ ap (record_in records) ((bytes_eq-Decides name q).0 is)
      by false is = refl

  one_renewed : (records : List Record) (name : List ℕ) (old new : List Package) (rs : List Record) → IsRenewed root records name old new → AreInOrder rs → ArePackagesIn root rs old → OneRenewed records name rs new
  one_renewed records name old new rs renewed order are = by (record_in records name) refl renewed
    where
      by : (o : Option Record) → record_in records name ≡ o → IsRenewedBy root o name old new → OneRenewed records name rs new
      by None e is = (drop_record name rs, dropped_order name rs order, subst (ArePackagesIn root (drop_record name rs)) (sym is) (dropped_both name rs old are), λ q. record_in-drop_record name rs q ∙ looked_up records name q None e (record_in rs q))
      by (Some r) e is =
          let here : r.name ≡ name = named records name r e in (
            put_record r rs,
            put_order r rs order,
            subst (ArePackagesIn root (put_record r rs)) (sym is.2) (put_both r is.0 rs old is.1 are),
            λ q. record_in-put_record r rs q ∙ ap (λ (n : List ℕ). cond (bytes_eq n q) (Some r) (record_in rs q)) here ∙ looked_up records name q (Some r) e (record_in rs q),
          )

  -- name after name

  pub up_to_date_none : (records before : List Record) (packages : List Package) → AreInOrder before → ArePackagesIn root before packages → AreUpToDate root records before [] packages
  up_to_date_none records before packages order are = record { table = before; order = order; packages_are = are; look_up = λ q. refl }

  either_done : (a b : Bool) (now before : Option Record) → cond b now (cond a now before) ≡ cond (a || b) now before
  either_done true true now before = refl
  either_done true false now before = refl
  either_done false true now before = refl
  either_done false false now before = refl

  pub up_to_date_more : (records before : List Record) (names : List (List ℕ)) (i : ℕ) (name : List ℕ) (old new : List Package) → i < length names → name ≡ get_or names i name → IsRenewed root records name old new → AreUpToDate root records before (take i names) old → AreUpToDate root records before (take (i + 1) names) new
  up_to_date_more records before names i name old new lt at renewed so_far =
      let one = one_renewed records name old new so_far.table renewed so_far.order so_far.packages_are in
      record {
        table = one.0;
        order = one.1;
        packages_are = one.2;
        look_up = λ q.
            one.3 q ∙ ap (cond (bytes_eq name q) (record_in records q)) (so_far.look_up q)
            ∙ either_done (list_any (λ n. bytes_eq n q) (take i names)) (bytes_eq name q) (record_in records q) (record_in before q)
            ∙ ap (λ (b : Bool). cond b (record_in records q) (record_in before q)) (ap (λ (n : List ℕ). list_any (λ m. bytes_eq m q) (take i names) || bytes_eq n q) at ∙ sym (list_any_more (λ n. bytes_eq n q) names i name lt));
      }

  pub up_to_date_one : (records before : List Record) (name : List ℕ) (old new : List Package) → AreInOrder before → ArePackagesIn root before old → IsRenewed root records name old new → AreUpToDate root records before (name ∷ []) new
  up_to_date_one records before name old new order are renewed = up_to_date_more records before (name ∷ []) 0 name old new (omega arith) refl renewed (up_to_date_none records before old order are)

  among : (names : List (List ℕ)) (q : List ℕ) → Contains names q → list_any (λ n. bytes_eq n q) names ≡ true
  among names q c = list_any_at (λ n. bytes_eq n q) names c.0 q c.1 (ap (λ (n : List ℕ). bytes_eq n q) c.2 ∙ (bytes_eq-Decides q q).1 refl)

  -- the tables are one at the end
  pub all_up_to_date : (records before : List Record) (names : List (List ℕ)) (packages : List Package) → AreInOrder records → AreSameBut names before records → AreUpToDate root records before names packages → ArePackagesIn root records packages
  all_up_to_date records before names packages order same are = subst (λ (rs : List Record). ArePackagesIn root rs packages) (one_table are.table records are.order order (λ q. are.look_up q ∙ by q (list_any (λ n. bytes_eq n q) names) refl)) are.packages_are
    where
      by : (q : List ℕ) (b : Bool) → list_any (λ n. bytes_eq n q) names ≡ b → cond b (record_in records q) (record_in before q) ≡ record_in records q
      by q true is = refl
      by q false is = sym (same q (λ c. true≢false (sym (among names q c) ∙ is)))

-- the packages before were of the same root
pub kept_root : (root : Option (List ℕ)) (records : List Record) (names : List (List ℕ)) (old new : List Package) → AreInOrder records → root ≡ root_architecture records → ((rs : List Record) → ArePackagesOf rs old → root_architecture rs ≡ root)
    → ((before : List Record) → AreInOrder before → ArePackagesIn root before old → AreUpToDate root records before names new)
    → (before : List Record) → AreInOrder before → ArePackagesOf before old → AreSameBut names before records → ArePackagesOf records new
kept_root root records names old new order is same_root step before in_order are same =
    subst (λ (o : Option (List ℕ)). ArePackagesIn o records new) is
    (all_up_to_date root records before names new order same (step before in_order (subst (λ (o : Option (List ℕ)). ArePackagesIn o before old) (same_root before are) are)))

pub on_ok : {T E : Type 0} (r : Result T E) (A B : Type 0) → (A → B) → OnOk r A → OnOk r B
on_ok (Ok x) A B f h = f h
on_ok (Err e) A B f h = tt
