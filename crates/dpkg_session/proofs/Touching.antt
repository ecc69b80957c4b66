-- The packages that a unit tells: those of an unpack, and those that were displaced behind it.
use Rattle.std.specs.Prelude.{MatchBool}
use Rattle.std.proofs.Common.{◌≡◌, ◌≢◌, ◌⊎◌, ◌||◌, ◌&&◌, ◌+◌, ◌<◌, inl, inr, ℕ, Bool, true, false, not, List, [], ◌∷◌, ◌++◌, Some, Contains, cond, filter, get_or, length, map, take, refl, sym, ap, subst, ◌∙◌, arith}
use Rattle.std.specs.List.{AllByRecursion}
use Rattle.std.specs.Str.{bytes_eq}
use Rattle.std.proofs.lemmas.Bool.{and_from, and_parts, false_from_ne_true, false≢true, not-true, or_cases, or_left, or_parts, or_right, true≢false}
use Rattle.std.proofs.lemmas.List.Elements.{Contains-push_cases}
use Rattle.std.proofs.lemmas.List.Folds.{list_any-append, list_any_more}
use Rattle.std.proofs.lemmas.Slice.Eq.{bytes_eq-Decides}
use Rattle.control_members.proofs.Drawn.{any_contains, contains_any}
use Rattle.name_sets.specs.Names.{is_among}
use Rattle.file_lists.specs.Increasing.{AreIncreasing, IsBefore}
use Rattle.status_db.specs.Order.{AreInOrder}
use Rattle.status_records.specs.Records.{record_in}
use Rattle.status_records.specs.declared.record.Record.{Record}
use Rattle.status_db.proofs.Ordered.{no_record}
use Rattle.unit_reports.specs.declared.report.Touched.{Touched}
use Rattle.unpack_engine.proofs.Names.{entered}
use Rattle.unpack_engine.specs.Touched.{is_half_configured}
use Rattle.unpack_engine.specs.Units.{IsTouched}
use Rattle.dpkg_session.specs.Touched.{AreDeconfigured, AreOfBoth, AreTold, AreUnchanged, Differs, IsTouchedBeside, deconfigured_among, half_configured, is_deconfigured, is_half, is_told, told_among}

-- it is among them, or it isn't
either_among : (names : List (List ℕ)) (q : List ℕ) → Contains names q ⊎ (Contains names q → ⊥)
either_among names q = by (is_among names q) refl
  where
    by : (b : Bool) → is_among names q ≡ b → Contains names q ⊎ (Contains names q → ⊥)
    by true e = inl (any_contains names q e)
    by false e = inr (λ has. true≢false (sym (contains_any names q has) ∙ e))

-- what is among the names that a test keeps

among_kept : (test : List ℕ → Bool) (xs : List (List ℕ)) (q : List ℕ) → is_among (filter test xs) q ≡ (is_among xs q && test q)
among_kept test [] q = refl
among_kept test (x ∷ xs) q = by (test x) (bytes_eq q x) refl refl (among_kept test xs q)
  where
    none : (b : Bool) → false ≡ (b && false)
    none true = refl
    none false = refl

    by : (t b : Bool) → test x ≡ t → bytes_eq q x ≡ b → is_among (filter test xs) q ≡ (is_among xs q && test q) → is_among (cond t (x ∷ filter test xs) (filter test xs)) q ≡ ((b || is_among xs q) && test q)
    by true true kept same rest = ap (λ b. b || is_among (filter test xs) q) same ∙ sym (ap test ((bytes_eq-Decides q x).0 same) ∙ kept)
    by true false kept other rest = ap (λ b. b || is_among (filter test xs) q) other ∙ rest
    by false true left same rest =
        let away : test q ≡ false = ap test ((bytes_eq-Decides q x).0 same) ∙ left in
        rest ∙ ap (λ b. is_among xs q && b) away ∙ sym (none (is_among xs q)) ∙ sym away
    by false false left other rest = rest

pub kept_from : (test : List ℕ → Bool) (xs : List (List ℕ)) (q : List ℕ) → Contains (filter test xs) q → Contains xs q × (test q ≡ true)
kept_from test xs q has =
    let both = and_parts (is_among xs q) (test q) (sym (among_kept test xs q) ∙ contains_any (filter test xs) q has) in
    (any_contains xs q both.0, both.1)

pub kept_to : (test : List ℕ → Bool) (xs : List (List ℕ)) (q : List ℕ) → Contains xs q → test q ≡ true → Contains (filter test xs) q
kept_to test xs q has is = any_contains (filter test xs) q (among_kept test xs q ∙ and_from (is_among xs q) (test q) (contains_any xs q has) is)

all_kept : (P : List ℕ → Type 0) (test : List ℕ → Bool) (xs : List (List ℕ)) → AllByRecursion P xs → AllByRecursion P (filter test xs)
all_kept P test [] all = tt
all_kept P test (x ∷ xs) all = by (test x) (all_kept P test xs all.1)
  where
    by : (b : Bool) → AllByRecursion P (filter test xs) → AllByRecursion P (cond b (x ∷ filter test xs) (filter test xs))
    by true rest = (all.0, rest)
    by false rest = rest

increasing_kept : (test : List ℕ → Bool) (xs : List (List ℕ)) → AreIncreasing xs → AreIncreasing (filter test xs)
increasing_kept test [] order = tt
increasing_kept test (x ∷ xs) order = by (test x) (increasing_kept test xs order.1)
  where
    by : (b : Bool) → AreIncreasing (filter test xs) → AreIncreasing (cond b (x ∷ filter test xs) (filter test xs))
    by true rest = (all_kept (IsBefore x) test xs order.0, rest)
    by false rest = rest

-- the packages that differ

module _ (name : List ℕ) (yields displaced touched names unchanged : List (List ℕ)) (before mid after : List Record) (told : IsTouched name before mid touched) (both : AreOfBoth touched displaced names)
    (known : AreUnchanged before after yields unchanged) (others : (q : List ℕ) → (Contains displaced q → ⊥) → record_in after q ≡ record_in mid q) (may : (q : List ℕ) → Contains displaced q → Contains yields q) where
  from_names : (q : List ℕ) → Contains names q → is_among unchanged q ≡ false → (q ≡ name) ⊎ Differs before after q
  from_names q has none = by (either_among displaced q)
    where
      first : (Contains displaced q → ⊥) → (q ≡ name) ⊎ Differs before mid q → (q ≡ name) ⊎ Differs before after q
      first away (inl own) = inl own
      first away (inr differs) = inr (λ same. differs (sym (others q away) ∙ same))

      stayed : (Contains displaced q → ⊥) → Contains touched q ⊎ Contains displaced q → (q ≡ name) ⊎ Differs before after q
      stayed away (inl touches) = first away ((told.exact q).0 touches)
      stayed away (inr among) = absurd (away among)

      by : Contains displaced q ⊎ (Contains displaced q → ⊥) → (q ≡ name) ⊎ Differs before after q
      by (inl among) = inr (known.others q (may q among) none)
      by (inr away) = stayed away ((both.exact q).0 has)

  from_told : (q : List ℕ) → Contains (told_among name unchanged names) q → (q ≡ name) ⊎ Differs before after q
  from_told q has =
      let kept = kept_from (is_told name unchanged) names q has in
      elim (or_cases (bytes_eq q name) (not (is_among unchanged q)) kept.1) [
        | inl own ↦ inl ((bytes_eq-Decides q name).0 own)
        | inr other ↦ from_names q kept.0 (not-true (is_among unchanged q) other)
      ]

  named : (q : List ℕ) → Differs before after q → Contains names q
  named q differs = (both.exact q).1 (by (either_among displaced q))
    where
      by : Contains displaced q ⊎ (Contains displaced q → ⊥) → Contains touched q ⊎ Contains displaced q
      by (inl among) = inr among
      by (inr away) = inl ((told.exact q).1 (inr (λ same. differs (others q away ∙ same))))

  to_told : (q : List ℕ) → (q ≡ name) ⊎ Differs before after q → Contains (told_among name unchanged names) q
  to_told q (inl own) = kept_to (is_told name unchanged) names q ((both.exact q).1 (inl ((told.exact q).1 (inl own)))) (or_left (bytes_eq q name) (not (is_among unchanged q)) ((bytes_eq-Decides q name).1 own))
  to_told q (inr differs) =
      let none : is_among unchanged q ≡ false = false_from_ne_true (is_among unchanged q) (λ among. known.same q among differs) in
      kept_to (is_told name unchanged) names q (named q differs) (or_right (bytes_eq q name) (not (is_among unchanged q)) (ap not none))

  pub touched_beside : IsTouchedBeside name before after (told_among name unchanged names)
  touched_beside = record {
    order = increasing_kept (is_told name unchanged) names both.order;
    exact = λ q. (from_told q, to_told q);
  }

-- the packages that were deconfigured

same_back : (p q : List ℕ) (b : Bool) → bytes_eq p q ≡ b → bytes_eq q p ≡ b
same_back p q true e = (bytes_eq-Decides q p).1 (sym ((bytes_eq-Decides p q).0 e))
same_back p q false e = false_from_ne_true (bytes_eq q p) (λ is. true≢false (sym ((bytes_eq-Decides p q).1 (sym ((bytes_eq-Decides q p).0 is))) ∙ e))

half_among : (records : List Record) → AreInOrder records → (q : List ℕ) → is_among (half_configured records) q ≡ is_half (record_in records q)
half_among [] order q = refl
half_among (r ∷ rs) order q = by (is_half_configured r.state) (bytes_eq r.name q) refl refl (half_among rs order.1 q)
  where
    by : (h b : Bool) → is_half_configured r.state ≡ h → bytes_eq r.name q ≡ b → is_among (half_configured rs) q ≡ is_half (record_in rs q)
        → is_among (map (λ (x : Record). x.name) (cond h (r ∷ filter (λ (x : Record). is_half_configured x.state) rs) (filter (λ (x : Record). is_half_configured x.state) rs))) q ≡ is_half (cond b (Some r) (record_in rs q))
    by true true half same rest = ap (λ b. b || is_among (half_configured rs) q) (same_back r.name q true same) ∙ sym half
    by true false half other rest = ap (λ b. b || is_among (half_configured rs) q) (same_back r.name q false other) ∙ rest
    by false true whole same rest =
        rest ∙ ap (λ n. is_half (record_in rs n)) (sym ((bytes_eq-Decides r.name q).0 same)) ∙ ap is_half (no_record r.name rs order.0) ∙ sym whole
    by false false whole other rest = rest

module _ (name : List ℕ) (before after : List Record) (names half : List (List ℕ)) (touched : IsTouchedBeside name before after names) (order : AreInOrder before) (half_is : half ≡ half_configured before) where
  was : (q : List ℕ) → is_among half q ≡ is_half (record_in before q)
  was q = ap (λ (l : List (List ℕ)). is_among l q) half_is ∙ half_among before order q

  from_half : (q : List ℕ) → Contains (deconfigured_among name after half names) q → (q ≢ name) × (is_half (record_in after q) ≡ true) × (is_half (record_in before q) ≡ false)
  from_half q has =
      let kept = kept_from (is_deconfigured name after half) names q has in
      let other = and_parts (not (bytes_eq q name)) (is_half (record_in after q) && not (is_among half q)) kept.1 in
      let now = and_parts (is_half (record_in after q)) (not (is_among half q)) other.1 in
      (λ own. true≢false (sym ((bytes_eq-Decides q name).1 own) ∙ not-true (bytes_eq q name) other.0), now.0, sym (was q) ∙ not-true (is_among half q) now.1)

  to_half : (q : List ℕ) → (q ≢ name) × (is_half (record_in after q) ≡ true) × (is_half (record_in before q) ≡ false) → Contains (deconfigured_among name after half names) q
  to_half q is =
      let differs : Differs before after q = λ same. true≢false (sym is.1 ∙ ap is_half same ∙ is.2) in
      let other : bytes_eq q name ≡ false = false_from_ne_true (bytes_eq q name) (λ own. is.0 ((bytes_eq-Decides q name).0 own)) in
      kept_to (is_deconfigured name after half) names q ((touched.exact q).1 (inr differs))
      (and_from (not (bytes_eq q name)) (is_half (record_in after q) && not (is_among half q)) (ap not other)
      (and_from (is_half (record_in after q)) (not (is_among half q)) is.1 (ap not (was q ∙ is.2))))

  pub deconfigured_beside : AreDeconfigured name before after (deconfigured_among name after half names)
  deconfigured_beside = record {
    order = increasing_kept (is_deconfigured name after half) names touched.order;
    exact = λ q. (from_half q, to_half q);
  }

-- one package more of those whose records were copied

pub unchanged_none : (before after : List Record) → AreUnchanged before after [] []
unchanged_none before after = record { same = λ q among differs. true≢false (sym among); others = λ q has none. absurd (omega (arith, has.1)) }

pub unchanged_more : (before after : List Record) (packages names more : List (List ℕ)) (name : List ℕ) (same : Bool) → MatchBool same (Differs before after name → ⊥) (Differs before after name) → more ≡ cond same (names ++ name ∷ []) names
    → AreUnchanged before after packages names → AreUnchanged before after (packages ++ name ∷ []) more
unchanged_more before after packages names more name true is grown so_far = record { same = same_now; others = others_now }
  where
    among : (q : List ℕ) → is_among more q ≡ is_among names q || (bytes_eq q name || false)
    among q = ap (λ (l : List (List ℕ)). is_among l q) grown ∙ list_any-append (bytes_eq q) names (name ∷ [])

    same_now : (q : List ℕ) → is_among more q ≡ true → Differs before after q → ⊥
    same_now q has differs = elim (or_cases (is_among names q) (bytes_eq q name || false) (sym (among q) ∙ has)) [
      | inl front ↦ so_far.same q front differs
      | inr last ↦ elim (or_cases (bytes_eq q name) false last) [ inl own ↦ is (subst (Differs before after) ((bytes_eq-Decides q name).0 own) differs) | inr never ↦ false≢true never ]
    ]

    others_now : (q : List ℕ) → Contains (packages ++ name ∷ []) q → is_among more q ≡ false → Differs before after q
    others_now q has none =
        let parts = or_parts (is_among names q) (bytes_eq q name || false) (sym (among q) ∙ none) in
        elim (Contains-push_cases packages name q has) [
          | inl front ↦ so_far.others q front parts.0
          | inr last ↦ absurd (true≢false (sym ((bytes_eq-Decides q name).1 (sym last)) ∙ (or_parts (bytes_eq q name) false parts.1).0))
        ]
unchanged_more before after packages names more name false is grown so_far = record {
  same = λ q has differs. so_far.same q (ap (λ (l : List (List ℕ)). is_among l q) (sym grown) ∙ has) differs;
  others = λ q has none. elim (Contains-push_cases packages name q has) [
    | inl front ↦ so_far.others q front (ap (λ (l : List (List ℕ)). is_among l q) (sym grown) ∙ none)
    | inr last ↦ subst (Differs before after) last is
  ];
}

-- what is told of lists is told of the same lists

pub told_as : (name : List ℕ) (after : List Record) (copies first_copies : List Touched) (half first_half first one second two : List (List ℕ)) (touched : List Touched) (deconfigured : List (List ℕ))
    → first_copies ≡ copies → first_half ≡ half → one ≡ first → two ≡ second → AreTold name after first_copies first_half one two touched deconfigured → AreTold name after copies half first second touched deconfigured
told_as name after copies first_copies half first_half first one second two touched deconfigured c h f s is =
    subst (λ l. AreTold name after l half first second touched deconfigured) c
    (subst (λ l. AreTold name after first_copies l first second touched deconfigured) h
    (subst (λ l. AreTold name after first_copies first_half l second touched deconfigured) f
    (subst (λ l. AreTold name after first_copies first_half one l touched deconfigured) s is)))

-- names in a set of both lists

pub from_among : (first second : List (List ℕ)) (q : List ℕ) → is_among first q || is_among second q ≡ true → Contains first q ⊎ Contains second q
from_among first second q is = elim (or_cases (is_among first q) (is_among second q) is) [
  | inl e ↦ inl (any_contains first q e)
  | inr e ↦ inr (any_contains second q e)
]

pub to_among : (first second : List (List ℕ)) (q : List ℕ) → Contains first q ⊎ Contains second q → is_among first q || is_among second q ≡ true
to_among first second q (inl has) = or_left (is_among first q) (is_among second q) (contains_any first q has)
to_among first second q (inr has) = or_right (is_among first q) (is_among second q) (contains_any second q has)

-- a name goes into the set

or_assoc : (a b c : Bool) → (a || b) || c ≡ a || (b || c)
or_assoc true b c = refl
or_assoc false b c = refl

pub name_entered : (names : List (List ℕ)) (i : ℕ) (name key q : List ℕ) (new mid old : Bool) → i < length names → name ≡ get_or names i name → key ≡ name → new ≡ cond (bytes_eq key q) true mid
    → mid ≡ old || is_among (take i names) q → new ≡ old || is_among (take (i + 1) names) q
name_entered names i name key q new mid old lt is same new_is mid_is =
    entered q key new mid (old || is_among (take i names) q) name same new_is mid_is
    ∙ or_assoc old (is_among (take i names) q) (bytes_eq q name)
    ∙ ap (λ (n : List ℕ). old || (is_among (take i names) q || bytes_eq q n)) is
    ∙ ap (λ b. old || b) (sym (list_any_more (bytes_eq q) names i name lt))
