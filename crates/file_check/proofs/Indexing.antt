-- One shipped path more in the index.
use Rattle.std.proofs.Common.{◌≡◌, ◌+◌, ◌<◌, ℕ, Bool, true, false, cond, List, [], ◌∷◌, ◌++◌, take, length, get_or, refl, sym, ap, ◌∙◌}
use Rattle.std.specs.Prelude.{◌||◌, ◌&&◌}
use Rattle.std.specs.Str.{bytes_eq}
use Rattle.std.proofs.lemmas.List.{take_more}
use Rattle.std.proofs.lemmas.List.Folds.{list_any_more, list_any-append}
use Rattle.host_core.specs.Paths.{Path}
use Rattle.package_files.specs.declared.work.Work.{Work}
use Rattle.file_check.specs.Index.{makes_directory, is_made_by, is_place, is_twice}

pub joined : (hit o : Bool) → cond hit true o ≡ (o || hit)
joined true true = refl
joined true false = refl
joined false true = refl
joined false false = refl

first_twice : (e : Bool) → ((e && false) || false) ≡ (false || (false && e))
first_twice true = refl
first_twice false = refl

again_twice : (t p w e : Bool) → ((t && (p || (e || false))) || (w || (p && e))) ≡ (((t && p) || w) || ((t || p) && e))
again_twice true true true e = refl
again_twice true true false e = refl
again_twice true false true true = refl
again_twice true false true false = refl
again_twice true false false true = refl
again_twice true false false false = refl
again_twice false p true e = refl
again_twice false true false e = refl
again_twice false false false e = refl

twice_push : (a : List Work) (s : Work) (q : Path) → is_twice (a ++ s ∷ []) q ≡ (is_twice a q || (is_place a q && bytes_eq q s.place))
twice_push [] s q = first_twice (bytes_eq q s.place)
twice_push (t ∷ a) s q =
    ap (λ x. (bytes_eq q t.place && x) || is_twice (a ++ s ∷ []) q) (list_any-append (λ (y : Work). bytes_eq q y.place) a (s ∷ []))
    ∙ ap (λ x. (bytes_eq q t.place && (is_place a q || (bytes_eq q s.place || false))) || x) (twice_push a s q)
    ∙ again_twice (bytes_eq q t.place) (is_place a q) (is_twice a q) (bytes_eq q s.place)

module _ (shipped : List Work) (i : ℕ) (s : Work) (within : i < length shipped) (at : s ≡ get_or shipped i s) (q : Path) where
  pub place_next : (new old : Bool) → new ≡ (old || bytes_eq q s.place) → old ≡ is_place (take i shipped) q → new ≡ is_place (take (i + 1) shipped) q
  place_next new old is was = is ∙ ap (λ b. b || bytes_eq q s.place) was ∙ ap (λ (y : Work). is_place (take i shipped) q || bytes_eq q y.place) at
      ∙ sym (list_any_more (λ (y : Work). bytes_eq q y.place) shipped i s within)

  pub twice_next : (new old once : Bool) → new ≡ (old || (once && bytes_eq q s.place)) → old ≡ is_twice (take i shipped) q → once ≡ is_place (take i shipped) q → new ≡ is_twice (take (i + 1) shipped) q
  twice_next new old once is was first = is ∙ (λ j. was j || (first j && bytes_eq q s.place)) ∙ sym (twice_push (take i shipped) s q)
      ∙ ap (λ l. is_twice l q) (sym (take_more shipped i s within ∙ ap (λ r. take i shipped ++ r ∷ []) (sym at)))

  pub made_next : (new old : Bool) → new ≡ (old || (bytes_eq q s.target && makes_directory s.node s.had)) → old ≡ is_made_by (take i shipped) q → new ≡ is_made_by (take (i + 1) shipped) q
  made_next new old is was = is ∙ ap (λ b. b || (bytes_eq q s.target && makes_directory s.node s.had)) was
      ∙ ap (λ (y : Work). is_made_by (take i shipped) q || (bytes_eq q y.target && makes_directory y.node y.had)) at
      ∙ sym (list_any_more (λ (y : Work). bytes_eq q y.target && makes_directory y.node y.had) shipped i s within)
