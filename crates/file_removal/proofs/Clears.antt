-- Names that are cleared one after another.
use Rattle.std.proofs.Common.{◌≡◌, ◌≢◌, ◌⊎◌, inl, inr, ℕ, ◌+◌, ◌<◌, Bool, true, false, cond, List, [], ◌∷◌, ◌++◌, length, get_or, take, drop, Option, Some, None, refl, sym, ap, subst, ◌∙◌, IsTrue, Result}
use Rattle.std.specs.Prelude.{◌||◌}
use Rattle.std.specs.Str.{bytes_eq}
use Rattle.std.proofs.lemmas.Bool.{true≢false, false_from_ne_true}
use Rattle.std.proofs.lemmas.List.{take-append-drop}
use Rattle.std.proofs.lemmas.List.Folds.{list_any-append}
use Rattle.host_core.specs.Paths.{Path}
use Rattle.host_core.specs.World.{World, put, Take, Lower, IsLoose, lowered}
use Rattle.host_core.specs.Host.{State, Does, Since}
use Rattle.host_core.proofs.WorldLaws.{put_same, put_other}
use Rattle.host_core.proofs.Moments.{since_does, since_weaker_if}
use Rattle.host_core.specs.declared.fault.HostFault.{HostFault}
use Rattle.host_core.proofs.Paths.{decide}
use Rattle.std.proofs.lemmas.Slice.Eq.{bytes_eq-Decides}
use Rattle.host_core.specs.declared.node.Node.{Node}
use Rattle.host_core.specs.declared.node.Node.TheVariants.{File, Dir, Link}
use Rattle.administration.proofs.Within.{taken_more}
use Rattle.file_removal.specs.Clearing.{cleared, is_among, Cleared, IsClearing, IsRetiring}
use Rattle.file_removal.proofs.Lowered.{lowered_cleared, cleared_lowered, lowered_loose}

pub cleared_again : (o : Option Node) → cleared (cleared o) ≡ cleared o
cleared_again None = refl
cleared_again (Some (File b m)) = refl
cleared_again (Some (Dir m)) = refl
cleared_again (Some (Link t)) = refl

twice : (x y : Bool) (o m v : Option Node) → m ≡ cond x (cleared o) o → v ≡ cond y (cleared m) m → v ≡ cond (x || y) (cleared o) o
twice true true o m v first second = second ∙ ap cleared first ∙ cleared_again o
twice true false o m v first second = second ∙ first
twice false true o m v first second = second ∙ ap cleared first
twice false false o m v first second = second ∙ first

cleared_then : (a b : List Path) (u v w : World) → Cleared a u v → Cleared b v w → Cleared (a ++ b) u w
cleared_then a b u v w first second = record { each = λ p. twice (is_among a p) (is_among b p) (u p) (v p) (w p) (first.each p) (second.each p) ∙ ap (λ t. cond t (cleared (u p)) (u p)) (sym (list_any-append (bytes_eq p) a b)) }

amid_twice : (x y : Bool) (o m v : Option Node) → m ≡ cond x (cleared o) o → ((v ≡ m) ⊎ (IsTrue y × (v ≡ cleared m))) → (v ≡ o) ⊎ (IsTrue (x || y) × (v ≡ cleared o))
amid_twice true y o m v first (inl e) = inr (refl, e ∙ first)
amid_twice false y o m v first (inl e) = inl (e ∙ first)
amid_twice true y o m v first (inr e) = inr (refl, e.1 ∙ ap cleared first ∙ cleared_again o)
amid_twice false y o m v first (inr e) = inr (e.0, e.1 ∙ ap cleared first)

clearing_then : (a b : List Path) (u v w : World) → Cleared a u v → IsClearing b v w → IsClearing (a ++ b) u w
clearing_then a b u v w first second = record {
  each = λ p. elim (amid_twice (is_among a p) (is_among b p) (u p) (v p) (w p) (first.each p) (second.each p)) [
    | inl same ↦ inl same
    | inr gone ↦ inr (subst IsTrue (sym (list_any-append (bytes_eq p) a b)) gone.0, gone.1)
  ];
}

any_more : (x y : Bool) → IsTrue x → IsTrue (x || y)
any_more true y is = refl
any_more false y is = absurd (true≢false (sym is))

clearing_more : (a b : List Path) (u w : World) → IsClearing a u w → IsClearing (a ++ b) u w
clearing_more a b u w amid = record {
  each = λ p. elim (amid.each p) [
    | inl same ↦ inl same
    | inr gone ↦ inr (subst IsTrue (sym (list_any-append (bytes_eq p) a b)) (any_more (is_among a p) (is_among b p) gone.0), gone.1)
  ];
}

pub clearing_start : (names : List Path) (w : World) → IsClearing names w w
clearing_start names w = record { each = λ p. inl refl }

-- one file or link is removed

pub cleared_loose : (o : Option Node) → IsLoose o → cleared o ≡ None
cleared_loose None loose = refl
cleared_loose (Some (File b m)) loose = refl
cleared_loose (Some (Dir m)) loose = absurd (loose.1 (m, refl))
cleared_loose (Some (Link t)) loose = refl

clearing_gone : (p : Path) (w : World) → IsLoose (w p) → IsClearing (p ∷ []) w (put w p None)
clearing_gone p w loose = record {
  each = λ q. elim (decide q p) [
    | inl e ↦ inr (any_more (bytes_eq q p) (is_among [] q) ((bytes_eq-Decides q p).1 e), put_same w p q None e ∙ sym (cleared_loose (w q) (subst (λ r. IsLoose (w r)) (sym e) loose)))
    | inr ne ↦ inl (put_other w p q None ne)
  ];
}

pub clearing_does : {T : Type 0} (p : Path) (old : World) (a b : State) → a.world ≡ old → (IsTrue b.honest → IsLoose (old p)) → (result : Result T HostFault) → Does (Take p) a b result → Since (λ so_far. IsClearing (p ∷ []) old) a b
clearing_does p old a b same loose result does = since_does (IsClearing (p ∷ []) old) result (Take p) a b does (λ h. record {
  before = subst (IsClearing (p ∷ []) old) (sym same) (clearing_start (p ∷ []) old);
  inside = λ t part. absurd part;
  behind = subst (λ w. IsClearing (p ∷ []) old (put w p None)) (sym same) (clearing_gone p old (loose h));
})

-- a path is one name, or it isn't

pub among_it : (p q : Path) → q ≡ p → is_among (p ∷ []) q ≡ true
among_it p q e = any_more (bytes_eq q p) (is_among [] q) ((bytes_eq-Decides q p).1 e)

pub among_other : (p q : Path) → q ≢ p → is_among (p ∷ []) q ≡ false
among_other p q ne = ap (λ t. t || is_among [] q) (false_from_ne_true (bytes_eq q p) (λ is. ne ((bytes_eq-Decides q p).0 is)))

pub among_is : (p q : Path) → is_among (p ∷ []) q ≡ true → q ≡ p
among_is p q is = elim (decide q p) [ inl e ↦ e | inr ne ↦ absurd (true≢false (sym is ∙ among_other p q ne)) ]

-- a file's rights are taken, and then the file

pub retiring_start : (names : List Path) (w : World) → IsRetiring names w w
retiring_start names w = record { each = λ p. inl refl }

retiring_lowered : (p : Path) (w : World) → IsRetiring (p ∷ []) w (put w p (lowered (w p)))
retiring_lowered p w = record {
  each = λ q. elim (decide q p) [
    | inl e ↦ inr (among_it p q e, inl (put_same w p q (lowered (w p)) e ∙ ap (λ r. lowered (w r)) (sym e)))
    | inr ne ↦ inl (put_other w p q (lowered (w p)) ne)
  ];
}

retired_at : (p : Path) (n : Option Node) (w : World) (q : Path) → q ≢ p → put (put w p n) p None q ≡ w q
retired_at p n w q ne = put_other (put w p n) p q None ne ∙ put_other w p q n ne

retired_gone : (p q : Path) (n : Option Node) (w : World) → IsLoose (w p) → q ≡ p → put (put w p n) p None q ≡ cleared (w q)
retired_gone p q n w loose e = put_same (put w p n) p q None e ∙ sym (cleared_loose (w q) (subst (λ r. IsLoose (w r)) (sym e) loose))

retiring_gone : (p : Path) (n : Option Node) (w : World) → IsLoose (w p) → IsRetiring (p ∷ []) w (put (put w p n) p None)
retiring_gone p n w loose = record {
  each = λ q. elim (decide q p) [
    | inl e ↦ inr (among_it p q e, inr (retired_gone p q n w loose e))
    | inr ne ↦ inl (retired_at p n w q ne)
  ];
}

pub retire_cleared : (p : Path) (n : Option Node) (w : World) → IsLoose (w p) → Cleared (p ∷ []) w (put (put w p n) p None)
retire_cleared p n w loose = record {
  each = λ q. elim (decide q p) [
    | inl e ↦ retired_gone p q n w loose e ∙ ap (λ t. cond t (cleared (w q)) (w q)) (sym (among_it p q e))
    | inr ne ↦ retired_at p n w q ne ∙ ap (λ t. cond t (cleared (w q)) (w q)) (sym (among_other p q ne))
  ];
}

pub lowering_does : {T : Type 0} (p : Path) (a b : State) (result : Result T HostFault) → Does (Lower p) a b result → Since (λ so_far. IsRetiring (p ∷ []) a.world) a b
lowering_does p a b result does = since_does (IsRetiring (p ∷ []) a.world) result (Lower p) a b does (λ h. record {
  before = retiring_start (p ∷ []) a.world;
  inside = λ t part. absurd part;
  behind = retiring_lowered p a.world;
})

pub retiring_does : {T : Type 0} (p : Path) (old : World) (a b : State) → a.world ≡ put old p (lowered (old p)) → (IsTrue b.honest → IsLoose (old p)) → (result : Result T HostFault) → Does (Take p) a b result → Since (λ so_far. IsRetiring (p ∷ []) old) a b
retiring_does p old a b same loose result does = since_does (IsRetiring (p ∷ []) old) result (Take p) a b does (λ h. record {
  before = subst (IsRetiring (p ∷ []) old) (sym same) (retiring_lowered p old);
  inside = λ t part. absurd part;
  behind = subst (λ w. IsRetiring (p ∷ []) old (put w p None)) (sym same) (retiring_gone p (lowered (old p)) old (loose h));
})

lower_twice : (x y : Bool) (o m v : Option Node) → m ≡ cond x (cleared o) o → ((v ≡ m) ⊎ (IsTrue y × ((v ≡ lowered m) ⊎ (v ≡ cleared m)))) → (v ≡ o) ⊎ (IsTrue (x || y) × ((v ≡ lowered o) ⊎ (v ≡ cleared o)))
lower_twice true y o m v first (inl e) = inr (refl, inr (e ∙ first))
lower_twice false y o m v first (inl e) = inl (e ∙ first)
lower_twice true y o m v first (inr (is, inl low)) = inr (refl, inr (low ∙ ap lowered first ∙ lowered_cleared o))
lower_twice true y o m v first (inr (is, inr gone)) = inr (refl, inr (gone ∙ ap cleared first ∙ cleared_again o))
lower_twice false y o m v first (inr (is, inl low)) = inr (is, inl (low ∙ ap lowered first))
lower_twice false y o m v first (inr (is, inr gone)) = inr (is, inr (gone ∙ ap cleared first))

retiring_then : (a b : List Path) (u v w : World) → Cleared a u v → IsRetiring b v w → IsRetiring (a ++ b) u w
retiring_then a b u v w first second = record {
  each = λ p. elim (lower_twice (is_among a p) (is_among b p) (u p) (v p) (w p) (first.each p) (second.each p)) [
    | inl same ↦ inl same
    | inr gone ↦ inr (subst IsTrue (sym (list_any-append (bytes_eq p) a b)) gone.0, gone.1)
  ];
}

retiring_more : (a b : List Path) (u w : World) → IsRetiring a u w → IsRetiring (a ++ b) u w
retiring_more a b u w amid = record {
  each = λ p. elim (amid.each p) [
    | inl same ↦ inl same
    | inr gone ↦ inr (subst IsTrue (sym (list_any-append (bytes_eq p) a b)) (any_more (is_among a p) (is_among b p) gone.0), gone.1)
  ];
}

-- a stop amid it is made good by clearing the same names
finished_at : (x : Bool) (o m v : Option Node) → (m ≡ o) ⊎ (IsTrue x × ((m ≡ lowered o) ⊎ (m ≡ cleared o))) → v ≡ cond x (cleared m) m → v ≡ cond x (cleared o) o
finished_at x o m v (inl same) is = is ∙ ap (λ n. cond x (cleared n) n) same
finished_at true o m v (inr (t, inl low)) is = is ∙ ap cleared low ∙ cleared_lowered o
finished_at true o m v (inr (t, inr gone)) is = is ∙ ap cleared gone ∙ cleared_again o
finished_at false o m v (inr (t, way)) is = absurd (true≢false (sym t))

pub retired_finished : (names : List Path) (old now new : World) → IsRetiring names old now → Cleared names now new → Cleared names old new
retired_finished names old now new amid more = record { each = λ p. finished_at (is_among names p) (old p) (now p) (new p) (amid.each p) (more.each p) }

-- the loop's next name
module _ (names : List Path) (i : ℕ) (n : Path) (within : i < length names) (at : n ≡ get_or names i n) where
  front_is : take (i + 1) names ≡ take i names ++ n ∷ []
  front_is = taken_more names i n within at

  pub next_cleared : (u v w : World) → Cleared (take i names) u v → Cleared (n ∷ []) v w → Cleared (take (i + 1) names) u w
  next_cleared u v w first second = subst (λ l. Cleared l u w) (sym front_is) (cleared_then (take i names) (n ∷ []) u v w first second)

  pub next_clearing : (u : World) (a b : State) → (IsTrue b.honest → Cleared (take i names) u a.world) → Since (λ so_far. IsClearing (n ∷ []) a.world) a b → Since (λ so_far. IsClearing names u) a b
  next_clearing u a b first since = since_weaker_if _ _ a b (λ h so_far w amid.
      subst (λ l. IsClearing l u w) (take-append-drop (i + 1) names) (clearing_more (take (i + 1) names) (drop (i + 1) names) u w
      (subst (λ l. IsClearing l u w) (sym front_is) (clearing_then (take i names) (n ∷ []) u a.world w (first h) amid)))) since

  pub next_retiring : (u : World) (a b : State) → (IsTrue b.honest → Cleared (take i names) u a.world) → Since (λ so_far. IsRetiring (n ∷ []) a.world) a b → Since (λ so_far. IsRetiring names u) a b
  next_retiring u a b first since = since_weaker_if _ _ a b (λ h so_far w amid.
      subst (λ l. IsRetiring l u w) (take-append-drop (i + 1) names) (retiring_more (take (i + 1) names) (drop (i + 1) names) u w
      (subst (λ l. IsRetiring l u w) (sym front_is) (retiring_then (take i names) (n ∷ []) u a.world w (first h) amid)))) since
