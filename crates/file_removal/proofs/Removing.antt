-- One listed path more.
use Rattle.std.proofs.Common.{◌≡◌, ◌≢◌, ◌⊎◌, inl, inr, ℕ, ◌+◌, ◌<◌, ◌≤◌, Bool, true, false, cond, nat_eq, List, [], ◌∷◌, ◌++◌, length, get_or, take, drop, None, refl, sym, ap, subst, ◌∙◌, IsTrue, arith}
use Rattle.std.specs.Prelude.{IsSome, ◌&&◌}
use Rattle.std.specs.Str.{bytes_eq}
use Rattle.std.proofs.lemmas.Bool.{true≢false, false_from_ne_true, eqb-true, eq-eqb}
use Rattle.std.proofs.lemmas.Slice.Eq.{bytes_eq-Decides}
use Rattle.std.proofs.lemmas.List.{take-append-drop, append-nil}
use Rattle.std.proofs.Math.Seq.{drop-cons, drop-length}
use Rattle.std.proofs.Math.Numerals.{add-one}
use Rattle.host_core.specs.Paths.{Path}
use Rattle.host_core.specs.World.{World, IsBare, IsDirectory, IsLoose}
use Rattle.administration.proofs.Within.{directory_differs}
use Rattle.host_core.specs.Host.{State, Since, WasDenied}
use Rattle.host_core.proofs.Moments.{since_start, since_weaker_if}
use Rattle.host_core.proofs.Nodes.{none_there, none_stands, directory_stands}
use Rattle.host_core.proofs.Denials.{denied_first_since, denied_later_since}
use Rattle.host_core.proofs.Paths.{decide}
use Rattle.file_removal.specs.declared.leaving.Leaving.{Leaving}
use Rattle.file_removal.specs.Removal.{Staying, none_stays, GoesBy, RemovedBy, RemovedUnless, IsGoing, IsRemovingBy, LooseDenied}
use Rattle.file_removal.specs.Visits.{IsTakable, IsVisited, IsVisiting}

module _ (d : Bool) (old : World) where
  -- where fewer directories stay behind fewer paths than n, more goes
  goes_upto : (s t : Staying) (n : ℕ) (xs : List Leaving) (p : Path) → length xs ≤ n → ((later : List Leaving) (q : Path) → length later < n → s later q ≡ false → t later q ≡ false) → GoesBy s d old xs p → GoesBy t d old xs p
  goes_upto s t n [] p within fewer goes = goes
  goes_upto s t n (x ∷ xs) p within fewer (inl later) = inl (goes_upto s t n xs p (omega (arith, within)) fewer later)
  goes_upto s t n (x ∷ xs) p within fewer (inr here) = inr (
    here.0,
    here.1,
    elim here.2 [
      | inl loose ↦ inl loose
      | inr directory ↦ inr (
        directory.0,
        fewer xs p (omega (arith, within)) directory.1,
        λ rest some. goes_upto s t n xs (p ++ 47 ∷ rest) (omega (arith, within)) fewer (directory.2 rest some),
      )
    ],
  )

  pub goes_more : (s t : Staying) (xs : List Leaving) (p : Path) → ((later : List Leaving) (q : Path) → s later q ≡ false → t later q ≡ false) → GoesBy s d old xs p → GoesBy t d old xs p
  goes_more s t xs p fewer goes = goes_upto s t (length xs) xs p (omega arith) (λ later q less is. fewer later q is) goes

  -- what goes although some directories stay goes where none does
  pub goes_alone : (s : Staying) (xs : List Leaving) (p : Path) → GoesBy s d old xs p → GoesBy none_stays d old xs p
  goes_alone s xs p goes = goes_more s none_stays xs p (λ later q is. refl) goes

  pub goes_later : (s : Staying) (a b : List Leaving) (p : Path) → GoesBy s d old b p → GoesBy s d old (a ++ b) p
  goes_later s [] b p goes = goes
  goes_later s (x ∷ a) b p goes = inl (goes_later s a b p goes)

  pub removing_later : (a b : List Leaving) (w : World) → IsRemovingBy d b old w → IsRemovingBy d (a ++ b) old w
  removing_later a b w amid = record {
    each = λ p. elim (amid.each p) [ inl same ↦ inl same | inr gone ↦ inr (goes_later none_stays a b p gone.0, gone.1) ];
    below = amid.below;
  }

  pub removed_none : (stays : Staying) → RemovedBy stays d [] old old
  removed_none stays = record { each = λ p. inr (λ goes. goes, refl) }

  pub unless_none : (declined : Path → Type 0) → RemovedUnless declined d [] old old
  unless_none declined = (none_stays, λ later p is. absurd (true≢false (sym is)), removed_none none_stays)

  -- below a path all goes that stood there: nothing is left
  nothing_below : (s : Staying) (xs : List Leaving) (w : World) → RemovedBy s d xs old w → (p : Path) → ((rest : List ℕ) → IsSome (old (p ++ 47 ∷ rest)) → GoesBy s d old xs (p ++ 47 ∷ rest)) → IsBare w p
  nothing_below s xs w so_far p below rest = elim (so_far.each (p ++ 47 ∷ rest)) [
    | inl gone ↦ gone.1
    | inr kept ↦ none_there (w (p ++ 47 ∷ rest)) (λ some. kept.0 (below rest (subst IsSome kept.1 some)))
  ]

  -- all goes that stood below a directory that goes
  directory_below : (s : Staying) (xs : List Leaving) (p : Path) → IsDirectory (old p) → GoesBy s d old xs p → (rest : List ℕ) → IsSome (old (p ++ 47 ∷ rest)) → GoesBy s d old xs (p ++ 47 ∷ rest)
  directory_below s [] p is goes rest some = absurd goes
  directory_below s (x ∷ xs) p is (inl later) rest some = inl (directory_below s xs p is later rest some)
  directory_below s (x ∷ xs) p is (inr here) rest some = inl (elim here.2 [ inl loose ↦ absurd (loose.1.1 is) | inr directory ↦ directory.2 rest some ])

  removed_bare : (s : Staying) (xs : List Leaving) (w : World) → RemovedBy s d xs old w → (p : Path) → IsDirectory (old p) → w p ≡ None → IsBare w p
  removed_bare s xs w so_far p is none = elim (so_far.each p) [
    | inl gone ↦ nothing_below s xs w so_far p (directory_below s xs p is gone.0)
    | inr kept ↦ absurd (none_stands (old p) (sym kept.1 ∙ none) (directory_stands (old p) is))
  ]

  pub removed_removing : (s : Staying) (xs : List Leaving) (w : World) → RemovedBy s d xs old w → IsRemovingBy d xs old w
  removed_removing s xs w removed = record {
    each = λ p. elim (removed.each p) [ inl gone ↦ inr (goes_alone s xs p gone.0, inl gone.1) | inr kept ↦ inl kept.1 ];
    below = removed_bare s xs w removed;
  }

  module _ (s : Staying) (x : Leaving) (xs : List Leaving) (w : World) (so_far : RemovedBy s d xs old w) where
    all_below : (p : Path) → IsBare w p → (rest : List ℕ) → IsSome (old (p ++ 47 ∷ rest)) → GoesBy s d old xs (p ++ 47 ∷ rest)
    all_below p bare rest some = elim (so_far.each (p ++ 47 ∷ rest)) [
      | inl gone ↦ gone.0
      | inr kept ↦ absurd (none_stands (w (p ++ 47 ∷ rest)) (bare rest) (subst IsSome (sym kept.1) some))
    ]

    -- what is still there and can be taken goes, and what goes and is still there can be taken
    goes_here : s xs x.place ≡ false → w x.place ≡ old x.place → IsTakable d w x → GoesBy s d old (x ∷ xs) x.place
    goes_here leaves kept can = inr (
      refl,
      can.0,
      elim can.1 [
        | inl loose ↦ inl (loose.0, subst IsLoose kept loose.1)
        | inr directory ↦ inr (subst IsDirectory kept directory.0, leaves, all_below x.place directory.1)
      ],
    )

    takable : w x.place ≡ old x.place → (GoesBy s d old xs x.place → ⊥) → GoesBy s d old (x ∷ xs) x.place → IsTakable d w x
    takable kept stays (inl later) = absurd (stays later)
    takable kept stays (inr here) = (
      here.1,
      elim here.2 [
        | inl loose ↦ inl (loose.0, subst IsLoose (sym kept) loose.1)
        | inr directory ↦ inr (subst IsDirectory (sym kept) directory.0, nothing_below s xs w so_far x.place directory.2)
      ],
    )

    -- what a visit leaves of the path itself
    abbrev Decided : (v : World) (p : Path) → Type 0
    Decided v p = (GoesBy s d old (x ∷ xs) p × (v p ≡ None)) ⊎ ((GoesBy s d old (x ∷ xs) p → ⊥) × (v p ≡ old p))

    at_taken : (v : World) → s xs x.place ≡ false → IsTakable d w x → v x.place ≡ None → Decided v x.place
    at_taken v leaves can none = elim (so_far.each x.place) [
      | inl gone ↦ inl (inl gone.0, none)
      | inr kept ↦ inl (goes_here leaves kept.1 can, none)
    ]

    at_left : (v : World) → v x.place ≡ w x.place → (IsTakable d w x → ⊥) → Decided v x.place
    at_left v same left = elim (so_far.each x.place) [
      | inl gone ↦ inl (inl gone.0, same ∙ gone.1)
      | inr kept ↦ inr (λ goes. left (takable kept.1 kept.0 goes), same ∙ kept.1)
    ]

    at_declined : (v : World) → s xs x.place ≡ true → v x.place ≡ w x.place → IsDirectory (w x.place) → Decided v x.place
    at_declined v stays same is = elim (so_far.each x.place) [
      | inl gone ↦ absurd (none_stands (w x.place) gone.1 (directory_stands (w x.place) is))
      | inr kept ↦ inr (
        λ goes. elim goes [
          | inl later ↦ kept.0 later
          | inr here ↦ elim here.2 [
            | inl loose ↦ loose.1.1 (subst IsDirectory kept.1 is)
            | inr directory ↦ true≢false (sym stays ∙ directory.1)
          ]
        ],
        same ∙ kept.1,
      )
    ]

    beside : (v : World) → ((q : Path) → q ≢ x.place → v q ≡ w q) → (p : Path) → p ≢ x.place → Decided v p
    beside v rest p ne = elim (so_far.each p) [
      | inl gone ↦ inl (inl gone.0, rest p ne ∙ gone.1)
      | inr kept ↦ inr (λ goes. elim goes [ inl later ↦ kept.0 later | inr here ↦ ne (sym here.0) ], rest p ne ∙ kept.1)
    ]

    decided_removed : (v : World) → Decided v x.place → ((q : Path) → q ≢ x.place → v q ≡ w q) → RemovedBy s d (x ∷ xs) old v
    decided_removed v place rest = record {
      each = λ p. elim (decide p x.place) [
        | inl e ↦ subst (Decided v) (sym e) place
        | inr ne ↦ beside v rest p ne
      ];
    }

  -- a directory stays, or doesn't, behind these later paths
  abbrev with_stay : Staying → List Leaving → Path → Bool → Staying
  with_stay s xs q b later p = cond (nat_eq (length later) (length xs)) (b && bytes_eq p q) (s later p)

  module _ (s : Staying) (x : Leaving) (xs : List Leaving) (b : Bool) where
    is_it : with_stay s xs x.place b xs x.place ≡ b
    is_it = ap (λ t. cond t (b && bytes_eq x.place x.place) (s xs x.place)) (eq-eqb (length xs) (length xs) refl) ∙ ap (λ t. b && t) ((bytes_eq-Decides x.place x.place).1 refl) ∙ alone b
      where
        alone : (c : Bool) → (c && true) ≡ c
        alone true = refl
        alone false = refl

    before_it : (later : List Leaving) (q : Path) → length later < length xs → with_stay s xs x.place b later q ≡ s later q
    before_it later q less = ap (λ t. cond t (b && bytes_eq q x.place) (s later q)) (false_from_ne_true (nat_eq (length later) (length xs)) (λ is. let e = eqb-true (length later) (length xs) is in absurd (omega (arith, less, e))))

    still_removed : (w : World) → RemovedBy s d xs old w → RemovedBy (with_stay s xs x.place b) d xs old w
    still_removed w so_far = record {
      each = λ p. elim (so_far.each p) [
        | inl gone ↦ inl (goes_upto s (with_stay s xs x.place b) (length xs) xs p (omega arith) (λ later q less is. before_it later q less ∙ is) gone.0, gone.1)
        | inr kept ↦ inr (λ goes. kept.0 (goes_upto (with_stay s xs x.place b) s (length xs) xs p (omega arith) (λ later q less is. sym (before_it later q less) ∙ is) goes), kept.1)
      ];
    }

    pick : (c e t : Bool) → cond c (b && e) t ≡ true → ((b ≡ true) × (e ≡ true)) ⊎ (t ≡ true)
    pick true e t is = both b e is
      where
        both : (b e : Bool) → (b && e) ≡ true → ((b ≡ true) × (e ≡ true)) ⊎ (t ≡ true)
        both true e is = inl (refl, is)
        both false e is = absurd (true≢false (sym is))
    pick false e t is = inr is

    staying : (declined : Path → Type 0) → (b ≡ true → declined x.place) → ((later : List Leaving) (p : Path) → s later p ≡ true → declined p) → (later : List Leaving) (p : Path) → with_stay s xs x.place b later p ≡ true → declined p
    staying declined here so later p is = elim (pick (nat_eq (length later) (length xs)) (bytes_eq p x.place) (s later p) is) [
      | inl both ↦ subst declined (sym ((bytes_eq-Decides p x.place).0 both.1)) (here both.0)
      | inr before ↦ so later p before
    ]

  module _ (first second declined : Path → Type 0) (x : Leaving) (xs : List Leaving) (w v : World) (wider : (p : Path) → first p → declined p) (further : (p : Path) → second p → declined p) where
    pub visited_removed : RemovedUnless first d xs old w → IsVisited second d x w v → RemovedUnless declined d (x ∷ xs) old v
    visited_removed so_far visited = elim visited.target [
      | inl taken ↦ (
        with_stay s xs x.place false,
        staying s x xs false declined (λ is. absurd (true≢false (sym is))) so,
        decided_removed (with_stay s xs x.place false) x xs w (now false) v (at_taken (with_stay s xs x.place false) x xs w (now false) v (is_it s x xs false) taken.0 taken.1) visited.rest,
      )
      | inr left ↦ elim left.1 [
        | inl not ↦ (
          with_stay s xs x.place false,
          staying s x xs false declined (λ is. absurd (true≢false (sym is))) so,
          decided_removed (with_stay s xs x.place false) x xs w (now false) v (at_left (with_stay s xs x.place false) x xs w (now false) v left.0 not) visited.rest,
        )
        | inr stays ↦ (
          with_stay s xs x.place true,
          staying s x xs true declined (λ is. further x.place stays.1) so,
          decided_removed (with_stay s xs x.place true) x xs w (now true) v (at_declined (with_stay s xs x.place true) x xs w (now true) v (is_it s x xs true) left.0 stays.0) visited.rest,
        )
      ]
    ]
      where
        s : Staying
        s = so_far.0

        so : (later : List Leaving) (p : Path) → s later p ≡ true → declined p
        so later p is = wider p (so_far.1 later p is)

        now : (b : Bool) → RemovedBy (with_stay s xs x.place b) d xs old w
        now b = still_removed s x xs b w so_far.2

  module _ (s : Staying) (x : Leaving) (xs : List Leaving) (w : World) (so_far : RemovedBy s d xs old w) (v : World) (visiting : IsVisiting d x w v) where
    -- what was gone is gone
    still_none : (q : Path) → w q ≡ None → v q ≡ None
    still_none q none = elim (decide q x.place) [
      | inl e ↦ ap v e ∙ elim visiting.target [
        | inl same ↦ same ∙ ap w (sym e) ∙ none
        | inr taken ↦ absurd (elim taken.0.1 [
          | inl loose ↦ none_stands (w x.place) (ap w (sym e) ∙ none) loose.1.0
          | inr directory ↦ none_stands (w x.place) (ap w (sym e) ∙ none) (directory_stands (w x.place) directory.0)
        ])
      ]
      | inr ne ↦ visiting.rest q ne ∙ none
    ]

    bare_below : (p : Path) → IsDirectory (old p) → v p ≡ None → IsBare v p
    bare_below p is none = elim (decide p x.place) [
      | inl e ↦ elim visiting.target [
        | inl same ↦ before p is (ap w e ∙ sym same ∙ ap v (sym e) ∙ none)
        | inr taken ↦ elim (so_far.each p) [
          | inl gone ↦ before p is gone.1
          | inr kept ↦ elim taken.0.1 [
            | inl loose ↦ absurd (loose.1.1 (subst IsDirectory (sym kept.1 ∙ ap w e) is))
            | inr directory ↦ λ rest. still_none (p ++ 47 ∷ rest) (ap (λ q. w (q ++ 47 ∷ rest)) e ∙ directory.1 rest)
          ]
        ]
      ]
      | inr ne ↦ before p is (sym (visiting.rest p ne) ∙ none)
    ]
      where
        before : (p : Path) → IsDirectory (old p) → w p ≡ None → IsBare v p
        before p is none rest = still_none (p ++ 47 ∷ rest) (removed_bare s xs w so_far p is none rest)

    as_before : (p : Path) → v p ≡ w p → (v p ≡ old p) ⊎ (GoesBy none_stays d old (x ∷ xs) p × IsGoing (old p) (v p))
    as_before p same = elim (so_far.each p) [
      | inl gone ↦ inr (inl (goes_alone s xs p gone.0), inl (same ∙ gone.1))
      | inr kept ↦ inl (same ∙ kept.1)
    ]

    taken_here : w x.place ≡ old x.place → IsTakable d w x → GoesBy none_stays d old (x ∷ xs) x.place
    taken_here kept can = inr (
      refl,
      can.0,
      elim can.1 [
        | inl loose ↦ inl (loose.0, subst IsLoose kept loose.1)
        | inr directory ↦ inr (subst IsDirectory kept directory.0, refl, λ rest some. goes_alone s xs (x.place ++ 47 ∷ rest) (all_below s x xs w so_far x.place directory.1 rest some))
      ],
    )

    at_place : (v x.place ≡ old x.place) ⊎ (GoesBy none_stays d old (x ∷ xs) x.place × IsGoing (old x.place) (v x.place))
    at_place = elim visiting.target [
      | inl same ↦ as_before x.place same
      | inr taken ↦ elim (so_far.each x.place) [
        | inl gone ↦ inr (inl (goes_alone s xs x.place gone.0), inl (still_none x.place gone.1))
        | inr kept ↦ inr (taken_here kept.1 taken.0, subst (λ n. IsGoing n (v x.place)) kept.1 taken.1)
      ]
    ]

    pub visiting_removing : IsRemovingBy d (x ∷ xs) old v
    visiting_removing = record {
      each = λ p. elim (decide p x.place) [
        | inl e ↦ subst (λ q. (v q ≡ old q) ⊎ (GoesBy none_stays d old (x ∷ xs) q × IsGoing (old q) (v q))) (sym e) at_place
        | inr ne ↦ as_before p (visiting.rest p ne)
      ];
      below = bare_below;
    }

-- the loop's next path, from the end
module _ (d : Bool) (leaving : List Leaving) (i : ℕ) (x : Leaving) (within : i < length leaving) (at : x ≡ get_or leaving i x) where
  rest_is : drop i leaving ≡ x ∷ drop (i + 1) leaving
  rest_is = drop-cons leaving i x within ∙ (λ j. sym at j ∷ drop (sym (add-one i) j) leaving)

  pub next_removed : (P Q : World → Type 0) (a b c : State) → Since (λ so_far. P) a b → Since (λ so_far. Q) b c → RemovedUnless (WasDenied a b) d (drop (i + 1) leaving) a.world b.world → IsVisited (WasDenied b c) d x b.world c.world → RemovedUnless (WasDenied a c) d (drop i leaving) a.world c.world
  next_removed P Q a b c first second so_far visited =
      subst (λ l. RemovedUnless (WasDenied a c) d l a.world c.world) (sym rest_is)
      (visited_removed d a.world (WasDenied a b) (WasDenied b c) (WasDenied a c) x (drop (i + 1) leaving) b.world c.world
      (λ p is. denied_first_since (λ so_far. Q) a b c p is second) (λ p is. denied_later_since (λ so_far. P) a b c p first is) so_far visited)

  pub next_moments : (declined : Path → Type 0) (old : World) (a b : State) → (IsTrue b.honest → RemovedUnless declined d (drop (i + 1) leaving) old a.world) → Since (λ so_far. IsVisiting d x a.world) a b → Since (λ so_far. IsRemovingBy d leaving old) a b
  next_moments declined old a b removed since = since_weaker_if _ _ a b (λ h so_far v visiting.
      subst (λ l. IsRemovingBy d l old v) (take-append-drop i leaving) (removing_later d old (take i leaving) (drop i leaving) v
      (subst (λ l. IsRemovingBy d l old v) (sym rest_is) (visiting_removing d old (removed h).0 x (drop (i + 1) leaving) a.world (removed h).2 v visiting)))) since

-- a step was declined behind what is removed already
module _ (d : Bool) (xs : List Leaving) (P Q : World → Type 0) (a b c : State) (first : Since (λ so_far. P) a b) (second : Since (λ so_far. Q) b c) (removed : IsTrue c.honest → RemovedUnless (WasDenied a b) d xs a.world b.world) where
  still_loose : IsTrue c.honest → (p : Path) → IsLoose (b.world p) → IsLoose (a.world p)
  still_loose h p loose = elim ((removed h).2.each p) [
    | inl gone ↦ absurd (none_stands (b.world p) gone.1 loose.0)
    | inr kept ↦ subst IsLoose kept.1 loose
  ]

  pub next_denied : LooseDenied d b c → LooseDenied d a c
  next_denied is = (is.0, λ h. let told = is.1 h in (told.0, still_loose h told.0 told.1, denied_later_since (λ so_far. P) a b c told.0 first told.2))

-- where it begins
module _ (d : Bool) (leaving : List Leaving) where
  pub start_removed : (n : ℕ) (a : State) → n ≡ length leaving → RemovedUnless (WasDenied a a) d (drop n leaving) a.world a.world
  start_removed n a is = subst (λ l. RemovedUnless (WasDenied a a) d l a.world a.world) (sym (ap (λ m. drop m leaving) is ∙ drop-length leaving)) (unless_none d a.world (WasDenied a a))

  pub removing_start : (w : World) → IsRemovingBy d leaving w w
  removing_start w = subst (λ l. IsRemovingBy d l w w) (append-nil leaving) (removing_later d w leaving [] w (removed_removing d w none_stays [] w (removed_none d w none_stays)))

  pub start_moments : (a : State) → Since (λ so_far. IsRemovingBy d leaving a.world) a a
  start_moments a = since_start _ a (removing_start a.world)
