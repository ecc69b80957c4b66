-- What a list says of the paths that go by it.
use Rattle.std.proofs.Common.{◌≡◌, ◌⊎◌, inl, inr, ℕ, zero, suc, Bool, true, false, List, [], ◌∷◌, ◌++◌, Option, Some, None, Contains, refl, sym, ap, subst, ◌∙◌, IsTrue, arith}
use Rattle.std.specs.Prelude.{IsSome}
use Rattle.std.proofs.lemmas.Bool.{true≢false}
use Rattle.std.proofs.lemmas.List.Elements.{Contains-append_right}
use Rattle.std.specs.Ordering.{nat_cmp, is_lt, ordering_then}
use Rattle.std.specs.Cmp.{nat_cmp_is}
use Rattle.std.specs.Cmp.Lexicographic.{slice_cmp}
use Rattle.std.specs.declared.cmp.Ordering.{Ordering}
use Rattle.std.specs.declared.cmp.Ordering.TheVariants.{Less, Equal, Greater}
use Rattle.host_core.specs.Paths.{Path}
use Rattle.host_core.specs.Tree.{IsBelow}
use Rattle.std.specs.Prelude.{◌&&◌}
use Rattle.host_core.specs.World.{World, IsBare, IsDirectory, is_directory, IsLoose, lowered}
use Rattle.host_core.specs.declared.node.Node.{Node}
use Rattle.host_core.specs.declared.node.Node.TheVariants.{File, Dir, Link}
use Rattle.host_core.proofs.Nodes.{some_or_none, directory_is, directory_stands, none_stands}
use Rattle.administration.proofs.Within.{directory_differs}
use Rattle.file_removal.specs.declared.leaving.Leaving.{Leaving}
use Rattle.file_removal.specs.Removal.{Staying, none_stays, GoesBy, RemovedBy, RemovedUnless, IsGoing, IsRemovingBy, IsSpared, AllAboveFirst, AreInOrder}
use Rattle.file_removal.proofs.Removing.{goes_more, goes_alone, removed_removing}
use Rattle.file_removal.proofs.Lowered.{lowered_some, lowered_loose, loose_lowered, lowered_directory, directory_lowered}

first_or_later : (x : Leaving) (xs : List Leaving) (y : Leaving) → Contains (x ∷ xs) y → (x ≡ y) ⊎ Contains xs y
first_or_later x xs y (zero, lt, same) = inl same
first_or_later x xs y (suc i, lt, same) = inr (i, omega (arith, lt), same)

first : (x : Leaving) (xs : List Leaving) → Contains (x ∷ xs) x
first x xs = (0, omega arith, refl)

loose_or_directory : (n : Option Node) → IsSome n → IsLoose n ⊎ IsDirectory n
loose_or_directory None some = absurd (true≢false (sym some))
loose_or_directory (Some (File b a)) some = inl (refl, λ is. true≢false (sym (directory_is (Some (File b a)) is)))
loose_or_directory (Some (Dir a)) some = inr (a, refl)
loose_or_directory (Some (Link t)) some = inl (refl, λ is. true≢false (sym (directory_is (Some (Link t)) is)))

module _ (s : Staying) (d : Bool) (old : World) where
  -- what goes stood at the place of a listed path that may go
  pub goes_listed : (xs : List Leaving) (p : Path) → GoesBy s d old xs p → IsSome (old p) × ((x : Leaving) × Contains xs x × IsTrue x.goes × (x.place ≡ p))
  goes_listed [] p goes = absurd goes
  goes_listed (x ∷ xs) p (inl later) = let more = goes_listed xs p later in (more.0, (more.1.0, Contains-append_right (x ∷ []) xs more.1.0 more.1.1, more.1.2, more.1.3))
  goes_listed (x ∷ xs) p (inr here) = (elim here.2 [ inl loose ↦ loose.1.0 | inr directory ↦ directory_stands (old p) directory.0 ], (x, first x xs, here.1, here.0))

  pub spared_stays : (xs : List Leaving) (new : World) (q : Path) → RemovedBy s d xs old new → IsSpared xs q → new q ≡ old q
  spared_stays xs new q removed spared = elim (removed.each q) [
    | inl gone ↦ let listed = (goes_listed xs q gone.0).1 in absurd (spared listed.0 listed.1 listed.2 listed.3)
    | inr kept ↦ kept.1
  ]

module _ (s : Staying) (old : World) where
  goes_directory : (xs : List Leaving) (p : Path) → GoesBy s true old xs p → IsDirectory (old p)
  goes_directory [] p goes = absurd goes
  goes_directory (x ∷ xs) p (inl later) = goes_directory xs p later
  goes_directory (x ∷ xs) p (inr here) = elim here.2 [ inl loose ↦ absurd (true≢false loose.0) | inr directory ↦ directory.0 ]

  pub loose_stays : (xs : List Leaving) (new : World) (q : Path) → RemovedBy s true xs old new → (IsDirectory (old q) → ⊥) → new q ≡ old q
  loose_stays xs new q removed loose = elim (removed.each q) [ inl gone ↦ absurd (loose (goes_directory xs q gone.0)) | inr kept ↦ kept.1 ]

  loose_goes : (xs : List Leaving) (x : Leaving) → Contains xs x → IsTrue x.goes → IsLoose (old x.place) → GoesBy s false old xs x.place
  loose_goes [] x has may loose = absurd (omega (arith, has.1))
  loose_goes (y ∷ xs) x has may loose = elim (first_or_later y xs x has) [
    | inl is ↦ inr (ap (λ z. z.place) is, subst (λ z. IsTrue z.goes) (sym is) may, inl (refl, loose))
    | inr later ↦ inl (loose_goes xs x later may loose)
  ]

  pub loose_gone : (xs : List Leaving) (new : World) (x : Leaving) → RemovedBy s false xs old new → Contains xs x → IsTrue x.goes → IsLoose (old x.place) → new x.place ≡ None
  loose_gone xs new x removed has may loose = elim (removed.each x.place) [ inl gone ↦ gone.1 | inr kept ↦ absurd (kept.0 (loose_goes xs x has may loose)) ]

-- where a directory is listed before what is below it, what goes by the whole list goes by its later paths, or is below none of them
module _ (s : Staying) (d : Bool) (whole : List Leaving) (old : World) where
  abbrev Reaches : List Leaving → Type 0
  Reaches xs = (q : Path) → GoesBy s d old whole q → GoesBy s d old xs q ⊎ ((y : Leaving) → Contains xs y → IsBelow y.place q → ⊥)

  reaches_later : (x : Leaving) (xs : List Leaving) → ((y : Leaving) → Contains xs y → IsBelow y.place x.place → ⊥) → Reaches (x ∷ xs) → Reaches xs
  reaches_later x xs above reaches q goes = elim (reaches q goes) [
    | inl by ↦ elim by [
      | inl later ↦ inl later
      | inr here ↦ inr (λ y has below. above y has (below.0, here.0 ∙ below.1))
    ]
    | inr apart ↦ inr (λ y has below. apart y (Contains-append_right (x ∷ []) xs y has) below)
  ]

  below_too : (x : Leaving) (xs : List Leaving) (rest : List ℕ) → Reaches (x ∷ xs) → GoesBy s d old whole (x.place ++ 47 ∷ rest) → GoesBy s d old xs (x.place ++ 47 ∷ rest)
  below_too x xs rest reaches goes = elim (reaches (x.place ++ 47 ∷ rest) goes) [
    | inl by ↦ elim by [ inl later ↦ later | inr here ↦ absurd (directory_differs x.place rest here.0) ]
    | inr apart ↦ absurd (apart x (first x xs) (rest, refl))
  ]

-- a removal came this far, where a directory is listed before what is below it
module _ (d : Bool) (whole : List Leaving) (old now : World) (amid : IsRemovingBy d whole old now) (s : Staying) where
  -- of the directories that stay those that still stand
  abbrev pub standing_stays : Staying
  standing_stays later p = is_directory (now p) && s later p

  stays_there : (later : List Leaving) (p : Path) → IsDirectory (now p) → standing_stays later p ≡ s later p
  stays_there later p is = ap (λ t. t && s later p) (directory_is (now p) is)

  stays_gone : (later : List Leaving) (p : Path) → now p ≡ None → standing_stays later p ≡ false
  stays_gone later p none = ap (λ n. is_directory n && s later p) none

  pub still_stays : (later : List Leaving) (p : Path) → standing_stays later p ≡ true → s later p ≡ true
  still_stays later p is = both (is_directory (now p)) (s later p) is
    where
      both : (a b : Bool) → (a && b) ≡ true → b ≡ true
      both true b is = is
      both false b is = absurd (true≢false (sym is))

  -- what still stands is as before, or lends no rights any more
  standing : (p : Path) → IsSome (now p) → (now p ≡ old p) ⊎ (now p ≡ lowered (old p))
  standing p some = elim (amid.each p) [
    | inl same ↦ inl same
    | inr going ↦ elim going.1 [ inl gone ↦ absurd (none_stands (now p) gone some) | inr low ↦ inr low ]
  ]

  loose_before : (p : Path) → IsLoose (now p) → IsLoose (old p)
  loose_before p loose = elim (standing p loose.0) [
    | inl same ↦ subst IsLoose same loose
    | inr low ↦ loose_lowered (old p) (subst IsLoose low loose)
  ]

  loose_still : (p : Path) → IsSome (now p) → IsLoose (old p) → IsLoose (now p)
  loose_still p some loose = elim (standing p some) [
    | inl same ↦ subst IsLoose (sym same) loose
    | inr low ↦ subst IsLoose (sym low) (lowered_loose (old p) loose)
  ]

  directory_before : (p : Path) → IsDirectory (now p) → IsDirectory (old p)
  directory_before p is = elim (standing p (directory_stands (now p) is)) [
    | inl same ↦ subst IsDirectory same is
    | inr low ↦ directory_lowered (old p) (subst IsDirectory low is)
  ]

  directory_still : (p : Path) → IsSome (now p) → IsDirectory (old p) → IsDirectory (now p)
  directory_still p some is = elim (standing p some) [
    | inl same ↦ subst IsDirectory (sym same) is
    | inr low ↦ subst IsDirectory (sym (low ∙ lowered_directory (old p) is)) is
  ]

  some_before : (p : Path) → IsSome (now p) → IsSome (old p)
  some_before p some = elim (amid.each p) [ inl same ↦ subst IsSome same some | inr going ↦ (goes_listed none_stays d old whole p going.0).0 ]

  -- what is gone already goes, whatever stays
  gone_goes : (xs : List Leaving) (p : Path) → now p ≡ None → GoesBy none_stays d old xs p → GoesBy standing_stays d old xs p
  gone_goes [] p none goes = goes
  gone_goes (x ∷ xs) p none (inl later) = inl (gone_goes xs p none later)
  gone_goes (x ∷ xs) p none (inr here) = inr (
    here.0,
    here.1,
    elim here.2 [
      | inl loose ↦ inl loose
      | inr directory ↦ inr (
        directory.0,
        stays_gone xs p none,
        λ rest some. gone_goes xs (p ++ 47 ∷ rest) (amid.below p directory.0 none rest) (directory.2 rest some),
      )
    ],
  )

  -- what goes now went before, and what went before is gone or goes now
  went : (xs : List Leaving) → AllAboveFirst xs → Reaches none_stays d whole old xs → (p : Path) → GoesBy s d now xs p → GoesBy standing_stays d old xs p
  went [] order reaches p goes = absurd goes
  went (x ∷ xs) order reaches p (inl later) = inl (went xs order.1 (reaches_later none_stays d whole old x xs order.0 reaches) p later)
  went (x ∷ xs) order reaches p (inr here) = inr (
    here.0,
    here.1,
    elim here.2 [
      | inl loose ↦ inl (loose.0, loose_before p loose.1)
      | inr directory ↦ inr (
        directory_before p directory.0,
        stays_there xs p directory.0 ∙ directory.1,
        λ rest some.
            elim (some_or_none (now (p ++ 47 ∷ rest))) [
              | inl none ↦ elim (amid.each (p ++ 47 ∷ rest)) [
                | inl same ↦ absurd (none_stands (old (p ++ 47 ∷ rest)) (sym same ∙ none) some)
                | inr going ↦ gone_goes xs (p ++ 47 ∷ rest) none (subst (λ r. GoesBy none_stays d old xs (r ++ 47 ∷ rest)) here.0 (below_too none_stays d whole old x xs rest reaches (subst (λ r. GoesBy none_stays d old whole (r ++ 47 ∷ rest)) (sym here.0) going.0)))
              ]
              | inr there ↦ went xs order.1 (reaches_later none_stays d whole old x xs order.0 reaches) (p ++ 47 ∷ rest) (directory.2 rest there)
            ],
      )
    ],
  )

  goes_still : (xs : List Leaving) (p : Path) → IsSome (now p) → GoesBy standing_stays d old xs p → GoesBy s d now xs p
  goes_still [] p some goes = absurd goes
  goes_still (x ∷ xs) p some (inl later) = inl (goes_still xs p some later)
  goes_still (x ∷ xs) p some (inr here) = inr (
    here.0,
    here.1,
    elim here.2 [
      | inl loose ↦ inl (loose.0, loose_still p some loose.1)
      | inr directory ↦ inr (
        directory_still p some directory.0,
        sym (stays_there xs p (directory_still p some directory.0)) ∙ directory.1,
        λ rest there. goes_still xs (p ++ 47 ∷ rest) there (directory.2 rest (some_before (p ++ 47 ∷ rest) there)),
      )
    ],
  )

  -- a file that may go goes, whatever stays
  lowered_goes : (xs : List Leaving) (p : Path) → IsLoose (old p) → GoesBy none_stays d old xs p → GoesBy standing_stays d old xs p
  lowered_goes [] p loose goes = goes
  lowered_goes (x ∷ xs) p loose (inl later) = inl (lowered_goes xs p loose later)
  lowered_goes (x ∷ xs) p loose (inr here) = inr (here.0, here.1, elim here.2 [ inl may ↦ inl may | inr directory ↦ absurd (loose.1 directory.0) ])

  pub starts_with_all : Reaches none_stays d whole old whole
  starts_with_all q goes = inl goes

  pub went_before : AllAboveFirst whole → (p : Path) → GoesBy s d now whole p → GoesBy standing_stays d old whole p
  went_before order p goes = went whole order starts_with_all p goes

  module _ (new : World) (order : AllAboveFirst whole) (more : RemovedBy s d whole now new) where
    kept_here : (p : Path) → (GoesBy s d now whole p → ⊥) → new p ≡ now p → now p ≡ old p → (GoesBy standing_stays d old whole p × (new p ≡ None)) ⊎ ((GoesBy standing_stays d old whole p → ⊥) × (new p ≡ old p))
    kept_here p not kept same = inr (λ goes. not (goes_still whole p (subst IsSome (sym same) (goes_listed standing_stays d old whole p goes).0) goes), kept ∙ same)

    going_here : (p : Path) → (GoesBy s d now whole p → ⊥) → new p ≡ now p → GoesBy none_stays d old whole p → IsGoing (old p) (now p) → (GoesBy standing_stays d old whole p × (new p ≡ None)) ⊎ ((GoesBy standing_stays d old whole p → ⊥) × (new p ≡ old p))
    going_here p not kept goes (inl gone) = inl (gone_goes whole p gone goes, kept ∙ gone)
    going_here p not kept goes (inr low) = elim (loose_or_directory (old p) (goes_listed none_stays d old whole p goes).0) [
      | inl loose ↦ absurd (not (goes_still whole p (subst IsSome (sym low) (lowered_some (old p) loose.0)) (lowered_goes whole p loose goes)))
      | inr directory ↦ kept_here p not kept (low ∙ lowered_directory (old p) directory)
    ]

    pub finishes : RemovedBy standing_stays d whole old new
    finishes = record {
      each = λ p. elim (more.each p) [
        | inl gone ↦ inl (went_before order p gone.0, gone.1)
        | inr kept ↦ elim (amid.each p) [
          | inl same ↦ kept_here p kept.0 kept.1 same
          | inr going ↦ going_here p kept.0 kept.1 going.0 going.1
        ]
      ];
    }

-- where more was declined the same is said
pub unless_wider : (declined more : Path → Type 0) (d : Bool) (xs : List Leaving) (old new : World) → ((p : Path) → declined p → more p) → RemovedUnless declined d xs old new → RemovedUnless more d xs old new
unless_wider declined more d xs old new wide removed = (removed.0, λ later p is. wide p (removed.1 later p is), removed.2)

pub finishes_unless : (declined : Path → Type 0) (d : Bool) (whole : List Leaving) (old now new : World) → AllAboveFirst whole → IsRemovingBy d whole old now → RemovedUnless declined d whole now new → RemovedUnless declined d whole old new
finishes_unless declined d whole old now new order amid more = (
  standing_stays d whole old now amid more.0,
  λ later p is. more.1 later p (still_stays d whole old now amid more.0 later p is),
  finishes d whole old now amid more.0 new order more.2,
)

module _ (s : Staying) (d : Bool) (whole : List Leaving) (old new : World) (removed : RemovedBy s d whole old new) where
  emptied : (xs : List Leaving) → AllAboveFirst xs → Reaches s d whole old xs → (x : Leaving) → Contains xs x → IsTrue x.goes → ((later : List Leaving) → s later x.place ≡ false) → IsDirectory (old x.place) → IsBare new x.place → GoesBy s d old xs x.place
  emptied [] order reaches x has may leaves is bare = absurd (omega (arith, has.1))
  emptied (y ∷ ys) order reaches x has may leaves is bare = elim (first_or_later y ys x has) [
    | inl same ↦ inr (
      ap (λ z. z.place) same,
      subst (λ z. IsTrue z.goes) (sym same) may,
      inr (
        is,
        leaves ys,
        λ rest some. elim (removed.each (x.place ++ 47 ∷ rest)) [
          | inl gone ↦ below_too s d whole old x ys rest (subst (λ z. Reaches s d whole old (z ∷ ys)) same reaches) gone.0
          | inr kept ↦ absurd (none_stands (new (x.place ++ 47 ∷ rest)) (bare rest) (subst IsSome (sym kept.1) some))
        ],
      ),
    )
    | inr later ↦ inl (emptied ys order.1 (reaches_later s d whole old y ys order.0 reaches) x later may leaves is bare)
  ]

  pub empty_gone : AllAboveFirst whole → (x : Leaving) → Contains whole x → IsTrue x.goes → ((later : List Leaving) → s later x.place ≡ false) → IsDirectory (old x.place) → IsBare new x.place → new x.place ≡ None
  empty_gone order x has may leaves is bare = elim (removed.each x.place) [
    | inl gone ↦ gone.1
    | inr kept ↦ absurd (kept.0 (emptied whole order (λ q goes. inl goes) x has may leaves is bare))
  ]

  -- the old world decides what is left
  pub once : (other : World) (q : Path) → RemovedBy s d whole old other → other q ≡ new q
  once other q also = elim (removed.each q) [
    | inl gone ↦ elim (also.each q) [ inl too ↦ too.1 ∙ sym gone.1 | inr kept ↦ absurd (kept.0 gone.0) ]
    | inr kept ↦ elim (also.each q) [ inl gone ↦ absurd (kept.0 gone.0) | inr too ↦ too.1 ∙ sym kept.1 ]
  ]

-- where no directory stayed nothing more goes
pub done : (s : Staying) (d : Bool) (whole : List Leaving) (old new newer : World) (q : Path) → AllAboveFirst whole → RemovedBy none_stays d whole old new → RemovedBy s d whole new newer → newer q ≡ new q
done s d whole old new newer q order removed second = elim (second.each q) [
  | inl gone ↦ elim (removed.each q) [
    | inl went ↦ absurd (none_stands (new q) went.1 (goes_listed s d new whole q gone.0).0)
    | inr kept ↦ absurd (kept.0 (goes_alone d old (standing_stays d whole old new amid s) whole q (went_before d whole old new amid s order q gone.0)))
  ]
  | inr kept ↦ kept.1
]
  where
    amid : IsRemovingBy d whole old new
    amid = removed_removing d old none_stays whole new removed

-- in the order of bytes a path stands before what is below it

behind : (top rest : Path) → slice_cmp nat_cmp (top ++ 47 ∷ rest) top ≡ Greater
behind [] rest = refl
behind (b ∷ top) rest = ap (λ o. ordering_then o (slice_cmp nat_cmp (top ++ 47 ∷ rest) top)) (sym (nat_cmp_is b b Equal refl)) ∙ behind top rest

less_greater : (o : Ordering) → o ≡ Less → o ≡ Greater → ⊥
less_greater o less greater = true≢false (sym (ap is_lt less) ∙ ap is_lt greater)

pub in_order : (xs : List Leaving) → AreInOrder xs → AllAboveFirst xs
in_order [] order = tt
in_order (x ∷ xs) order = (
  λ y has below.
      less_greater (slice_cmp nat_cmp x.place y.place) (order.0 y has) (ap (λ p. slice_cmp nat_cmp p y.place) below.1 ∙ behind y.place below.0),
  in_order xs order.1,
)
