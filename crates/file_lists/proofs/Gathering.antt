-- Owners, gathered from the spots that may have some.
use Rattle.std.proofs.Common.{◌≡◌, ◌≢◌, ◌⊎◌, ◌+◌, ◌<◌, ◌≤◌, inl, inr, ℕ, zero, suc, Bool, true, false, cond, List, [], ◌∷◌, ◌++◌, Some, None, Option, map, filter, take, length, get_or, refl, sym, ap, subst, ◌∙◌, arith, append_assoc, Contains}
use Rattle.std.proofs.Math.Nat.{eq-or-lt_of_le}
use Rattle.std.specs.List.{flat_map}
use Rattle.std.specs.Str.{bytes_eq}
use Rattle.std.specs.BTreeSet.{insert_key}
use Rattle.std.specs.Ordering.{match_ordering}
use Rattle.std.specs.declared.cmp.Ordering.{Ordering}
use Rattle.std.specs.declared.cmp.Ordering.TheVariants.{Less, Equal, Greater}
use Rattle.std.proofs.lemmas.Bool.{false≢true}
use Rattle.std.proofs.lemmas.List.{append-nil, take_all}
use Rattle.std.proofs.lemmas.Slice.Eq.{bytes_eq-Decides}
use Rattle.host_core.specs.Paths.{Path}
use Rattle.aliases.specs.Aliases.{Alias, resolved}
use Rattle.diversions.specs.declared.entry.Diversion.{Diversion}
use Rattle.diversions.specs.Entries.{entry_of}
use Rattle.diversions.specs.Places.{holds_for, target_for}
use Rattle.diversions.specs.Ways.{Ways, place, entry_at, or_else, diversion_of_place}
use Rattle.file_lists.specs.declared.paths.PackageList.{PackageList}
use Rattle.file_lists.specs.declared.paths.Listed.{Listed}
use Rattle.file_lists.specs.declared.spot.Spot.{Spot}
use Rattle.file_lists.specs.Owners.{listed, owners_of}
use Rattle.file_lists.specs.Index.{Keyed, row_of, spot_of, IsNumbered, StandsAt, IsComplete, AreKeys, owner_if, owners_by_path, owners_of_slot, owner_at, HasOwners, joined, IsFrom, IsGathering}

-- Which keys a place has.

-- the entry of a path, with the key of that path
abbrev IsEntryFor : Ways → Path → Diversion → Type 0
IsEntryFor ways path d = Contains ways.entries d × (resolved ways.aliases d.path ≡ resolved ways.aliases path)

earlier : (x : Diversion) (entries : List Diversion) (d : Diversion) → Contains entries d → Contains (x ∷ entries) d
earlier x entries d has = (suc has.0, omega (arith, has.1), has.2)

by_name : (aliases : List Alias) (entries : List Diversion) (path : Path) (d : Diversion) → entry_of entries path ≡ Some d → Contains entries d × (resolved aliases d.path ≡ resolved aliases path)
by_name aliases [] path d is = absurd (let e : None ≡ Some d = is in cc)
by_name aliases (x ∷ entries) path d is = at (bytes_eq path x.path) refl (by_name aliases entries path d) is
  where
    at : (b : Bool) → bytes_eq path x.path ≡ b → (entry_of entries path ≡ Some d → Contains entries d × (resolved aliases d.path ≡ resolved aliases path)) → cond b (Some x) (entry_of entries path) ≡ Some d
        → Contains (x ∷ entries) d × (resolved aliases d.path ≡ resolved aliases path)
    at true e rest some =
        let same : x ≡ d = let s : Some x ≡ Some d = some in cc in
        ((zero, omega arith, same), ap (λ (y : Diversion). resolved aliases y.path) (sym same) ∙ ap (resolved aliases) (sym ((bytes_eq-Decides path x.path).0 e)))
    at false e rest some = let found = rest some in (earlier x entries d found.0, found.1)

by_place : (aliases : List Alias) (entries : List Diversion) (at : Path) (d : Diversion) → entry_at aliases entries at ≡ Some d → Contains entries d × (resolved aliases d.path ≡ at)
by_place aliases [] at d is = absurd (let e : None ≡ Some d = is in cc)
by_place aliases (x ∷ entries) at d is = by (bytes_eq (resolved aliases x.path) at) refl (by_place aliases entries at d) is
  where
    by : (b : Bool) → bytes_eq (resolved aliases x.path) at ≡ b → (entry_at aliases entries at ≡ Some d → Contains entries d × (resolved aliases d.path ≡ at)) → cond b (Some x) (entry_at aliases entries at) ≡ Some d
        → Contains (x ∷ entries) d × (resolved aliases d.path ≡ at)
    by true e rest some =
        let same : x ≡ d = let s : Some x ≡ Some d = some in cc in
        ((zero, omega arith, same), ap (λ (y : Diversion). resolved aliases y.path) (sym same) ∙ (bytes_eq-Decides (resolved aliases x.path) at).0 e)
    by false e rest some = let found = rest some in (earlier x entries d found.0, found.1)

entry_for : (ways : Ways) (path : Path) (d : Diversion) → diversion_of_place ways path ≡ Some d → IsEntryFor ways path d
entry_for ways path d is = at (entry_of ways.entries path) refl is
  where
    at : (o : Option Diversion) → entry_of ways.entries path ≡ o → or_else o (entry_at ways.aliases ways.entries (resolved ways.aliases path)) ≡ Some d → IsEntryFor ways path d
    at (Some x) e some = by_name ways.aliases ways.entries path d (e ∙ some)
    at None e some = by_place ways.aliases ways.entries (resolved ways.aliases path) d some

are_keys : (ways : Ways) (at : Path) (keys : List Path) → Contains keys at → ((d : Diversion) → Contains ways.entries d → resolved ways.aliases d.target ≡ at → Contains keys (resolved ways.aliases d.path)) → AreKeys ways at keys
are_keys ways at keys first taken name path is = by (diversion_of_place ways path) refl is
  where
    by : (o : Option Diversion) → diversion_of_place ways path ≡ o → resolved ways.aliases (target_for o name path) ≡ at → Contains keys (resolved ways.aliases path)
    by None e same = subst (Contains keys) (sym same) first
    by (Some d) e same = held (holds_for d.owner name) same
      where
        held : (b : Bool) → resolved ways.aliases (cond b d.target path) ≡ at → Contains keys (resolved ways.aliases path)
        held true there = let found = entry_for ways path d e in subst (Contains keys) found.1 (taken d found.0 there)
        held false there = subst (Contains keys) (sym there) first

-- one more entry was looked at
pub key_more : (aliases : List Alias) (all before after : List Diversion) (d : Diversion) (at : Path) (old new : List Path) → before ≡ d ∷ after → ((e : Diversion) → Contains all e → Contains before e ⊎ (resolved aliases e.target ≡ at → Contains old (resolved aliases e.path)))
    → ((q : Path) → Contains old q → Contains new q) → (resolved aliases d.target ≡ at → Contains new (resolved aliases d.path)) → (e : Diversion) → Contains all e → Contains after e ⊎ (resolved aliases e.target ≡ at → Contains new (resolved aliases e.path))
key_more aliases all before after d at old new is taken kept here e has = elim (taken e has) [
  | inl left ↦ next (subst (λ l. Contains l e) is left)
  | inr t ↦ inr (λ same. kept (resolved aliases e.path) (t same))
]
  where
    next : Contains (d ∷ after) e → Contains after e ⊎ (resolved aliases e.target ≡ at → Contains new (resolved aliases e.path))
    next (zero, lt, same) = inr (subst (λ (x : Diversion). resolved aliases x.target ≡ at → Contains new (resolved aliases x.path)) same here)
    next (suc i, lt, same) = inl (i, omega (arith, lt), same)

-- all entries were looked at
pub keys_all : (ways : Ways) (left : List Diversion) (at : Path) (keys : List Path) → left ≡ [] → Contains keys at → ((d : Diversion) → Contains ways.entries d → Contains left d ⊎ (resolved ways.aliases d.target ≡ at → Contains keys (resolved ways.aliases d.path))) → AreKeys ways at keys
keys_all ways left at keys none first taken = are_keys ways at keys first (λ d has same. elim (taken d has) [
  | inl there ↦ absurd (let nothing = subst (λ (l : List Diversion). Contains l d) none there in omega (arith, nothing.1))
  | inr t ↦ t same
])

-- Lists one after another.

module _ {X : Type 0} (f : X → List Listed) (d : X) (none : f d ≡ []) where
  flat_next : (xs : List X) (k : ℕ) → flat_map f (take (suc k) xs) ≡ flat_map f (take k xs) ++ f (get_or xs k d)
  flat_next [] zero = sym none
  flat_next [] (suc k) = sym none
  flat_next (x ∷ xs) zero = append-nil (f x)
  flat_next (x ∷ xs) (suc k) = ap (λ (l : List Listed). f x ++ l) (flat_next xs k) ∙ sym (append_assoc (f x) (flat_map f (take k xs)) (f (get_or xs k d)))

  -- without anything between
  flat_skipped : (xs : List X) (k n : ℕ) → k ≤ n → ((i : ℕ) → k ≤ i → i < n → f (get_or xs i d) ≡ []) → flat_map f (take n xs) ≡ flat_map f (take k xs)
  flat_skipped xs k zero up empty = ap (λ (m : ℕ). flat_map f (take m xs)) (let e : zero ≡ k = omega (arith, up) in e)
  flat_skipped xs k (suc n) up empty = elim (eq-or-lt_of_le up) [
    | inl same ↦ ap (λ (m : ℕ). flat_map f (take m xs)) (sym same)
    | inr less ↦ (let below : k ≤ n = omega (arith, less) in
        flat_next xs n ∙ ap (λ (l : List Listed). flat_map f (take n xs) ++ l) (empty n below (omega arith)) ∙ append-nil (flat_map f (take n xs))
        ∙ flat_skipped xs k n below (λ i from to. empty i from (omega (arith, to))))
  ]

  -- without anything behind
  flat_ended : (xs : List X) (k : ℕ) → ((i : ℕ) → k ≤ i → f (get_or xs i d) ≡ []) → flat_map f xs ≡ flat_map f (take k xs)
  flat_ended xs k empty =
      ap (flat_map f) (sym (take_all (k + length xs) xs (omega arith))) ∙ flat_skipped xs k (k + length xs) (omega arith) (λ i from to. empty i from)

  flat_empty : (xs : List X) → ((i : ℕ) → f (get_or xs i d) ≡ []) → flat_map f xs ≡ []
  flat_empty xs empty = flat_ended xs zero (λ i from. empty i)

-- Rows of such lists.

abbrev pub Grid : Type 0
Grid = List (List (List Listed))

abbrev pub cell : Grid → Spot → List Listed
cell grid spot = get_or (get_or grid spot.list []) spot.path []

abbrev up_to : Grid → ℕ → ℕ → List Listed
up_to grid slot number = flat_map joined (take slot grid) ++ joined (take number (get_or grid slot []))

abbrev IsBefore : Spot → ℕ → ℕ → Type 0
IsBefore spot slot number = (spot.list < slot) ⊎ ((spot.list ≡ slot) × (spot.path < number))

abbrev itself : List Listed → List Listed
itself owners = owners

-- behind a spot its row has nothing
row_ended : (grid : Grid) (slot number n : ℕ) → slot < n → ((s : Spot) → IsFrom slot number s → s.list < n → cell grid s ≡ []) → flat_map joined (take n grid) ≡ up_to grid slot number
row_ended grid slot number n lt empty =
    flat_skipped joined [] refl grid (suc slot) n (omega (arith, lt)) (λ i from to. flat_empty itself [] refl (get_or grid i []) (λ k. empty (spot_of i k) (inl (omega (arith, from))) to))
    ∙ flat_next joined [] refl grid slot
    ∙ ap (λ (l : List Listed). flat_map joined (take slot grid) ++ l) (flat_ended itself [] refl (get_or grid slot []) number (λ k from. empty (spot_of slot k) (inr (refl, from)) lt))

-- nothing stands between two spots
between : (grid : Grid) (slot number : ℕ) (spot : Spot) → IsFrom slot number spot → ((s : Spot) → IsFrom slot number s → IsBefore s spot.list spot.path → cell grid s ≡ []) → up_to grid spot.list spot.path ≡ up_to grid slot number
between grid slot number spot (inl lt) empty =
    ap (λ (l : List Listed). flat_map joined (take spot.list grid) ++ l) (flat_skipped itself [] refl (get_or grid spot.list []) zero spot.path (omega arith) (λ k from to. empty (spot_of spot.list k) (inl lt) (inr (refl, to))))
    ∙ append-nil (flat_map joined (take spot.list grid))
    ∙ row_ended grid slot number spot.list lt (λ s from before. empty s from (inl before))
between grid slot number spot (inr (same, le)) empty =
    ap (λ (i : ℕ). up_to grid i spot.path) (sym same)
    ∙ ap (λ (l : List Listed). flat_map joined (take slot grid) ++ l) (flat_skipped itself [] refl (get_or grid slot []) number spot.path le (λ k from to. empty (spot_of slot k) (inr (refl, from)) (inr (same, to))))

-- one more
up_to_next : (grid : Grid) (spot : Spot) → up_to grid spot.list (suc spot.path) ≡ up_to grid spot.list spot.path ++ cell grid spot
up_to_next grid spot =
    ap (λ (l : List Listed). flat_map joined (take spot.list grid) ++ l) (flat_next itself [] refl (get_or grid spot.list []) spot.path)
    ∙ sym (append_assoc (flat_map joined (take spot.list grid)) (joined (take spot.path (get_or grid spot.list []))) (cell grid spot))

-- The owners, row by row.

abbrev pub grid_of : Ways → Path → List PackageList → Grid
grid_of ways at lists = map (owners_by_path ways at) lists

pub in_list : (ways : Ways) (at : Path) (name : List ℕ) (paths : List Path) → joined (map (owner_if ways at name) paths) ≡ map (listed name) (filter (λ path. bytes_eq (place ways name path) at) paths)
in_list ways at name [] = refl
in_list ways at name (p ∷ paths) = by (bytes_eq (place ways name p) at) (in_list ways at name paths)
  where
    by : (b : Bool) → joined (map (owner_if ways at name) paths) ≡ map (listed name) (filter (λ path. bytes_eq (place ways name path) at) paths)
        → cond b (listed name p ∷ []) [] ++ joined (map (owner_if ways at name) paths) ≡ map (listed name) (cond b (p ∷ filter (λ path. bytes_eq (place ways name path) at) paths) (filter (λ path. bytes_eq (place ways name path) at) paths))
    by true rest = ap (λ (l : List Listed). listed name p ∷ l) rest
    by false rest = rest

pub by_rows : (ways : Ways) (at : Path) (lists : List PackageList) → owners_of ways lists at ≡ flat_map joined (grid_of ways at lists)
by_rows ways at [] = refl
by_rows ways at (l ∷ lists) =
    ap (λ (x : List Listed). x ++ owners_of ways lists at) (sym (in_list ways at l.name l.paths)) ∙ ap (λ (x : List Listed). joined (owners_by_path ways at l) ++ x) (by_rows ways at lists)

pub gathering_start : (ways : Ways) (at : Path) (lists : List PackageList) (left : List Spot) → HasOwners ways at lists left → IsGathering ways at lists left []
gathering_start ways at lists left has = record {
  slot = zero;
  number = zero;
  so_far = refl;
  above = λ spot there. elim (zero_or spot.list) [ inl same ↦ inr (same, omega arith) | inr less ↦ inl less ];
  rest = λ spot from. has spot;
}
  where
    zero_or : (n : ℕ) → (zero ≡ n) ⊎ (zero < n)
    zero_or zero = inl refl
    zero_or (suc n) = inr (omega arith)

first_or_later : (spot s : Spot) (after : List Spot) → Contains (spot ∷ after) s → (spot ≡ s) ⊎ Contains after s
first_or_later spot s after (zero, lt, same) = inl same
first_or_later spot s after (suc i, lt, same) = inr (i, omega (arith, lt), same)

from_then : (slot number : ℕ) (spot s : Spot) → IsFrom slot number spot → IsFrom spot.list spot.path s → IsFrom slot number s
from_then slot number spot s (inl a) (inl b) = inl (omega (arith, a, b))
from_then slot number spot s (inl a) (inr b) = inl (omega (arith, a, b.0))
from_then slot number spot s (inr a) (inl b) = inl (omega (arith, a.0, b))
from_then slot number spot s (inr a) (inr b) = inr (a.0 ∙ b.0, omega (arith, a.1, b.1))

behind_from : (spot s : Spot) → IsFrom spot.list (suc spot.path) s → IsFrom spot.list spot.path s
behind_from spot s (inl a) = inl a
behind_from spot s (inr a) = inr (a.0, omega (arith, a.1))

not_behind_itself : (slot number : ℕ) → IsFrom slot (suc number) (spot_of slot number) → ⊥
not_behind_itself slot number (inl a) = omega (arith, a)
not_behind_itself slot number (inr a) = omega (arith, a.1)

not_both : (spot s : Spot) → IsFrom spot.list (suc spot.path) s → IsBefore s spot.list spot.path → ⊥
not_both spot s (inl a) (inl b) = omega (arith, a, b)
not_both spot s (inl a) (inr b) = omega (arith, a, b.0)
not_both spot s (inr a) (inl b) = omega (arith, a.0, b)
not_both spot s (inr a) (inr b) = omega (arith, a.1, b.1)

not_before_itself : (slot number : ℕ) → IsBefore (spot_of slot number) slot number → ⊥
not_before_itself slot number (inl a) = omega (arith, a)
not_before_itself slot number (inr a) = omega (arith, a.1)

-- the least spot that is left was looked at
pub gathering_more : (ways : Ways) (at : Path) (lists : List PackageList) (before after : List Spot) (spot : Spot) (old new : List Listed) → IsGathering ways at lists before old → before ≡ spot ∷ after → ((s : Spot) → Contains after s → IsFrom spot.list (suc spot.path) s)
    → new ≡ old ++ owner_at ways at lists spot → IsGathering ways at lists after new
gathering_more ways at lists before after spot old new so_far is behind more = record {
  slot = spot.list;
  number = suc spot.path;
  so_far = more ∙ ap (λ (x : List Listed). x ++ owner_at ways at lists spot) (so_far.so_far ∙ sym (between (grid_of ways at lists) so_far.slot so_far.number spot from none)) ∙ sym (up_to_next (grid_of ways at lists) spot);
  above = λ s has. behind s has;
  rest = λ s up. elim (so_far.rest s (from_then so_far.slot so_far.number spot s from (behind_from spot s up))) [
    | inl there ↦ elim (first_or_later spot s after (subst (λ (l : List Spot). Contains l s) is there)) [
      | inl same ↦ absurd (not_behind_itself spot.list spot.path (subst (IsFrom spot.list (suc spot.path)) (sym same) up))
      | inr later ↦ inl later
    ]
    | inr none_there ↦ inr none_there
  ];
}
  where
    from : IsFrom so_far.slot so_far.number spot
    from = so_far.above spot (subst (λ (l : List Spot). Contains l spot) (sym is) (zero, omega arith, refl))

    none : (s : Spot) → IsFrom so_far.slot so_far.number s → IsBefore s spot.list spot.path → owner_at ways at lists s ≡ []
    none s up small = elim (so_far.rest s up) [
      | inl there ↦ elim (first_or_later spot s after (subst (λ (l : List Spot). Contains l s) is there)) [
        | inl same ↦ absurd (not_before_itself spot.list spot.path (subst (λ (x : Spot). IsBefore x spot.list spot.path) (sym same) small))
        | inr later ↦ absurd (not_both spot s (behind s later) small)
      ]
      | inr nothing ↦ nothing
    ]

-- none is left
pub gathering_all : (ways : Ways) (at : Path) (lists : List PackageList) (left : List Spot) (owners : List Listed) → IsGathering ways at lists left owners → left ≡ [] → owners ≡ owners_of ways lists at
gathering_all ways at lists left owners so_far none =
    so_far.so_far
    ∙ sym (row_ended (grid_of ways at lists) so_far.slot so_far.number (suc so_far.slot + length lists) (omega arith) (λ s from to. empty s from))
    ∙ ap (flat_map joined) (take_all (suc so_far.slot + length lists) (grid_of ways at lists) (omega (arith, grid_length lists)))
    ∙ sym (by_rows ways at lists)
  where
    grid_length : (ls : List PackageList) → length (grid_of ways at ls) ≡ length ls
    grid_length [] = refl
    grid_length (l ∷ ls) = ap suc (grid_length ls)

    empty : (s : Spot) → IsFrom so_far.slot so_far.number s → owner_at ways at lists s ≡ []
    empty s from = elim (so_far.rest s from) [
      | inl there ↦ absurd (let nothing = subst (λ (l : List Spot). Contains l s) none there in omega (arith, nothing.1))
      | inr nothing ↦ nothing
    ]

-- Which spots may have owners.

pub record IsOwner (ways : Ways) (at : Path) (lists : List PackageList) (slot number : ℕ) : Type 0 where
  pub name : List ℕ
  pub path : Path
  pub stands : StandsAt lists slot number path
  pub lies : place ways name path ≡ at

no_owner : (k : ℕ) (x : Listed) (xs : List Listed) → get_or {A = List Listed} [] k [] ≡ x ∷ xs → ⊥
no_owner zero x xs is = let e : [] ≡ x ∷ xs = is in cc
no_owner (suc k) x xs is = let e : [] ≡ x ∷ xs = is in cc

owner_in_list : (ways : Ways) (at : Path) (name : List ℕ) (paths : List Path) (number : ℕ) (x : Listed) (xs : List Listed) → get_or (map (owner_if ways at name) paths) number [] ≡ x ∷ xs → (path : Path) × IsNumbered paths number path × (place ways name path ≡ at)
owner_in_list ways at name [] number x xs is = absurd (no_owner number x xs is)
owner_in_list ways at name (p ∷ paths) zero x xs is = by (bytes_eq (place ways name p) at) refl is
  where
    by : (b : Bool) → bytes_eq (place ways name p) at ≡ b → cond b (listed name p ∷ []) [] ≡ x ∷ xs → (path : Path) × IsNumbered (p ∷ paths) zero path × (place ways name path ≡ at)
    by true e some = (p, (omega arith, refl), (bytes_eq-Decides (place ways name p) at).0 e)
    by false e some = absurd (let n : [] ≡ x ∷ xs = some in cc)
owner_in_list ways at name (p ∷ paths) (suc number) x xs is =
    let found = owner_in_list ways at name paths number x xs is in (found.0, (omega (arith, found.1.0), found.1.1), found.2)

pub owner_stands : (ways : Ways) (at : Path) (lists : List PackageList) (slot number : ℕ) (x : Listed) (xs : List Listed) → get_or (owners_of_slot ways at lists slot) number [] ≡ x ∷ xs → IsOwner ways at lists slot number
owner_stands ways at [] slot number x xs is = absurd (no_list slot number is)
  where
    no_list : (i k : ℕ) → get_or (get_or {A = List (List Listed)} [] i []) k [] ≡ x ∷ xs → ⊥
    no_list zero k same = no_owner k x xs same
    no_list (suc i) k same = no_owner k x xs same
owner_stands ways at (l ∷ lists) zero number x xs is = let found = owner_in_list ways at l.name l.paths number x xs is in record { name = l.name; path = found.0; stands = found.1; lies = found.2 }
owner_stands ways at (l ∷ lists) (suc slot) number x xs is = let found = owner_stands ways at lists slot number x xs is in record { name = found.name; path = found.path; stands = found.stands; lies = found.lies }

-- by the index
pub has_owners : (ways : Ways) (at : Path) (keys : List Path) (index : Keyed) (lists : List PackageList) (spots : List Spot) → AreKeys ways at keys → index.aliases ≡ ways.aliases → IsComplete index lists
    → ((key : Path) (s : Spot) → Contains keys key → Contains (row_of index.rows key) s → Contains spots s) → HasOwners ways at lists spots
has_owners ways at keys index lists spots are same complete found spot = by (owner_at ways at lists spot) refl
  where
    by : (o : List Listed) → owner_at ways at lists spot ≡ o → Contains spots spot ⊎ (owner_at ways at lists spot ≡ [])
    by [] e = inr e
    by (x ∷ xs) e =
        let owner = owner_stands ways at lists spot.list spot.path x xs e in
        inl (found (resolved ways.aliases owner.path) spot (are owner.name owner.path owner.lies)
        (subst (λ (l : List Alias). Contains (row_of index.rows (resolved l owner.path)) spot) same (complete spot.list spot.path owner.path owner.stands)))

-- A set that one more came to.

module _ {K : Type 0} (cmp : K → K → Ordering) (exact : (a b : K) → cmp a b ≡ Equal → a ≡ b) where
  pub inserted : (keys : List K) (k : K) → Contains (insert_key cmp keys k) k
  inserted [] k = (zero, omega arith, refl)
  inserted (x ∷ keys) k = by (cmp k x) refl (inserted keys k)
    where
      by : (o : Ordering) → cmp k x ≡ o → Contains (insert_key cmp keys k) k → Contains (match_ordering o (k ∷ x ∷ keys) (x ∷ keys) (x ∷ insert_key cmp keys k)) k
      by Less e rest = (zero, omega arith, refl)
      by Equal e rest = (zero, omega arith, sym (exact k x e))
      by Greater e rest = (suc rest.0, omega (arith, rest.1), rest.2)

pub inserted_kept : {K : Type 0} (cmp : K → K → Ordering) (keys : List K) (k q : K) → Contains keys q → Contains (insert_key cmp keys k) q
inserted_kept cmp [] k q has = absurd (omega (arith, has.1))
inserted_kept cmp (x ∷ keys) k q has = by (cmp k x) has (inserted_kept cmp keys k q)
  where
    by : (o : Ordering) → Contains (x ∷ keys) q → (Contains keys q → Contains (insert_key cmp keys k) q) → Contains (match_ordering o (k ∷ x ∷ keys) (x ∷ keys) (x ∷ insert_key cmp keys k)) q
    by Less h rest = (suc h.0, omega (arith, h.1), h.2)
    by Equal h rest = h
    by Greater (zero, lt, same) rest = (zero, omega arith, same)
    by Greater (suc i, lt, same) rest = (let r = rest (i, omega (arith, lt), same) in (suc r.0, omega (arith, r.1), r.2))

-- a set without length
pub no_length : {K : Type 0} (keys : List K) → (0 < length keys → false ≡ true) → keys ≡ []
no_length [] none = refl
no_length (k ∷ keys) none = absurd (false≢true (none (omega arith)))
