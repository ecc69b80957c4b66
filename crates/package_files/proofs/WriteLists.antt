-- Shipped paths are prepared one after another: what each leaves of those before and after it.
use Rattle.std.proofs.Common.{◌≡◌, ◌⊎◌, ℕ, ◌+◌, ◌<◌, Bool, true, false, IsTrue, List, [], ◌∷◌, ◌++◌, length, get_or, take, drop, Option, Some, None, inl, inr, refl, sym, ap, subst, ◌∙◌, arith}
use Rattle.std.proofs.lemmas.Bool.{true≢false}
use Rattle.std.proofs.lemmas.List.{append-nil, length-append, take-append-drop, take_more}
use Rattle.std.proofs.Math.Seq.{drop-cons}
use Rattle.std.proofs.Math.Numerals.{add-one}
use Rattle.std.specs.Ordering.{is_lt, nat_cmp}
use Rattle.std.specs.Cmp.Lexicographic.{slice_cmp}
use Rattle.host_core.specs.Paths.{Path}
use Rattle.host_core.specs.World.{World, IsDirectory, HasParent, is_directory}
use Rattle.host_core.specs.declared.node.Access.{Access}
use Rattle.host_core.specs.declared.node.Node.{Node}
use Rattle.host_core.specs.declared.node.Node.TheVariants.{File, Dir, Link}
use Rattle.host_core.proofs.Paths.{decide}
use Rattle.package_files.specs.declared.work.Work.{Work}
use Rattle.package_files.specs.Files.{is_written, cleared, shown, saved, Each, Misses, HasWritten, IsWhole, before, IsAmid}
use Rattle.package_files.specs.Free.{IsFree, IsFreeIn, IsSeen}
use Rattle.package_files.specs.Laid.{is_exchanged, IsLaid, HasPrepared, Prepared}
use Rattle.package_files.specs.Names.{IsNamed, IsBefore, AllInOrder, HasMaker, IsHomed}
use Rattle.package_files.specs.Apart.{Differ}
use Rattle.package_files.proofs.WorkNames.{below_is, never, IsNotBelow}
use Rattle.package_files.proofs.WorkLists.{each_map, each_front, each_later, each_join, order_later, order_across, differ_later, differ_earlier, differ_back, Agree, free_agree, agree_by, agree_all}
use Rattle.package_files.proofs.Written.{keeps_directory, whole_agree}
use Rattle.package_files.proofs.Laid.{directory_stands_out, exchanged_free, prepared_laid, prepared_written, prepared_whole, prepared_old, prepared_new}

-- a directory stays while works are written

cleared_keeps : (o : Option Node) → IsDirectory o → cleared o ≡ o
cleared_keeps o dir = ap cleared dir.1 ∙ sym dir.1

shown_keeps : (n : Node) (o : Option Node) → IsDirectory o → shown (is_written n o) n o ≡ o
shown_keeps n o dir = ap (λ a. shown a n o) (keeps_directory n o dir)

node_number : Option Node → ℕ
node_number None = 0
node_number (Some (File b m)) = 1
node_number (Some (Dir m)) = 2
node_number (Some (Link t)) = 3

no_dir : (k : Option Node) → cleared k ≡ None → IsDirectory k → ⊥
unfolding node_number
no_dir k free dir = omega (arith, ap node_number (sym (ap cleared dir.1) ∙ free))

saved_keeps : (n : Node) (had kept fresh : Option Node) → IsFree n had kept fresh → IsDirectory kept → saved (is_written n had) had kept ≡ kept
saved_keeps (Dir m) None kept fresh free dir = cleared_keeps kept dir
saved_keeps (Dir m) (Some (File c k)) kept fresh free dir = absurd (no_dir kept free dir)
saved_keeps (Dir m) (Some (Dir k)) kept fresh free dir = cleared_keeps kept dir
saved_keeps (Dir m) (Some (Link l)) kept fresh free dir = cleared_keeps kept dir
saved_keeps (File c m) None kept fresh free dir = absurd (no_dir kept free.0 dir)
saved_keeps (File c m) (Some (File d k)) kept fresh free dir = absurd (no_dir kept free.0 dir)
saved_keeps (File c m) (Some (Dir k)) kept fresh free dir = absurd free
saved_keeps (File c m) (Some (Link l)) kept fresh free dir = absurd (no_dir kept free.0 dir)
saved_keeps (Link c) None kept fresh free dir = absurd (no_dir kept free.0 dir)
saved_keeps (Link c) (Some (File d k)) kept fresh free dir = absurd (no_dir kept free.0 dir)
saved_keeps (Link c) (Some (Dir k)) kept fresh free dir = cleared_keeps kept dir
saved_keeps (Link c) (Some (Link l)) kept fresh free dir = absurd (no_dir kept free.0 dir)

written_keeps : (x : Work) (w v : World) (q : Path) → HasWritten w v x → IsFreeIn w x → IsDirectory (w q) → (v q ≡ w q) ⊎ Misses x q
written_keeps x w v q has free dir = elim (decide q x.target) [
  | inl e ↦ inl (ap v e ∙ has.target ∙ shown_keeps x.node (w x.target) (subst (λ p. IsDirectory (w p)) e dir) ∙ ap w (sym e))
  | inr ne_t ↦ elim (decide q x.backup) [
    | inl e ↦ inl (ap v e ∙ has.backup ∙ saved_keeps x.node (w x.target) (w x.backup) (w x.fresh) free (subst (λ p. IsDirectory (w p)) e dir) ∙ ap w (sym e))
    | inr ne_b ↦ elim (decide q x.fresh) [
      | inl e ↦ inl (ap v e ∙ has.fresh ∙ cleared_keeps (w x.fresh) (subst (λ p. IsDirectory (w p)) e dir) ∙ ap w (sym e))
      | inr ne_f ↦ inr record { target = ne_t; backup = ne_b; fresh = ne_f }
    ]
  ]
]

laid_keeps : (x : Work) (w v : World) (q : Path) → IsLaid w v x → (cleared (w x.backup) ≡ None) × (cleared (w x.fresh) ≡ None) → IsDirectory (w q) → (v q ≡ w q) ⊎ Misses x q
laid_keeps x w v q has free dir = elim (decide q x.target) [
  | inl e ↦ inl (ap v e ∙ has.target ∙ ap w (sym e))
  | inr ne_t ↦ elim (decide q x.backup) [
    | inl e ↦ absurd (no_dir (w x.backup) free.0 (subst (λ p. IsDirectory (w p)) e dir))
    | inr ne_b ↦ elim (decide q x.fresh) [
      | inl e ↦ absurd (no_dir (w x.fresh) free.1 (subst (λ p. IsDirectory (w p)) e dir))
      | inr ne_f ↦ inr record { target = ne_t; backup = ne_b; fresh = ne_f }
    ]
  ]
]

-- at a name of a work, or the work misses it
stays_at : (x : Work) (w v : World) (q : Path) → HasPrepared w v x → IsFreeIn w x → IsSeen w x → IsDirectory (w q) → (v q ≡ w q) ⊎ Misses x q
stays_at x w v q has free seen dir = by (is_exchanged x.node x.had) refl where
  by : (b : Bool) → is_exchanged x.node x.had ≡ b → (v q ≡ w q) ⊎ Misses x q
  by true is = laid_keeps x w v q (prepared_laid w v x is has) (exchanged_free w x seen is free) dir
  by false is = written_keeps x w v q (prepared_written w v x is has) free dir

stays_in : (xs : List Work) (w v : World) (q : Path) → Each (HasPrepared w v) xs → Each (IsFreeIn w) xs → Each (IsSeen w) xs → IsDirectory (w q) → (v q ≡ w q) ⊎ Each (λ x. Misses x q) xs
stays_in [] w v q has free seen dir = inr tt
stays_in (x ∷ xs) w v q has free seen dir = elim (stays_at x w v q has.0 free.0 seen.0 dir) [
  | inl e ↦ inl e
  | inr miss ↦ elim (stays_in xs w v q has.1 free.1 seen.1 dir) [
    | inl e ↦ inl e
    | inr others ↦ inr (miss, others)
  ]
]

pub directory_stays : (xs : List Work) (w v : World) (q : Path) → Prepared xs w v → Each (IsFreeIn w) xs → Each (IsSeen w) xs → IsDirectory (w q) → v q ≡ w q
directory_stays xs w v q prepared free seen dir = elim (stays_in xs w v q prepared.each free seen dir) [ inl e ↦ e | inr misses ↦ prepared.rest q misses ]

-- the parent of a place is there, or one of the earlier works made it

-- none of the later paths makes the parent of an earlier
not_made : (x : Work) (xs : List Work) (w : World) (front name : Path) → x.place ≡ front ++ 47 ∷ name → Each IsNamed xs → Each (IsBefore x) xs → HasMaker xs w front → ⊥
not_made x [] w front name is named less maker = maker
not_made x (y ∷ ys) w front name is named less (inl m) =
    let b = below_is x y x.place name named.0 record { kind = None; is = sym (append-nil x.place) } (is ∙ ap (λ (l : Path). l ++ 47 ∷ name) (sym m.0)) in
    true≢false (sym less.0 ∙ ap (λ p. is_lt (slice_cmp nat_cmp p y.place)) b.2 ∙ never y.place b.0)
not_made x (y ∷ ys) w front name is named less (inr m) = not_made x ys w front name is named.1 less.1 m

not_itself : (x : Work) (front name : Path) → IsNamed x → x.place ≡ front ++ 47 ∷ name → x.target ≡ front → ⊥
not_itself x front name named is e =
    let b = below_is x x x.place name named record { kind = None; is = sym (append-nil x.place) } (is ∙ ap (λ (l : Path). l ++ 47 ∷ name) (sym e)) in
    omega (arith, ap length b.2, length-append x.place b.0, b.1)

-- a directory that is made stands
made_stands : (y : Work) (w v : World) → ((access : Access) × (y.node ≡ Dir access)) → IsTrue (is_written y.node (w y.target)) → HasPrepared w v y → IsDirectory (v y.target)
made_stands y w v made wrote has =
    let written = prepared_written w v y (directory_stands_out y.node y.had (ap (λ n. is_directory (Some n)) made.1)) has in
    (made.0, written.target ∙ ap (λ t. shown t y.node (w y.target)) wrote ∙ ap Some made.1)

maker_of : (a b : List Work) (w v : World) (front : Path) → Each (HasPrepared w v) a → HasMaker (a ++ b) w front → IsDirectory (v front) ⊎ HasMaker b w front
maker_of [] b w v front has maker = inr maker
maker_of (y ∷ a) b w v front has (inl m) = inl (subst (λ p. IsDirectory (v p)) m.0 (made_stands y w v m.1 m.2 has.0))
maker_of (y ∷ a) b w v front has (inr m) = maker_of a b w v front has.1 m

module _ (a : List Work) (x : Work) (b : List Work) (named : Each IsNamed (a ++ x ∷ b)) (order : AllInOrder (a ++ x ∷ b)) where
  named_a : Each IsNamed a
  named_a = each_front IsNamed a (x ∷ b) named

  named_b : Each IsNamed (x ∷ b)
  named_b = each_later IsNamed a (x ∷ b) named

  order_b : AllInOrder (x ∷ b)
  order_b = order_later a (x ∷ b) order

  across : Each (λ z. Each (λ y. IsBefore y z) a) (x ∷ b)
  across = order_across a (x ∷ b) order

  pub earlier : Each (λ y. Differ y x) a
  earlier = differ_earlier a x named_a named_b.0 across.0

  pub later : Each (λ y. Differ x y × IsNotBelow x y) b
  later = differ_later x b named_b.0 named_b.1 order_b.0

  module _ (w v : World) (prepared : Prepared a w v) where
    pub agree_at : Agree v w x
    agree_at = agree_all v w x a prepared.rest earlier

    pub free_at : IsFreeIn w x → IsFreeIn v x
    free_at free = free_agree v w x agree_at free

    pub home_at : Each (IsFreeIn w) a → Each (IsSeen w) a → IsHomed (a ++ x ∷ b) w x → HasParent v x.place
    home_at free seen homed = (homed.0, homed.1, homed.2, homed.3, by homed.4) where
      by_maker : IsDirectory (v homed.0) ⊎ HasMaker (x ∷ b) w homed.0 → IsDirectory (v homed.0)
      by_maker (inl dir) = dir
      by_maker (inr (inl m)) = absurd (not_itself x homed.0 homed.1 named_b.0 homed.2 m.0)
      by_maker (inr (inr m)) = absurd (not_made x b w homed.0 homed.1 homed.2 named_b.1 order_b.0 m)

      by : (IsDirectory (w homed.0) ⊎ HasMaker (a ++ x ∷ b) w homed.0) → IsDirectory (v homed.0)
      by (inl dir) = (dir.0, directory_stays a w v homed.0 prepared free seen dir ∙ dir.1)
      by (inr maker) = by_maker (maker_of a (x ∷ b) w v homed.0 prepared.each maker)

    -- one path more
    pub prepared_more : (u : World) → Prepared (x ∷ []) v u → Prepared (a ++ x ∷ []) w u
    prepared_more u one =
        let same : (q : Path) → Misses x q → u q ≡ v q = λ q miss. one.rest q (miss, tt) in
        record {
          each = each_join (HasPrepared w u) a (x ∷ [])
              (each_map (λ y. Differ y x) (HasPrepared w v) (HasPrepared w u) (λ y d has. prepared_new w v u y (agree_by u v x y same (differ_back y x d)) has) a earlier prepared.each)
              (prepared_old v w u x agree_at one.each.0, tt);
          rest = λ q misses. one.rest q (each_later (λ y. Misses y q) a (x ∷ []) misses) ∙ prepared.rest q (each_front (λ y. Misses y q) a (x ∷ []) misses);
        }

    -- while it is prepared
    pub amid_more : (c : World) → IsAmid (x ∷ []) v v c → IsAmid (a ++ x ∷ b) w w c
    amid_more c amid =
        let same : (q : Path) → Misses x q → c q ≡ v q = λ q miss. amid.rest q (miss, tt) in
        record {
          each = each_join (IsWhole w c) a (x ∷ b)
              (each_map (λ y. Differ y x) (HasPrepared w v) (IsWhole w c) (λ y d has. prepared_whole w c y (prepared_new w v c y (agree_by c v x y same (differ_back y x d)) has)) a earlier prepared.each) (
                whole_agree v w c x agree_at amid.each.0,
                each_map (λ z. Differ x z × IsNotBelow x z) (λ z. Each (λ y. Differ y z) a) (IsWhole w c) (λ z d before_z. before (same z.target d.0.target ∙ (agree_all v w z a prepared.rest before_z).target)) b later
                    (each_map IsNamed (λ z. Each (λ y. IsBefore y z) a) (λ z. Each (λ y. Differ y z) a) (λ z name less. differ_earlier a z named_a name less) b named_b.1 across.1),
              );
          rest = λ q misses. amid.rest q ((each_later (λ y. Misses y q) a (x ∷ b) misses).0, tt) ∙ prepared.rest q (each_front (λ y. Misses y q) a (x ∷ b) misses);
        }

-- the place of an index in a list

module _ (works : List Work) (i : ℕ) (x : Work) (within : i < length works) (at : x ≡ get_or works i x) where
  rest_is : drop i works ≡ x ∷ drop (i + 1) works
  rest_is = drop-cons works i x within ∙ (λ j. sym at j ∷ drop (sym (add-one i) j) works)

  pub all_is : works ≡ take i works ++ (x ∷ drop (i + 1) works)
  all_is = sym (take-append-drop i works) ∙ ap (λ l. take i works ++ l) rest_is

  pub front_is : take (i + 1) works ≡ take i works ++ x ∷ []
  front_is = take_more works i x within ∙ ap (λ r. take i works ++ r ∷ []) (sym at)

-- nothing is done yet

pub prepared_none : (w : World) → Prepared [] w w
prepared_none w = record { each = tt; rest = λ q misses. refl }

pub amid_none : (works : List Work) (w : World) → IsAmid works w w w
amid_none works w = record { each = all works; rest = λ q misses. refl } where
  all : (xs : List Work) → Each (IsWhole w w) xs
  all [] = tt
  all (x ∷ xs) = (before refl, all xs)

-- of works before and after one the one
pub each_here : (P : Work → Type 0) (a : List Work) (x : Work) (b : List Work) → Each P (a ++ x ∷ b) → P x
each_here P a x b all = (each_later P a (x ∷ b) all).0
