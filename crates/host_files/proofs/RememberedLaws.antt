-- What is remembered: after one call more, and in each account of the directory.
use Rattle.std.proofs.Common.{◌≡◌, ◌≢◌, ◌⊎◌, inl, inr, IsTrue, List, [], ◌∷◌, ◌++◌, Option, Some, None, Result, Ok, Err, OnOk, refl, sym, ap, subst, ◌∙◌}
use Rattle.std.specs.Prelude.{ℕ, IsSome, IsSomeAnd, is_some}
use Rattle.std.specs.Option.{ForSome}
use Rattle.std.proofs.Math.Logic.{∥∥₁_map}
use Rattle.std.specs.declared.fs.Metadata.{Metadata}
use Rattle.std.specs.Fs.{metadata_mode}
use Rattle.host_core.specs.Paths.{Path}
use Rattle.host_core.specs.Tree.{IsTree, IsBelow}
use Rattle.host_core.specs.World.{World, IsDirectory, kind_of, lowered, put}
use Rattle.host_core.proofs.Paths.{decide}
use Rattle.host_core.proofs.WorldLaws.{put_same, put_other}
use Rattle.host_core.specs.declared.node.Kind.TheVariants as kind
use Rattle.host_core.specs.declared.node.Node.{Node}
use Rattle.host_core.specs.declared.node.Node.TheVariants.{File, Dir, Link}
use Rattle.host_files.specs.Remembered.{IsKnown, IsKnownBy, IsKnownByStep, IsNew, IsNewBy, IsNewByStep, IsVacant, IsVacantBy, IsVacantByStep, IsBelowVacant}
use Rattle.host_files.specs.Replay.{Model, IsSound, replay}
use Rattle.host_files.specs.Shown.{IsLookedAt, IsLackingBy}
use Rattle.host_files.specs.SystemCalls.{look_call}
use Rattle.host_files.specs.declared.record.Asked.{Asked}
use Rattle.host_files.specs.declared.record.Asked.TheVariants as asked
use Rattle.host_files.specs.declared.record.Noted.{Noted}
use Rattle.host_files.specs.declared.record.Noted.TheVariants as was
use Rattle.host_files.specs.declared.trace.SystemCall.{SystemCall}
use Rattle.host_files.proofs.Replayed.{honest_before}

-- nothing is remembered
pub nothing : {X : Type 0} {P : Type 0} (o : Option X) (x : X) → o ≡ None → o ≡ Some x → P
nothing o x none some = absurd (let e : None ≡ Some x = sym none ∙ some in cc)

-- what was known before is still known behind a step, unless it isn't known any more
known_step_more : (d : Path) (a : Asked) (A B : Type 0) → (A → ∥ B ∥₁) → IsKnownByStep d a A → ∥ IsKnownByStep d a B ∥₁
known_step_more d (asked.Write p node) A B f (inl below) = ∣ inl below ∣₁
known_step_more d (asked.Write p node) A B f (inr k) = ∥∥₁_map (f k.1) (λ b. inr (k.0, b))
known_step_more d (asked.Move a b) A B f k = ∥∥₁_map (f k.2) (λ b. (k.0, k.1, b))
known_step_more d (asked.Take p) A B f k = ∥∥₁_map (f k.1) (λ b. (k.0, b))
known_step_more d (asked.MakeDir p access) A B f (inl is) = ∣ inl is ∣₁
known_step_more d (asked.MakeDir p access) A B f (inr k) = ∥∥₁_map (f k.1) (λ b. inr (k.0, b))
known_step_more d (asked.RemoveDir p) A B f k = ∥∥₁_map (f k.1) (λ b. (k.0, b))
known_step_more d (asked.HardLink a b) A B f k = ∥∥₁_map (f k.1) (λ b. (k.0, b))
known_step_more d (asked.MakeLink p target) A B f k = ∥∥₁_map (f k.1) (λ b. (k.0, b))
known_step_more d (asked.Sync p) A B f k = f k
known_step_more d asked.Barrier A B f k = f k
known_step_more d asked.SyncAll A B f k = f k
known_step_more d asked.SyncRoot A B f k = f k
known_step_more d (asked.Lower p) A B f k = f k

known_more : (d : Path) (n : Noted) (A B : Type 0) → (A → ∥ B ∥₁) → IsKnownBy d n A → ∥ IsKnownBy d n B ∥₁
known_more d (was.Looked p found) A B f (inl seen) = ∣ inl seen ∣₁
known_more d (was.Looked p found) A B f (inr k) = ∥∥₁_map (f k) (λ b. inr b)
known_more d (was.Seen p found) A B f (inl seen) = ∣ inl seen ∣₁
known_more d (was.Seen p found) A B f (inr k) = ∥∥₁_map (f k) (λ b. inr b)
known_more d (was.Listed p listing) A B f k = f k
known_more d (was.Compared one other same) A B f k = f k
known_more d (was.Done a) A B f k = known_step_more d a A B f k
known_more d (was.Undone a) A B f k = absurd k
known_more d (was.Declined a) A B f k = absurd k
known_more d (was.Ended call kept outcome) A B f k = absurd k
known_more d (was.Broke call kept) A B f k = absurd k
known_more d was.Missed A B f k = absurd k

new_step_more : (g : Path) (a : Asked) (A B : Type 0) → (A → ∥ B ∥₁) → IsNewByStep g a A → ∥ IsNewByStep g a B ∥₁
new_step_more g (asked.Write p node) A B f k = ∣ k ∣₁
new_step_more g (asked.Move a b) A B f k = ∥∥₁_map (f k.2) (λ b. (k.0, k.1, b))
new_step_more g (asked.Take p) A B f k = ∥∥₁_map (f k.1) (λ b. (k.0, b))
new_step_more g (asked.MakeDir p access) A B f k = ∥∥₁_map (f k.1) (λ b. (k.0, b))
new_step_more g (asked.RemoveDir p) A B f k = ∥∥₁_map (f k.1) (λ b. (k.0, b))
new_step_more g (asked.HardLink a b) A B f k = ∥∥₁_map (f k.2) (λ b. (k.0, k.1, b))
new_step_more g (asked.MakeLink p target) A B f k = ∥∥₁_map (f k.1) (λ b. (k.0, b))
new_step_more g (asked.Sync p) A B f k = f k
new_step_more g asked.Barrier A B f k = f k
new_step_more g asked.SyncAll A B f k = f k
new_step_more g asked.SyncRoot A B f k = f k
new_step_more g (asked.Lower p) A B f k = f k

new_more : (g : Path) (n : Noted) (A B : Type 0) → (A → ∥ B ∥₁) → IsNewBy g n A → ∥ IsNewBy g n B ∥₁
new_more g (was.Looked p found) A B f k = f k
new_more g (was.Seen p found) A B f k = f k
new_more g (was.Listed p listing) A B f k = f k
new_more g (was.Compared one other same) A B f k = f k
new_more g (was.Done a) A B f k = new_step_more g a A B f k
new_more g (was.Undone a) A B f k = absurd k
new_more g (was.Declined a) A B f k = absurd k
new_more g (was.Ended call kept outcome) A B f k = absurd k
new_more g (was.Broke call kept) A B f k = absurd k
new_more g was.Missed A B f k = absurd k

vacant_step_more : (v : Path) (a : Asked) (A B : Type 0) → (A → ∥ B ∥₁) → IsVacantByStep v a A → ∥ IsVacantByStep v a B ∥₁
vacant_step_more v (asked.Write p node) A B f k = ∥∥₁_map (f k.1) (λ b. (k.0, b))
vacant_step_more v (asked.Move a b) A B f k = ∥∥₁_map (f k.2) (λ b. (k.0, k.1, b))
vacant_step_more v (asked.Take p) A B f k = ∥∥₁_map (f k.1) (λ b. (k.0, b))
vacant_step_more v (asked.MakeDir p access) A B f k = ∥∥₁_map (f k.1) (λ b. (k.0, b))
vacant_step_more v (asked.RemoveDir p) A B f k = ∥∥₁_map (f k.1) (λ b. (k.0, b))
vacant_step_more v (asked.HardLink a b) A B f k = ∥∥₁_map (f k.2) (λ b. (k.0, k.1, b))
vacant_step_more v (asked.MakeLink p target) A B f k = ∥∥₁_map (f k.1) (λ b. (k.0, b))
vacant_step_more v (asked.Sync p) A B f k = ∥∥₁_map (f k.1) (λ b. (k.0, b))
vacant_step_more v asked.Barrier A B f k = f k
vacant_step_more v asked.SyncAll A B f k = f k
vacant_step_more v asked.SyncRoot A B f k = f k
vacant_step_more v (asked.Lower p) A B f k = ∥∥₁_map (f k.1) (λ b. (k.0, b))

vacant_more : (v : Path) (n : Noted) (A B : Type 0) → (A → ∥ B ∥₁) → IsVacantBy v n A → ∥ IsVacantBy v n B ∥₁
vacant_more v (was.Looked p found) A B f (inl (none, inl is)) = ∣ inl (none, inl is) ∣₁
vacant_more v (was.Looked p found) A B f (inl (none, inr k)) = ∥∥₁_map (f k) (λ b. inl (none, inr b))
vacant_more v (was.Looked p found) A B f (inr (outside, k)) = ∥∥₁_map (f k) (λ b. inr (outside, b))
vacant_more v (was.Seen p found) A B f (inl (none, inl is)) = ∣ inl (none, inl is) ∣₁
vacant_more v (was.Seen p found) A B f (inl (none, inr k)) = ∥∥₁_map (f k) (λ b. inl (none, inr b))
vacant_more v (was.Seen p found) A B f (inr (outside, k)) = ∥∥₁_map (f k) (λ b. inr (outside, b))
vacant_more v (was.Listed p listing) A B f k = ∥∥₁_map (f k.1) (λ b. (k.0, b))
vacant_more v (was.Compared one other same) A B f k = f k
vacant_more v (was.Done a) A B f k = vacant_step_more v a A B f k
vacant_more v (was.Undone a) A B f k = absurd k
vacant_more v (was.Declined a) A B f k = absurd k
vacant_more v (was.Ended call kept outcome) A B f k = absurd k
vacant_more v (was.Broke call kept) A B f k = absurd k
vacant_more v was.Missed A B f k = absurd k

-- behind one call more
pub still_known : (d : Path) (n : Noted) (A : Type 0) (old new : List Noted) → new ≡ n ∷ old → (A → ∥ IsKnown d old ∥₁) → IsKnownBy d n A → ∥ IsKnown d new ∥₁
still_known d n A old new is f k = subst (λ l. ∥ IsKnown d l ∥₁) (sym is) (known_more d n A (IsKnown d old) f k)

pub still_new : (g : Path) (n : Noted) (A : Type 0) (old new : List Noted) → new ≡ n ∷ old → (A → ∥ IsNew g old ∥₁) → IsNewBy g n A → ∥ IsNew g new ∥₁
still_new g n A old new is f k = subst (λ l. ∥ IsNew g l ∥₁) (sym is) (new_more g n A (IsNew g old) f k)

pub still_vacant : (v : Path) (n : Noted) (A : Type 0) (old new : List Noted) → new ≡ n ∷ old → (A → ∥ IsVacant v old ∥₁) → IsVacantBy v n A → ∥ IsVacant v new ∥₁
still_vacant v n A old new is f k = subst (λ l. ∥ IsVacant v l ∥₁) (sym is) (vacant_more v n A (IsVacant v old) f k)

-- above what stands is a directory
above : (w : World) (d p : Path) → IsTree w → IsBelow d p → IsSome (w p) → IsDirectory (w d)
above w d p tree below some = tree d below.0 (subst (λ q. IsSome (w q)) below.1 some)

some_kind : (node : Option Node) → IsSome (kind_of node) → IsSome node
some_kind None some = some
some_kind (Some node) some = refl

is_dir : (n : Option Node) → kind_of n ≡ Some kind.Directory → IsDirectory n
is_dir None e = absurd (let o : None ≡ Some kind.Directory = e in cc)
is_dir (Some (File bytes access)) e = absurd (let o : kind.File ≡ kind.Directory = cc in cc)
is_dir (Some (Dir access)) e = (access, refl)
is_dir (Some (Link target)) e = absurd (let o : kind.SymbolicLink ≡ kind.Directory = cc in cc)

no_kind : (n : Option Node) → kind_of n ≡ None → n ≡ None
no_kind None e = refl
no_kind (Some (File bytes access)) e = absurd (let o : Some kind.File ≡ None = e in cc)
no_kind (Some (Dir access)) e = absurd (let o : Some kind.Directory ≡ None = e in cc)
no_kind (Some (Link target)) e = absurd (let o : Some kind.SymbolicLink ≡ None = e in cc)

-- below what isn't there nothing stands
none_if : (o : Option Node) → (IsSome o → ⊥) → o ≡ None
none_if None nothing_is = refl
none_if (Some node) nothing_is = absurd (nothing_is refl)

none_below : (w : World) (v p : Path) → IsTree w → IsBelow v p → w v ≡ None → w p ≡ None
none_below w v p tree below none = none_if (w p) (λ some.
    let directory : IsDirectory (w v) = above w v p tree below some in
    let e : None ≡ Some (Dir directory.0) = sym none ∙ directory.1 in
    cc)

-- what stands at another path is as before
other : (P : Option Node → Type 0) (w : World) (p d : Path) (n : Option Node) → p ≢ d → P (w d) → P (put w p n d)
other P w p d n apart here = subst P (sym (put_other w p d n (λ e. apart (sym e)))) here

none_still : (w : World) (p v : Path) (n : Option Node) → v ≢ p → w v ≡ None → put w p n v ≡ None
none_still w p v n apart none = put_other w p v n apart ∙ none

-- where rights are taken, what stood stands
lowered_some : (o : Option Node) → IsSome o → IsSome (lowered o)
lowered_some None some = some
lowered_some (Some (File bytes access)) some = refl
lowered_some (Some (Dir access)) some = refl
lowered_some (Some (Link target)) some = refl

lowered_directory : (o : Option Node) → IsDirectory o → IsDirectory (lowered o)
lowered_directory o (access, is) = (access, ap lowered is)

lower_keeps : (P : Option Node → Type 0) → ((o : Option Node) → P o → P (lowered o)) → (w : World) (p d : Path) → P (w d) → P (put w p (lowered (w p)) d)
lower_keeps P each w p d here = elim (decide d p) [
  | inl same ↦ subst P (sym (put_same w p d (lowered (w p)) same)) (each (w p) (subst (λ q. P (w q)) same here))
  | inr apart ↦ subst P (sym (put_other w p d (lowered (w p)) apart)) here
]

module _ (m : Model) (sound : IsSound m) where
  before : (n : Noted) (h : List Noted) → IsTrue (replay m (n ∷ h)).honest → IsTrue (replay m h).honest
  before n h honest = honest_before (m.agrees (n ∷ h)) (replay m h).honest honest

  pub known_stands : (d : Path) (notes : List Noted) → IsKnown d notes → IsTrue (replay m notes).honest → IsDirectory ((replay m notes).world d)
  known_stands d [] known honest = absurd known
  known_stands d (was.Looked p node ∷ h) (inl (some, inl below)) honest =
      above (replay m h).world d p (sound.tree (was.Looked p node ∷ h) honest) below (subst IsSome (sound.answers (was.Looked p node) h honest) some)
  known_stands d (was.Looked p node ∷ h) (inl (some, inr (is, directory))) honest =
      subst (λ q. IsDirectory ((replay m h).world q)) (sym is) (subst IsDirectory (sound.answers (was.Looked p node) h honest) directory)
  known_stands d (was.Looked p node ∷ h) (inr known) honest = known_stands d h known (before (was.Looked p node) h honest)
  known_stands d (was.Seen p found ∷ h) (inl (some, inl below)) honest =
      above (replay m h).world d p (sound.tree (was.Seen p found ∷ h) honest) below
      (some_kind ((replay m h).world p) (subst IsSome (sound.answers (was.Seen p found) h honest) some))
  known_stands d (was.Seen p found ∷ h) (inl (some, inr (is, directory))) honest =
      subst (λ q. IsDirectory ((replay m h).world q)) (sym is) (is_dir ((replay m h).world p) (sym (sound.answers (was.Seen p found) h honest) ∙ directory))
  known_stands d (was.Seen p found ∷ h) (inr known) honest = known_stands d h known (before (was.Seen p found) h honest)
  known_stands d (was.Listed p listing ∷ h) known honest = known_stands d h known (before (was.Listed p listing) h honest)
  known_stands d (was.Compared one two same ∷ h) known honest = known_stands d h known (before (was.Compared one two same) h honest)
  known_stands d (was.Done (asked.Write p node) ∷ h) (inl below) honest =
      above (put (replay m h).world p (Some node)) d p (sound.tree (was.Done (asked.Write p node) ∷ h) honest) below
      (ap (λ o. is_some o) (put_same (replay m h).world p p (Some node) refl))
  known_stands d (was.Done (asked.Write p node) ∷ h) (inr (apart, known)) honest =
      other IsDirectory (replay m h).world p d (Some node) apart (known_stands d h known (before (was.Done (asked.Write p node)) h honest))
  known_stands d (was.Done (asked.Move a b) ∷ h) (from, to, known) honest =
      other IsDirectory (put (replay m h).world a None) b d ((replay m h).world a) to
      (other IsDirectory (replay m h).world a d None from (known_stands d h known (before (was.Done (asked.Move a b)) h honest)))
  known_stands d (was.Done (asked.Take p) ∷ h) (apart, known) honest =
      other IsDirectory (replay m h).world p d None apart (known_stands d h known (before (was.Done (asked.Take p)) h honest))
  known_stands d (was.Done (asked.MakeDir p access) ∷ h) (inl is) honest =
      (access, put_same (replay m h).world p d (Some (Dir access)) is)
  known_stands d (was.Done (asked.MakeDir p access) ∷ h) (inr (apart, known)) honest =
      other IsDirectory (replay m h).world p d (Some (Dir access)) apart (known_stands d h known (before (was.Done (asked.MakeDir p access)) h honest))
  known_stands d (was.Done (asked.RemoveDir p) ∷ h) (apart, known) honest =
      other IsDirectory (replay m h).world p d None apart (known_stands d h known (before (was.Done (asked.RemoveDir p)) h honest))
  known_stands d (was.Done (asked.HardLink a b) ∷ h) (apart, known) honest =
      other IsDirectory (replay m h).world b d ((replay m h).world a) apart (known_stands d h known (before (was.Done (asked.HardLink a b)) h honest))
  known_stands d (was.Done (asked.MakeLink p target) ∷ h) (apart, known) honest =
      other IsDirectory (replay m h).world p d (Some (Link target)) apart (known_stands d h known (before (was.Done (asked.MakeLink p target)) h honest))
  known_stands d (was.Done (asked.Sync p) ∷ h) known honest = known_stands d h known (before (was.Done (asked.Sync p)) h honest)
  known_stands d (was.Done asked.Barrier ∷ h) known honest = known_stands d h known (before (was.Done asked.Barrier) h honest)
  known_stands d (was.Done asked.SyncAll ∷ h) known honest = known_stands d h known (before (was.Done asked.SyncAll) h honest)
  known_stands d (was.Done asked.SyncRoot ∷ h) known honest = known_stands d h known (before (was.Done asked.SyncRoot) h honest)
  known_stands d (was.Done (asked.Lower p) ∷ h) known honest =
      lower_keeps IsDirectory lowered_directory (replay m h).world p d (known_stands d h known (before (was.Done (asked.Lower p)) h honest))
  known_stands d (was.Undone a ∷ h) known honest = absurd known
  known_stands d (was.Declined a ∷ h) known honest = absurd known
  known_stands d (was.Ended call kept outcome ∷ h) known honest = absurd known
  known_stands d (was.Broke call kept ∷ h) known honest = absurd known
  known_stands d (was.Missed ∷ h) known honest = absurd known

  pub new_stands : (g : Path) (notes : List Noted) → IsNew g notes → IsTrue (replay m notes).honest → IsSome ((replay m notes).world g)
  new_stands g [] new honest = absurd new
  new_stands g (was.Looked p node ∷ h) new honest = new_stands g h new (before (was.Looked p node) h honest)
  new_stands g (was.Seen p found ∷ h) new honest = new_stands g h new (before (was.Seen p found) h honest)
  new_stands g (was.Listed p listing ∷ h) new honest = new_stands g h new (before (was.Listed p listing) h honest)
  new_stands g (was.Compared one two same ∷ h) new honest = new_stands g h new (before (was.Compared one two same) h honest)
  new_stands g (was.Done (asked.Write p node) ∷ h) is honest = ap (λ o. is_some o) (put_same (replay m h).world p g (Some node) is)
  new_stands g (was.Done (asked.Move a b) ∷ h) (from, to, new) honest =
      other IsSome (put (replay m h).world a None) b g ((replay m h).world a) to
      (other IsSome (replay m h).world a g None from (new_stands g h new (before (was.Done (asked.Move a b)) h honest)))
  new_stands g (was.Done (asked.Take p) ∷ h) (apart, new) honest =
      other IsSome (replay m h).world p g None apart (new_stands g h new (before (was.Done (asked.Take p)) h honest))
  new_stands g (was.Done (asked.MakeDir p access) ∷ h) (apart, new) honest =
      other IsSome (replay m h).world p g (Some (Dir access)) apart (new_stands g h new (before (was.Done (asked.MakeDir p access)) h honest))
  new_stands g (was.Done (asked.RemoveDir p) ∷ h) (apart, new) honest =
      other IsSome (replay m h).world p g None apart (new_stands g h new (before (was.Done (asked.RemoveDir p)) h honest))
  new_stands g (was.Done (asked.HardLink a b) ∷ h) (from, to, new) honest =
      other IsSome (replay m h).world b g ((replay m h).world a) to (new_stands g h new (before (was.Done (asked.HardLink a b)) h honest))
  new_stands g (was.Done (asked.MakeLink p target) ∷ h) (apart, new) honest =
      other IsSome (replay m h).world p g (Some (Link target)) apart (new_stands g h new (before (was.Done (asked.MakeLink p target)) h honest))
  new_stands g (was.Done (asked.Sync p) ∷ h) new honest = new_stands g h new (before (was.Done (asked.Sync p)) h honest)
  new_stands g (was.Done asked.Barrier ∷ h) new honest = new_stands g h new (before (was.Done asked.Barrier) h honest)
  new_stands g (was.Done asked.SyncAll ∷ h) new honest = new_stands g h new (before (was.Done asked.SyncAll) h honest)
  new_stands g (was.Done asked.SyncRoot ∷ h) new honest = new_stands g h new (before (was.Done asked.SyncRoot) h honest)
  new_stands g (was.Done (asked.Lower p) ∷ h) new honest =
      lower_keeps IsSome lowered_some (replay m h).world p g (new_stands g h new (before (was.Done (asked.Lower p)) h honest))
  new_stands g (was.Undone a ∷ h) new honest = absurd new
  new_stands g (was.Declined a ∷ h) new honest = absurd new
  new_stands g (was.Ended call kept outcome ∷ h) new honest = absurd new
  new_stands g (was.Broke call kept ∷ h) new honest = absurd new
  new_stands g (was.Missed ∷ h) new honest = absurd new

  pub vacant_lacks : (v : Path) (notes : List Noted) → IsVacant v notes → IsTrue (replay m notes).honest → (replay m notes).world v ≡ None
  vacant_lacks v [] vacant honest = absurd vacant
  vacant_lacks v (was.Looked p node ∷ h) (inl (none, inl is)) honest =
      subst (λ q. (replay m h).world q ≡ None) (sym is) (sym (sound.answers (was.Looked p node) h honest) ∙ none)
  vacant_lacks v (was.Looked p node ∷ h) (inl (none, inr vacant)) honest = vacant_lacks v h vacant (before (was.Looked p node) h honest)
  vacant_lacks v (was.Looked p node ∷ h) (inr (outside, vacant)) honest = vacant_lacks v h vacant (before (was.Looked p node) h honest)
  vacant_lacks v (was.Seen p found ∷ h) (inl (none, inl is)) honest =
      subst (λ q. (replay m h).world q ≡ None) (sym is) (no_kind ((replay m h).world p) (sym (sound.answers (was.Seen p found) h honest) ∙ none))
  vacant_lacks v (was.Seen p found ∷ h) (inl (none, inr vacant)) honest = vacant_lacks v h vacant (before (was.Seen p found) h honest)
  vacant_lacks v (was.Seen p found ∷ h) (inr (outside, vacant)) honest = vacant_lacks v h vacant (before (was.Seen p found) h honest)
  vacant_lacks v (was.Listed p listing ∷ h) (other_path, vacant) honest = vacant_lacks v h vacant (before (was.Listed p listing) h honest)
  vacant_lacks v (was.Compared one two same ∷ h) vacant honest = vacant_lacks v h vacant (before (was.Compared one two same) h honest)
  vacant_lacks v (was.Done (asked.Write p node) ∷ h) (apart, vacant) honest =
      none_still (replay m h).world p v (Some node) apart.0 (vacant_lacks v h vacant (before (was.Done (asked.Write p node)) h honest))
  vacant_lacks v (was.Done (asked.Move a b) ∷ h) (from, to, vacant) honest =
      none_still (put (replay m h).world a None) b v ((replay m h).world a) to.0
      (none_still (replay m h).world a v None from.0 (vacant_lacks v h vacant (before (was.Done (asked.Move a b)) h honest)))
  vacant_lacks v (was.Done (asked.Take p) ∷ h) (apart, vacant) honest =
      none_still (replay m h).world p v None apart.0 (vacant_lacks v h vacant (before (was.Done (asked.Take p)) h honest))
  vacant_lacks v (was.Done (asked.MakeDir p access) ∷ h) (apart, vacant) honest =
      none_still (replay m h).world p v (Some (Dir access)) apart.0 (vacant_lacks v h vacant (before (was.Done (asked.MakeDir p access)) h honest))
  vacant_lacks v (was.Done (asked.RemoveDir p) ∷ h) (apart, vacant) honest =
      none_still (replay m h).world p v None apart.0 (vacant_lacks v h vacant (before (was.Done (asked.RemoveDir p)) h honest))
  vacant_lacks v (was.Done (asked.HardLink a b) ∷ h) (from, to, vacant) honest =
      none_still (replay m h).world b v ((replay m h).world a) to.0 (vacant_lacks v h vacant (before (was.Done (asked.HardLink a b)) h honest))
  vacant_lacks v (was.Done (asked.MakeLink p target) ∷ h) (apart, vacant) honest =
      none_still (replay m h).world p v (Some (Link target)) apart.0 (vacant_lacks v h vacant (before (was.Done (asked.MakeLink p target)) h honest))
  vacant_lacks v (was.Done (asked.Sync p) ∷ h) (apart, vacant) honest = vacant_lacks v h vacant (before (was.Done (asked.Sync p)) h honest)
  vacant_lacks v (was.Done asked.Barrier ∷ h) vacant honest = vacant_lacks v h vacant (before (was.Done asked.Barrier) h honest)
  vacant_lacks v (was.Done asked.SyncAll ∷ h) vacant honest = vacant_lacks v h vacant (before (was.Done asked.SyncAll) h honest)
  vacant_lacks v (was.Done asked.SyncRoot ∷ h) vacant honest = vacant_lacks v h vacant (before (was.Done asked.SyncRoot) h honest)
  vacant_lacks v (was.Done (asked.Lower p) ∷ h) (apart, vacant) honest =
      none_still (replay m h).world p v (lowered ((replay m h).world p)) apart.0 (vacant_lacks v h vacant (before (was.Done (asked.Lower p)) h honest))
  vacant_lacks v (was.Undone a ∷ h) vacant honest = absurd vacant
  vacant_lacks v (was.Declined a ∷ h) vacant honest = absurd vacant
  vacant_lacks v (was.Ended call kept outcome ∷ h) vacant honest = absurd vacant
  vacant_lacks v (was.Broke call kept ∷ h) vacant honest = absurd vacant
  vacant_lacks v (was.Missed ∷ h) vacant honest = absurd vacant

  pub vacant_below : (v p : Path) (notes : List Noted) → IsVacant v notes → IsTrue (replay m notes).honest → (v ≡ p) ⊎ IsBelow v p → (replay m notes).world p ≡ None
  vacant_below v p notes vacant honest (inl is) = subst (λ q. (replay m notes).world q ≡ None) is (vacant_lacks v notes vacant honest)
  vacant_below v p notes vacant honest (inr below) =
      none_below (replay m notes).world v p (sound.tree notes honest) below (vacant_lacks v notes vacant honest)

-- what was looked at on the way
pub looked_at : {T E : Type 0} (result : Result T E) (place : List ℕ) (found : Metadata) (later earlier made : List SystemCall) → made ≡ later ++ look_call place (Some found) ∷ earlier → OnOk result (IsLookedAt place made)
looked_at (Ok x) place found later earlier made is = (metadata_mode found, (later, earlier, is))
looked_at (Err e) place found later earlier made is = tt

-- what is below a path that is remembered is below one that is vacant
below_vacant : {X : Type 0} (notes : List Noted) (p : Path) (o : Option X) (path : X → Path) → ForSome o (λ v. ∥ IsVacant (path v) notes ∥₁) → IsSomeAnd o (λ v. IsBelow (path v) p) → ∥ IsBelowVacant p notes ∥₁
below_vacant notes p None path is below = absurd below
below_vacant notes p (Some v) path is below = ∥∥₁_map (is v refl) (λ vacant. (path v, below, vacant))

pub lacking : {X : Type 0} (notes : List Noted) (p q : Path) (made : List SystemCall) (o : Option X) (path : X → Path) → made ≡ [] → q ≡ p → ForSome o (λ v. ∥ IsVacant (path v) notes ∥₁) → IsSomeAnd o (λ v. IsBelow (path v) q)
    → IsLackingBy notes p made
lacking notes p q made o path none same is below = (none, subst (λ r. ∥ IsBelowVacant r notes ∥₁) same (below_vacant notes q o path is below))
