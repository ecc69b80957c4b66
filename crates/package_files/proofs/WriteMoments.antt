-- What holds at each moment of the parts of a file step.
use Rattle.std.proofs.Common.{◌≡◌, ◌≢◌, Option, Some, None, IsTrue, Result, Ok, Err, OnOk, refl, sym, ap, subst, ◌∙◌}
use Rattle.host_core.specs.Paths.{Path}
use Rattle.host_core.specs.World.{World, put, moved, Step, Write, Move, Take, MakeDir, RemoveDir, HardLink, MakeLink, Sync, SyncAll, after, IsPart}
use Rattle.host_core.specs.Host.{State, Reads, Does, Since}
use Rattle.host_core.proofs.WorldLaws.{put_same, put_other}
use Rattle.host_core.proofs.Moments.{since_does, since_reads}
use Rattle.host_core.specs.declared.fault.HostFault.{HostFault}
use Rattle.host_core.specs.declared.node.Access.{Access}
use Rattle.host_core.specs.declared.node.Node.{Node}
use Rattle.host_core.specs.declared.node.Node.TheVariants.{File, Dir, Link}
use Rattle.administration.specs.Files.{KeepsBeside, IsAside}

pub on_ok : {T E : Type 0} (result : Result T E) (P Q : Type 0) → (P → Q) → OnOk result P → OnOk result Q
on_ok (Ok x) P Q so is = so is
on_ok (Err e) P Q so is = tt

-- it was only looked at
pub looked : (p : Path) (a b : State) → Reads a b → Since (λ so_far. KeepsBeside p a.world) a b
looked p a b reads = since_reads (λ so_far. KeepsBeside p a.world) a b reads (λ fs all q ne. refl)

pub keeps_looked : (p : Path) (a b : State) → Reads a b → KeepsBeside p a.world b.world
keeps_looked p a b reads q ne = ap (λ w. w q) reads.world

-- a step at one path

keeps_put : (p : Path) (old w : World) (n : Option Node) → KeepsBeside p old w → KeepsBeside p old (put w p n)
keeps_put p old w n is q ne = put_other w p q n ne ∙ is q ne

inside_write : (p : Path) (old w : World) (n : Node) → KeepsBeside p old w → (t : Step) → IsPart (Write p n) t → KeepsBeside p old (after t w)
inside_write p old w (File b m) is t part = subst (λ s. KeepsBeside p old (after s w)) (sym part.3.1) (keeps_put p old w (Some (File part.0 part.3.0)) is)
inside_write p old w (Dir m) is t part = absurd part
inside_write p old w (Link l) is t part = absurd part

module _ {T : Type 0} (result : Result T HostFault) (p : Path) (old : World) (a b : State) (keeps : IsTrue b.honest → KeepsBeside p old a.world) where
  pub since_take : Does (Take p) a b result → Since (λ so_far. KeepsBeside p old) a b
  since_take does = since_does (KeepsBeside p old) result (Take p) a b does (λ h. record { before = keeps h; inside = λ t part. absurd part; behind = keeps_put p old a.world None (keeps h) })

  pub since_write : (n : Node) → Does (Write p n) a b result → Since (λ so_far. KeepsBeside p old) a b
  since_write n does = since_does (KeepsBeside p old) result (Write p n) a b does (λ h. record { before = keeps h; inside = inside_write p old a.world n (keeps h); behind = keeps_put p old a.world (Some n) (keeps h) })

  pub since_make_link : (target : Path) → Does (MakeLink p target) a b result → Since (λ so_far. KeepsBeside p old) a b
  since_make_link target does = since_does (KeepsBeside p old) result (MakeLink p target) a b does (λ h. record { before = keeps h; inside = λ t part. absurd part; behind = keeps_put p old a.world (Some (Link target)) (keeps h) })

  pub since_hard_link : (from : Path) → Does (HardLink from p) a b result → Since (λ so_far. KeepsBeside p old) a b
  since_hard_link from does = since_does (KeepsBeside p old) result (HardLink from p) a b does (λ h. record { before = keeps h; inside = λ t part. absurd part; behind = keeps_put p old a.world (a.world from) (keeps h) })

-- a rename, and a directory that is made: what holds before and behind

module _ {T : Type 0} (result : Result T HostFault) (P : World → Type 0) (a b : State) where
  pub since_move : (from to : Path) → (IsTrue b.honest → P a.world) → (IsTrue b.honest → P (moved a.world from to)) → Does (Move from to) a b result → Since (λ so_far. P) a b
  since_move from to first second does = since_does P result (Move from to) a b does (λ h. record { before = first h; inside = λ t part. absurd part; behind = second h })

  pub since_make_dir : (p : Path) (access : Access) → (IsTrue b.honest → P a.world) → (IsTrue b.honest → (m : Access) → P (put a.world p (Some (Dir m)))) → Does (MakeDir p access) a b result → Since (λ so_far. P) a b
  since_make_dir p access first second does = since_does P result (MakeDir p access) a b does
      (λ h. record { before = first h; inside = λ t part. subst (λ s. P (after s a.world)) (sym part.1) (second h part.0); behind = second h access })

-- a file goes to the disk
pub since_brought : {T : Type 0} (result : Result T HostFault) (P : World → Type 0) (a b : State) (p : Path) → (IsTrue b.honest → P a.world) → Does (Sync p) a b result → Since (λ so_far. P) a b
since_brought result P a b p here does = since_does P result (Sync p) a b does (λ h. record { before = here h; inside = λ t part. absurd part; behind = here h })

-- all files go to the disk
pub since_synced : {T : Type 0} (result : Result T HostFault) (P : World → Type 0) (a b : State) → P a.world → Does SyncAll a b result → Since (λ so_far. P) a b
since_synced result P a b here does = since_does P result SyncAll a b does (λ h. record { before = here; inside = λ t part. absurd part; behind = here })

-- what such a step leaves

pub moved_by : {T : Type 0} (result : Result T HostFault) (from to : Path) (a b : State) (P : World → Type 0) → P (moved a.world from to) → Does (Move from to) a b result → OnOk result (P b.world)
moved_by (Ok x) from to a b P there does = subst P (sym does.world) there
moved_by (Err e) from to a b P there does = tt

pub made_by : {T : Type 0} (result : Result T HostFault) (p : Path) (access : Access) (a b : State) (P : World → Type 0) → P (put a.world p (Some (Dir access))) → Does (MakeDir p access) a b result → OnOk result (P b.world)
made_by (Ok x) p access a b P there does = subst P (sym does.world) there
made_by (Err e) p access a b P there does = tt

-- what is at a path goes

module _ {T : Type 0} (result : Result T HostFault) (p : Path) (a b : State) where
  pub since_gone : (P : World → Type 0) → (IsTrue b.honest → P a.world) → (IsTrue b.honest → P (put a.world p None)) → Does (Take p) a b result → Since (λ so_far. P) a b
  since_gone P first second does = since_does P result (Take p) a b does (λ h. record { before = first h; inside = λ t part. absurd part; behind = second h })

  pub since_dir_gone : (P : World → Type 0) → (IsTrue b.honest → P a.world) → (IsTrue b.honest → P (put a.world p None)) → Does (RemoveDir p) a b result → Since (λ so_far. P) a b
  since_dir_gone P first second does = since_does P result (RemoveDir p) a b does (λ h. record { before = first h; inside = λ t part. absurd part; behind = second h })

pub gone_by : {T : Type 0} (result : Result T HostFault) (p : Path) (a b : State) (P : World → Type 0) → P (put a.world p None) → Does (Take p) a b result → OnOk result (P b.world)
gone_by (Ok x) p a b P there does = subst P (sym does.world) there
gone_by (Err e) p a b P there does = tt

-- a file or link was made at a temporary name

pub wrote_by : {T : Type 0} (result : Result T HostFault) (p : Path) (n : Node) (a b : State) → Does (Write p n) a b result → OnOk result (IsAside p n a.world b.world)
wrote_by (Ok x) p n a b does = record {
  target = ap (λ w. w p) does.world ∙ put_same a.world p p (Some n) refl;
  rest = λ q ne. ap (λ w. w q) does.world ∙ put_other a.world p q (Some n) ne;
}
wrote_by (Err e) p n a b does = tt

pub linked_by : {T : Type 0} (result : Result T HostFault) (p target : Path) (n : Node) (a b : State) → n ≡ Link target → Does (MakeLink p target) a b result → OnOk result (IsAside p n a.world b.world)
linked_by (Ok x) p target n a b is does = record {
  target = ap (λ w. w p) does.world ∙ put_same a.world p p (Some (Link target)) refl ∙ ap Some (sym is);
  rest = λ q ne. ap (λ w. w q) does.world ∙ put_other a.world p q (Some (Link target)) ne;
}
linked_by (Err e) p target n a b is does = tt
