-- A copy stands at the second name where the file system gives none.
use Rattle.std.proofs.Common.{◌≡◌, ◌≢◌, ◌⊎◌, inl, inr, IsTrue, Bool, true, false, [], ◌∷◌, Option, Some, None, Result, Ok, Err, IfOk, refl, sym, ap, subst, ◌∙◌}
use Rattle.std.specs.Prelude.{IsSome, MatchBool, MatchOption}
use Rattle.std.proofs.lemmas.Bool.{false≢true, true≢false}
use Rattle.host_core.specs.Host.{State, Does, Falls, Happens, Reads, Since}
use Rattle.host_core.specs.Events.{Did}
use Rattle.host_core.specs.Paths.{Path, is_path}
use Rattle.host_core.specs.Unsynced.{is_temporary}
use Rattle.host_core.specs.World.{World, HardLink, IsDirectory, IsFile, IsLoose, MakeLink, put}
use Rattle.host_core.specs.declared.fault.HostFault.{HostFault}
use Rattle.host_core.specs.declared.fault.HostFault.TheVariants.{Declined}
use Rattle.host_core.specs.declared.node.Node.{Node}
use Rattle.host_core.specs.declared.node.Node.TheVariants.{Link}
use Rattle.host_core.proofs.Losses.{temporary_suffix}
use Rattle.host_core.proofs.Moments.{declined_world, since_does, since_reads, since_then, since_weaker_if}
use Rattle.host_core.proofs.Paths.{decide}
use Rattle.host_core.proofs.WorldLaws.{put_other, put_same}
use Rattle.administration.specs.Files.{IsReplaced, IsReplacing, NoDirectory}
use Rattle.administration.specs.Places.{temporary}
use Rattle.administration.proofs.WholeFiles.{no_directory_at, no_directory_file, temporary_other}
use Rattle.info_format.specs.Converting.{NoMoreAside}
use Rattle.info_format.specs.Steps.{HasNoRoom, HasOther, IsAtBoth, IsGiven, IsGiving, IsWriting}

-- a name that isn't temporary is no temporary name of another
pub no_spare : (q r : Path) → is_temporary q ≡ false → q ≢ temporary r
no_spare q r proper e = true≢false (sym (temporary_suffix r) ∙ ap is_temporary (sym e) ∙ proper)

-- at temporary names

pub aside_start : (w : World) → NoMoreAside w w
aside_start w q t = inl refl

pub aside_then : (u v w : World) → NoMoreAside u v → NoMoreAside v w → NoMoreAside u w
aside_then u v w first second q t = elim (second q t) [
  | inl same ↦ elim (first q t) [ inl kept ↦ inl (same ∙ kept) | inr none ↦ inr (same ∙ none) ]
  | inr none ↦ inr none
]

pub aside_given : (long short : Path) (old now : World) → is_temporary short ≡ false → IsGiven long short old now → NoMoreAside old now
aside_given long short old now proper (inl same) q t = inl (ap (λ (w : World). w q) same)
aside_given long short old now proper (inr given) q t = inl (ap (λ (w : World). w q) given.2 ∙ put_other old short q (old long) (λ e. true≢false (sym t ∙ ap is_temporary e ∙ proper)))

pub other_of : (long short : Path) (old new : World) → is_temporary short ≡ false → IsAtBoth long short old new → HasOther long short old new
other_of long short old new proper both = record {
  all = λ loose. subst IsSome (sym both.target) loose.0;
  aside = λ q t. elim (decide q (temporary short)) [
    | inl same ↦ subst (λ (x : Path). (new x ≡ old x) ⊎ (new x ≡ None)) (sym same) both.spare
    | inr other ↦ inl (both.rest q (λ e. true≢false (sym t ∙ ap is_temporary e ∙ proper)) other)
  ];
}

-- a file is written

pub loose_node : (node : Node) (found : Option Node) → found ≡ Some node → IsFile node → IsLoose found
loose_node node found is file = (subst IsSome (sym is) refl, no_directory_at found (Some node) is (no_directory_file node file))

pub copying_by : (long short : Path) (node : Node) (old now : World) → IsFile node → Some node ≡ old long → old short ≡ None → IsWriting short node old now → IsGiving long short old now
copying_by long short node old now file is none (inl same) = inl (inl same)
copying_by long short node old now file is none (inr (room, writing)) = inr record {
  loose = loose_node node (old long) (sym is) file;
  none = none;
  room = room;
  target = elim writing.target [ inl same ↦ inl (same ∙ none) | inr whole ↦ inr (whole ∙ is) ];
  spare = writing.spare;
  rest = writing.rest;
}

pub copied_by : (long short : Path) (node : Node) (old new : World) → Some node ≡ old long → IsReplaced short node old new → IsAtBoth long short old new
copied_by long short node old new is replaced = record { target = replaced.target ∙ is; spare = inr replaced.spare; rest = replaced.rest }

-- one node is put at the second name

pub put_both : (long short : Path) (old : World) (found : Option Node) → found ≡ old long → IsAtBoth long short old (put old short found)
put_both long short old found is = record {
  target = put_same old short short found refl ∙ is;
  spare = inl (put_other old short (temporary short) found (temporary_other short));
  rest = λ q ne_s ne_t. put_other old short q found ne_s;
}

pub since_linked : {T : Type 0} (result : Result T HostFault) (long short : Path) (a b : State) → (IsTrue b.honest → IsLoose (a.world long)) → (IsTrue b.honest → a.world short ≡ None) → Does (HardLink long short) a b result → Since (λ so_far. IsGiving long short a.world) a b
since_linked result long short a b loose none does = since_does (IsGiving long short a.world) result (HardLink long short) a b does (λ h. record {
  before = inl (inl refl);
  inside = λ t part. absurd part;
  behind = inl (inr (loose h, none h, refl));
})

pub since_made : {T : Type 0} (result : Result T HostFault) (long short target : Path) (a b : State) → (IsTrue b.honest → IsLoose (a.world long)) → (IsTrue b.honest → a.world short ≡ None) → (IsTrue b.honest → a.world long ≡ Some (Link target)) → Does (MakeLink short target) a b result → Since (λ so_far. IsGiving long short a.world) a b
since_made result long short target a b loose none is does = since_does (IsGiving long short a.world) result (MakeLink short target) a b does (λ h. record {
  before = inl (inl refl);
  inside = λ t part. absurd part;
  behind = inl (inr (loose h, none h, ap (λ (n : Option Node). put a.world short n) (sym (is h))));
})

-- the second name was declined
module _ {T : Type 0} (result : Result T HostFault) (long short : Path) (a b : State) (is : result ≡ Err Declined) (does : Does (HardLink long short) a b result) where
  pub declined_same : IsTrue b.honest → b.world ≡ a.world
  declined_same h = declined_world (HardLink long short) a b (subst (Does (HardLink long short) a b) is does) h

  pub since_behind : (c : State) → Falls b c → (IsTrue b.honest → IsLoose (a.world long)) → (IsTrue b.honest → a.world short ≡ None) → Since (λ so_far. IsGiving long short b.world) b c → Since (λ so_far. IsGiving long short a.world) a c
  since_behind c falls loose none more = since_then (λ so_far. IsGiving long short a.world) a b c (since_linked result long short a b loose none does)
      (since_weaker_if (λ so_far. IsGiving long short b.world) (λ so_far. IsGiving long short a.world) b c (λ h so_far w given. subst (λ (v : World). IsGiving long short v w) (declined_same (falls h)) given) more)

-- what was looked at before it
pub since_looked : (long short : Path) (a b c : State) → Reads a b → Since (λ so_far. IsGiving long short b.world) b c → Since (λ so_far. IsGiving long short a.world) a c
since_looked long short a b c reads more =
    since_then (λ so_far. IsGiving long short a.world) a b c (since_reads (λ so_far. IsGiving long short a.world) a b reads (λ fs all. inl (inl refl)))
    (subst (λ (v : World). Since (λ so_far. IsGiving long short v) b c) reads.world more)

pub since_only_looked : (long short : Path) (a b : State) → Reads a b → Since (λ so_far. IsGiving long short a.world) a b
since_only_looked long short a b reads = since_reads (λ so_far. IsGiving long short a.world) a b reads (λ fs all. inl (inl refl))

pub since_written : (short : Path) (node : Node) (a b c : State) → Reads a b → (IsTrue c.honest → NoDirectory (a.world (temporary short))) → Since (λ so_far. IsReplacing short node b.world) b c → Since (λ so_far. IsWriting short node a.world) a c
since_written short node a b c reads room more =
    since_then (λ so_far. IsWriting short node a.world) a b c (since_reads (λ so_far. IsWriting short node a.world) a b reads (λ fs all. inl refl))
    (since_weaker_if (λ so_far. IsReplacing short node b.world) (λ so_far. IsWriting short node a.world) b c (λ h so_far w is. inr (room h, subst (λ (v : World). IsReplacing short node v w) reads.world is)) more)

pub since_only_reads : (short : Path) (node : Node) (a b : State) → Reads a b → Since (λ so_far. IsWriting short node a.world) a b
since_only_reads short node a b reads = since_reads (λ so_far. IsWriting short node a.world) a b reads (λ fs all. inl refl)

-- what stands at the temporary name

pub no_room_by : (p short : Path) (w : World) (found : Option Path) (b : Bool) → found ≡ Some p → MatchOption found (is_path (temporary short) ≡ false) (λ q. q ≡ temporary short) → b ≡ true → MatchBool b (IsDirectory (w p)) (NoDirectory (w p)) → HasNoRoom short w
no_room_by p short w found true is told right there = (let same : p ≡ temporary short = subst (λ (o : Option Path). MatchOption o (is_path (temporary short) ≡ false) (λ q. q ≡ temporary short)) is told in inr (subst (λ (x : Path). IsDirectory (w x)) same there))
no_room_by p short w found false is told right there = absurd (false≢true right)

pub room_by : (p short : Path) (w : World) (found : Option Path) (b : Bool) → found ≡ Some p → MatchOption found (is_path (temporary short) ≡ false) (λ q. q ≡ temporary short) → b ≡ false → MatchBool b (IsDirectory (w p)) (NoDirectory (w p)) → NoDirectory (w (temporary short))
room_by p short w found true is told wrong there = absurd (true≢false wrong)
room_by p short w found false is told wrong there = (let same : p ≡ temporary short = subst (λ (o : Option Path). MatchOption o (is_path (temporary short) ≡ false) (λ q. q ≡ temporary short)) is told in subst (λ (x : Path). NoDirectory (w x)) same there)

-- a copy of what was found

pub file_copied : (result : Result Bool HostFault) (long short : Path) (node : Node) (old v new : World) → v ≡ old → Some node ≡ old long → IfOk result (λ done. MatchBool done (IsReplaced short node v new) ((new ≡ v) × HasNoRoom short v))
    → IfOk result (λ done. MatchBool done (IsAtBoth long short old new) ((new ≡ old) × HasNoRoom short old))
file_copied (Ok true) long short node old v new same is replaced = copied_by long short node old new is (subst (λ (w : World). IsReplaced short node w new) same replaced)
file_copied (Ok false) long short node old v new same is none = (none.0 ∙ same, subst (HasNoRoom short) same none.1)
file_copied (Err e) long short node old v new same is told = tt

pub since_file : (long short : Path) (node : Node) (a b c : State) → Reads a b → Falls b c → IsFile node → (IsTrue b.honest → Some node ≡ a.world long) → (IsTrue b.honest → a.world short ≡ None) → Since (λ so_far. IsWriting short node b.world) b c → Since (λ so_far. IsGiving long short a.world) a c
since_file long short node a b c reads falls file is none more = since_looked long short a b c reads
    (since_weaker_if (λ so_far. IsWriting short node b.world) (λ so_far. IsGiving long short b.world) b c
    (λ h so_far w writing. copying_by long short node b.world w file (is (falls h) ∙ ap (λ (v : World). v long) (sym reads.world)) (ap (λ (v : World). v short) reads.world ∙ none (falls h)) writing) more)

pub since_link : {T : Type 0} (result : Result T HostFault) (long short target : Path) (node : Node) (a b c : State) → Reads a b → Falls b c → node ≡ Link target → (IsTrue b.honest → Some node ≡ a.world long) → (IsTrue b.honest → IsLoose (a.world long)) → (IsTrue b.honest → a.world short ≡ None) → Does (MakeLink short target) b c result
    → Since (λ so_far. IsGiving long short a.world) a c
since_link result long short target node a b c reads falls link is loose none does = since_looked long short a b c reads
    (since_made result long short target b c (λ h. subst (λ (w : World). IsLoose (w long)) (sym reads.world) (loose (falls h))) (λ h. ap (λ (w : World). w short) reads.world ∙ none (falls h))
    (λ h. ap (λ (w : World). w long) reads.world ∙ sym (is (falls h)) ∙ ap Some link) does)

pub made_both : (long short target : Path) (node : Node) (old v new : World) → v ≡ old → node ≡ Link target → Some node ≡ old long → new ≡ put v short (Some (Link target)) → IsAtBoth long short old new
made_both long short target node old v new same link is made =
    subst (IsAtBoth long short old) (sym (made ∙ ap (λ (w : World). put w short (Some (Link target))) same)) (put_both long short old (Some (Link target)) (sym (ap Some link) ∙ is))

pub linked_is : (long short : Path) (a b : State) → Happens (Did (HardLink long short) ∷ []) a b → IsAtBoth long short a.world b.world
linked_is long short a b does = subst (IsAtBoth long short a.world) (sym does.world) (put_both long short a.world (a.world long) refl)
