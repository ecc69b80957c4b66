-- A copy of the old file or link stands at the backup where no second name can be had.
use Rattle.std.proofs.Common.{◌≡◌, IsTrue, Result, Err, false, [], ◌∷◌, Some, None, inl, inr, refl, sym, ap, subst, ◌∙◌}
use Rattle.std.specs.Prelude.{IsSome}
use Rattle.host_core.specs.Paths.{Path}
use Rattle.host_core.specs.World.{World, Write, HardLink, MakeLink, put, moved, HasParent, IsDirectory, IsFile, IsLoose, is_directory}
use Rattle.host_core.specs.Events.{Did}
use Rattle.host_core.specs.Host.{State, Happens, Does, Reads, Falls, Since}
use Rattle.host_core.specs.declared.fault.HostFault.{HostFault}
use Rattle.host_core.specs.declared.fault.HostFault.TheVariants.{Declined}
use Rattle.host_core.proofs.Moments.{declined_world, since_reads, since_then, since_weaker, since_weaker_if}
use Rattle.host_core.proofs.Paths.{decide}
use Rattle.host_core.proofs.WorldLaws.{put_same, put_other}
use Rattle.host_core.specs.declared.node.Node.{Node}
use Rattle.administration.specs.Files.{IsAside, KeepsBeside}
use Rattle.package_files.specs.declared.work.Work.{Work}
use Rattle.package_files.specs.Files.{cleared}
use Rattle.package_files.specs.Names.{IsNamed}
use Rattle.package_files.specs.Apart.{IsApart}
use Rattle.package_files.specs.Steps.{HasBegun, IsSaved, KeepsBesideSpares}
use Rattle.package_files.proofs.WorkNames.{named_apart, home_stays}
use Rattle.package_files.proofs.WriteMoments.{since_hard_link, since_make_link}
use Rattle.package_files.proofs.Written.{loose_at, no_directory, cleared_loose, saved_some}

other : {p q : Path} → (p ≡ q → ⊥) → q ≡ p → ⊥
other ne e = ne (sym e)

pub wrote_aside : (p : Path) (n : Node) (a b : State) → Happens (Did (Write p n) ∷ []) a b → IsAside p n a.world b.world
wrote_aside p n a b does = record {
  target = ap (λ w. w p) does.world ∙ put_same a.world p p (Some n) refl;
  rest = λ q ne. ap (λ w. w q) does.world ∙ put_other a.world p q (Some n) ne;
}

file_plain : (n : Node) → IsFile n → is_directory (Some n) ≡ false
file_plain n file = ap (λ m. is_directory (Some m)) file.2

-- it is written at the temporary name
module _ (x : Work) (n : Node) (w : World) (named : IsNamed x) (file : IsFile n) (spare : w x.backup ≡ None) (absent : w x.fresh ≡ None) (v : World) (aside : IsAside x.fresh n w v) where
  names : IsApart x
  names = named_apart x named

  pub copy_there : IsLoose (v x.fresh)
  copy_there = loose_at (v x.fresh) n aside.target (file_plain n file)

  pub copy_over : IsDirectory (v x.backup) → ⊥
  copy_over = no_directory (v x.backup) (ap is_directory (aside.rest x.backup (other names.spare) ∙ spare))

  pub copy_home : HasParent w x.place → HasParent v x.place
  copy_home home = home_stays x w v named (λ q misses. aside.rest q misses.fresh) home

  pub copy_begun : (u : World) → u ≡ v → HasBegun x w u
  copy_begun u same = subst (HasBegun x w) (sym same) record {
    backup = ap cleared (aside.rest x.backup (other names.spare));
    fresh = ap cleared aside.target ∙ cleared_loose n (file_plain n file) ∙ sym (ap cleared absent);
    rest = λ q ne_b ne_f. aside.rest q ne_f;
  }

  -- and renamed
  pub copied : IsAside x.backup n w (moved v x.fresh x.backup)
  copied =
      let one = put v x.fresh None in
      record {
        target = put_same one x.backup x.backup (v x.fresh) refl ∙ aside.target;
        rest = λ q ne. elim (decide q x.fresh) [
          | inl e ↦ put_other one x.backup q (v x.fresh) ne ∙ put_same v x.fresh q None e ∙ sym absent ∙ ap w (sym e)
          | inr ne_f ↦ put_other one x.backup q (v x.fresh) ne ∙ put_other v x.fresh q None ne_f ∙ aside.rest q ne_f
        ];
      }

  pub copied_keeps : KeepsBesideSpares x w (moved v x.fresh x.backup)
  copied_keeps q ne_b ne_f = copied.rest q ne_b

-- a copy of what stands at the target is saved
pub aside_saved : (x : Work) (n : Node) (w v : World) → Some n ≡ w x.target → IsAside x.backup n w v → IsSaved x w v
aside_saved x n w v is aside = record {
  backup = aside.target ∙ is ∙ sym (saved_some (w x.target) (w x.backup) (subst IsSome is refl));
  rest = aside.rest;
}

-- and so is what has a second name
pub linked_saved : (x : Work) (a b : State) → IsSome (a.world x.target) → Happens (Did (HardLink x.target x.backup) ∷ []) a b → IsSaved x a.world b.world
linked_saved x a b some does = record {
  backup = ap (λ w. w x.backup) does.world ∙ put_same a.world x.backup x.backup (a.world x.target) refl ∙ sym (saved_some (a.world x.target) (a.world x.backup) some);
  rest = λ q ne. ap (λ w. w q) does.world ∙ put_other a.world x.backup q (a.world x.target) ne;
}

pub since_linked : {T : Type 0} (result : Result T HostFault) (x : Work) (a b : State) → Does (HardLink x.target x.backup) a b result → Since (λ so_far. KeepsBesideSpares x a.world) a b
since_linked result x a b does = since_weaker (λ so_far. KeepsBeside x.backup a.world) (λ so_far. KeepsBesideSpares x a.world) a b (λ so_far w is q ne_b ne_f. is q ne_b)
    (since_hard_link result x.backup a.world a b (λ h q ne. refl) x.target does)

pub since_link_made : {T : Type 0} (result : Result T HostFault) (x : Work) (target : Path) (a b : State) → Does (MakeLink x.backup target) a b result → Since (λ so_far. KeepsBesideSpares x a.world) a b
since_link_made result x target a b does = since_weaker (λ so_far. KeepsBeside x.backup a.world) (λ so_far. KeepsBesideSpares x a.world) a b (λ so_far w is q ne_b ne_f. is q ne_b)
    (since_make_link result x.backup a.world a b (λ h q ne. refl) target does)

-- the second name was declined, and then it was looked at what stands at the target
module _ {T : Type 0} (result : Result T HostFault) (x : Work) (a b c : State) (is : result ≡ Err Declined) (does : Does (HardLink x.target x.backup) a b result) (reads : Reads b c) where
  declined_same : IsTrue b.honest → b.world ≡ a.world
  declined_same h = declined_world (HardLink x.target x.backup) a b (subst (Does (HardLink x.target x.backup) a b) is does) h

  pub look_same : IsTrue c.honest → c.world ≡ a.world
  look_same h = reads.world ∙ declined_same (reads.honest h)

  pub since_look : Since (λ so_far. KeepsBesideSpares x a.world) a c
  since_look = since_then (λ so_far. KeepsBesideSpares x a.world) a b c (since_linked result x a b does)
      (since_weaker_if (λ so_far. KeepsBesideSpares x b.world) (λ so_far. KeepsBesideSpares x a.world) b c
      (λ h so_far w keeps q ne_b ne_f. keeps q ne_b ne_f ∙ ap (λ v. v q) (declined_same (reads.honest h)))
      (since_reads (λ so_far. KeepsBesideSpares x b.world) b c reads (λ fs all q ne_b ne_f. refl)))

  pub since_behind : (d : State) → Falls c d → Since (λ so_far. KeepsBesideSpares x c.world) c d → Since (λ so_far. KeepsBesideSpares x a.world) a d
  since_behind d falls more = since_then (λ so_far. KeepsBesideSpares x a.world) a c d since_look
      (since_weaker_if (λ so_far. KeepsBesideSpares x c.world) (λ so_far. KeepsBesideSpares x a.world) c d
      (λ h so_far w keeps q ne_b ne_f. keeps q ne_b ne_f ∙ ap (λ v. v q) (look_same (falls h))) more)
