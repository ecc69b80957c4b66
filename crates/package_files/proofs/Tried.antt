-- A path of which a step was declined: what is left of it, and that it goes.
use Rattle.std.proofs.Common.{◌≡◌, Bool, true, false, [], ◌∷◌, Option, Some, None, IsTrue, Result, Ok, Err, inl, inr, refl, sym, ap, subst, ◌∙◌, arith}
use Rattle.std.proofs.lemmas.Bool.{true≢false}
use Rattle.host_core.specs.Paths.{Path}
use Rattle.host_core.specs.World.{World, Step, put, moved, HasParent, IsLoose, kind_of}
use Rattle.host_core.specs.Tree.{IsTree}
use Rattle.host_core.specs.Host.{State, Does}
use Rattle.host_core.specs.declared.fault.HostFault.{HostFault}
use Rattle.host_core.specs.declared.fault.HostFault.TheVariants.{Device, NoMemory, Declined}
use Rattle.host_core.proofs.Moments.{declined_world}
use Rattle.host_core.proofs.Paths.{decide}
use Rattle.host_core.proofs.WorldLaws.{put_same, put_other}
use Rattle.host_core.specs.declared.node.Access.{Access}
use Rattle.host_core.specs.declared.node.Kind.{Kind}
use Rattle.host_core.specs.declared.node.Kind.TheVariants as kind
use Rattle.host_core.specs.declared.node.Node.{Node}
use Rattle.host_core.specs.declared.node.Node.TheVariants.{File, Dir, Link}
use Rattle.package_files.specs.declared.work.Work.{Work}
use Rattle.package_files.specs.Files.{is_written, cleared, IsAmid, between}
use Rattle.package_files.specs.Free.{IsFree}
use Rattle.package_files.specs.Names.{IsNamed}
use Rattle.package_files.specs.Apart.{IsApart}
use Rattle.package_files.specs.Steps.{IsCleared, AreCleared, KeepsBesideSpares, IsReady, OnDeclined, HasBegun, IsMadeRoom, HasTried, WasTriedFrom}
use Rattle.package_files.proofs.WorkNames.{named_apart}
use Rattle.package_files.proofs.Written.{kind_file, cleared_again, free_over_file, makes_over_file}
use Rattle.package_files.proofs.BackOne.{home_by_backup}
use Rattle.package_files.proofs.OnePath.{amid_spares, over_vacant}

other : {p q : Path} → (p ≡ q → ⊥) → q ≡ p → ⊥
other ne e = ne (sym e)

-- a step that is declined leaves the world as it was
pub declined_same : {T : Type 0} (result : Result T HostFault) (s : Step) (a b : State) → IsTrue b.honest → Does s a b result → OnDeclined result (b.world ≡ a.world)
declined_same (Ok x) s a b h does = tt
declined_same (Err Device) s a b h does = tt
declined_same (Err NoMemory) s a b h does = tt
declined_same (Err Declined) s a b h does = declined_world s a b does h

pub on_declined : {T : Type 0} (result : Result T HostFault) (P Q : Type 0) → (P → Q) → OnDeclined result P → OnDeclined result Q
on_declined (Ok x) P Q so is = tt
on_declined (Err Device) P Q so is = tt
on_declined (Err NoMemory) P Q so is = tt
on_declined (Err Declined) P Q so is = so is

-- the spare names

pub begun_same : (x : Work) (old new : World) → new ≡ old → HasBegun x old new
begun_same x old new same = record {
  backup = ap (λ w. cleared (w x.backup)) same;
  fresh = ap (λ w. cleared (w x.fresh)) same;
  rest = λ q ne_b ne_f. ap (λ w. w q) same;
}

pub begun_then : (x : Work) (old mid new : World) → HasBegun x old mid → HasBegun x mid new → HasBegun x old new
begun_then x old mid new first second = record {
  backup = second.backup ∙ first.backup;
  fresh = second.fresh ∙ first.fresh;
  rest = λ q ne_b ne_f. second.rest q ne_b ne_f ∙ first.rest q ne_b ne_f;
}

-- the first of them is cleared
pub begun_clearing : (x : Work) (old mid new : World) → IsNamed x → IsCleared x.fresh old mid → new ≡ mid → HasBegun x old new
begun_clearing x old mid new named first same = begun_then x old mid new
    record {
      backup = ap cleared (first.rest x.backup (other (named_apart x named).spare));
      fresh = ap cleared first.there ∙ cleared_again (old x.fresh);
      rest = λ q ne_b ne_f. first.rest q ne_f;
    }
    (begun_same x mid new same)

-- both are
pub begun_cleared : (x : Work) (old new : World) → AreCleared x old new → HasBegun x old new
begun_cleared x old new clear = record {
  backup = ap cleared clear.backup ∙ cleared_again (old x.backup);
  fresh = ap cleared clear.fresh ∙ cleared_again (old x.fresh);
  rest = clear.rest;
}

pub cleared_begun : (x : Work) (old mid new : World) → HasBegun x old mid → AreCleared x mid new → AreCleared x old new
cleared_begun x old mid new begun clear = record {
  backup = clear.backup ∙ begun.backup;
  fresh = clear.fresh ∙ begun.fresh;
  rest = λ q ne_b ne_f. clear.rest q ne_b ne_f ∙ begun.rest q ne_b ne_f;
}

pub amid_clearing : (x : Work) (old mid now : World) → IsNamed x → HasBegun x old mid → KeepsBesideSpares x mid now → IsAmid (x ∷ []) old old now
amid_clearing x old mid now named begun keeps = amid_spares x old now named (λ q ne_b ne_f. keeps q ne_b ne_f ∙ begun.rest q ne_b ne_f)

-- a directory takes the place of a file

pub room_made : (x : Work) (old new : World) → IsNamed x → (access : Access) → x.node ≡ Dir access → IsReady x old → Some kind.File ≡ kind_of (old x.target) → new ≡ moved old x.target x.backup → IsMadeRoom x old new
room_made x old new named access node ready over same = subst (IsMadeRoom x old) (sym same)
    (let vacant = over_vacant x old named access node ready over in
    record {
      node = (access, node);
      over = over;
      spare = free_over_file access (old x.target) (old x.backup) (old x.fresh) over (subst (λ n. IsFree n (old x.target) (old x.backup) (old x.fresh)) node ready.free);
      target = vacant.target;
      backup = put_same (put old x.target None) x.backup x.backup (old x.target) refl;
      fresh = ap cleared vacant.fresh;
      rest = vacant.rest;
    })

-- it is tried once the spare names are cleared
pub tried_then : (x : Work) (old mid new : World) → IsNamed x → AreCleared x old mid → HasTried x mid new → HasTried x old new
tried_then x old mid new named clear (inl begun) = inl (begun_then x old mid new (begun_cleared x old mid clear) begun)
tried_then x old mid new named clear (inr room) =
    let a = named_apart x named in
    let same : mid x.target ≡ old x.target = clear.rest x.target (other a.backup) (other a.fresh) in
    inr record {
      node = room.node;
      over = room.over ∙ ap kind_of same;
      spare = sym (cleared_again (old x.backup)) ∙ sym (ap cleared clear.backup) ∙ room.spare;
      target = room.target;
      backup = room.backup ∙ same;
      fresh = room.fresh ∙ ap cleared clear.fresh ∙ cleared_again (old x.fresh);
      rest = λ q misses. room.rest q misses ∙ clear.rest q misses.backup misses.fresh;
    }

-- what stood at the target comes back

none_or : Option Kind → Bool
none_or None = true
none_or (Some k) = false

none_some : (k : Kind) → None ≡ Some k → ⊥
unfolding none_or
none_some k e = true≢false (ap none_or e)

module _ (x : Work) (was w : World) (named : IsNamed x) (from : WasTriedFrom x was w) where
  pub begun_at_none : x.had ≡ None → HasBegun x was w
  begun_at_none none = by from.tried where
    by : HasTried x was w → HasBegun x was w
    by (inl begun) = begun
    by (inr room) = absurd (none_some kind.File (sym none ∙ from.seen ∙ sym room.over))

  -- the target is missing
  pub room_at : (k : Kind) → x.had ≡ Some k → None ≡ kind_of (w x.target) → IsMadeRoom x was w
  room_at k is missing = by from.tried where
    a : IsApart x
    a = named_apart x named

    by : HasTried x was w → IsMadeRoom x was w
    by (inl begun) = absurd (none_some k (missing ∙ ap kind_of (begun.rest x.target (other a.backup) (other a.fresh)) ∙ sym from.seen ∙ is))
    by (inr room) = room

  -- it isn't
  pub begun_at_some : (k : Kind) → Some k ≡ kind_of (w x.target) → HasBegun x was w
  begun_at_some k there = by from.tried where
    by : HasTried x was w → HasBegun x was w
    by (inl begun) = begun
    by (inr room) = absurd (none_some k (sym (there ∙ ap kind_of room.target)))

  pub amid_tried : IsAmid (x ∷ []) was was w
  amid_tried = by from.tried where
    by : HasTried x was w → IsAmid (x ∷ []) was was w
    by (inl begun) = amid_spares x was w named begun.rest
    by (inr room) = record {
      each = (between room.node.0 room.node.1 (ap (λ n. is_written n (was x.target)) room.node.1 ∙ makes_over_file room.node.0 (was x.target) room.over) room.target room.backup, tt);
      rest = λ q misses. room.rest q misses.0;
    }

module _ (x : Work) (was w : World) (named : IsNamed x) (room : IsMadeRoom x was w) where
  pub room_loose : IsLoose (w x.backup)
  room_loose = subst IsLoose (sym room.backup) (kind_file (was x.target) room.over)

  pub room_home : IsTree w → HasParent w x.target
  room_home tree = home_by_backup w x named tree room_loose.0

  pub home_again : HasBegun x was (moved w x.backup x.target)
  home_again =
      let a = named_apart x named in
      let one = put w x.backup None in
      record {
        backup = ap cleared (put_other one x.target x.backup (w x.backup) a.backup ∙ put_same w x.backup x.backup None refl) ∙ sym room.spare;
        fresh = ap cleared (put_other one x.target x.fresh (w x.backup) a.fresh ∙ put_other w x.backup x.fresh None a.spare) ∙ room.fresh;
        rest = λ q ne_b ne_f. elim (decide q x.target) [
          | inl e ↦ put_same one x.target q (w x.backup) e ∙ room.backup ∙ ap was (sym e)
          | inr ne ↦ put_other one x.target q (w x.backup) ne ∙ put_other w x.backup q None ne_b ∙ room.rest q record { target = ne; backup = ne_b; fresh = ne_f }
        ];
      }
