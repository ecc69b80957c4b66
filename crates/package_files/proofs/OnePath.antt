-- One shipped path is written: what its parts leave together.
use Rattle.std.proofs.Common.{◌≡◌, ◌≢◌, ◌⊎◌, Bool, true, false, [], ◌∷◌, Some, None, inl, inr, refl, sym, ap, subst, ◌∙◌}
use Rattle.std.specs.Prelude.{IsSome}
use Rattle.host_core.specs.Paths.{Path}
use Rattle.host_core.specs.World.{World, put, moved, HasParent, is_directory, kind_of}
use Rattle.host_core.proofs.WorldLaws.{put_same, put_other}
use Rattle.host_core.specs.declared.node.Access.{Access}
use Rattle.host_core.specs.declared.node.Kind.TheVariants as kind
use Rattle.host_core.specs.declared.node.Node.TheVariants.{Dir}
use Rattle.administration.specs.Files.{KeepsBeside, IsAside}
use Rattle.package_files.specs.declared.work.Work.{Work}
use Rattle.package_files.specs.Files.{is_written, cleared, shown, saved, Each, Misses, Written, before, between, behind, IsAmid}
use Rattle.package_files.specs.Free.{IsFree, IsFreeIn, IsSeen}
use Rattle.package_files.specs.Laid.{is_exchanged, IsPreparedAs, Prepared}
use Rattle.package_files.specs.Names.{IsNamed}
use Rattle.package_files.specs.Apart.{IsApart}
use Rattle.package_files.specs.Steps.{IsCleared, AreCleared, KeepsBesideSpares, IsReady, IsSaved, HasBegun}
use Rattle.package_files.proofs.Laid.{exchanged_there, exchanged_free, left_there, laid_prepared, written_prepared}
use Rattle.package_files.proofs.WorkNames.{named_apart, home_stays}
use Rattle.package_files.proofs.Written.{kind_file, kind_directory, keeps_directory, keeps_link, makes_over_file, makes_at_none, cleared_again, cleared_saved, saved_cleared, free_cleared, saved_some, shown_directory, whole_from}

other : {p q : Path} → p ≢ q → q ≢ p
other ne e = ne (sym e)

-- a list of one

pub one_rest : (x : Work) (q : Path) → Misses x q → Each (λ y. Misses y q) (x ∷ [])
one_rest x q misses = (misses, tt)

-- the target isn't touched
pub amid_before : (x : Work) (w now : World) → now x.target ≡ w x.target → ((q : Path) → Misses x q → now q ≡ w q) → IsAmid (x ∷ []) w w now
amid_before x w now is same = record { each = (before is, tt); rest = λ q misses. same q misses.0 }

pub amid_same : (x : Work) (w : World) → IsAmid (x ∷ []) w w w
amid_same x w = amid_before x w w refl (λ q misses. refl)

-- the spare names are cleared

pub cleared_both : (x : Work) (old mid new : World) → IsApart x → IsCleared x.fresh old mid → IsCleared x.backup mid new → AreCleared x old new
cleared_both x old mid new apart first second = record {
  backup = second.there ∙ ap cleared (first.rest x.backup (other apart.spare));
  fresh = second.rest x.fresh apart.spare ∙ first.there;
  rest = λ q ne_b ne_f. second.rest q ne_b ∙ first.rest q ne_f;
}

pub keeps_first : (x : Work) (old now : World) → KeepsBeside x.fresh old now → KeepsBesideSpares x old now
keeps_first x old now keeps q ne_b ne_f = keeps q ne_f

pub keeps_second : (x : Work) (old mid now : World) → KeepsBeside x.fresh old mid → KeepsBeside x.backup mid now → KeepsBesideSpares x old now
keeps_second x old mid now first second q ne_b ne_f = second q ne_b ∙ first q ne_f

module _ (x : Work) (w v : World) (named : IsNamed x) where
  apart : IsApart x
  apart = named_apart x named

  -- what holds once they are
  module _ (clear : AreCleared x w v) where
    pub cleared_target : v x.target ≡ w x.target
    cleared_target = clear.rest x.target (other apart.backup) (other apart.fresh)

    cleared_rest : (q : Path) → Misses x q → v q ≡ w q
    cleared_rest q misses = clear.rest q misses.backup misses.fresh

    pub ready_then : IsFreeIn w x → HasParent w x.place → IsReady x v
    ready_then free parent = record {
      free = subst (λ t. IsFree x.node t (v x.backup) (v x.fresh)) (sym cleared_target)
          (subst (λ b. IsFree x.node (w x.target) b (v x.fresh)) (sym clear.backup)
          (subst (λ f. IsFree x.node (w x.target) (cleared (w x.backup)) f) (sym clear.fresh) (free_cleared x.node (w x.target) (w x.backup) (w x.fresh) free)));
      backup = ap cleared clear.backup ∙ cleared_again (w x.backup) ∙ sym clear.backup;
      fresh = ap cleared clear.fresh ∙ cleared_again (w x.fresh) ∙ sym clear.fresh;
      parent = home_stays x w v named cleared_rest parent;
    }

    saved_then : (a : Bool) → saved a (v x.target) (v x.backup) ≡ saved a (w x.target) (w x.backup)
    saved_then a = (λ i. saved a (cleared_target i) (clear.backup i)) ∙ saved_cleared a (w x.target) (w x.backup)

    then_as : (b : Bool) (u : World) → IsPreparedAs b v u x → IsPreparedAs b w u x
    then_as true u laid = record {
      target = laid.target ∙ cleared_target;
      backup = laid.backup ∙ saved_then true;
      fresh = laid.fresh;
    }
    then_as false u has = record {
      target = has.target ∙ ap (λ o. shown (is_written x.node o) x.node o) cleared_target;
      backup = has.backup ∙ saved_then (is_written x.node (v x.target)) ∙ ap (λ o. saved (is_written x.node o) (w x.target) (w x.backup)) cleared_target;
      fresh = has.fresh ∙ ap cleared clear.fresh ∙ cleared_again (w x.fresh);
    }

    pub prepared_then : (u : World) → Prepared (x ∷ []) v u → Prepared (x ∷ []) w u
    prepared_then u prepared = record {
      each = (then_as (is_exchanged x.node x.had) u prepared.each.0, tt);
      rest = λ q misses. prepared.rest q misses ∙ cleared_rest q misses.0;
    }

    pub amid_then : (c : World) → IsAmid (x ∷ []) v v c → IsAmid (x ∷ []) w w c
    amid_then c amid = record {
      each = (whole_from v w c x cleared_target (saved_then true) amid.each.0, tt);
      rest = λ q misses. amid.rest q misses ∙ cleared_rest q misses.0;
    }

  pub amid_spares : KeepsBesideSpares x w v → IsAmid (x ∷ []) w w v
  amid_spares keeps = amid_before x w v (keeps x.target (other apart.backup) (other apart.fresh)) (λ q misses. keeps q misses.backup misses.fresh)

-- nothing is written
pub left_written : (x : Work) (w : World) → is_written x.node (w x.target) ≡ false → IsReady x w → Written (x ∷ []) w w
left_written x w left ready = record {
  each = (
    record {
      target = ap (λ a. shown a x.node (w x.target)) (sym left);
      backup = sym ready.backup ∙ ap (λ a. saved a (w x.target) (w x.backup)) (sym left);
      fresh = sym ready.fresh;
    },
    tt,
  );
  rest = λ q misses. refl;
}

-- what is written is prepared where nothing takes a place
pub written_is_prepared : (x : Work) (w v : World) → is_exchanged x.node x.had ≡ false → Written (x ∷ []) w v → Prepared (x ∷ []) w v
written_is_prepared x w v is written = record { each = (written_prepared w v x is written.each.0, tt); rest = written.rest }

-- a file or link is left where a directory stands
pub left_prepared : (x : Work) (w : World) → is_directory (Some x.node) ≡ false → is_exchanged x.node x.had ≡ false → IsSeen w x → IsReady x w → Prepared (x ∷ []) w w
left_prepared x w loose is seen ready = written_is_prepared x w w is (left_written x w (keeps_directory x.node (w x.target) (left_there w x seen loose is)) ready)

-- or stands at its temporary name
module _ (x : Work) (w : World) (named : IsNamed x) (is : is_exchanged x.node x.had ≡ true) (seen : IsSeen w x) (ready : IsReady x w) where
  pub fresh_absent : w x.fresh ≡ None
  fresh_absent = sym ready.fresh ∙ (exchanged_free w x seen is ready.free).1

  pub spare_absent : w x.backup ≡ None
  spare_absent = sym ready.backup ∙ (exchanged_free w x seen is ready.free).0

  pub not_over : is_directory (w x.target) ≡ false
  not_over = (exchanged_there w x seen is).1

  -- where nothing is to be saved
  pub none_saved : w x.target ≡ None → IsSaved x w w
  none_saved none = record { backup = sym ready.backup ∙ ap (λ o. saved true o (w x.backup)) (sym none); rest = λ q ne. refl }

  -- what stands at the target is saved
  module _ (v : World) (save : IsSaved x w v) where
    names : IsApart x
    names = named_apart x named

    pub saved_absent : v x.fresh ≡ None
    saved_absent = save.rest x.fresh names.spare ∙ fresh_absent

    pub saved_home : HasParent v x.place
    saved_home = home_stays x w v named (λ q misses. save.rest q misses.backup) ready.parent

    pub saved_begun : (u : World) → u ≡ v → HasBegun x w u
    saved_begun u same = subst (HasBegun x w) (sym same) record {
      backup = ap cleared save.backup ∙ cleared_saved (w x.target) (w x.backup) not_over (ap cleared spare_absent) ∙ sym (ap cleared spare_absent);
      fresh = ap cleared (save.rest x.fresh names.spare);
      rest = λ q ne_b ne_f. save.rest q ne_b;
    }

    pub laid_here : (u : World) → IsAside x.fresh x.node v u → Prepared (x ∷ []) w u
    laid_here u aside = record {
      each = (
        laid_prepared w u x is record {
          target = aside.rest x.target (other names.fresh) ∙ save.rest x.target (other names.backup);
          backup = aside.rest x.backup (other names.spare) ∙ save.backup;
          fresh = aside.target;
        },
        tt,
      );
      rest = λ q misses. aside.rest q misses.0.fresh ∙ save.rest q misses.0.backup;
    }

    pub amid_laying : (c : World) → KeepsBeside x.fresh v c → IsAmid (x ∷ []) w w c
    amid_laying c keeps = amid_spares x w c named (λ q ne_b ne_f. keeps q ne_f ∙ save.rest q ne_b)

-- a directory is made, once its place is free

pub record IsVacant (x : Work) (w u : World) : Type 0 where
  pub target : u x.target ≡ None
  pub backup : u x.backup ≡ saved true (w x.target) (w x.backup)
  pub fresh : u x.fresh ≡ w x.fresh
  pub rest : (q : Path) → Misses x q → u q ≡ w q

module _ (x : Work) (w : World) (named : IsNamed x) (access : Access) (node : x.node ≡ Dir access) (ready : IsReady x w) (wrote : is_written x.node (w x.target) ≡ true) where
  pub vacant_none : w x.target ≡ None → IsVacant x w w
  vacant_none none = record {
    target = none;
    backup = sym ready.backup ∙ ap (λ o. saved true o (w x.backup)) (sym none);
    fresh = refl;
    rest = λ q misses. refl;
  }

  pub vacant_moved : IsSome (w x.target) → IsVacant x w (moved w x.target x.backup)
  vacant_moved some =
      let a = named_apart x named in
      let one = put w x.target None in
      record {
        target = put_other one x.backup x.target (w x.target) (other a.backup) ∙ put_same w x.target x.target None refl;
        backup = put_same one x.backup x.backup (w x.target) refl ∙ sym (saved_some (w x.target) (w x.backup) some);
        fresh = put_other one x.backup x.fresh (w x.target) a.spare ∙ put_other w x.target x.fresh None a.fresh;
        rest = λ q misses. put_other one x.backup q (w x.target) misses.backup ∙ put_other w x.target q None misses.target;
      }

  module _ (u : World) (vacant : IsVacant x w u) where
    -- for a moment nothing is there
    pub amid_vacant : (u x.backup ≡ w x.target) ⊎ (w x.target ≡ None) → IsAmid (x ∷ []) w w u
    amid_vacant (inl spot) = record { each = (between access node wrote vacant.target spot, tt); rest = λ q misses. vacant.rest q misses.0 }
    amid_vacant (inr none) = amid_before x w u (vacant.target ∙ sym none) vacant.rest

    pub amid_made : (m : Access) → IsAmid (x ∷ []) w w (put u x.target (Some (Dir m)))
    amid_made m =
        let a = named_apart x named in
        let z = put u x.target (Some (Dir m)) in
        record {
          each = (behind wrote (shown_directory x.node access (z x.target) node (m, put_same u x.target x.target (Some (Dir m)) refl)) (put_other u x.target x.backup (Some (Dir m)) a.backup ∙ vacant.backup), tt);
          rest = λ q misses. put_other u x.target q (Some (Dir m)) misses.0.target ∙ vacant.rest q misses.0;
        }

    pub made : Written (x ∷ []) w (put u x.target (Some (Dir access)))
    made =
        let a = named_apart x named in
        record {
          each = (
            record {
              target = put_same u x.target x.target (Some (Dir access)) refl ∙ ap Some (sym node) ∙ ap (λ b. shown b x.node (w x.target)) (sym wrote);
              backup = put_other u x.target x.backup (Some (Dir access)) a.backup ∙ vacant.backup ∙ ap (λ b. saved b (w x.target) (w x.backup)) (sym wrote);
              fresh = put_other u x.target x.fresh (Some (Dir access)) a.fresh ∙ vacant.fresh ∙ sym ready.fresh;
            },
            tt,
          );
          rest = λ q misses. put_other u x.target q (Some (Dir access)) misses.0.target ∙ vacant.rest q misses.0;
        }

-- in the place of a file
module _ (x : Work) (w : World) (named : IsNamed x) (access : Access) (node : x.node ≡ Dir access) (ready : IsReady x w) (over : Some kind.File ≡ kind_of (w x.target)) where
  pub over_wrote : is_written x.node (w x.target) ≡ true
  over_wrote = ap (λ n. is_written n (w x.target)) node ∙ makes_over_file access (w x.target) over

  pub over_vacant : IsVacant x w (moved w x.target x.backup)
  over_vacant = vacant_moved x w named access node ready over_wrote (kind_file (w x.target) over).0

  pub over_between : IsAmid (x ∷ []) w w (moved w x.target x.backup)
  over_between = amid_vacant x w named access node ready over_wrote (moved w x.target x.backup) over_vacant (inl (put_same (put w x.target None) x.backup x.backup (w x.target) refl))

-- where nothing stands
module _ (x : Work) (w : World) (named : IsNamed x) (access : Access) (node : x.node ≡ Dir access) (ready : IsReady x w) (none : w x.target ≡ None) where
  pub none_wrote : is_written x.node (w x.target) ≡ true
  none_wrote = ap (λ n. is_written n (w x.target)) node ∙ makes_at_none access (w x.target) none

  pub none_vacant : IsVacant x w w
  none_vacant = vacant_none x w named access node ready none_wrote none

-- a directory or a link stays where it is
pub left_directory : (x : Work) (w : World) → Some kind.Directory ≡ kind_of (w x.target) → IsReady x w → Written (x ∷ []) w w
left_directory x w is ready = left_written x w (keeps_directory x.node (w x.target) (kind_directory (w x.target) is)) ready

pub left_link : (x : Work) (w : World) (access : Access) → x.node ≡ Dir access → Some kind.SymbolicLink ≡ kind_of (w x.target) → IsReady x w → Written (x ∷ []) w w
left_link x w access node is ready = left_written x w (ap (λ n. is_written n (w x.target)) node ∙ keeps_link access (w x.target) is) ready
