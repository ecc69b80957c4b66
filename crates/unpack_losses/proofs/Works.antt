-- The names of a work lie in one directory, so that a loss leaves them as one stop does.
use Rattle.std.specs.Prelude.{◌≡◌, ◌⊎◌, Bool, true, List, [], ◌∷◌, ◌++◌, IsTrue}
use Rattle.std.proofs.Common.{refl, sym, ◌∙◌, ap, subst, inl, inr}
use Rattle.host_core.specs.Paths.{Path}
use Rattle.host_core.specs.World.{World}
use Rattle.host_core.specs.Host.{State, AtEachMoment}
use Rattle.host_core.specs.Loss.{IsBlurred, IsLike, ScriptsAvoid}
use Rattle.host_core.specs.Suffixes.{suffix_text}
use Rattle.host_core.specs.Unsynced.{IsSettled}
use Rattle.host_core.specs.declared.suffix.Suffix.TheVariants.{New, Tmp}
use Rattle.package_files.specs.Apart.{HasNames}
use Rattle.package_files.specs.Back.{IsGoingBack}
use Rattle.package_files.specs.Files.{Each, IsAmid, IsShown, IsWhole, before, between, behind}
use Rattle.package_files.specs.Free.{IsWrittenFrom}
use Rattle.package_files.specs.Names.{IsNamed}
use Rattle.package_files.specs.declared.work.Work.{Work}
use Rattle.package_files.proofs.WorkNames.{backup_proper, target_proper}
use Rattle.unpack_losses.specs.Files.{AreLeftWhole}
use Rattle.scattered_losses.specs.Scattered.{parent_of, within, LosesScattered}
use Rattle.scattered_losses.proofs.ByDirectory.{in_directory, in_own, parent_beside, since_within}

pub target_in : (x : Work) → IsNamed x → parent_of x.target ≡ parent_of x.place
target_in x named = by named.target
  where
    by : (x.target ≡ x.place) ⊎ (x.target ≡ x.place ++ suffix_text New) → parent_of x.target ≡ parent_of x.place
    by (inl e) = ap parent_of e
    by (inr e) = ap parent_of e ∙ parent_beside x.place (suffix_text New) refl

pub backup_in : (x : Work) → IsNamed x → parent_of x.backup ≡ parent_of x.place
backup_in x named = ap parent_of named.backup ∙ parent_beside x.place (suffix_text Tmp) refl

-- what is like a world in the directory of a work has what the world has at its target and its backup

pub target_left : (kept : Path → Bool) (x : Work) (w left : World) → IsNamed x → kept x.target ≡ true → IsLike (within kept (parent_of x.place)) w left → left x.target ≡ w x.target
target_left kept x w left named here like = like.whole x.target (in_directory kept (parent_of x.place) x.target here (target_in x named)) (target_proper x named)

pub backup_left : (kept : Path → Bool) (x : Work) (w left : World) → IsNamed x → kept x.backup ≡ true → IsLike (within kept (parent_of x.place)) w left → left x.backup ≡ w x.backup
backup_left kept x w left named here like = like.whole x.backup (in_directory kept (parent_of x.place) x.backup here (backup_in x named)) (backup_proper x named)

module _ (kept : Path → Bool) (old mid left : World) where
  whole_left : (x : Work) (w : World) → IsNamed x → HasNames kept x → IsLike (within kept (parent_of x.place)) w left → IsWhole old w x → IsWhole old left x
  whole_left x w named names like (before is) = before (target_left kept x w left named names.target like ∙ is)
  whole_left x w named names like (between access node written none had) =
      between access node written (target_left kept x w left named names.target like ∙ none) (backup_left kept x w left named names.backup like ∙ had)
  whole_left x w named names like (behind written shown had) =
      behind written (subst (IsShown x.node) (sym (target_left kept x w left named names.target like)) shown) (backup_left kept x w left named names.backup like ∙ had)

  -- in each directory the files are as at some moment
  abbrev AreAmidIn : List Work → Type 0
  AreAmidIn works = (d : Path) → (w : World) × IsAmid works old mid w × IsLike (within kept d) w left

  each_left : (works : List Work) → AreAmidIn works → (xs : List Work) → ((w : World) → Each (IsWhole old w) works → Each (IsWhole old w) xs) → Each IsNamed xs → Each (HasNames kept) xs
      → Each (IsWhole old left) xs
  each_left works amid [] pick named names = tt
  each_left works amid (x ∷ xs) pick named names =
      let one = amid (parent_of x.place) in
      (whole_left x one.0 named.0 names.0 one.2 (pick one.0 one.1.each).0, each_left works amid xs (λ w each. (pick w each).1) named.1 names.1)

  pub left_whole : (works : List Work) → AreAmidIn works → Each IsNamed works → Each (HasNames kept) works → AreLeftWhole kept works old mid left
  left_whole works amid named names = record {
    each = each_left works amid works (λ w each. each) named names;
    rest = λ q here misses proper. let one = amid (parent_of q) in one.2.whole q (in_own kept q here) proper ∙ one.1.rest q misses;
    aside = λ q here misses t. let one = amid (parent_of q) in subst (λ n. IsBlurred n (left q)) (one.1.rest q misses) (one.2.bytes q (in_own kept q here) t);
  }

pub written_left : (kept : Path → Bool) (works : List Work) (begun old new : State) (left : World) → IsTrue new.honest → IsSettled new.events → ScriptsAvoid kept begun new
    → Each IsNamed works → Each (HasNames kept) works → AtEachMoment (λ old now. IsAmid works old old now) old new → LosesScattered begun old new left
    → AreLeftWhole kept works old.world old.world left
written_left kept works begun old new left h settled scripts named names since loses =
    left_whole kept old.world old.world left works
    (λ d. let one = since_within kept (λ so_far now. IsAmid works old.world old.world now) begun old new left h settled scripts since loses d in (one.1, one.2, one.4)) named names

pub back_left : (kept : Path → Bool) (works : List Work) (begun old new : State) (was left : World) → IsTrue new.honest → IsSettled new.events → ScriptsAvoid kept begun new
    → Each IsNamed works → Each (HasNames kept) works → AtEachMoment (IsGoingBack works) old new → IsWrittenFrom works was old.world → LosesScattered begun old new left
    → AreLeftWhole kept works was old.world left
back_left kept works begun old new was left h settled scripts named names since written loses =
    left_whole kept was old.world left works
    (λ d. let one = since_within kept (λ so_far. IsGoingBack works old.world) begun old new left h settled scripts since loses d in (one.1, one.2 was written, one.4)) named names
