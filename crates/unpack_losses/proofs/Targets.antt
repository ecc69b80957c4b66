-- What is left of an unpack, directory by directory, where scripts leave the paths of the package alone.
use Rattle.std.specs.Prelude.{◌≡◌, Bool, true, false, List, [], ◌∷◌, ◌++◌, IsTrue}
use Rattle.std.proofs.Common.{refl, sym, ◌∙◌, ap, subst}
use Rattle.host_core.specs.Paths.{Path}
use Rattle.host_core.specs.World.{World, Change, changed, Avoids}
use Rattle.host_core.specs.Events.{Event, changes_of}
use Rattle.host_core.specs.Host.{AtEachMomentOf, State}
use Rattle.host_core.specs.Loss.{IsLike, IsLikeOne, ScriptsAvoid}
use Rattle.host_core.specs.Unsynced.{IsSettled, is_temporary}
use Rattle.host_core.proofs.Scripts.{changed_kept}
use Rattle.package_files.specs.Apart.{HasNames}
use Rattle.package_files.specs.Files.{Each, IsShown}
use Rattle.package_files.specs.Names.{IsNamed}
use Rattle.package_files.specs.declared.work.Work.{Work}
use Rattle.scattered_losses.specs.Scattered.{parent_of, within, LosesScattered}
use Rattle.scattered_losses.proofs.ByDirectory.{in_directory, in_own, since_within}
use Rattle.unpack_losses.proofs.Works.{backup_left, target_in, target_left}
use Rattle.unpack_engine.specs.Units.{Given, IsAmidUnit}
use Rattle.unpack_laws.specs.InHand.{IsPassedBy, unit_works}
use Rattle.unpack_laws.specs.Whole.{IsLasting, IsTargetAmid, IsTargetBack, IsTargetSet, IsWorkAmid}
use Rattle.unpack_losses.specs.Targets.{IsTargetLeft}

later_avoids : (kept : Path → Bool) (early late : Change) → Avoids kept (early ++ late) → Avoids kept late
later_avoids kept [] late all = all
later_avoids kept (e ∷ early) late all = later_avoids kept early late all.1

module _ (kept : Path → Bool) (old left : World) where
  -- of one path, by the world that its directory is like
  module _ (x : Work) (named : IsNamed x) (names : HasNames kept x) (w : World) (change : Change) (avoids : Avoids (within kept (parent_of x.place)) change) (like : IsLike (within kept (parent_of x.place)) w left) where
    there : left x.target ≡ w x.target
    there = target_left kept x w left named names.target like

    untouched : (v : World) (c : Change) → Avoids (within kept (parent_of x.place)) c → changed c v x.target ≡ v x.target
    untouched v c none = changed_kept (within kept (parent_of x.place)) c v none x.target (in_directory kept (parent_of x.place) x.target names.target (target_in x named))

    back_left : IsTargetBack x.target x.node old w change → IsTargetLeft x old left
    back_left (IsTargetBack.stood is) = IsTargetLeft.stood (there ∙ is ∙ untouched old change avoids)
    back_left (IsTargetBack.stayed access early late made node split was is) =
        IsTargetLeft.shown (subst (λ n. IsShown n (left x.target)) (sym node)
        (access, there ∙ is ∙ untouched made late (later_avoids (within kept (parent_of x.place)) early late (subst (Avoids (within kept (parent_of x.place))) split avoids)) ∙ was))

    amid_left : IsWorkAmid old w change x → IsTargetLeft x old left
    amid_left (IsTargetAmid.whole (IsTargetSet.before is)) = back_left is
    amid_left (IsTargetAmid.whole (IsTargetSet.shown is)) = IsTargetLeft.shown (subst (IsShown x.node) (sym there) is)
    amid_left (IsTargetAmid.between access node none had) =
        IsTargetLeft.between access node (there ∙ none) (backup_left kept x w left named names.backup like ∙ had ∙ untouched old change avoids)

-- what unpack_laws says of each moment, at shipped paths and where nothing is done
abbrev pub StandsAmid : Type 0
StandsAmid = (g : Given) (places : List Path) (old now : World) (so_far : List Event) → IsAmidUnit g places old so_far now
    → Each (λ x. IsLasting g x.target → IsWorkAmid old now (changes_of so_far) x) (unit_works g)

abbrev pub PassesBy : Type 0
PassesBy = (g : Given) (places : List Path) (old now : World) (so_far : List Event) (q : Path) → IsPassedBy g q → IsAmidUnit g places old so_far now → now q ≡ changed (changes_of so_far) old q

module _ (kept : Path → Bool) (g : Given) (places : List Path) (begun old new : State) (left : World) (h : IsTrue new.honest) (settled : IsSettled new.events) (scripts : ScriptsAvoid kept begun new)
    (since : AtEachMomentOf (IsAmidUnit g places) old new) (loses : LosesScattered begun old new left) where
  pub moment_left : (d : Path) → IsLikeOne (within kept d) (IsAmidUnit g places old.world) left
  moment_left = since_within kept (IsAmidUnit g places old.world) begun old new left h settled scripts since loses

  module _ (law : StandsAmid) where
    each_left : (xs : List Work)
        → ((so_far : List Event) (w : World) → Each (λ x. IsLasting g x.target → IsWorkAmid old.world w (changes_of so_far) x) (unit_works g) → Each (λ x. IsLasting g x.target → IsWorkAmid old.world w (changes_of so_far) x) xs)
        → Each (λ x. IsNamed x → HasNames kept x → IsLasting g x.target → IsTargetLeft x old.world left) xs
    each_left [] pick = tt
    each_left (x ∷ xs) pick = (here, each_left xs (λ so_far w each. (pick so_far w each).1))
      where
        here : IsNamed x → HasNames kept x → IsLasting g x.target → IsTargetLeft x old.world left
        here named names lasting =
            let one = moment_left (parent_of x.place) in
            amid_left kept old.world left x named names one.1 (changes_of one.0) one.3 one.4 ((pick one.0 one.1 (law g places old.world one.1 one.0 one.2)).0 lasting)

    pub files_left : Each (λ x. IsNamed x → HasNames kept x → IsLasting g x.target → IsTargetLeft x old.world left) (unit_works g)
    files_left = each_left (unit_works g) (λ so_far w each. each)

  pub beside_left : PassesBy → (q : Path) → IsPassedBy g q → kept q ≡ true → is_temporary q ≡ false → left q ≡ old.world q
  beside_left law q passed here proper =
      let one = moment_left (parent_of q) in
      one.4.whole q (in_own kept q here) proper ∙ law g places old.world one.1 one.0 q passed one.2
      ∙ changed_kept (within kept (parent_of q)) (changes_of one.0) old.world one.3 q (in_own kept q here)
