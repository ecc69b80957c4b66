-- A file or link takes the place of what stands at its target.
use Rattle.std.proofs.Common.{◌≡◌, true, false, [], ◌∷◌, None, refl, sym, subst, ◌∙◌}
use Rattle.std.specs.Prelude.{IsSome, cond, Bool}
use Rattle.std.specs.Str.{bytes_eq}
use Rattle.host_core.specs.Paths.{Path}
use Rattle.host_core.specs.World.{World, Move, put, moved, HasParent}
use Rattle.host_core.specs.Tree.{IsTree}
use Rattle.host_core.specs.Events.{Event, Did}
use Rattle.host_core.specs.Host.{State, Happens}
use Rattle.host_core.specs.Unsynced.{unsynced, unsynced_after, marked}
use Rattle.host_core.specs.Suffixes.{suffix_text}
use Rattle.host_core.proofs.Losses.{still_synced}
use Rattle.host_core.proofs.ShipNames.{parent_home_of}
use Rattle.host_core.proofs.WorldLaws.{put_same, put_other}
use Rattle.host_core.specs.declared.suffix.Suffix.TheVariants.{Inst}
use Rattle.package_files.specs.declared.work.Work.{Work}
use Rattle.package_files.specs.Laid.{AllSynced, CanTakePlace, HasTakenPlace}
use Rattle.package_files.specs.Names.{IsNamed}
use Rattle.package_files.specs.Apart.{IsApart}
use Rattle.package_files.proofs.WorkNames.{named_apart}

-- which files are synced

unmarked : (u : Path → Bool) (p q : Path) (b : Bool) → b ≡ false → u q ≡ false → marked u p b q ≡ false
unmarked u p q b none at = by (bytes_eq p q) where
  by : (t : Bool) → cond t b (u q) ≡ false
  by true = none
  by false = at

pub all_moved : (from to : Path) (a b : State) → Happens (Did (Move from to) ∷ []) a b → AllSynced a.events → AllSynced b.events
all_moved from to a b does all = λ q. still_synced a.events b.events (Did (Move from to)) q does.events
    (unmarked (marked (unsynced a.events) from false) to q (unsynced a.events from) (all from) (unmarked (unsynced a.events) from q false refl (all q)) ∙ sym (all q)) (all q)

-- where the temporary name lies, the place does
pub home_by_fresh : (w : World) (x : Work) → IsNamed x → IsTree w → IsSome (w x.fresh) → HasParent w x.place
home_by_fresh w x named tree some = parent_home_of w x.place Inst tree named.place (subst (λ q. IsSome (w q)) named.fresh some)

module _ (x : Work) (w : World) (named : IsNamed x) (can : CanTakePlace x w) where
  names : IsApart x
  names = named_apart x named

  pub taking_home : IsTree w → HasParent w x.place
  taking_home tree = home_by_fresh w x named tree (subst IsSome (sym can.fresh) refl)

  pub taken_then : HasTakenPlace x w (moved w x.fresh x.target)
  taken_then =
      let one = put w x.fresh None in
      record {
        target = put_same one x.target x.target (w x.fresh) refl ∙ can.fresh;
        fresh = put_other one x.target x.fresh (w x.fresh) names.fresh ∙ put_same w x.fresh x.fresh None refl;
        rest = λ q ne_t ne_f. put_other one x.target q (w x.fresh) ne_t ∙ put_other w x.fresh q None ne_f;
      }
