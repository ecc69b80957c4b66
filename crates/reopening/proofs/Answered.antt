-- A command that has answered stands whole after a loss of power.
use Rattle.std.proofs.Common.{◌≡◌, IsTrue, List, [], ◌∷◌, ◌++◌, refl}
use Rattle.host_core.specs.Events.{Event, changes_of}
use Rattle.host_core.specs.Host.{State}
use Rattle.host_core.specs.Loss.{LosesSince}
use Rattle.host_core.specs.Paths.{is_own}
use Rattle.host_core.specs.Unsynced.{IsSettled}
use Rattle.host_core.specs.World.{Avoids, World}
use Rattle.dpkg_session.specs.History.{HasDone, IsBetween, IsHistory, Ran, Stands}
use Rattle.unit_reports.specs.Held.{Held}
use Rattle.reopening.proofs.Losses.{stands_lost}

-- the law of histories: what commands leave stands
abbrev pub KeepsStanding : Type 0
KeepsStanding = (commands : List Ran) (before after : Held) (old new : World) → IsHistory commands before after old new → Stands before old → Stands after new

pub command_lost : KeepsStanding → (ran : Ran) (before after : Held) (begun s t : State) (session : List Event) (left : World) → IsTrue t.honest → IsSettled t.events → t.events ≡ begun.events ++ session → Avoids is_own (changes_of session)
    → Stands before s.world → HasDone ran before after s t → LosesSince begun t t left → Stands after left
command_lost keeps ran before after begun s t session left h settled events avoids stands done loses =
    let history : IsHistory (ran ∷ []) before after s.world t.world = (
      before,
      after,
      s.world,
      t.world,
      IsBetween.same refl (λ q own. refl),
      record { start = s; end = t; honest = h; from = refl; to = refl; opened = stands; done = done },
      (refl, λ q own. refl),
    ) in
    stands_lost after begun t session left h settled events avoids (keeps (ran ∷ []) before after s.world t.world history stands) loses
