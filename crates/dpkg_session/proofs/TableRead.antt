-- The table of diversions that an unpack went by: scripts leave its file alone, so it is that in which the unpack began.
use Rattle.std.proofs.Common.{◌≡◌, ◌⊎◌, inl, inr, List, [], ◌∷◌, ◌++◌, Option, IsTrue, sym, subst, ◌∙◌}
use Rattle.std.proofs.lemmas.List.{append_cancel_left}
use Rattle.administration.specs.Places.{diversions_path}
use Rattle.diversions.specs.Lines.{HasEntries, HasDiversions, IsDamageAt}
use Rattle.diversions.specs.Ways.{Ways}
use Rattle.diversions.specs.declared.entry.Diversion.{Diversion}
use Rattle.host_core.proofs.Moments.{grown}
use Rattle.host_core.specs.Events.{Event, follow, follow_all}
use Rattle.host_core.specs.Host.{Since, State, Throughout}
use Rattle.host_core.specs.Loss.{IsLater}
use Rattle.host_core.specs.Paths.{Path}
use Rattle.host_core.specs.World.{World}
use Rattle.host_core.specs.declared.node.Node.{Node}
use Rattle.undo_rows.specs.declared.unwinding.Unwinding.{Unwinding}
use Rattle.unpack_engine.specs.Units.{as_begun, Given, GoesByTable, IsAmidEither, IsPlanFor, IsReadAgain, IsTableIn}
use Rattle.unpack_plan.specs.Planned.{Planned}
use Rattle.dpkg_session.proofs.Far.{amid_stays, diversions_far}

throughout_front : (P : List Event → World → Type 0) (a b : List Event) (w : World) → Throughout P w (a ++ b) → P a (follow_all a w)
throughout_front P [] [] w each = each
throughout_front P [] (e ∷ b) w each = each.0
throughout_front P (e ∷ a) b w each = throughout_front (λ so_far. P (e ∷ so_far)) a b (follow e w) each.2

-- what holds at each moment holds at this one
at_moment : (P : List Event → World → Type 0) (old m new : State) → IsLater old m → IsLater m new → (since : Since P old new) → IsTrue new.honest → (so_far : List Event) × P so_far m.world
at_moment P old m new first second since h =
    let same = append_cancel_left old.events since.added (first.added ++ second.added) (sym since.events ∙ grown old.events m.events new.events first.added second.added first.events second.events) in
    (first.added, subst (P first.added) (sym first.world) (throughout_front P first.added second.added old.world (subst (Throughout P old.world) same (since.each h))))

table_at : (v w : World) (first late : Ways) → w diversions_path ≡ v diversions_path → IsTableIn w first late → IsTableIn v first late
table_at v w first late same (IsTableIn.read has) = IsTableIn.read (subst (λ (n : Option Node). HasEntries n late.entries) same has)
table_at v w first late same (IsTableIn.damaged line at is) = IsTableIn.damaged line (subst (λ (n : Option Node). IsDamageAt n line) same at) is

either_stays : (first late : Given) (places : List Path) (old : World) (so_far : List Event) (now : World) → IsAmidEither first late places old so_far now → now diversions_path ≡ old diversions_path
either_stays first late places old so_far now (inl amid) = amid_stays diversions_path diversions_far first places old so_far now amid
either_stays first late places old so_far now (inr amid) = amid_stays diversions_path diversions_far late places old so_far now amid

pub table_kept : (begun g : Given) (places : List Path) (u : Option Unwinding) (s t : State) → GoesByTable g u s t → Since (IsAmidEither begun g places s.world) s t → IsTrue t.honest → (g.ways ≡ g.begun) ⊎ IsTableIn s.world g.begun g.ways
table_kept begun g places u s t goes since h = by goes.either
  where
    by : (g.ways ≡ g.begun) ⊎ ((plan : Planned) × IsPlanFor (as_begun g) s.world t.honest plan × IsReadAgain g.lists plan g.begun g.ways s t) → (g.ways ≡ g.begun) ⊎ IsTableIn s.world g.begun g.ways
    by (inl same) = inl same
    by (inr (plan, is, read)) =
        let moment = at_moment (IsAmidEither begun g places s.world) s read.m t read.since read.until since h in
        inr (table_at s.world read.m.world g.begun g.ways (either_stays begun g places s.world moment.0 read.m.world moment.1) (read.table (read.until.honest h)))

-- the table's entries are still those of the file
pub table_of : (w : World) (first late : Ways) → (late ≡ first) ⊎ IsTableIn w first late → HasDiversions w first.entries → HasDiversions w late.entries
table_of w first late (inl same) has = subst (λ (v : Ways). HasDiversions w v.entries) (sym same) has
table_of w first late (inr (IsTableIn.read is)) has = is
table_of w first late (inr (IsTableIn.damaged line at same)) has = subst (HasDiversions w) (sym same) has
