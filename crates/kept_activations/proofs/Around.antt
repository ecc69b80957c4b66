-- What comes of triggers behind the units of a command.
use Rattle.std.proofs.Common.{◌≡◌, ◌||◌, ℕ, true, List, ◌++◌, Option, IsTrue, subst}
use Rattle.host_core.specs.Host.{State}
use Rattle.trigger_journal.specs.Asked.{is_asked, is_found}
use Rattle.trigger_journal.specs.Requests.{requests_of}
use Rattle.trigger_turns.specs.Turns.{names_told, pending_owners}
use Rattle.unit_reports.specs.Held.{Held}
use Rattle.unit_reports.specs.declared.report.Unit.{Unit as AUnit}
use Rattle.command_line.specs.Triggering.{HasProcessed, touched_of}
use Rattle.kept_activations.specs.Commands.{IsCarriedOut}
use Rattle.kept_activations.specs.Hitting.{IsHitLast}
use Rattle.kept_activations.specs.Known.{Known, Triggered, Triggering}
use Rattle.kept_activations.specs.Pending.{IsInterested, IsPending}
use Rattle.kept_activations.specs.Processing.{IsKept}
use Rattle.kept_activations.proofs.NotedAll.{asked_pending, hit_pending, noted_falls, pending_stays}
use Rattle.kept_activations.proofs.Passing.{Passes}
use Rattle.kept_activations.proofs.TakenUp.{up_passes}

module _ (t : Triggering) (us : List AUnit) (known : Known) (came : Triggered) (before after : Held) (s end : State) (out : IsCarriedOut t us known came before after s end) where
  abbrev names : List (List ℕ)
  names = pending_owners before.records.records ++ names_told came.noted.units.items

  pub up : Passes came.processed.units.items out.triggered.mid after out.triggered.noting end
  up = up_passes t.process names came.processed out.triggered.mid after out.triggered.noting end
      (subst (λ (o : Option AUnit). HasProcessed t.process names o came.processed out.triggered.mid after out.triggered.noting end) out.noted out.triggered.processed) out.processed

  pub noting_honest : IsTrue out.triggered.noting.honest
  noting_honest = up.falls out.honest

  pub out_falls : IsTrue s.honest
  out_falls = noted_falls t.by_files known (touched_of us) came.noted before out.triggered.mid s out.triggered.noting out.triggered.noted out.noted noting_honest

  module _ (owner trigger : List ℕ) where
    pub out_stays : IsPending before.records.records owner trigger → IsKept after.records.records came.processed.units.items owner trigger
    out_stays pending =
        up.kept owner trigger (pending_stays t.by_files known (touched_of us) came.noted before out.triggered.mid s out.triggered.noting out.triggered.noted out.noted noting_honest owner trigger pending)

    pub out_hit : IsInterested s.world before.records.records owner trigger → IsHitLast s.world before.lists t.by_files known.watch.before.items (touched_of us) owner trigger
        → IsKept after.records.records came.processed.units.items owner trigger
    out_hit interested hit =
        up.kept owner trigger (hit_pending t.by_files known (touched_of us) came.noted before out.triggered.mid s out.triggered.noting out.triggered.noted out.noted noting_honest owner trigger interested hit)

    pub out_asked : IsInterested s.world before.records.records owner trigger → is_found known.found.items trigger || is_asked (requests_of s.world) trigger ≡ true
        → IsKept after.records.records came.processed.units.items owner trigger
    out_asked interested asked =
        up.kept owner trigger (asked_pending t.by_files known (touched_of us) came.noted before out.triggered.mid s out.triggered.noting out.triggered.noted out.noted noting_honest owner trigger interested asked)
