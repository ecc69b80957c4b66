-- What a command has noted behind its units.
use Rattle.std.proofs.Common.{◌≡◌, ◌||◌, inl, inr, ℕ, Bool, true, List, [], ◌++◌, map, Option, None, Some, IsTrue, sym, ap, subst, ◌∙◌}
use Rattle.std.specs.Prelude.{IsSomeAnd, is_some}
use Rattle.std.proofs.lemmas.List.{map-append}
use Rattle.host_core.specs.Host.{State}
use Rattle.record_changes.specs.Run.{IsChangeRun}
use Rattle.record_changes.specs.declared.change.RecordChange.{RecordChange}
use Rattle.trigger_journal.specs.Asked.{asked_of, is_asked, is_found}
use Rattle.trigger_journal.specs.Requests.{requests_of}
use Rattle.trigger_watch.specs.Activations.{activations_of}
use Rattle.trigger_watch.specs.declared.activating.Activation.{Activation}
use Rattle.trigger_watch.specs.declared.touching.Touch.{Touch}
use Rattle.dpkg_session.specs.Activated.{change_by}
use Rattle.unit_reports.specs.Held.{Held}
use Rattle.unit_reports.specs.Units.{TellsNoPackage, breakage_of}
use Rattle.unit_reports.specs.declared.report.Reply.TheVariants.{Broken}
use Rattle.unit_reports.specs.declared.report.Report.{Report}
use Rattle.unit_reports.specs.declared.report.Unit.{Unit as AUnit}
use Rattle.command_line.specs.Triggering.{HasNoted, HasNotedAll}
use Rattle.kept_activations.specs.Hitting.{IsHitLast}
use Rattle.kept_activations.specs.Known.{Known}
use Rattle.kept_activations.specs.Pending.{IsInterested, IsPending}
use Rattle.kept_activations.proofs.Notes.{run_notes, run_stays, told_asked, told_hit, told_left, told_right}

pub some_none : {T : Type 0} (P : T → Type 0) (o : Option T) → IsSomeAnd o P → o ≡ None → ⊥
some_none P None is e = is
some_none P (Some x) is e = cc e

module _ (by_files : Bool) (known : Known) (touched : List Touch) (noted : Report) (before after : Held) (s end : State) (has : HasNoted by_files known touched noted before after s end) (none : noted.last ≡ None) where
  all : HasNotedAll by_files known touched noted before after s end
  all = by has
    where
      by : HasNoted by_files known touched noted before after s end → HasNotedAll by_files known touched noted before after s end
      by (inl those) = those
      by (inr unnoted) = absurd (some_none (λ (u : AUnit). (u.calls.items ≡ []) × TellsNoPackage u × (u.reply ≡ Broken (breakage_of unnoted.fault))) noted.last unnoted.broken.last none)

  abbrev hit : List Activation
  hit = activations_of s.world before.records.records before.lists by_files known.watch touched

  abbrev asked : List Activation
  asked = asked_of s.world before.records.records known.found.items

  run : IsTrue end.honest → IsChangeRun (map change_by (hit ++ asked)) noted.units.items before after all.looked end
  run honest =
      let are : all.changes ≡ map change_by (hit ++ asked) = all.looks.found (all.changed.any_moment.honest honest) ∙ sym (map-append change_by hit asked) in
      subst (λ (changes : List RecordChange). IsChangeRun changes noted.units.items before after all.looked end) are (all.changed.whole (ap is_some none))

  pub pending_stays : IsTrue end.honest → (owner trigger : List ℕ) → IsPending before.records.records owner trigger → IsPending after.records.records owner trigger
  pending_stays honest = run_stays (hit ++ asked) before all.looked noted.units.items after end (run honest)

  pub hit_pending : IsTrue end.honest → (owner trigger : List ℕ) → IsInterested s.world before.records.records owner trigger → IsHitLast s.world before.lists by_files known.watch.before.items touched owner trigger
      → IsPending after.records.records owner trigger
  hit_pending honest owner trigger interested is =
      run_notes (hit ++ asked) before all.looked noted.units.items after end (run honest) owner trigger interested.installed
      (told_left hit asked owner trigger (told_hit s.world before.records.records owner trigger interested before.lists by_files known.watch touched is))

  pub asked_pending : IsTrue end.honest → (owner trigger : List ℕ) → IsInterested s.world before.records.records owner trigger → is_found known.found.items trigger || is_asked (requests_of s.world) trigger ≡ true
      → IsPending after.records.records owner trigger
  asked_pending honest owner trigger interested is =
      run_notes (hit ++ asked) before all.looked noted.units.items after end (run honest) owner trigger interested.installed
      (told_right hit asked owner trigger (told_asked s.world before.records.records owner trigger interested known.found.items is))

  pub noted_falls : IsTrue end.honest → IsTrue s.honest
  noted_falls honest = all.looks.reads.honest (all.changed.any_moment.honest honest)
