-- What turns leave as it was: the packages, and what is recorded of the others.
use Rattle.std.proofs.Common.{◌≡◌, ℕ, Bool, List, refl, sym, ap, subst, ◌∙◌}
use Rattle.std.specs.List.{Contains}
use Rattle.std.specs.Prelude.{IsTrue}
use Rattle.std.proofs.lemmas.Map.Views.{Contains-from_any}
use Rattle.std.proofs.lemmas.Slice.Eq.{bytes_eq-Decides}
use Rattle.configure_run.specs.declared.options.ConfigureOptions.{ConfigureOptions}
use Rattle.dependency_check.specs.Waiting.{Waiting}
use Rattle.dependency_sets.specs.Sets.{has}
use Rattle.host_core.specs.Host.{State}
use Rattle.recorded_packages.specs.Renewal.{AreSameBut}
use Rattle.relation_index.specs.declared.package.Package.{Package}
use Rattle.status_records.specs.declared.record.Record.{Record}
use Rattle.unit_reports.specs.Held.{Held}
use Rattle.unit_reports.specs.declared.report.Unit.{Unit as AUnit}
use Rattle.unit_runs.specs.Turns.{TurnsTo}
use Rattle.configure_run.specs.Asked.{can_wait}
use Rattle.configure_run.specs.Starting.{AreSameButWaiting, IsBegun, NamesOneWaiting, is_named, name_at}
use Rattle.configure_run.specs.Turns.{ConfiguresTo, IsTurn, after_turn, is_done}
use Rattle.configure_run.proofs.Members.{turn_waits}
use Rattle.configure_run.proofs.Numbers.{at_number, both_hold, number_named, number_waits, number_within}
use Rattle.configure_run.proofs.Progress.{packages_after, still_waits}
use Rattle.configure_run.proofs.Units.{numbered_name, others}

-- behind some turns

pub record Leave (start now : Waiting) (before after : List Record) : Type 0 where
  pub packages : now.packages ≡ start.packages
  pub waited : (x : ℕ) → IsTrue (has now.waiting x) → IsTrue (has start.waiting x)
  pub others : AreSameButWaiting start before after

pub none_left_out : (start : Waiting) (records : List Record) → Leave start start records records
none_left_out start records = record { packages = refl; waited = λ x wait. wait; others = λ name none. refl }

-- what is recorded of the others, behind one turn more
pub others_then : (start q : Waiting) (before mid after : List Record) → Leave start q before mid → AreSameButWaiting q mid after → AreSameButWaiting start before after
others_then start q before mid after so_far same name none = same name (λ one. none (waited_before one)) ∙ so_far.others name none
  where
    waited_before : NamesOneWaiting q name → NamesOneWaiting start name
    waited_before one = record {
      x = one.x;
      waiting = so_far.waited one.x one.waiting;
      named = ap (λ (ps : List Package). name_at ps one.x) (sym so_far.packages) ∙ one.named;
    }

pub leave_more : (start q : Waiting) (x : ℕ) (done : Bool) (before mid after : List Record) → Leave start q before mid → AreSameButWaiting q mid after → Leave start (after_turn done x q) before after
leave_more start q x done before mid after so_far same = record {
  packages = packages_after done x q ∙ so_far.packages;
  waited = λ y wait. so_far.waited y (still_waits done x y q wait).1;
  others = others_then start q before mid after so_far same;
}

-- a turn changes the record of its own package alone
turn_leaves : (options : ConfigureOptions) (silent : ℕ → Bool) (q later : Waiting) (before after : Held) (u : AUnit) (s t : State) → IsTurn options silent q before u later after s t → AreSameButWaiting q before.records.records after.records.records
turn_leaves options silent q later before after u s t turn name none =
    others options.policy q.packages turn.p before after u s t turn.is name
    (λ same. none (record { x = turn.x; waiting = turn_waits options.ignore_depends silent q turn.x turn.next.next; named = numbered_name q.packages turn.x turn.p turn.next.numbered ∙ sym same }))

-- turns change the records of those that waited alone
pub turns_leave : (options : ConfigureOptions) (silent : ℕ → Bool) (start : Waiting) (before : Held) (s : State) (us : List AUnit) (q : Waiting) (after : Held) (t : State) → ConfiguresTo options silent start before s us q after t
    → Leave start q before.records.records after.records.records
turns_leave options silent start before s us q after t TurnsTo.begun = none_left_out start before.records.records
turns_leave options silent start before s us q after t (TurnsTo.turned first u mid_q later mid end m last come turn) =
    subst (λ (w : Waiting). Leave start w before.records.records after.records.records) (sym turn.later_is)
    (leave_more start mid_q turn.x (is_done u.reply) before.records.records mid.records.records after.records.records (turns_leave options silent start before s first mid_q mid m come)
    (turn_leaves options silent mid_q q mid after u m t turn))

-- those that wait are named

module _ (names : List (List ℕ)) (records : List Record) (q : Waiting) (begun : IsBegun names records q) where
  waiting_is_named : (name : List ℕ) → NamesOneWaiting q name → Contains names name
  waiting_is_named name one =
      let found = at_number records one.x (number_within names records q begun one.x one.waiting) in
      let r = found.0 in
      let same : r.name ≡ name = sym (number_named names records q begun one.x r found.1) ∙ one.named in
      let is = (both_hold (can_wait r) (is_named names r) (number_waits names records q begun one.x r found.1 one.waiting)).1 in
      subst (Contains names) same (Contains-from_any (λ x y e. (bytes_eq-Decides x y).0 e) r.name names is)

  pub named_alone : (after : List Record) → AreSameButWaiting q records after → AreSameBut names records after
  named_alone after same name none = same name (λ one. none (waiting_is_named name one))
