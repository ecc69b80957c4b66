-- Triggers around units.
use Rattle.std.proofs.Common.{◌≡◌, ◌++◌, ◌∙◌, [], ℕ, Bool, true, List, Option, Some, None, Err, ap, append-nil, append_assoc, arith, ◌∷◌, refl, subst, sym}
use Rattle.std.specs.Prelude.{IsNone, is_some, max, option_to_list}
use Rattle.std.specs.List.{flat_map}
use Rattle.std.proofs.lemmas.Grind.{flat_map-append}
use Rattle.host_core.specs.Host.{Counts, State}
use Rattle.host_core.specs.Looks.{Looks}
use Rattle.host_core.specs.World.{World}
use Rattle.host_core.specs.declared.fault.HostFault.{HostFault}
use Rattle.host_core.specs.declared.fault.HostFault.TheVariants.{Device, NoMemory, Declined}
use Rattle.administration.specs.Fault.{fault_of}
use Rattle.dpkg_session.specs.Installs.{last_of}
use Rattle.dpkg_session.specs.Standing.{CountsRefusal}
use Rattle.trigger_watch.specs.declared.touching.Touch.{Touch}
use Rattle.report_lines.specs.Reports.{report_lines, unit_lines}
use Rattle.unit_reports.specs.Held.{Held}
use Rattle.unit_reports.specs.declared.report.Report.{Report}
use Rattle.unit_reports.specs.declared.report.Unit.{Unit as AUnit}
use Rattle.configure_run.specs.declared.options.ConfigureOptions.{ConfigureOptions}
use Rattle.command_words.specs.declared.unpacking.Unpacking.{Unpacking}
use Rattle.command_line.specs.Packages.{HasWorkedAround, HasWorkedSince, HasWorkedWith}
use Rattle.trigger_turns.proofs.Steps.{turns_none}
use Rattle.trigger_turns.specs.Told.{AreTold}
use Rattle.command_line.specs.Printing.{units_answer}
use Rattle.command_line.specs.Roots.{Around}
use Rattle.command_line.specs.Triggering.{AreTriggersTold, HasBegun, HasProcessed, HasTriggeredBehind, IsAround, IsIdle, IsUntriggered, last_behind, triggered_status, units_behind, with_triggers}
use Rattle.command_line.specs.Unpacks.{HasRunSince, HasRunToEnd}
use Rattle.command_line.specs.declared.ending.Ended.{Ended}
use Rattle.command_line.specs.declared.packages.Work.{Work}
use Rattle.command_line.specs.declared.triggering.Known.{Known}
use Rattle.command_line.specs.declared.triggering.Triggered.{Triggered}
use Rattle.command_line.specs.declared.triggering.Triggering.{Triggering}
use Rattle.command_line.specs.declared.unpacking.Done.{Done}

-- no look was made, for want of memory
pub looks_none : {T : Type 0} (P : T → World → Type 0) (s : State) → Looks {T = T} (Err NoMemory) P s s
looks_none P s = record {
  found = λ h. tt;
  reads = record { honest = λ h. h; world = refl; added = []; failed = tt; events = sym (append-nil s.events) };
  silent = record { honest = λ h. h; scripts = refl };
  counts = record { faults = refl; denials = omega arith };
}

-- the same look, for what it found as it is spoken of
-- a fault of a look, as one of the administration
pub counts_fault : (T : Type 0) (s t : State) (fault : HostFault) → Counts {T = T} s t (Err fault) → CountsRefusal (fault_of fault) s t
counts_fault T s t Device c = c
counts_fault T s t NoMemory c = c
counts_fault T s t Declined c = c

-- which unit was broken off

pub both_none : (a b : Option AUnit) → IsNone (last_of a b) → IsNone a × IsNone b
both_none None b none = (refl, none)
both_none (Some u) b none = cc

pub last_idle : (last : Option AUnit) (came : Triggered) → IsUntriggered came → last_behind last came ≡ last
last_idle (Some u) came idle = refl
last_idle None came idle = ap (λ (o : Option AUnit). last_of o came.processed.last) idle.noted.last ∙ idle.processed.last

-- nothing was told

pub told_none : {W : Type 0} (tells : W → AUnit → State → W → Type 0) (s : State) (w : W) (us : List AUnit) → us ≡ [] → AreTold tells w us w
told_none tells s w us is = subst (λ (l : List AUnit). AreTold tells w l w) (sym is) (s, refl)

pub told_idle : {W : Type 0} (tells : W → AUnit → State → W → Type 0) (s : State) (w : W) (came : Triggered) → IsUntriggered came → AreTriggersTold tells w came w
told_idle tells s w came idle = (w, told_none tells s w came.noted.units.items idle.noted.units, turns_none tells w came.processed.units.items idle.processed.units)

-- units, and what is done of triggers before them

pub work_since : (t : Triggering) (known : Known) (asked : Work) (ended : Ended Report) (before : Held) (s begun end : State)
    → HasBegun t.by_files known before s begun → HasWorkedSince t known asked ended before begun end → HasWorkedWith (Some t) asked ended before s end
work_since t known asked ended before s begun end first since = record {
  after = since.after;
  mid = since.behind;
  worked = record {
    known = known;
    begun = begun;
    first = first;
    mid = since.mid;
    done = since.done;
    run = since.worked;
    triggered = since.triggered;
  };
  ending = since.ending;
}

pub run_since : (a : Around) (known : Known) (options : Option ConfigureOptions) (u : Unpacking) (ended : Ended Done) (before : Held) (s begun end : State)
    → HasBegun true known before s begun → HasRunSince a known options u ended before begun end → HasRunToEnd a options u ended before s end
run_since a known options u ended before s begun end first since = record {
  after = since.after;
  mid = since.behind;
  ran = record {
    known = known;
    begun = begun;
    first = first;
    mid = since.mid;
    done = since.done;
    run = since.ran;
    triggered = since.triggered;
  };
  ending = since.ending;
}

pub around_as : (t : Triggering) (us : List AUnit) (last : Option AUnit) (Run More : Held → State → State → Type 0) (came : Triggered) (before after : Held) (s end : State)
    → ((mid : Held) (begun done : State) → Run mid begun done → More mid begun done) → IsAround t us last Run came before after s end → IsAround t us last More came before after s end
around_as t us last Run More came before after s end so around = record {
  known = around.known;
  begun = around.begun;
  first = around.first;
  mid = around.mid;
  done = around.done;
  run = so around.mid around.begun around.done around.run;
  triggered = around.triggered;
}

-- Lines. Behind a unit that was broken off there are none.

idle_lines : (report : Report) → IsIdle report → report_lines report ≡ []
idle_lines report idle = ap (λ (us : List AUnit). flat_map unit_lines us ++ flat_map unit_lines (option_to_list report.last)) idle.units ∙ ap (λ (o : Option AUnit). flat_map unit_lines (option_to_list o)) idle.last

-- what is known of triggers behind units: nothing came behind one that was broken off
pub record BreaksOff (last : Option AUnit) (came : Triggered) : Type 0 where
  pub units : is_some last ≡ true → IsUntriggered came
  pub noted : is_some came.noted.last ≡ true → IsIdle came.processed

breaks_processed : (process : Bool) (names : List (List ℕ)) (last : Option AUnit) (done : Report) (before after : Held) (s end : State) → HasProcessed process names last done before after s end → is_some last ≡ true → IsIdle done
breaks_processed process names None done before after s end h is = cc
breaks_processed process names (Some u) done before after s end h is = h.0

pub breaks_off : (t : Triggering) (known : Known) (last : Option AUnit) (touched : List Touch) (came : Triggered) (before after : Held) (s end : State) → HasTriggeredBehind t known last touched came before after s end → BreaksOff last came
breaks_off t known None touched came before after s end h = record {
  units = λ is. cc;
  noted = breaks_processed t.process _ came.noted.last came.processed h.mid after h.noting end h.processed;
}
breaks_off t known (Some u) touched came before after s end h = record { units = λ is. h.0; noted = λ is. h.0.processed }

pub breaks_idle : (last : Option AUnit) (came : Triggered) → IsUntriggered came → BreaksOff last came
breaks_idle last came idle = record { units = λ is. idle; noted = λ is. idle.processed }

pub breaks_work : (t : Option Triggering) (asked : Work) (done : Report) (came : Triggered) (before after : Held) (s end : State) → HasWorkedAround t asked done came before after s end → BreaksOff done.last came
breaks_work None asked done came before after s end h = breaks_idle done.last came h.0
breaks_work (Some t) asked done came before after s end h = breaks_off t h.known done.last _ came h.mid after h.done end h.triggered

-- two reports, nothing in the second behind a broken unit in the first
both_lines : (us vs : List AUnit) (a b : Option AUnit) (second : List ℕ) → second ≡ flat_map unit_lines vs ++ flat_map unit_lines (option_to_list b) → (is_some a ≡ true → (vs ≡ []) × (b ≡ None))
    → (flat_map unit_lines us ++ flat_map unit_lines (option_to_list a)) ++ second ≡ flat_map unit_lines (us ++ vs) ++ flat_map unit_lines (option_to_list (last_of a b))
both_lines us vs None b second is idle =
    ap (λ (l : List ℕ). l ++ second) (append-nil (flat_map unit_lines us)) ∙ ap (λ (l : List ℕ). flat_map unit_lines us ++ l) is
    ∙ sym (append_assoc (flat_map unit_lines us) (flat_map unit_lines vs) (flat_map unit_lines (option_to_list b)))
    ∙ ap (λ (l : List ℕ). l ++ flat_map unit_lines (option_to_list b)) (sym (flat_map-append unit_lines us vs))
both_lines us vs (Some u) b second is idle =
    let nothing = idle refl in
    let empty : second ≡ [] = is ∙ ap (λ (l : List AUnit). flat_map unit_lines l ++ flat_map unit_lines (option_to_list b)) nothing.0 ∙ ap (λ (o : Option AUnit). flat_map unit_lines (option_to_list o)) nothing.1 in
    ap (λ (l : List ℕ). (flat_map unit_lines us ++ flat_map unit_lines (u ∷ [])) ++ l) empty ∙ append-nil (flat_map unit_lines us ++ flat_map unit_lines (u ∷ []))
    ∙ ap (λ (l : List AUnit). flat_map unit_lines l ++ flat_map unit_lines (u ∷ [])) (sym (append-nil us) ∙ ap (λ (l : List AUnit). us ++ l) (sym nothing.0))

behind_lines : (last : Option AUnit) (came : Triggered) → BreaksOff last came → report_lines came.noted ++ report_lines came.processed ≡ flat_map unit_lines (units_behind came) ++ flat_map unit_lines (option_to_list (last_of came.noted.last came.processed.last))
behind_lines last came off =
    both_lines came.noted.units.items came.processed.units.items came.noted.last came.processed.last (report_lines came.processed) refl (λ is. ((off.noted is).units, (off.noted is).last))

none_behind : (came : Triggered) → IsUntriggered came → (units_behind came ≡ []) × (last_of came.noted.last came.processed.last ≡ None)
none_behind came idle = (
  ap (λ (us : List AUnit). us ++ came.processed.units.items) idle.noted.units ∙ idle.processed.units,
  ap (λ (o : Option AUnit). last_of o came.processed.last) idle.noted.last ∙ idle.processed.last,
)

-- the lines of an answer on units with those of triggers behind them are those of all units
pub triggered_answer : (us : List AUnit) (last : Option AUnit) (came : Triggered) (status : ℕ) → BreaksOff last came
    → units_answer (flat_map unit_lines (us ++ units_behind came)) (last_behind last came) (max status (triggered_status came)) ≡ with_triggers came (units_answer (flat_map unit_lines us) last status)
triggered_answer us last came status off =
    ap (λ (l : List ℕ). record { output = l; error = []; status = max status (triggered_status came) })
    (sym (both_lines us (units_behind came) last (last_of came.noted.last came.processed.last) (report_lines came.noted ++ report_lines came.processed) (behind_lines last came off) (λ is. none_behind came (off.units is))))

pub units_answer_as : (lines : List ℕ) {last other : Option AUnit} {status n : ℕ} → last ≡ other → status ≡ n → units_answer lines last status ≡ units_answer lines other n
units_answer_as lines {last} {other} {status} {n} is same = ap (λ (o : Option AUnit). units_answer lines o status) is ∙ ap (units_answer lines other) same
