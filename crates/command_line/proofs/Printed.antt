-- The lines of units that were written as these were finished.
use Rattle.std.proofs.Common.{◌≡◌, ◌≢◌, ◌⊎◌, ◌∙◌, ◌++◌, ◌∷◌, [], ℕ, Bool, List, Option, Some, None, Result, Ok, Err, ap, append_assoc, append-nil, inl, inr, refl, subst, sym}
use Rattle.std.specs.Prelude.{option_to_list, IfOk, MatchOption}
use Rattle.std.specs.Option.{option_map_or}
use Rattle.std.specs.Io.KnownBytes.{Appends, Keeps}
use Rattle.std.specs.List.{flat_map}
use Rattle.std.specs.Result.{IsErrAnd}
use Rattle.std.proofs.lemmas.Grind.{flat_map-append}
use Rattle.version_order.specs.declared.fault.VersionFault.{VersionFault}
use Rattle.configure_run.specs.declared.options.ConfigureOptions.{ConfigureOptions}
use Rattle.host_core.specs.Host.{State}
use Rattle.host_core.specs.declared.fault.HostFault.{HostFault}
use Rattle.report_lines.specs.Notes.{notes_line}
use Rattle.report_lines.specs.Reports.{report_lines, unit_lines}
use Rattle.command_words.specs.Comparisons.{bad_version}
use Rattle.command_words.specs.declared.comparison.Comparison.{Comparison}
use Rattle.command_words.specs.declared.unpacking.Unpacking.{Unpacking}
use Rattle.dpkg_session.specs.Installs.{HasInstalled, last_of}
use Rattle.dpkg_session.specs.declared.installing.Installed.{Installed}
use Rattle.dpkg_session.specs.declared.report.Candidate.{Candidate}
use Rattle.unit_reports.specs.Held.{Held}
use Rattle.undo_rows.specs.declared.rows.Called.{Called}
use Rattle.unit_reports.specs.Watching.{IsToldBehind}
use Rattle.unit_reports.specs.declared.report.Report.{Report}
use Rattle.unit_reports.specs.declared.report.Unit.{Unit as AUnit}
use Rattle.unpack_relations.specs.declared.options.UnpackOptions.{UnpackOptions}
use Rattle.command_line.specs.Endings.{with_notes}
use Rattle.trigger_turns.specs.Told.{AreTold, AreToldInTurns}
use Rattle.command_line.specs.Printing.{AppendsFront, AppendsPart, AreRoundsTold, HasPrinted, IsDoneTold, IsLeft, Prints, last_in, last_of_round, last_of_rounds, output_left, units_answer, units_of, units_of_round}
use Rattle.command_line.specs.Reports.{IsGiven, IsGivenInPart, bad_answer, comparison_answer, done_answer, memory_answer, round_lines, rounds_status, wanting_answer}
use Rattle.command_line.specs.Roots.{Around}
use Rattle.command_line.specs.Triggering.{AreAllTold, AreTriggersTold, units_behind}
use Rattle.command_line.specs.Unpacks.{HasInstalledRounds, HasRunTrees, IsAllTold, allowed_of}
use Rattle.command_line.specs.declared.answer.Answer.{Answer}
use Rattle.command_line.specs.declared.answer.Left.{Left}
use Rattle.command_line.specs.declared.printing.Flow.{Flow}
use Rattle.command_line.specs.declared.ending.Ended.{Ended}
use Rattle.command_line.specs.declared.triggering.Triggered.{Triggered}
use Rattle.command_line.specs.declared.unpacking.Done.{Done}
use Rattle.command_line.specs.declared.unpacking.Done.TheVariants as done
use Rattle.command_line.specs.declared.printing.Flow.TheVariants as flow
use Rattle.command_line.proofs.Held.{appends_kept, appends_nothing, appends_then, keeps_held}

-- what isn't empty isn't empty with more behind it
longer : (rest lines : List ℕ) → rest ≢ [] → rest ++ lines ≢ []
longer [] lines some none = some refl
longer (x ∷ rest) lines some none = cc

split_on : (text done front rest : List ℕ) (lines : List ℕ) → done ≡ front ++ rest → text ≡ done ++ lines → text ≡ front ++ (rest ++ lines)
split_on text done front rest lines is all = all ∙ ap (λ (l : List ℕ). l ++ lines) is ∙ append_assoc front rest lines

part_more : (a b c : Option (List ℕ)) (done lines : List ℕ) → AppendsPart a b done → Keeps b c → AppendsPart a c (done ++ lines)
part_more a b c done lines part kept =
    (part.0, part.1 ++ lines, split_on (done ++ lines) done part.0 part.1 lines part.2 refl, longer part.1 lines part.3, appends_kept a b c part.0 part.4 kept)

front_more : (a b c : Option (List ℕ)) (done lines : List ℕ) → AppendsFront a b done → Keeps b c → AppendsFront a c (done ++ lines)
front_more a b c done lines part kept = (part.0, part.1 ++ lines, split_on (done ++ lines) done part.0 part.1 lines part.2 refl, appends_kept a b c part.0 part.3 kept)

-- the lines of one unit more
printed_more : (done lines : List ℕ) (before after : Flow) (a b c : Option (List ℕ)) → HasPrinted done before a b → Prints lines before after b c → HasPrinted (done ++ lines) after a c
printed_more done lines flow.Whole flow.Whole a b c so_far more = appends_then a b c done lines so_far more
printed_more done lines flow.Whole flow.Cut a b c so_far more =
    (done ++ more.0, more.1, ap (λ (l : List ℕ). done ++ l) more.2 ∙ sym (append_assoc done more.0 more.1), more.3, appends_then a b c done more.0 so_far more.4)
printed_more done lines flow.Whole flow.Wanting a b c so_far more = (done, lines, refl, appends_kept a b c done so_far more)
printed_more done lines flow.Cut after a b c so_far more = subst (λ f. HasPrinted (done ++ lines) f a c) (sym more.0) (part_more a b c done lines so_far more.1)
printed_more done lines flow.Wanting after a b c so_far more = subst (λ f. HasPrinted (done ++ lines) f a c) (sym more.0) (front_more a b c done lines so_far more.1)

-- those of all units that were told
module _ {W : Type 0} (tells : W → AUnit → State → W → Type 0) (flow_of : W → Flow) (held : W → Option (List ℕ)) (one : (old : W) (u : AUnit) (at : State) (new : W) → tells old u at new → Prints (unit_lines u) (flow_of old) (flow_of new) (held old) (held new)) where
  printed_on : (s : State) (calls : List Called) (us : List AUnit) (done : List ℕ) (first : Option (List ℕ)) (old new : W) → HasPrinted done (flow_of old) first (held old) → IsToldBehind tells s calls old us new → HasPrinted (done ++ flat_map unit_lines us) (flow_of new) first (held new)
  printed_on s calls [] done first old new so_far same =
      subst (λ (l : List ℕ). HasPrinted l (flow_of new) first (held new)) (sym (append-nil done)) (subst (λ w. HasPrinted done (flow_of w) first (held w)) (sym same) so_far)
  printed_on s calls (u ∷ us) done first old new so_far told =
      subst (λ (l : List ℕ). HasPrinted l (flow_of new) first (held new)) (append_assoc done (unit_lines u) (flat_map unit_lines us))
      (printed_on s (calls ++ u.calls.items) us (done ++ unit_lines u) first told.0 new (printed_more done (unit_lines u) (flow_of old) (flow_of told.0) first (held old) (held told.0) so_far (one old u told.1 told.0 told.2)) told.5)

  pub printed_all : (us : List AUnit) (old new : W) → flow_of old ≡ flow.Whole → AreTold tells old us new → HasPrinted (flat_map unit_lines us) (flow_of new) (held old) (held new)
  printed_all us old new whole told = printed_on told.0 [] us [] (held old) old new (subst (λ f. HasPrinted [] f (held old) (held old)) (sym whole) (appends_nothing (held old))) told.1

  -- those of more units behind some
  printed_behind : (us more : List AUnit) (first : Option (List ℕ)) (mid new : W) → HasPrinted (flat_map unit_lines us) (flow_of mid) first (held mid) → AreTold tells mid more new → HasPrinted (flat_map unit_lines (us ++ more)) (flow_of new) first (held new)
  printed_behind us more first mid new so_far (s, told) =
      subst (λ (l : List ℕ). HasPrinted l (flow_of new) first (held new)) (sym (flat_map-append unit_lines us more)) (printed_on s [] more (flat_map unit_lines us) first mid new so_far told)

  printed_in_turns : (us : List AUnit) (first : Option (List ℕ)) (mid : W) (more : List AUnit) (new : W) → HasPrinted (flat_map unit_lines us) (flow_of mid) first (held mid) → AreToldInTurns tells mid more new → HasPrinted (flat_map unit_lines (us ++ more)) (flow_of new) first (held new)
  printed_in_turns us first mid more new so_far AreToldInTurns.nothing = subst (λ (l : List AUnit). HasPrinted (flat_map unit_lines l) (flow_of mid) first (held mid)) (sym (append-nil us)) so_far
  printed_in_turns us first mid more new so_far (AreToldInTurns.then vs others at end told last) =
      subst (λ (l : List AUnit). HasPrinted (flat_map unit_lines l) (flow_of end) first (held end)) (append_assoc us vs others)
      (printed_behind (us ++ vs) others first at end (printed_in_turns us first mid vs at so_far told) last)

  printed_triggers : (us : List AUnit) (came : Triggered) (first : Option (List ℕ)) (old new : W) → HasPrinted (flat_map unit_lines us) (flow_of old) first (held old) → AreTriggersTold tells old came new
      → HasPrinted (flat_map unit_lines (us ++ units_behind came)) (flow_of new) first (held new)
  printed_triggers us came first old new so_far (mid, noted, processed) =
      let nu = came.noted.units.items in
      let pu = came.processed.units.items in
      subst (λ (l : List AUnit). HasPrinted (flat_map unit_lines l) (flow_of new) first (held new)) (append_assoc us nu pu)
      (printed_in_turns (us ++ nu) first mid pu new (printed_behind us nu first old mid so_far noted) processed)

  printed_ended : (us : List AUnit) (came : Triggered) (old new : W) → flow_of old ≡ flow.Whole → AreAllTold tells old us came new → HasPrinted (flat_map unit_lines (us ++ units_behind came)) (flow_of new) (held old) (held new)
  printed_ended us came old new whole (mid, told, behind) = printed_triggers us came (held old) mid new (printed_all us old mid whole told) behind

  -- where there is a result
  pub printed_work : {E : Type 0} (result : Result (Ended Report) E) (old new : W) → flow_of old ≡ flow.Whole → IfOk result (λ ended. AreAllTold tells old ended.done.units.items ended.triggered new)
      → IfOk result (λ ended. HasPrinted (flat_map unit_lines (ended.done.units.items ++ units_behind ended.triggered)) (flow_of new) (held old) (held new))
  printed_work (Ok ended) old new whole told = printed_ended ended.done.units.items ended.triggered old new whole told
  printed_work (Err e) old new whole told = tt

  printed_rounds : (came : List Installed) (lines : List ℕ) (first : Option (List ℕ)) (old new : W) → HasPrinted lines (flow_of old) first (held old) → AreRoundsTold tells old came new
      → HasPrinted (lines ++ flat_map unit_lines (flat_map units_of_round came)) (flow_of new) first (held new)
  printed_rounds [] lines first old new so_far same =
      subst (λ (l : List ℕ). HasPrinted l (flow_of new) first (held new)) (sym (append-nil lines)) (subst (λ w. HasPrinted lines (flow_of w) first (held w)) (sym same) so_far)
  printed_rounds (c ∷ cs) lines first old new so_far told =
      let us = units_of_round c in
      let more = flat_map units_of_round cs in
      let here = printed_on told.1.0 [] us lines first old told.0 so_far told.1.1 in
      subst (λ (l : List ℕ). HasPrinted l (flow_of new) first (held new))
      (append_assoc lines (flat_map unit_lines us) (flat_map unit_lines more) ∙ ap (λ (l : List ℕ). lines ++ l) (sym (flat_map-append unit_lines us more)))
      (printed_rounds cs (lines ++ flat_map unit_lines us) first told.0 new here told.2)

  printed_done : (came : Done) (old new : W) → flow_of old ≡ flow.Whole → IsDoneTold tells old came new → HasPrinted (flat_map unit_lines (units_of came)) (flow_of new) (held old) (held new)
  printed_done (done.Unpacked report) old new whole told = printed_all report.units.items old new whole told
  printed_done (done.Installed rounds) old new whole told =
      printed_rounds rounds.items [] (held old) old new (subst (λ f. HasPrinted [] f (held old) (held old)) (sym whole) (appends_nothing (held old))) told

  -- the same of what came of trees
  printed_with : (ended : Ended Done) (old new : W) → flow_of old ≡ flow.Whole → IsAllTold tells old ended new → HasPrinted (flat_map unit_lines (units_of ended.done ++ units_behind ended.triggered)) (flow_of new) (held old) (held new)
  printed_with ended old new whole (mid, told, behind) = printed_triggers (units_of ended.done) ended.triggered (held old) mid new (printed_done ended.done old mid whole told) behind

  pub printed_trees : {E : Type 0} (result : Result (Ended Done) E) (old new : W) → flow_of old ≡ flow.Whole → IfOk result (λ ended. IsAllTold tells old ended new)
      → IfOk result (λ ended. HasPrinted (flat_map unit_lines (units_of ended.done ++ units_behind ended.triggered)) (flow_of new) (held old) (held new))
  printed_trees (Ok ended) old new whole told = printed_with ended old new whole told
  printed_trees (Err e) old new whole told = tt

-- What is left of the answer on units.

output_with : (notes : Option HostFault) (answer : Answer) → (with_notes notes answer).output ≡ answer.output
output_with None answer = refl
output_with (Some fault) answer = refl

pub left_cut : (notes : Option HostFault) (lines : List ℕ) (last : Option AUnit) (status : ℕ) (old new : Option (List ℕ)) → HasPrinted lines flow.Cut old new → AppendsPart old new (with_notes notes (units_answer lines last status)).output
left_cut notes lines last status old new printed =
    subst (AppendsPart old new) (sym (output_with notes (units_answer lines last status))) (part_more old new new lines (flat_map unit_lines (option_to_list last)) printed (keeps_held new))

pub left_wanting : (notes : Option HostFault) (lines : List ℕ) (last : Option AUnit) (status : ℕ) (old new : Option (List ℕ)) → HasPrinted lines flow.Wanting old new → AppendsFront old new (with_notes notes (units_answer lines last status)).output
left_wanting notes lines last status old new printed =
    subst (AppendsFront old new) (sym (output_with notes (units_answer lines last status))) (front_more old new new lines (flat_map unit_lines (option_to_list last)) printed (keeps_held new))

-- the lines of units were written, and for the rest memory was wanting
pub left_unsaid : {E : Type 0} (Q : E → Type 0) (notes : Option HostFault) (lines : List ℕ) (last : Option AUnit) (status : ℕ) (old new : Option (List ℕ)) (result : Result Left E) → IsErrAnd result Q → Appends old new lines
    → IsLeft (with_notes notes (units_answer lines last status)) old new result
left_unsaid Q notes lines last status old new (Ok left) is printed = absurd is
left_unsaid Q notes lines last status old new (Err e) is printed =
    subst (AppendsFront old new) (sym (output_with notes (units_answer lines last status))) (lines, flat_map unit_lines (option_to_list last), refl, printed)

-- the lines of units were written, and the rest is still to be
pub left_units : (notes : Option HostFault) (lines text : List ℕ) (last : Option AUnit) (status : ℕ) (rest : Answer) (old new : Option (List ℕ)) → Appends old new lines → text ≡ flat_map unit_lines (option_to_list last)
    → rest ≡ with_notes notes (record { output = text; error = []; status = status })
    → (front : List ℕ) × Appends old new front × (with_notes notes (units_answer lines last status) ≡ record rest { output = front ++ rest.output })
left_units None lines text last status rest old new printed is told =
    (lines, printed, ap (λ (t : List ℕ). record { output = lines ++ t; error = []; status = status }) (sym is) ∙ ap (λ (a : Answer). record a { output = lines ++ a.output }) (sym told))
left_units (Some fault) lines text last status rest old new printed is told =
    (lines, printed, ap (λ (t : List ℕ). record { output = lines ++ t; error = notes_line fault; status = 2 }) (sym is) ∙ ap (λ (a : Answer). record a { output = lines ++ a.output }) (sym told))

-- The lines of what came of trees are those of its units, and of the one that was broken off.

installed_lines : (auto : UnpackOptions) (cs : List Candidate) (options : ConfigureOptions) (us : List AUnit) (last : Option AUnit) (configured : Report) (before : Held) (s t : State) → HasInstalled auto cs options us last configured before s t
    → (flat_map unit_lines us ++ flat_map unit_lines (option_to_list last)) ++ report_lines configured ≡ flat_map unit_lines (us ++ configured.units.items) ++ flat_map unit_lines (option_to_list (last_of last configured.last))
installed_lines auto cs options us None configured before s t is =
    let lines = flat_map unit_lines us in
    let more = flat_map unit_lines configured.units.items in
    let end = flat_map unit_lines (option_to_list configured.last) in
    ap (λ (l : List ℕ). l ++ (more ++ end)) (append-nil lines) ∙ sym (append_assoc lines more end) ∙ ap (λ (l : List ℕ). l ++ end) (sym (flat_map-append unit_lines us configured.units.items))
installed_lines auto cs options us (Some u) configured before s t is =
    let empty = is.1 in
    let lines = flat_map unit_lines us ++ flat_map unit_lines (u ∷ []) in
    let none : report_lines configured ≡ [] = ap (λ (l : List AUnit). flat_map unit_lines l ++ flat_map unit_lines (option_to_list configured.last)) empty.units ∙ ap (λ (o : Option AUnit). flat_map unit_lines (option_to_list o)) empty.last in
    let same : us ≡ us ++ configured.units.items = sym (append-nil us) ∙ ap (λ (l : List AUnit). us ++ l) (sym empty.units) in
    ap (λ (l : List ℕ). lines ++ l) none ∙ append-nil lines ∙ ap (λ (l : List AUnit). flat_map unit_lines l ++ flat_map unit_lines (u ∷ [])) same

-- a round's lines, and those of the rounds behind it
behind_round : (last : Option AUnit) (lines : List ℕ) (us : List AUnit) (more : List Installed) (Rest P Q : Type 0) → lines ≡ flat_map unit_lines us ++ flat_map unit_lines (option_to_list last)
    → (Rest → flat_map round_lines more ≡ flat_map unit_lines (flat_map units_of_round more) ++ flat_map unit_lines (option_to_list (last_of_rounds more)))
    → MatchOption last Rest (λ broken. (more ≡ []) × P × Q)
    → lines ++ flat_map round_lines more ≡ flat_map unit_lines (us ++ flat_map units_of_round more) ++ flat_map unit_lines (option_to_list (last_of last (last_of_rounds more)))
behind_round None lines us more Rest P Q is so rest =
    let units = flat_map units_of_round more in
    let end = flat_map unit_lines (option_to_list (last_of_rounds more)) in
    ap (λ (l : List ℕ). l ++ flat_map round_lines more) (is ∙ append-nil (flat_map unit_lines us)) ∙ ap (λ (l : List ℕ). flat_map unit_lines us ++ l) (so rest)
    ∙ sym (append_assoc (flat_map unit_lines us) (flat_map unit_lines units) end) ∙ ap (λ (l : List ℕ). l ++ end) (sym (flat_map-append unit_lines us units))
behind_round (Some u) lines us more Rest P Q is so rest =
    subst (λ (m : List Installed). lines ++ flat_map round_lines m ≡ flat_map unit_lines (us ++ flat_map units_of_round m) ++ flat_map unit_lines (u ∷ [])) (sym rest.0)
    (append-nil lines ∙ is ∙ ap (λ (l : List AUnit). flat_map unit_lines l ++ flat_map unit_lines (u ∷ [])) (sym (append-nil us)))

rounds_lines : (a : Around) (u : Unpacking) (options : ConfigureOptions) (earlier : List (List ℕ)) (rounds : List (List (List ℕ))) (came : List Installed) (before after : Held) (s end : State) → HasInstalledRounds a u options earlier rounds came before after s end
    → flat_map round_lines came ≡ flat_map unit_lines (flat_map units_of_round came) ++ flat_map unit_lines (option_to_list (last_of_rounds came))
rounds_lines a u options earlier [] [] before after s end h = refl
rounds_lines a u options earlier [] (c ∷ cs) before after s end h = absurd h
rounds_lines a u options earlier (words ∷ rounds) [] before after s end h = absurd h
rounds_lines a u options earlier (words ∷ rounds) (c ∷ cs) before after s end h =
    let round = h.2 in
    let all = round.all in
    behind_round (last_of_round c) (round_lines c) (units_of_round c) cs _ (end ≡ h.1) (after ≡ h.0)
    (installed_lines (allowed_of u) round.candidates options c.unpacked.units.items c.unpacked.last c.configured _ _ _ all.install.part)
    (rounds_lines a u options (earlier ++ words) rounds cs h.0 after h.1 end) h.3

pub done_lines : (a : Around) (options : Option ConfigureOptions) (u : Unpacking) (came : Done) (before after : Held) (s end : State) → HasRunTrees a options u came before after s end
    → done_answer came ≡ units_answer (flat_map unit_lines (units_of came)) (last_in came) (done_answer came).status
done_lines a options u (done.Unpacked report) before after s end ran = refl
done_lines a None u (done.Installed rounds) before after s end ran = absurd ran
done_lines a (Some options) u (done.Installed rounds) before after s end ran =
    ap (λ (l : List ℕ). record { output = l; error = []; status = rounds_status rounds.items })
    (rounds_lines a u options [] ran.rounds rounds.items before after s end ran.runs)

-- what is written of an answer that nothing is written of yet
pub left_none : (wanted told : Answer) (held : Option (List ℕ)) → told ≡ wanted → (front : List ℕ) × Appends held held front × (wanted ≡ record told { output = front ++ told.output })
left_none wanted told held is = ([], appends_nothing held, sym is)

-- nothing but what is told to standard output
pub quiet_left : {E : Type 0} (answer : Result Answer E) (result : Result Left E) (P : Answer → Type 0) (R : Type 0) → IfOk result (λ left. (told : Answer) × (answer ≡ Ok told) × (output_left left ≡ told.output)) → IfOk answer P
    → ((told : Answer) → P told → (told.output ≡ []) ⊎ R) → IfOk result (λ left. (output_left left ≡ []) ⊎ R)
quiet_left answer (Err e) P R is holds so = tt
quiet_left answer (Ok left) P R is holds so = quiet_by (so is.0 (subst (λ r. IfOk r P) is.1 holds))
  where
    quiet_by : (is.0.output ≡ []) ⊎ R → (output_left left ≡ []) ⊎ R
    quiet_by (inl none) = inl (is.2 ∙ none)
    quiet_by (inr prints) = inr prints

pub or_else : {P Q R : Type 0} → P ⊎ Q → (Q → R) → P ⊎ R
or_else (inl p) so = inl p
or_else (inr q) so = inr (so q)

pub quiet_comparison : (c : Comparison) → (comparison_answer c).output ≡ []
quiet_comparison c = by (bad_version c.operator c.first c.second) _
  where
    by : (bad : Option (List ℕ × VersionFault)) (status : ℕ) → (option_map_or bad_answer bad (record { output = []; error = []; status = status })).output ≡ []
    by None status = refl
    by (Some bad) status = refl

-- What is left is given.

part_behind : (a b c : Option (List ℕ)) (front text : List ℕ) → Appends a b front → AppendsPart b c text → AppendsPart a c (front ++ text)
part_behind a b c front text first part =
    (front ++ part.0, part.1, ap (λ (l : List ℕ). front ++ l) part.2 ∙ sym (append_assoc front part.0 part.1), part.3, appends_then a b c front part.0 first part.4)

pub given_rest : (rest : Answer) (front : List ℕ) (a b c e f : Option (List ℕ)) (ended : ℕ) → Appends a b front → IsGiven rest b c e f ended → IsGiven (record rest { output = front ++ rest.output }) a c e f ended
given_rest rest front a b c e f ended first (inl written) = inl (record { status = written.status; output = appends_then a b c front rest.output first written.output; error = written.error })
given_rest rest front a b c e f ended first (inr (status, inl cut)) = inr (status, inl (part_behind a b c front rest.output first cut.0, cut.1))
given_rest rest front a b c e f ended first (inr (status, inr cut)) = inr (status, inr (appends_then a b c front rest.output first cut.0, cut.1))

pub given_left : (answer rest : Answer) (a b c e f : Option (List ℕ)) (ended : ℕ) → (front : List ℕ) × Appends a b front × (answer ≡ record rest { output = front ++ rest.output }) → IsGiven rest b c e f ended → IsGiven answer a c e f ended
given_left answer rest a b c e f ended is given = subst (λ (x : Answer). IsGiven x a c e f ended) (sym is.2) (given_rest rest is.0 a b c e f ended is.1 given)

pub given_cut : (answer : Answer) (a b e : Option (List ℕ)) (ended : ℕ) → AppendsPart a b answer.output → ended ≡ 2 → IsGiven answer a b e e ended
given_cut answer a b e ended part status = inr (status, inl (part, keeps_held e))

pub given_in_part : (answer : Answer) (a b e f : Option (List ℕ)) (ended : ℕ) → AppendsFront a b answer.output → ((front : List ℕ) (old new : Option (List ℕ)) → Appends old new front → IsGiven (wanting_answer front) old new e f ended)
    → IsGivenInPart answer a b e f ended
given_in_part answer a b e f ended part given = (part.0, part.1, part.2, given part.0 a b part.3)

-- memory was wanting: nothing was written before, or the first lines of units
pub given_wanting : {X : Type 0} (held : X → Option (List ℕ)) (answer : Answer) (old new : X) (e f : Option (List ℕ)) (ended : ℕ) (P : Type 0) → (new ≡ old) ⊎ P → AppendsFront (held old) (held new) answer.output
    → ((front : List ℕ) (a b : Option (List ℕ)) → Appends a b front → IsGiven (wanting_answer front) a b e f ended)
    → IsGiven answer (held old) (held new) e f ended ⊎ (IsGiven memory_answer (held old) (held new) e f ended ⊎ (P × IsGivenInPart answer (held old) (held new) e f ended))
given_wanting held answer old new e f ended P (inl same) part given = inr (inl (given [] (held old) (held new) (subst (λ x. Appends (held old) (held x) []) (sym same) (appends_nothing (held old)))))
given_wanting held answer old new e f ended P (inr units) part given = inr (inr (units, given_in_part answer (held old) (held new) e f ended part given))
