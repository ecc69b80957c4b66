-- How a run goes on with one unit more.
use Rattle.std.specs.Prelude.{MatchBool, IfSome, length, map, take, drop}
use Rattle.std.proofs.Common.{◌≡◌, ◌⊎◌, inl, inr, ℕ, Bool, true, false, List, [], ◌∷◌, ◌++◌, Option, Some, None, Result, Ok, Err, IsTrue, refl, sym, ap, subst, ◌∙◌, ◌+◌}
use Rattle.std.proofs.Math.Seq.{take-append_seam, drop-append_seam}
use Rattle.std.proofs.lemmas.Bool.{true≢false}
use Rattle.host_core.specs.Host.{State, Needs, Since, NoFault}
use Rattle.host_core.specs.declared.call.Call.{Call}
use Rattle.package_tree.specs.declared.package.Package.{Package}
use Rattle.package_tree.specs.declared.fault.TreeFault.{TreeFault}
use Rattle.undo_rows.specs.declared.unwinding.Unwinding.{Unwinding}
use Rattle.status_records.specs.declared.record.Record.{Record}
use Rattle.held_administration.specs.Order.{IsInOrder}
use Rattle.unpack_relations.specs.declared.beside.Beside.{Beside}
use Rattle.unpack_relations.specs.declared.checking.Checked.{Checked}
use Rattle.unpack_relations.specs.declared.checking.Checked.TheVariants as checked
use Rattle.undo_rows.specs.declared.rows.Called.{Called}
use Rattle.unit_reports.specs.declared.refusal.Rule.{Rule}
use Rattle.unit_reports.specs.declared.refusal.Rule.TheVariants.{Tree}
use Rattle.unit_reports.specs.declared.report.Breakage.{Breakage}
use Rattle.unit_reports.specs.declared.report.Breakage.TheVariants.{NoMemory, Damaged, Abandoned}
use Rattle.unit_runs.specs.Barring.{breakage_by}
use Rattle.unit_runs.specs.declared.barring.Bar.{Bar}
use Rattle.unit_runs.specs.declared.barring.Bar.TheVariants as bar
use Rattle.unpack_relations.specs.declared.options.UnpackOptions.{UnpackOptions}
use Rattle.dpkg_session.specs.declared.report.Candidate.{Candidate}
use Rattle.unit_reports.specs.declared.report.Reply.{Reply}
use Rattle.unit_reports.specs.declared.report.Reply.TheVariants.{Refused, Broken}
use Rattle.unit_reports.specs.declared.report.Unit.{Unit as AUnit}
use Rattle.unit_reports.specs.Held.{Held}
use Rattle.dpkg_session.specs.Run.{HasRun, IsAmidNext, IsBrokenNext, IsRun, RunsUnit}
use Rattle.unit_reports.proofs.Counting.{no_fault_here, no_memory_not_abandoned, no_memory_within}
use Rattle.unit_reports.specs.Units.{CountsCause, CountsReply, IsRefused, IsRefusedUnit, IsBroken, IsBrokenBy, IsFromBefore, touched_at}
use Rattle.unit_reports.specs.declared.report.Touched.{Touched}
use Rattle.dpkg_session.specs.Rereading.{with_ways}
use Rattle.dpkg_session.proofs.Overridden.{unit_alike}
use Rattle.dpkg_session.specs.Refusals.{IsDecisionFor}
use Rattle.dpkg_session.specs.Touched.{AreDeconfigured, AreOfBoth, AreUnchanged, IsTouchedBeside, deconfigured_among, told_among}
use Rattle.dpkg_session.specs.Units.{AnswersBoth, HasUnpackedWhole, IsDecidedUnit, IsPackageUnit, IsUnit, IsUnitBy, IsUnitOf, IsUnpacked, KnowsRecords, reply_to, yielding}
use Rattle.dpkg_session.specs.declared.displacing.Behind.{Behind}
use Rattle.dpkg_session.proofs.Touching.{deconfigured_beside}

pub run_more : (auto : UnpackOptions) (cs : List Candidate) (us : List AUnit) (c : Candidate) (u : AUnit) (before mid after : Held) (s m t : State) → IsRun auto cs us before mid s m → RunsUnit auto c mid after u m t → IsRun auto (cs ++ c ∷ []) (us ++ u ∷ []) before after s t
run_more auto [] [] c u before mid after s m t so_far unit =
    (t, after, subst (λ x. RunsUnit auto c x after u s t) so_far.1 (subst (λ x. RunsUnit auto c mid after u x t) so_far.0 unit), (refl, refl))
run_more auto [] (v ∷ us) c u before mid after s m t so_far unit = absurd so_far
run_more auto (q ∷ cs) [] c u before mid after s m t so_far unit = absurd so_far
run_more auto (q ∷ cs) (v ∷ us) c u before mid after s m t so_far unit = (so_far.0, so_far.1, so_far.2, run_more auto cs us c u so_far.1 mid after so_far.0 m t so_far.3 unit)

-- the run of the first candidates, and what holds of the rest
pub has_run : (auto : UnpackOptions) (cs done rest : List Candidate) (us : List AUnit) (last : Option AUnit) (before mid : Held) (s m t : State) → cs ≡ done ++ rest → length us ≡ length done → IsRun auto done us before mid s m
    → Since (IsAmidNext auto rest mid m.world) m t → IfSome last (IsBrokenNext auto rest mid m t) → HasRun auto cs us last before s t
has_run auto cs done rest us last before mid s m t split count run since broken = record {
  after = mid;
  end = m;
  run = subst (λ l. IsRun auto l us before mid s m) (sym fronts) run;
  since = subst (λ l. Since (IsAmidNext auto l mid m.world) m t) (sym rests) since;
  broken = subst (λ l. IfSome last (IsBrokenNext auto l mid m t)) (sym rests) broken;
}
  where
    fronts : take (length us) cs ≡ done
    fronts = ap (λ n. take n cs) count ∙ ap (take (length done)) split ∙ take-append_seam done rest

    rests : drop (length us) cs ≡ rest
    rests = ap (λ n. drop n cs) count ∙ ap (drop (length done)) split ∙ drop-append_seam done rest

-- no lie is forgotten over a run
pub falls_run : (auto : UnpackOptions) (cs : List Candidate) (us : List AUnit) (before after : Held) (s t : State) → IsRun auto cs us before after s t → IsTrue t.honest → IsTrue s.honest
falls_run auto [] [] before after s t run h = subst (λ (x : State). IsTrue x.honest) run.0 h
falls_run auto [] (u ∷ us) before after s t run h = absurd run
falls_run auto (c ∷ cs) [] before after s t run h = absurd run
falls_run auto (c ∷ cs) (u ∷ us) before after s t run h = run.2.moments.honest (falls_run auto cs us run.1 after run.0 t run.3 h)

-- what the next unit needs
abbrev pub Ready : Held → State → Type 0
Ready h s = Needs s (IsInOrder h.records h.lists)

ready_refused : (rule : Rule) (name : List ℕ) (before after : Held) (u : AUnit) (s t : State) → Ready before s → IsRefused rule name before after u s t → Ready after t
ready_refused rule name before after u s t ready is = λ honest.
    subst (λ (h : Held). IsInOrder h.records h.lists t.world) (sym is.held) (subst (IsInOrder before.records before.lists) (sym (is.world honest)) (ready (is.silent.honest honest)))

ready_by : (p : Package) (decision : Checked) (before after : Held) (u : AUnit) (s t : State) → Ready before s → IsUnitBy p decision before after u s t → Ready after t
ready_by p (checked.Refused rule) before after u s t ready is = ready_refused rule p.name before after u s t ready is
ready_by p (checked.Planned beside) before after u s t ready is = is.order

ready_of : (auto : UnpackOptions) (label : List ℕ) (tree : Result Package TreeFault) (before after : Held) (u : AUnit) (s t : State) → Ready before s → IsUnitOf auto label tree before after u s t → Ready after t
ready_of auto label (Err fault) before after u s t ready is = ready_refused _ label before after u s t ready is
ready_of auto label (Ok p) before after u s t ready (added, read, is) =
    let one = unit_alike auto p (with_ways before added) after u s t is in ready_by one.alike one.decision (with_ways before added) after u s t ready one.unit

pub ready_after : (auto : UnpackOptions) (c : Candidate) (before after : Held) (u : AUnit) (s t : State) → Ready before s → IsUnit auto c before after u s t → Ready after t
ready_after auto c before after u s t ready is = ready_of auto c.label c.tree before after u s t ready is

pub ready_run : (auto : UnpackOptions) (cs : List Candidate) (us : List AUnit) (before after : Held) (s t : State) → IsRun auto cs us before after s t → Ready before s → Ready after t
ready_run auto [] [] before after s t run ready = subst (λ (x : Held). Ready x t) (sym run.1) (subst (Ready before) (sym run.0) ready)
ready_run auto [] (u ∷ us) before after s t run ready = absurd run
ready_run auto (c ∷ cs) [] before after s t run ready = absurd run
ready_run auto (c ∷ cs) (u ∷ us) before after s t run ready = ready_run auto cs us run.1 after run.0 t run.3 (ready_after auto c before run.1 u s run.0 ready run.2.is)

-- by what is refused, and what isn't

pub refused_here : (rule : Rule) (name : List ℕ) (h : Held) (u : AUnit) (s : State) → IsRefusedUnit rule name u → IsRefused rule name h h u s s
refused_here rule name h u s refused = record { refused = refused; held = refl; silent = record { honest = λ honest. honest; scripts = refl }; world = λ honest. refl }

pub by_refused : (auto : UnpackOptions) (p : Package) (rule : Rule) (decision : Checked) (h : Held) (u : AUnit) (s : State) → IsDecisionFor p auto h decision → decision ≡ checked.Refused rule → IsRefusedUnit rule p.name u → IsDecidedUnit auto p h h u s s
by_refused auto p rule decision h u s decided is refused = (decision, decided, subst (λ d. IsUnitBy p d h h u s s) (sym is) (refused_here rule p.name h u s refused))

pub by_unpacked : (auto : UnpackOptions) (p : Package) (beside : Beside) (decision : Checked) (before after : Held) (u : AUnit) (s t : State) → IsDecisionFor p auto before decision → decision ≡ checked.Planned beside
    → IsBroken u.reply ⊎ IsUnpacked p beside before after u s t → IsBroken u.reply ⊎ IsDecidedUnit auto p before after u s t
by_unpacked auto p beside decision before after u s t decided is (inl broken) = inl broken
by_unpacked auto p beside decision before after u s t decided is (inr unpacked) = inr (decision, decided, subst (λ d. IsUnitBy p d before after u s t) (sym is) unpacked)

pub of_read : (auto : UnpackOptions) (c : Candidate) (p : Package) (before after : Held) (u : AUnit) (s t : State) → c.tree ≡ Ok p → IsBroken u.reply ⊎ IsPackageUnit auto p before after u s t → IsBroken u.reply ⊎ IsUnit auto c before after u s t
of_read auto c p before after u s t is either = subst (λ r. IsBroken u.reply ⊎ IsUnitOf auto c.label r before after u s t) (sym is) either

pub of_unread : (auto : UnpackOptions) (c : Candidate) (fault : TreeFault) (h : Held) (u : AUnit) (s : State) → c.tree ≡ Err fault → IsRefusedUnit (Tree fault) c.label u → IsUnit auto c h h u s s
of_unread auto c fault h u s is refused = subst (λ r. IsUnitOf auto c.label r h h u s s) (sym is) (refused_here (Tree fault) c.label h u s refused)

-- a unit that wasn't broken off is as the tables say
pub not_broken : {Q : Type 0} (reply : Reply) (b : Bool) → b ≡ false → MatchBool b (IsBroken reply) (IsBroken reply → ⊥) → IsBroken reply ⊎ Q → Q
not_broken reply true e is either = absurd (true≢false e)
not_broken reply false e is (inl broken) = absurd (is broken)
not_broken reply false e is (inr holds) = holds

pub is_whole : (reply : Reply) (b : Bool) → b ≡ false → MatchBool b (IsBroken reply) (IsBroken reply → ⊥) → IsBroken reply → ⊥
is_whole reply true e is broken = absurd (true≢false e)
is_whole reply false e is broken = is broken

-- the answer of a unit that was broken off

pub is_broken_off : (reply : Reply) (b : Bool) → b ≡ true → MatchBool b (IsBroken reply) (IsBroken reply → ⊥) → IsBroken reply
is_broken_off reply true e broken = broken
is_broken_off reply false e is = absurd (true≢false (sym e))

pub broken_by : (breakage : Breakage) (reply : Reply) → IsBrokenBy breakage reply → IsBroken reply
broken_by breakage reply is = subst IsBroken (sym is) tt

pub broken_or : {Q R : Type 0} (breakage : Breakage) (reply : Reply) → (Q → R) → IsBrokenBy breakage reply ⊎ Q → IsBroken reply ⊎ R
broken_or breakage reply so (inl broken) = inl (broken_by breakage reply broken)
broken_or breakage reply so (inr holds) = inr (so holds)

-- the unit of a package that was unpacked, as it tells it
pub is_unpacked : (p : Package) (beside : Beside) (before after : Held) (u : AUnit) (b : Behind) (unwinding : Option Unwinding) (touched displaced : List (List ℕ)) (failed : Option Call) (s t : State) (told now : List Called) → b.«package» ≡ p.name → KnowsRecords beside before.records.records b → told ≡ [] → u.calls.items ≡ now
    → HasUnpackedWhole p beside before unwinding displaced failed after s t told now → Ready after t
    → ((names unchanged : List (List ℕ)) → AreOfBoth touched displaced names → AreUnchanged before.records.records after.records.records (yielding beside) unchanged → IsTouchedBeside p.name before.records.records after.records.records (told_among p.name unchanged names))
    → IsBrokenBy NoMemory u.reply ⊎ AnswersBoth b.«package» after.records.records b.copies.items b.half unwinding failed touched displaced u → IsBroken u.reply ⊎ IsUnpacked p beside before after u s t
is_unpacked p beside before after u b unwinding touched displaced failed s t told now named knows none same unpacked order changed either =
    broken_or NoMemory u.reply (λ answers.
    let records = after.records.records in
    let tells = answers.told in
    let touches = changed tells.names tells.unchanged tells.both (tells.known before.records.records (yielding beside) knows.copies) in
    let names = told_among p.name tells.unchanged tells.names in
    record {
      unwinding = unwinding;
      displaced = displaced;
      failed = failed;
      names = names;
      unpacked = subst (λ l. HasUnpackedWhole p beside before unwinding displaced failed after s t [] l) (sym same)
          (subst (λ l. HasUnpackedWhole p beside before unwinding displaced failed after s t l now) none unpacked);
      order = order;
      changed = touches;
      answers = record {
        replied = answers.replied ∙ ap (λ n. reply_to n unwinding failed) named;
        touched = tells.touched_are ∙ ap (λ n. map (touched_at records) (told_among n tells.unchanged tells.names)) named;
      };
      deconfigured = subst (AreDeconfigured p.name before.records.records records) (sym (tells.deconfigured_are ∙ ap (λ n. deconfigured_among n records b.half (told_among n tells.unchanged tells.names)) named))
          (deconfigured_beside p.name before.records.records records names b.half touches knows.order knows.half);
    }) either

-- a unit that wasn't broken off isn't one that was for what was there before it

reply_within : (name : List ℕ) (unwinding : Option Unwinding) (failed : Option Call) → IsFromBefore (reply_to name unwinding failed) → ⊥
reply_within name None None before = before
reply_within name None (Some call) before = before
reply_within name (Some u) failed before = before

pub answer_within : (name : List ℕ) (records : List Record) (copies : List Touched) (half : List (List ℕ)) (unwinding : Option Unwinding) (failed : Option Call) (touched displaced : List (List ℕ)) (u : AUnit) → IsBrokenBy NoMemory u.reply ⊎ AnswersBoth name records copies half unwinding failed touched displaced u → IsFromBefore u.reply → ⊥
answer_within name records copies half unwinding failed touched displaced u (inl broken) before = no_memory_within u.reply broken before
answer_within name records copies half unwinding failed touched displaced u (inr answers) before = reply_within name unwinding failed (subst IsFromBefore answers.replied before)

pub refused_within : (rule : Rule) (name : List ℕ) (u : AUnit) → IsRefusedUnit rule name u → IsFromBefore u.reply → ⊥
refused_within rule name u refused before = subst IsFromBefore refused.reply before

-- nor one of a table that can't be read
pub no_memory_undamaged : (reply : Reply) → IsBrokenBy NoMemory reply → IsBrokenBy Damaged reply → ⊥
no_memory_undamaged reply broken damaged = let e : Broken NoMemory ≡ Broken Damaged = sym broken ∙ damaged in cc

pub barred_undamaged : (b : Bar) (reply : Reply) → IsBrokenBy (breakage_by b) reply → IsBrokenBy Damaged reply → ⊥
barred_undamaged bar.NoRoom reply broken damaged = no_memory_undamaged reply broken damaged
barred_undamaged bar.Abandoned reply broken damaged = let e : Broken Abandoned ≡ Broken Damaged = sym broken ∙ damaged in cc

-- a barred unit is abandoned only where that was in its way
pub barred_for : (b : Bar) (reply : Reply) → IsBrokenBy (breakage_by b) reply → IsBrokenBy Abandoned reply → b ≡ bar.Abandoned
barred_for bar.NoRoom reply broken told = absurd (no_memory_not_abandoned reply broken told)
barred_for bar.Abandoned reply broken told = refl

reply_not_damaged : (name : List ℕ) (unwinding : Option Unwinding) (failed : Option Call) → IsBrokenBy Damaged (reply_to name unwinding failed) → ⊥
reply_not_damaged name None None damaged = cc
reply_not_damaged name None (Some call) damaged = cc
reply_not_damaged name (Some u) failed damaged = cc

pub answer_not_damaged : (name : List ℕ) (records : List Record) (copies : List Touched) (half : List (List ℕ)) (unwinding : Option Unwinding) (failed : Option Call) (touched displaced : List (List ℕ)) (u : AUnit) → IsBrokenBy NoMemory u.reply ⊎ AnswersBoth name records copies half unwinding failed touched displaced u → IsBrokenBy Damaged u.reply → ⊥
answer_not_damaged name records copies half unwinding failed touched displaced u (inl broken) damaged = no_memory_undamaged u.reply broken damaged
answer_not_damaged name records copies half unwinding failed touched displaced u (inr answers) damaged = reply_not_damaged name unwinding failed (sym answers.replied ∙ damaged)

-- the faults of a unit

counts_reply : (name : List ℕ) (unwinding : Option Unwinding) (failed : Option Call) (a b : State) → NoFault a b → IfSome unwinding (λ one. CountsCause a b one.failure) → CountsReply a b (reply_to name unwinding failed)
counts_reply name None None a b same counts = same
counts_reply name None (Some call) a b same counts = same
counts_reply name (Some u) failed a b same counts = counts

pub counts_answered : (name : List ℕ) (records : List Record) (copies : List Touched) (half : List (List ℕ)) (unwinding : Option Unwinding) (failed : Option Call) (touched displaced : List (List ℕ)) (u : AUnit) (a b : State) → NoFault a b → IfSome unwinding (λ one. CountsCause a b one.failure) → IsBrokenBy NoMemory u.reply ⊎ AnswersBoth name records copies half unwinding failed touched displaced u → CountsReply a b u.reply
counts_answered name records copies half unwinding failed touched displaced u a b same counts (inl broken) = subst (CountsReply a b) (sym broken) same
counts_answered name records copies half unwinding failed touched displaced u a b same counts (inr answers) = subst (CountsReply a b) (sym answers.replied) (counts_reply name unwinding failed a b same counts)

pub counts_refused : (rule : Rule) (name : List ℕ) (u : AUnit) (a : State) → IsRefusedUnit rule name u → CountsReply a a u.reply
counts_refused rule name u a refused = subst (CountsReply a a) (sym refused.reply) (no_fault_here a)
