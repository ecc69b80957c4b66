-- Trees that are read one after another, with a unit for each.
use Rattle.std.proofs.Common.{◌≡◌, ◌+◌, ℕ, Bool, IsTrue, suc, List, [], ◌∷◌, ◌++◌, Option, Some, None, length, map, refl, sym, ap, subst, ◌∙◌, append_assoc, length-append}
use Rattle.std.specs.Prelude.{IsNone}
use Rattle.std.proofs.lemmas.List.{append-nil, map-append}
use Rattle.host_core.specs.Host.{State, Since}
use Rattle.host_core.specs.Unsynced.{IsSettled}
use Rattle.unit_reports.specs.Held.{Held}
use Rattle.unit_reports.specs.declared.report.Report.{Report}
use Rattle.unit_reports.specs.declared.report.Unit.{Unit as AUnit}
use Rattle.unpack_relations.specs.declared.options.UnpackOptions.{UnpackOptions}
use Rattle.dpkg_session.specs.Installs.{label_of}
use Rattle.dpkg_session.specs.Run.{AreReadInTurn, HasRun, HasRunThrough, IsAmidRun, IsAmidUnitOf, IsRun, RunsUnit}
use Rattle.dpkg_session.specs.Trees.{AreRead}
use Rattle.dpkg_session.specs.Units.{IsBrokenOff}
use Rattle.dpkg_session.specs.declared.report.Candidate.{Candidate}
use Rattle.dpkg_session.proofs.Amid.{since_next, since_next_start, since_run_start}
use Rattle.dpkg_session.proofs.Outlasting.{loses_like}
use Rattle.dpkg_session.proofs.Runs.{has_run, run_more}

-- Some trees were read, and the units are a run of them; at each moment so far a run of these and any others was under way.
pub record HasReadTo {T : Type 0} (reads : T → Candidate → T → Type 0) (auto : UnpackOptions) (old now : T) (us : List AUnit) (labels : List (List ℕ)) (before mid : Held) (s m : State) : Type 0 where
  pub cs : List Candidate
  pub read : AreRead reads old cs now
  pub labelled : labels ≡ map label_of cs
  pub run : IsRun auto cs us before mid s m
  pub moments : (rest : List Candidate) → Since (IsAmidRun auto (cs ++ rest) before s) s m

read_one : {T : Type 0} (reads : T → Candidate → T → Type 0) (old mid new : T) (cs : List Candidate) (c : Candidate) → AreRead reads old cs mid → reads mid c new → AreRead reads old (cs ++ c ∷ []) new
read_one reads old mid new [] c same is = (new, subst (λ t. reads t c new) same is, refl)
read_one reads old mid new (d ∷ cs) c read is = (read.0, read.1, read_one reads read.0 mid new cs c read.2 is)

-- as many units as trees
run_even : (auto : UnpackOptions) (cs : List Candidate) (us : List AUnit) (before after : Held) (s t : State) → IsRun auto cs us before after s t → length cs ≡ length us
run_even auto [] [] before after s t run = refl
run_even auto [] (u ∷ us) before after s t run = absurd run
run_even auto (c ∷ cs) [] before after s t run = absurd run
run_even auto (c ∷ cs) (u ∷ us) before after s t run = ap suc (run_even auto cs us run.1 after run.0 t run.3)

no_none : {A : Type 0} (last : Option A) (u : A) → last ≡ Some u → IsNone last → ⊥
no_none None u is none = cc
no_none (Some v) u is none = cc

module _ {T : Type 0} (reads : T → Candidate → T → Type 0) (auto : UnpackOptions) where
  pub read_start : (t : T) (us : List AUnit) (labels : List (List ℕ)) (h : Held) (s : State) → us ≡ [] → labels ≡ [] → HasReadTo reads auto t t us labels h h s s
  read_start t us labels h s none unlabelled = record {
    cs = [];
    read = refl;
    labelled = unlabelled;
    run = subst (λ l. IsRun auto [] l h h s s) (sym none) (refl, refl);
    moments = λ rest. since_run_start auto rest h s;
  }

  module _ (old now new : T) (us : List AUnit) (labels : List (List ℕ)) (before mid after : Held) (s m t : State) (so_far : HasReadTo reads auto old now us labels before mid s m) where
    -- a run of the trees so far, the next one and any others
    moments_next : (c : Candidate) (rest : List Candidate) → Since (IsAmidUnitOf auto c.tree mid m.world) m t → Since (IsAmidRun auto ((so_far.cs ++ c ∷ []) ++ rest) before s) s t
    moments_next c rest during = since_next auto ((so_far.cs ++ c ∷ []) ++ rest) so_far.cs us c rest before mid s m t (append_assoc so_far.cs (c ∷ []) rest) so_far.run
        (subst (λ l. Since (IsAmidRun auto l before s) s m) (sym {A = List Candidate} (append_assoc so_far.cs (c ∷ []) rest)) (so_far.moments (c ∷ rest))) during

    -- one tree and its unit more
    pub read_more : (c : Candidate) (u : AUnit) (us_new : List AUnit) (labels_new : List (List ℕ)) → reads now c new → RunsUnit auto c mid after u m t → us_new ≡ us ++ u ∷ [] → labels_new ≡ labels ++ label_of c ∷ []
        → HasReadTo reads auto old new us_new labels_new before after s t
    read_more c u us_new labels_new is unit grown labelled = record {
      cs = so_far.cs ++ c ∷ [];
      read = read_one reads old now new so_far.cs c so_far.read is;
      labelled = labelled ∙ ap (λ (l : List (List ℕ)). l ++ label_of c ∷ []) so_far.labelled ∙ sym (map-append label_of so_far.cs (c ∷ []));
      run = subst (λ l. IsRun auto (so_far.cs ++ c ∷ []) l before after s t) (sym grown) (run_more auto so_far.cs us c u before mid after s m t so_far.run unit);
      moments = λ rest. moments_next c rest unit.moments;
    }

    -- the unit of the next tree was broken off
    pub broken_read : (c : Candidate) (u : AUnit) (left labels_new : List (List ℕ)) (report : Report) → reads now c new → Since (IsAmidUnitOf auto c.tree mid m.world) m t → IsBrokenOff auto c mid u m t
        → (IsTrue t.honest → IsSettled t.events) → report.units.items ≡ us → report.last ≡ Some u
        → (cs : List Candidate) × AreRead reads old cs new × HasRunThrough auto cs left report before after s t × (IsNone report.last → labels_new ≡ map label_of cs)
    broken_read c u left labels_new report is during off settled units last =
        let cs = so_far.cs ++ c ∷ [] in
        let even = run_even auto so_far.cs us before mid s m so_far.run in
        let since : Since (IsAmidRun auto cs before s) s t = subst (λ (l : List Candidate). Since (IsAmidRun auto l before s) s t) (append-nil cs) (moments_next c [] during) in (
          cs,
          read_one reads old now new so_far.cs c so_far.read is,
          record {
            whole = λ none. absurd (no_none report.last u last none);
            all = λ none. absurd (no_none report.last u last none);
            part = subst (λ l. HasRun auto cs l report.last before s t) (sym {A = List AUnit} units)
                (subst (λ o. HasRun auto cs us o before s t) (sym {A = Option AUnit} last) (has_run auto cs so_far.cs (c ∷ []) us (Some u) before mid s m t refl (sym even) so_far.run during off));
            read = subst (λ l. AreReadInTurn cs l report.last) (sym {A = List AUnit} units)
                (subst (λ o. AreReadInTurn cs us o) (sym {A = Option AUnit} last) (length-append so_far.cs (c ∷ []) ∙ ap (λ n. n + 1) even));
            any_moment = since;
            loss = loses_like (IsAmidRun auto cs before s) s t settled since;
          },
          λ none. absurd (no_none report.last u last none),
        )

    -- no tree is left
    pub all_read : (left : List (List ℕ)) (report : Report) → left ≡ [] → new ≡ now → (IsTrue m.honest → IsSettled m.events) → report.units.items ≡ us → report.last ≡ None
        → (cs : List Candidate) × AreRead reads old cs new × HasRunThrough auto cs left report before mid s m × (IsNone report.last → labels ≡ map label_of cs)
    all_read left report none same settled units last =
        let cs = so_far.cs in
        let even = run_even auto cs us before mid s m so_far.run in
        let since : Since (IsAmidRun auto cs before s) s m = subst (λ (l : List Candidate). Since (IsAmidRun auto l before s) s m) (append-nil cs) (so_far.moments []) in (
          cs,
          subst (λ (x : T). AreRead reads old cs x) (sym same) so_far.read,
          record {
            whole = λ ended. subst (λ l. IsRun auto cs l before mid s m) (sym {A = List AUnit} units) so_far.run;
            all = λ ended. none;
            part = subst (λ l. HasRun auto cs l report.last before s m) (sym {A = List AUnit} units)
                (subst (λ o. HasRun auto cs us o before s m) (sym {A = Option AUnit} last) (has_run auto cs cs [] us None before mid s m m (sym {A = List Candidate} (append-nil cs)) (sym even) so_far.run (since_next_start auto [] mid m) tt));
            read = subst (λ l. AreReadInTurn cs l report.last) (sym {A = List AUnit} units) (subst (λ o. AreReadInTurn cs us o) (sym {A = Option AUnit} last) even);
            any_moment = since;
            loss = loses_like (IsAmidRun auto cs before s) s m settled since;
          },
          λ ended. so_far.labelled,
        )
