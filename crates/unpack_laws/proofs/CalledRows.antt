-- Which calls the rows of an unpack have, and that a run of rows makes no others.
use Rattle.std.proofs.Common.{◌≡◌, ◌⊎◌, ◌+◌, inl, inr, ℕ, Bool, true, false, cond, List, [], ◌∷◌, ◌++◌, codes, Option, Some, None, refl, sym, subst}
use Rattle.std.specs.List.{AllByRecursion}
use Rattle.host_core.specs.Events.{Ran}
use Rattle.host_core.specs.declared.call.Call.{Call}
use Rattle.host_core.specs.declared.call.Script.{Script}
use Rattle.host_core.specs.declared.call.Script.TheVariants as script
use Rattle.host_core.specs.declared.call.Side.TheVariants.{Old, New}
use Rattle.administration.specs.Places.{script_path, tmp_script_path}
use Rattle.undo_rows.specs.Transcript.{Goes, Succeed, Tries}
use Rattle.undo_rows.specs.declared.fall.Fall.{Fall}
use Rattle.undo_rows.specs.declared.rows.Row.{Row}
use Rattle.undo_rows.specs.Transcripts.{Anyhow, Ended, Committed, Unwound, Legal, MayRun, Unwinds}
use Rattle.undo_rows.specs.Undoing.{Undoes, UndoesAll}
use Rattle.undo_rows.specs.declared.failed.Failed.{Failed}
use Rattle.status_records.specs.declared.words.State.{State}
use Rattle.status_records.specs.declared.words.State.TheVariants as state
use Rattle.unpack_rows.specs.ForwardRows.{files_row, first_rows, install_row, is_present, last_rows, new_call, old_call, postrm_row, preinst_row, prerm_row, reinstall_row, rows_from, upgrade_row}
use Rattle.unpack_rows.specs.Kinds.{has_prerm, is_upgrade}
use Rattle.unpack_rows.specs.declared.rows.Present.{Present}
use Rattle.unpack_laws.specs.Called.{IsCallAmong, IsCallOf}

-- rows before and behind others

among_parts : (a b : List Row) (call : Call) → IsCallAmong (a ++ b) call → IsCallAmong a call ⊎ IsCallAmong b call
among_parts [] b call is = inr is
among_parts (row ∷ a) b call (inl here) = inl (inl here)
among_parts (row ∷ a) b call (inr later) = elim (among_parts a b call later) [ inl first ↦ inl (inr first) | inr last ↦ inr last ]

among_front : (a b : List Row) (call : Call) → IsCallAmong a call → IsCallAmong (a ++ b) call
among_front [] b call none = absurd none
among_front (row ∷ a) b call (inl here) = inl here
among_front (row ∷ a) b call (inr later) = inr (among_front a b call later)

among_back : (a b : List Row) (call : Call) → IsCallAmong b call → IsCallAmong (a ++ b) call
among_back [] b call is = is
among_back (row ∷ a) b call is = inr (among_back a b call is)

-- the rows of the package itself

-- a call of a script that is stored, or of one of the tree
pub data IsOwnCall (name : List ℕ) (stored tree : Present) (call : Call) : Type 0 where
  of_stored : call.side ≡ Old → call.«package» ≡ name → call.at ≡ script_path name call.script → is_present stored call.script ≡ true → IsOwnCall name stored tree call
  of_tree : call.side ≡ New → call.at ≡ tmp_script_path call.script → is_present tree call.script ≡ true → IsOwnCall name stored tree call

module _ (name old new : List ℕ) (stored tree : Present) where
  abbrev Own : Call → Type 0
  Own = IsOwnCall name stored tree

  old_is : (s : Script) (args : List (List ℕ)) (call : Call) → old_call name stored s args ≡ Some call → Own call
  old_is s args call is = at (is_present stored s) refl is
    where
      made : Call
      made = record { side = Old; «package» = name; script = s; at = script_path name s; args = args }

      at : (b : Bool) → is_present stored s ≡ b → cond b (Some made) None ≡ Some call → Own call
      at true there e = let same : made ≡ call = cc e in subst Own same (IsOwnCall.of_stored refl refl refl there)
      at false there e = absurd (let none : None ≡ Some call = e in cc)

  new_is : (s : Script) (args : List (List ℕ)) (call : Call) → new_call name tree s args ≡ Some call → Own call
  new_is s args call is = at (is_present tree s) refl is
    where
      made : Call
      made = record { side = New; «package» = name; script = s; at = tmp_script_path s; args = args }

      at : (b : Bool) → is_present tree s ≡ b → cond b (Some made) None ≡ Some call → Own call
      at true there e = let same : made ≡ call = cc e in subst Own same (IsOwnCall.of_tree refl refl there)
      at false there e = absurd (let none : None ≡ Some call = e in cc)

  none_is : (call : Call) → None ≡ Some call → Own call
  none_is call is = absurd (let none : None ≡ Some call = is in cc)

  prerm_calls : (call : Call) → IsCallOf (prerm_row name old new stored tree) call → Own call
  prerm_calls call (IsCallOf.forward is) = old_is script.Prerm (codes "upgrade" ∷ new ∷ []) call is
  prerm_calls call (IsCallOf.fallback is) = new_is script.Prerm (codes "failed-upgrade" ∷ old ∷ new ∷ []) call is
  prerm_calls call (IsCallOf.undo is) = old_is script.Postinst (codes "abort-upgrade" ∷ new ∷ []) call is

  upgrade_calls : (call : Call) → IsCallOf (upgrade_row name old new stored tree) call → Own call
  upgrade_calls call (IsCallOf.forward is) = new_is script.Preinst (codes "upgrade" ∷ old ∷ new ∷ []) call is
  upgrade_calls call (IsCallOf.fallback is) = none_is call is
  upgrade_calls call (IsCallOf.undo is) = new_is script.Postrm (codes "abort-upgrade" ∷ old ∷ new ∷ []) call is

  reinstall_calls : (call : Call) → IsCallOf (reinstall_row name old new stored tree) call → Own call
  reinstall_calls call (IsCallOf.forward is) = new_is script.Preinst (codes "install" ∷ old ∷ new ∷ []) call is
  reinstall_calls call (IsCallOf.fallback is) = none_is call is
  reinstall_calls call (IsCallOf.undo is) = new_is script.Postrm (codes "abort-install" ∷ old ∷ new ∷ []) call is

  install_calls : (call : Call) → IsCallOf (install_row name old new stored tree) call → Own call
  install_calls call (IsCallOf.forward is) = new_is script.Preinst (codes "install" ∷ []) call is
  install_calls call (IsCallOf.fallback is) = none_is call is
  install_calls call (IsCallOf.undo is) = new_is script.Postrm (codes "abort-install" ∷ []) call is

  preinst_calls : (start : State) (call : Call) → IsCallOf (preinst_row name old new stored tree start) call → Own call
  preinst_calls state.NotInstalled call is = install_calls call is
  preinst_calls state.ConfigFiles call is = reinstall_calls call is
  preinst_calls state.HalfInstalled call is = upgrade_calls call is
  preinst_calls state.Unpacked call is = upgrade_calls call is
  preinst_calls state.HalfConfigured call is = upgrade_calls call is
  preinst_calls state.Installed call is = upgrade_calls call is

  postrm_calls : (call : Call) → IsCallOf (postrm_row name old new stored tree) call → Own call
  postrm_calls call (IsCallOf.forward is) = old_is script.Postrm (codes "upgrade" ∷ new ∷ []) call is
  postrm_calls call (IsCallOf.fallback is) = new_is script.Postrm (codes "failed-upgrade" ∷ old ∷ new ∷ []) call is
  postrm_calls call (IsCallOf.undo is) = old_is script.Preinst (codes "abort-upgrade" ∷ new ∷ []) call is

  files_calls : (call : Call) → IsCallOf files_row call → Own call
  files_calls call (IsCallOf.forward is) = none_is call is
  files_calls call (IsCallOf.fallback is) = none_is call is
  files_calls call (IsCallOf.undo is) = none_is call is

  one_if : (b : Bool) (row : Row) (call : Call) → (IsCallOf row call → Own call) → IsCallAmong (cond b (row ∷ []) []) call → Own call
  one_if true row call own (inl is) = own is
  one_if true row call own (inr none) = absurd none
  one_if false row call own none = absurd none

  last_calls : (start : State) (call : Call) → IsCallAmong (last_rows name old new stored tree start) call → Own call
  last_calls start call (inl is) = preinst_calls start call is
  last_calls start call (inr (inl is)) = files_calls call is
  last_calls start call (inr (inr is)) = one_if (is_upgrade start) (postrm_row name old new stored tree) call (postrm_calls call) is

  -- each call is the package's own, or one of the rows of others
  pub own_or_other : (start : State) (others : List Row) (call : Call) → IsCallAmong (rows_from name old new stored tree start others) call → Own call ⊎ IsCallAmong others call
  own_or_other start others call is =
      elim (among_parts (first_rows name old new stored tree start) (others ++ last_rows name old new stored tree start) call is) [
        | inl first ↦ inl (one_if (has_prerm start) (prerm_row name old new stored tree) call (prerm_calls call) first)
        | inr rest ↦ elim (among_parts others (last_rows name old new stored tree start) call rest) [
          | inl other ↦ inr other
          | inr last ↦ inl (last_calls start call last)
        ]
      ]

-- the calls of a run

abbrev AreOf : (Call → Type 0) → List Ran → Type 0
AreOf P ts = AllByRecursion (λ (t : Ran). P t.call) ts

all_weaker : (P Q : Call → Type 0) (ts : List Ran) → ((call : Call) → P call → Q call) → AreOf P ts → AreOf Q ts
all_weaker P Q [] so all = tt
all_weaker P Q (t ∷ ts) so all = (so t.call all.0, all_weaker P Q ts so all.1)

all_both : (P : Call → Type 0) (a b : List Ran) → AreOf P a → AreOf P b → AreOf P (a ++ b)
all_both P [] b first second = second
all_both P (t ∷ a) b first second = (first.0, all_both P a b first.1 second)

tries_of : (row : Row) (ts : List Ran) (ok : Bool) → Tries row ts ok → AreOf (IsCallOf row) ts
tries_of row ts ok (Tries.absent none) = tt
tries_of row ts ok (Tries.done t is succeeds) = (IsCallOf.forward is, tt)
tries_of row ts ok (Tries.failed t is fails none) = (IsCallOf.forward is, tt)
tries_of row ts ok (Tries.fell_back t u same is fails falls ends) = (IsCallOf.forward is, (IsCallOf.fallback falls, tt))

goes_of : (past : List Ran) (row : Row) (ts : List Ran) (fall : Option Fall) → Goes Anyhow past row ts fall → AreOf (IsCallOf row) ts
goes_of past row ts fall (Goes.wrote files is) = tt
goes_of past row ts fall (Goes.clashed fault other files is has) = tt
goes_of past row ts fall (Goes.succeeded own calls tries) = tries_of row ts true tries
goes_of past row ts fall (Goes.failed own other calls tries has) = tries_of row ts false tries

undoes_of : (row : Row) (failed : List Failed) (ts : List Ran) (fails : Bool) → Undoes row failed ts fails → AreOf (IsCallOf row) ts
undoes_of row failed ts fails (Undoes.put_back files) = tt
undoes_of row failed ts fails (Undoes.absent own none) = tt
undoes_of row failed ts fails (Undoes.spared own has) = tt
undoes_of row failed ts fails (Undoes.called t ends own is free same) = (IsCallOf.undo is, tt)

succeed_of : (past : List Ran) (rows : List Row) (ts : List Ran) → Succeed Anyhow past rows ts → AreOf (IsCallAmong rows) ts
succeed_of past [] ts none = subst (AreOf (IsCallAmong [])) (sym none) tt
succeed_of past (row ∷ rows) ts s =
    subst (AreOf (IsCallAmong (row ∷ rows))) (sym s.2)
    (all_both (IsCallAmong (row ∷ rows)) s.0 s.1
    (all_weaker (IsCallOf row) (IsCallAmong (row ∷ rows)) s.0 (λ call is. inl is) (goes_of past row s.0 None s.3))
    (all_weaker (IsCallAmong rows) (IsCallAmong (row ∷ rows)) s.1 (λ call is. inr is) (succeed_of (past ++ s.0) rows s.1 s.4)))

undoes_all_of : (index : ℕ) (rows : List Row) (ts : List Ran) (failed : List Failed) → UndoesAll index rows ts failed → AreOf (IsCallAmong rows) ts
undoes_all_of index [] ts failed none = subst (AreOf (IsCallAmong [])) (sym none.0) tt
undoes_all_of index (row ∷ rows) ts failed u =
    subst (AreOf (IsCallAmong (row ∷ rows))) (sym u.3)
    (all_both (IsCallAmong (row ∷ rows)) u.0 u.1
    (all_weaker (IsCallAmong rows) (IsCallAmong (row ∷ rows)) u.0 (λ call is. inr is) (undoes_all_of (index + 1) rows u.0 u.2 u.4))
    (all_weaker (IsCallOf row) (IsCallAmong (row ∷ rows)) u.1 (λ call is. inl is) (undoes_of row u.2 u.1 u.5.0 u.5.1)))

module _ (rows : List Row) (ts : List Ran) where
  unwinds_of : (fall : Fall) (failed : List Failed) → Unwinds Anyhow [] rows ts fall failed → AreOf (IsCallAmong rows) ts
  unwinds_of fall failed u =
      let whole = u.before ++ u.row ∷ u.after in
      let here : (call : Call) → IsCallOf u.row call → IsCallAmong whole call = λ call is. among_back u.before (u.row ∷ u.after) call (inl is) in
      let up_to : (call : Call) → IsCallAmong (u.before ++ u.row ∷ []) call → IsCallAmong whole call = λ call is.
      elim (among_parts u.before (u.row ∷ []) call is) [
        | inl first ↦ among_front u.before (u.row ∷ u.after) call first
        | inr last ↦ among_back u.before (u.row ∷ u.after) call (among_front (u.row ∷ []) u.after call last)
      ] in
      subst (λ (l : List Row). AreOf (IsCallAmong l) ts) (sym u.rows_are)
      (subst (AreOf (IsCallAmong whole)) (sym u.calls_are)
      (all_both (IsCallAmong whole) (u.forward ++ u.last) u.back
      (all_both (IsCallAmong whole) u.forward u.last
      (all_weaker (IsCallAmong u.before) (IsCallAmong whole) u.forward (λ call is. among_front u.before (u.row ∷ u.after) call is) (succeed_of [] u.before u.forward u.succeed))
      (all_weaker (IsCallOf u.row) (IsCallAmong whole) u.last here (goes_of ([] ++ u.forward) u.row u.last (Some fall) u.fails)))
      (all_weaker (IsCallAmong (u.before ++ u.row ∷ [])) (IsCallAmong whole) u.back up_to (undoes_all_of 0 (u.before ++ u.row ∷ []) u.back failed u.undoes))))

  legal_of : (ended : Ended) → Legal Anyhow [] ended rows ts → AreOf (IsCallAmong rows) ts
  legal_of Committed legal = succeed_of [] rows ts legal
  legal_of (Unwound fall failed) legal = unwinds_of fall failed legal

  pub run_of : MayRun rows ts → AllByRecursion (λ (t : Ran). IsCallAmong rows t.call) ts
  run_of (ended, legal) = legal_of ended legal
