-- The calls that units tell are those of the host's own list.
use Rattle.std.proofs.Common.{◌≡◌, inl, inr, Bool, List, [], ◌∷◌, ◌++◌, Option, None, Some, Result, Ok, Err, append_assoc, ap, refl, subst, sym, ◌∙◌}
use Rattle.std.specs.Prelude.{IsNone}
use Rattle.std.proofs.lemmas.List.{append-nil}
use Rattle.undo_rows.proofs.Tellings.{begun_calls, made_calls}
use Rattle.displaced_packages.proofs.Calling.{displacing_tells}
use Rattle.file_lists.specs.declared.paths.PackageList.{PackageList}
use Rattle.host_core.specs.Host.{State, Silent}
use Rattle.host_core.specs.Paths.{Path}
use Rattle.package_tree.specs.declared.package.Package.{Package}
use Rattle.package_tree.specs.declared.fault.TreeFault.{TreeFault}
use Rattle.undo_rows.specs.declared.unwinding.Unwinding.{Unwinding}
use Rattle.status_db.specs.Recorded.{Recorded}
use Rattle.unpack_engine.specs.Units.{Given, HasCalled, HasCalledRows}
use Rattle.undo_rows.specs.Transcripts.{MayRun}
use Rattle.undo_rows.specs.declared.rows.Row.{Row}
use Rattle.undo_rows.specs.Transcript.{TellsAll}
use Rattle.undo_rows.proofs.Makes.{tells_none, tells_then}
use Rattle.undo_rows.specs.declared.rows.Called.{Called}
use Rattle.unit_reports.specs.Held.{Held, places_of}
use Rattle.unpack_relations.specs.declared.beside.Beside.{Beside}
use Rattle.unpack_relations.specs.declared.checking.Checked.{Checked}
use Rattle.unpack_relations.specs.declared.checking.Checked.TheVariants.{Planned, Refused}
use Rattle.unit_reports.specs.declared.refusal.Rule.{Rule}
use Rattle.unit_reports.specs.declared.report.Unit.{Unit as AUnit}
use Rattle.unit_reports.specs.Units.{HasNoCalls, TellsCalls, calls_of, last_calls}
use Rattle.unit_reports.specs.declared.report.Report.{Report}
use Rattle.unpack_relations.specs.declared.options.UnpackOptions.{UnpackOptions}
use Rattle.diversions.specs.Ways.{Ways}
use Rattle.dpkg_session.proofs.Looking.{silent_calls}
use Rattle.dpkg_session.specs.Refusals.{IsDecisionFor}
use Rattle.dpkg_session.specs.Rereading.{with_ways}
use Rattle.dpkg_session.specs.Overriding.{taken_with}
use Rattle.dpkg_session.specs.Units.{HasCalledBeside, HasCalledBy, HasCalledDecided, HasCalledOf, HasCalledOverridden, HasCalledPackage, HasCalledTaken, HasCalledWhole, HasUnpackedBeside, all_yielding, given_by}

-- nothing was done
pub silent_here : (s : State) → Silent s s
silent_here s = record { honest = λ h. h; scripts = refl }

calls_more : (us : List AUnit) (u : AUnit) → calls_of (us ++ u ∷ []) ≡ calls_of us ++ u.calls.items
calls_more [] u = append-nil u.calls.items
calls_more (v ∷ us) u = ap (λ l. v.calls.items ++ l) (calls_more us u) ∙ sym (append_assoc v.calls.items (calls_of us) u.calls.items)

-- the calls of one unit more, after those of others
pub tells_unit : (b c : State) (us more : List AUnit) (u : AUnit) → more ≡ us ++ u ∷ [] → TellsAll b c [] u.calls.items → TellsAll b c (calls_of us) (calls_of more)
tells_unit b c us more u grown told = (told.0, told.1, ap calls_of grown ∙ calls_more us u ∙ ap (λ l. calls_of us ++ l) told.2)

-- the unit that was broken off, after the others
pub tells_last : (a b c : State) (us : List AUnit) (u : AUnit) → TellsAll a b [] (calls_of us) → TellsAll b c [] u.calls.items → TellsAll a c [] (calls_of us ++ u.calls.items)
tells_last a b c us u first second = tells_then a b c [] (calls_of us) (calls_of us ++ u.calls.items) first (second.0, second.1, ap (λ l. calls_of us ++ l) second.2)

-- no unit was broken off
pub tells_whole : (a b : State) (us : List AUnit) → TellsAll a b [] (calls_of us) → TellsAll a b [] (calls_of us ++ [])
tells_whole a b us told = (told.0, told.1, append-nil (calls_of us) ∙ told.2)

-- the calls of a report of which no unit was broken off
pub tells_units : (a b : State) (report : Report) → IsNone report.last → TellsCalls a b report → TellsAll a b [] (calls_of report.units.items)
tells_units a b report none told = by report.last none told
  where
    us : List Called
    us = calls_of report.units.items

    by : (last : Option AUnit) → IsNone last → TellsAll a b [] (us ++ last_calls last) → TellsAll a b [] us
    by None is all = subst (TellsAll a b []) (append-nil us) all
    by (Some u) is all = cc

-- where no script was called no call is told
pub tells_silent : (s t : State) (told : List Called) → Silent s t → told ≡ [] → TellsAll s t [] told
tells_silent s t told silent none = tells_none s t [] told (silent_calls s t silent) none

-- what a unit tells is in step with the host's own list, whatever its answer

no_calls_tell : (u : AUnit) (s t : State) → HasNoCalls u s t → TellsAll s t [] u.calls.items
no_calls_tell u s t none = tells_silent s t u.calls.items none.silent none.told

rows_tell : (rows : List Row) (s t : State) (told now : List Called) → HasCalledRows rows s t told now → TellsAll s t told now
rows_tell rows s t told now (HasCalledRows.nothing silent same) = tells_none s t told now (silent_calls s t silent) same
rows_tell rows s t told now (HasCalledRows.some begun) = let made = begun_calls (MayRun rows) s t told now begun in (made.0, made.2, made.3.1)

has_called_tells : (g : Given) (s t : State) (told now : List Called) → HasCalled g s t told now → TellsAll s t told now
has_called_tells g s t told now (HasCalled.unplanned silent same) = tells_none s t told now (silent_calls s t silent) same
has_called_tells g s t told now (HasCalled.planned plan is rows) = rows_tell plan.rows s t told now rows

beside_tells : (p : Package) (beside : Beside) (before : Held) (s t : State) (told now : List Called) → HasCalledBeside p beside before s t told now → TellsAll s t told now
beside_tells p beside before s t told now (HasCalledBeside.looking silent same) = tells_none s t told now (silent_calls s t silent) same
beside_tells p beside before s t told now (HasCalledBeside.calling others rows called) = has_called_tells (given_by p before before.ways others (all_yielding p beside before)) s t told now called

-- all calls of an unpack that was carried out
unpacked_tells : (p : Package) (beside : Beside) (before : Held) (late : Ways) (places : List Path) (unwinding : Option Unwinding) (after : Recorded) (lists : List PackageList) (s t : State) (told now : List Called) → HasUnpackedBeside p beside before late places unwinding after lists s t told now → TellsAll s t told now
unpacked_tells p beside before late places unwinding after lists s t told now is =
    let out = is.unpacked.carried_out in
    let made = made_calls _ out.ran.begun out.last told now out.ran.run in
    tells_then s out.last t told now now
    (tells_then s out.ran.begun out.last told told now (tells_none s out.ran.begun told told (silent_calls s out.ran.begun out.ran.quiet) refl) (made.0, made.1, made.2.1))
    (tells_none out.last t now now (silent_calls out.last t out.since) refl)

whole_tells : (p : Package) (beside : Beside) (before : Held) (s t : State) (told now : List Called) → HasCalledWhole p beside before s t told now → TellsAll s t told now
whole_tells p beside before s t told now (inl called) = beside_tells p beside before s t told now called
whole_tells p beside before s t told now (inr is) =
    tells_then s is.m t told is.between now (unpacked_tells p beside before is.late (places_of before) None is.records is.lists s is.m told is.between is.unpacked)
    (displacing_tells p.name p.version is.late _ beside.conflicting _ is.m t is.between now is.called)

called_by_tells : (p : Package) (decision : Checked) (before : Held) (u : AUnit) (s t : State) → HasCalledBy p decision before u s t → TellsAll s t [] u.calls.items
called_by_tells p (Refused rule) before u s t none = no_calls_tell u s t none
called_by_tells p (Planned beside) before u s t called = whole_tells p beside before s t [] u.calls.items called

decided_tells : (auto : UnpackOptions) (p : Package) (before : Held) (u : AUnit) (s t : State) → HasCalledDecided auto p before u s t → TellsAll s t [] u.calls.items
decided_tells auto p before u s t (inl none) = no_calls_tell u s t none
decided_tells auto p before u s t (inr called) = called_by_tells p called.0 before u s t called.2

taken_tells : (auto : UnpackOptions) (taken : Result Package Rule) (before : Held) (u : AUnit) (s t : State) → HasCalledTaken auto taken before u s t → TellsAll s t [] u.calls.items
taken_tells auto (Err rule) before u s t none = no_calls_tell u s t none
taken_tells auto (Ok q) before u s t called = decided_tells auto q before u s t called

overridden_tells : (auto : UnpackOptions) (p : Package) (before : Held) (u : AUnit) (s t : State) → HasCalledOverridden auto p before u s t → TellsAll s t [] u.calls.items
overridden_tells auto p before u s t (inl none) = no_calls_tell u s t none
overridden_tells auto p before u s t (inr (read, are, called)) = taken_tells auto (taken_with read p) before u s t called

package_tells : (auto : UnpackOptions) (p : Package) (before : Held) (u : AUnit) (s t : State) → HasCalledPackage auto p before u s t → TellsAll s t [] u.calls.items
package_tells auto p before u s t (inl none) = no_calls_tell u s t none
package_tells auto p before u s t (inr (added, read, called)) = overridden_tells auto p (with_ways before added) u s t called

pub called_tells : (auto : UnpackOptions) (tree : Result Package TreeFault) (before : Held) (u : AUnit) (s t : State) → HasCalledOf auto tree before u s t → TellsAll s t [] u.calls.items
called_tells auto (Err fault) before u s t none = no_calls_tell u s t none
called_tells auto (Ok p) before u s t called = package_tells auto p before u s t called

-- by what is refused, and what isn't

pub called_nothing : (p : Package) (beside : Beside) (before : Held) (s : State) (told : List Called) → told ≡ [] → HasCalledWhole p beside before s s [] told
called_nothing p beside before s told none = inl (HasCalledBeside.looking (silent_here s) none)

pub no_calls : (u : AUnit) (s : State) → u.calls.items ≡ [] → HasNoCalls u s s
no_calls u s none = record { silent = silent_here s; told = none }

pub not_begun_decided : (auto : UnpackOptions) (p : Package) (before : Held) (u : AUnit) (s : State) → u.calls.items ≡ [] → HasCalledDecided auto p before u s s
not_begun_decided auto p before u s none = inl (no_calls u s none)

pub not_begun_package : (auto : UnpackOptions) (p : Package) (before : Held) (u : AUnit) (s : State) → u.calls.items ≡ [] → HasCalledPackage auto p before u s s
not_begun_package auto p before u s none = inl (no_calls u s none)

pub called_decided : (auto : UnpackOptions) (p : Package) (beside : Beside) (decision : Checked) (before : Held) (u : AUnit) (s t : State) → IsDecisionFor p auto before decision → decision ≡ Planned beside
    → HasCalledWhole p beside before s t [] u.calls.items → HasCalledDecided auto p before u s t
called_decided auto p beside decision before u s t decided is called = inr (decision, decided, subst (λ d. HasCalledBy p d before u s t) (sym is) called)

pub called_read : (auto : UnpackOptions) (p : Package) (tree : Result Package TreeFault) (before : Held) (u : AUnit) (s t : State) → tree ≡ Ok p → HasCalledPackage auto p before u s t → HasCalledOf auto tree before u s t
called_read auto p tree before u s t is called = subst (λ r. HasCalledOf auto r before u s t) (sym is) called

-- from the list that a unit began with, and as it tells it
pub called_as : (p : Package) (beside : Beside) (before : Held) (s t : State) (old now told : List Called) → old ≡ [] → told ≡ now → HasCalledWhole p beside before s t old now → HasCalledWhole p beside before s t [] told
called_as p beside before s t old now told empty is called = subst (λ l. HasCalledWhole p beside before s t l told) empty (subst (HasCalledWhole p beside before s t old) (sym is) called)

-- a unit that wasn't begun
pub not_begun : (auto : UnpackOptions) (tree : Result Package TreeFault) (before : Held) (u : AUnit) (s : State) → u.calls.items ≡ [] → HasCalledOf auto tree before u s s
not_begun auto (Err fault) before u s none = no_calls u s none
not_begun auto (Ok p) before u s none = not_begun_package auto p before u s none
