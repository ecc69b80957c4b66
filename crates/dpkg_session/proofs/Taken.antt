-- What the overrides make of a package, as the program tells it.
use Rattle.std.proofs.Common.{◌≡◌, ◌⊎◌, inl, inr, ℕ, Bool, List, [], Option, Some, None, Result, Ok, Err, refl, sym, ap, subst, ◌∙◌}
use Rattle.host_core.specs.Host.{State, Since}
use Rattle.host_core.specs.Paths.{Path}
use Rattle.host_core.proofs.Moments.{since_start}
use Rattle.package_tree.specs.declared.package.Package.{Package}
use Rattle.stat_overrides.specs.Packages.{first_unknown, overridden}
use Rattle.stat_overrides.specs.declared.table.Overrides.{Overrides}
use Rattle.unit_reports.specs.Held.{Held}
use Rattle.unit_reports.specs.Units.{IsRefusedUnit}
use Rattle.unit_reports.specs.declared.refusal.Rule.{Rule}
use Rattle.unit_reports.specs.declared.refusal.Rule.TheVariants.{OwnerUnknown}
use Rattle.unit_reports.specs.declared.report.Unit.{Unit as AUnit}
use Rattle.unpack_relations.specs.declared.options.UnpackOptions.{UnpackOptions}
use Rattle.dpkg_session.specs.Overriding.{taken_by, taken_from}
use Rattle.dpkg_session.specs.Run.{IsAmidTaken}
use Rattle.dpkg_session.specs.Units.{HasCalledTaken, IsTakenUnit}
use Rattle.dpkg_session.proofs.Runs.{refused_here}
use Rattle.dpkg_session.proofs.Told.{no_calls}

-- nothing is done yet

pub since_taken_start : (auto : UnpackOptions) (taken : Result Package Rule) (h : Held) (s : State) → Since (IsAmidTaken auto taken h s.world) s s
since_taken_start auto (Err rule) h s = since_start (IsAmidTaken auto (Err rule) h s.world) s refl
since_taken_start auto (Ok q) h s = since_start (IsAmidTaken auto (Ok q) h s.world) s (inl (refl, refl))

pub not_begun_taken : (auto : UnpackOptions) (taken : Result Package Rule) (h : Held) (u : AUnit) (s : State) → u.calls.items ≡ [] → HasCalledTaken auto taken h u s s
not_begun_taken auto (Err rule) h u s none = no_calls u s none
not_begun_taken auto (Ok q) h u s none = inl (no_calls u s none)

-- a rule refuses it
pub taken_refused : (auto : UnpackOptions) (name : List ℕ) (taken : Result Package Rule) (rule : Rule) (h : Held) (u : AUnit) (s : State) → taken ≡ Err rule → IsRefusedUnit rule name u → IsTakenUnit auto name taken h h u s s
taken_refused auto name taken rule h u s is refused = subst (λ r. IsTakenUnit auto name r h h u s s) (sym is) (refused_here rule name h u s refused)

-- it has the accesses of the overrides
pub taken_whole : (o : Overrides) (p q : Package) (found : Option Path) → found ≡ None → found ≡ first_unknown o p.files → q ≡ overridden o p → taken_from o p ≡ Ok q
taken_whole o p q found none is same = ap (taken_by o p) (sym is ∙ none) ∙ ap (λ (x : Package). Ok x) (sym same)

pub taken_owner : (o : Overrides) (p : Package) (path : Path) (found : Option Path) → found ≡ Some path → found ≡ first_unknown o p.files → taken_from o p ≡ Err (OwnerUnknown path)
taken_owner o p path found some is = ap (taken_by o p) (sym is ∙ some)
