use Rattle.std.proofs.Common.{◌≡◌, ◌∙◌, List, sym, ap, subst}
use Rattle.std.specs.BTreeSet.{contains_text}
use Rattle.std.specs.Option.{option_copied}
use Rattle.std.proofs.Props.{props}
use Rattle.std.proofs.Math.Logic.{∥∥₁_elim}
use Rattle.host_core.specs.Paths.{Path}
use Rattle.package_tree.specs.Package.{AreTrimmed}
use Rattle.package_tree.specs.ShipMap.{paths_of}
use Rattle.package_tree.specs.Shipped.{AreInOrder}
use Rattle.package_tree.specs.declared.shipped.Shipped.{Shipped}
use Rattle.unpack_plan.specs.Records.{entries_of, is_shipped}
use Rattle.unpack_plan.specs.Yielded.{counted_entries}
use Rattle.unpack_plan.proofs.Fresh.{is_fresh, same_digests, same_entries}
use Rattle.unpack_plan.proofs.Recordable.{recordable}
use Rattle.unpack_plan.proofs.records.fresh_record.Goals as goal

pub digests_of-requires-clause-order : goal.digests_of-requires-clause-order
digests_of-requires-clause-order c = subst (λ (fs : List Shipped). AreInOrder (paths_of fs)) (sym c.as_slice-files.ensures) c.law.ensures

pub digests_of-requires-clause-trimmed : goal.digests_of-requires-clause-trimmed
digests_of-requires-clause-trimmed c =
    subst AreTrimmed (sym c.as_slice.ensures) (λ q has. ∥∥₁_elim c.args.tree.now.fitting (hlevel props) (λ fits. fits.trimmed q has))

pub unpacked-requires-clause-readable : goal.unpacked-requires-clause-readable
unpacked-requires-clause-readable c =
    let tree = c.args.tree.now in
    recordable tree.control tree.written tree.readable

pub returns : goal.returns
returns c =
    let tree = c.args.tree.now in
    let found = option_copied c.args.found in
    let shipped = contains_text c.in_ok-shipped_texts.field-0 in
    let told = same_digests c.in_ok-digests.digests c.as_slice.result.now tree.conffiles c.as_slice-files.result.now tree.files c.in_ok-digests.ensures c.as_slice.ensures c.as_slice-files.ensures in
    let ships : (q : Path) → shipped q ≡ is_shipped tree.files q = λ q. c.in_ok-shipped_texts.ensures q ∙ ap (λ (fs : List Shipped). is_shipped fs q) c.as_slice-files.ensures in
    let entries = same_entries (counted_entries c.args.giving.now (entries_of found) c.in_ok-digests.digests) c.in_ok-entries.entries c.in_ok-digests.digests c.as_slice-2.result.now tree.flagged shipped (is_shipped tree.files) c.in_ok-entries.ensures c.as_slice-2.ensures ships in
    is_fresh c.args.giving.now tree found c.in_ok-record.record c.in_ok-entries.entries c.in_ok-digests.digests c.in_ok-record.ensures told entries
