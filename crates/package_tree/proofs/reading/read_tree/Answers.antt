use Rattle.std.proofs.Common.{◌∙◌, sym, subst, inr}
use Rattle.host_core.specs.World.{World}
use Rattle.host_core.specs.Host.{State, Reads}
use Rattle.host_core.proofs.Moments.{reads_then}
use Rattle.package_tree.specs.Conffiles.{entries_at}
use Rattle.package_tree.specs.Debian.{AreContents}
use Rattle.package_tree.specs.PathFaults.{HasGoodPaths}
use Rattle.package_tree.specs.Reading.{AreLinesOf, IsFound}
use Rattle.package_tree.specs.Shipped.{ArePathTexts}
use Rattle.package_tree.specs.Tree.{HasGoodFiles, IsReadingFault}
use Rattle.package_tree.specs.declared.fault.TreeFault.TheVariants.{NoMemory}
use Rattle.package_tree.specs.declared.package.Package.{Package}
use Rattle.package_tree.proofs.Passing.{passed_fault, passed_counts}
use Rattle.host_core.proofs.Counted.{no_fault_then}
use Rattle.package_tree.proofs.reading.read_tree.Goals as goal

-- one look after another
infixr 35 ◌⨾◌
◌⨾◌ : {a b c : State} → Reads a b → Reads b c → Reads a c
first ⨾ second = reads_then _ _ _ first second

pub read_found-requires-clause-control : goal.read_found-requires-clause-control
read_found-requires-clause-control g c = λ h. subst HasGoodFiles (sym c.read_contents.ensures.reads.world) (c.in_ok-read_contents.ensures.files h)

pub read_found-requires-clause-texts : goal.read_found-requires-clause-texts
read_found-requires-clause-texts g c = subst ArePathTexts (sym c.as_slice.ensures.value) c.in_ok-read_contents.ensures.texts

pub returns-in_err-read_contents-clause-fault : goal.returns-in_err-read_contents-clause-fault
returns-in_err-read_contents-clause-fault g c = λ h.
    let w = (g.H.Host.state c.args.host.now).world in
    let fault = c.in_err-read_contents.field-0.0 in
    passed_fault (IsReadingFault w) c.from_residual-in_err-read_contents.result fault c.from_residual-in_err-read_contents.ensures.1
    (subst (λ (v : World). IsReadingFault v fault) c.read_control_file.ensures.reads.world (c.in_err-read_contents.ensures.fault h))

pub returns-in_err-read_contents-clause-counts : goal.returns-in_err-read_contents-clause-counts
returns-in_err-read_contents-clause-counts g c =
    passed_counts (Unit {0}) Package (g.H.Host.state c.args.host.now) (g.H.Host.state c.read_control_file.new.host) (g.H.Host.state c.read_contents.new.host) c.in_err-read_contents.field-0.0 c.from_residual-in_err-read_contents.result c.from_residual-in_err-read_contents.ensures.1 c.in_ok-control.ensures.counts c.in_err-read_contents.ensures.counts

pub returns-in_err-lines-clause-fault : goal.returns-in_err-lines-clause-fault
returns-in_err-lines-clause-fault g c = λ h.
    passed_fault (IsReadingFault (g.H.Host.state c.args.host.now).world) c.from_residual-in_err-lines.result NoMemory c.from_residual-in_err-lines.ensures.1 (inr tt)

pub returns-in_err-lines-clause-counts : goal.returns-in_err-lines-clause-counts
returns-in_err-lines-clause-counts g c =
    passed_counts (Unit {0}) Package (g.H.Host.state c.args.host.now) (g.H.Host.state c.read_control_file.new.host) (g.H.Host.state c.read_contents.new.host) NoMemory c.from_residual-in_err-lines.result c.from_residual-in_err-lines.ensures.1 c.in_ok-control.ensures.counts c.in_ok-read_contents.ensures.counts

pub returns-in_err-has_conffiles-clause-fault : goal.returns-in_err-has_conffiles-clause-fault
returns-in_err-has_conffiles-clause-fault g c = λ h.
    passed_fault (IsReadingFault (g.H.Host.state c.args.host.now).world) c.from_residual-in_err-has_conffiles.result NoMemory c.from_residual-in_err-has_conffiles.ensures.1 (inr tt)

pub returns-in_err-has_conffiles-clause-counts : goal.returns-in_err-has_conffiles-clause-counts
returns-in_err-has_conffiles-clause-counts g c =
    passed_counts (Unit {0}) Package (g.H.Host.state c.args.host.now) (g.H.Host.state c.read_control_file.new.host) (g.H.Host.state c.read_contents.new.host) NoMemory c.from_residual-in_err-has_conffiles.result c.from_residual-in_err-has_conffiles.ensures.1 c.in_ok-control.ensures.counts c.in_ok-read_contents.ensures.counts

pub returns-in_err-read_found-clause-reads : goal.returns-in_err-read_found-clause-reads
returns-in_err-read_found-clause-reads g c = c.read_control_file.ensures.reads ⨾ c.read_contents.ensures.reads ⨾ c.read_found.ensures.reads

pub returns-clause-reads : goal.returns-clause-reads
returns-clause-reads g c = c.read_control_file.ensures.reads ⨾ c.read_contents.ensures.reads ⨾ c.read_found.ensures.reads

pub returns-in_err-read_found-clause-fault : goal.returns-in_err-read_found-clause-fault
returns-in_err-read_found-clause-fault g c = λ h.
    let w = (g.H.Host.state c.args.host.now).world in
    let fault = c.in_err-read_found.field-0.0 in
    passed_fault (IsReadingFault w) c.from_residual-in_err-read_found.result fault c.from_residual-in_err-read_found.ensures.1
    (subst (λ (v : World). IsReadingFault v fault) (c.read_contents.ensures.reads.world ∙ c.read_control_file.ensures.reads.world) (c.in_err-read_found.ensures.fault h))

pub returns-in_err-read_found-clause-counts : goal.returns-in_err-read_found-clause-counts
returns-in_err-read_found-clause-counts g c =
    passed_counts (Unit {0}) Package (g.H.Host.state c.args.host.now) (g.H.Host.state c.read_contents.new.host) (g.H.Host.state c.read_found.new.host) c.in_err-read_found.field-0.0 c.from_residual-in_err-read_found.result c.from_residual-in_err-read_found.ensures.1 (no_fault_then _ _ _ c.in_ok-control.ensures.counts c.in_ok-read_contents.ensures.counts) c.in_err-read_found.ensures.counts

pub returns-clause-read : goal.returns-clause-read
returns-clause-read g c = λ h.
    let w = (g.H.Host.state c.args.host.now).world in
    let honest-2 = c.read_found.ensures.silent.honest h in
    let honest-1 = c.read_contents.ensures.silent.honest honest-2 in
    let same-1 = c.read_control_file.ensures.reads.world in
    let same-2 = c.read_contents.ensures.reads.world ∙ same-1 in
    let control = c.in_ok-control.ensures.read honest-1 in
    let contents = subst (λ (v : World). AreContents v c.read_contents.new.contents) same-1 (c.in_ok-read_contents.ensures.found honest-2) in
    let paths = subst HasGoodPaths same-1 (c.in_ok-read_contents.ensures.paths honest-2).0 in
    let files = subst HasGoodFiles same-1 (c.in_ok-read_contents.ensures.files honest-2) in
    let lines = subst (λ n. AreLinesOf (entries_at n) c.in_ok-lines.lines) contents.conffiles c.in_ok-lines.ensures.lines in
    let found = subst (λ (v : World). IsFound v c.read_found.new.found) same-2 (c.in_ok-read_found.ensures.found h) in
    c.assemble.ensures w control.0 control.1 control.2 contents files.1 paths lines found
