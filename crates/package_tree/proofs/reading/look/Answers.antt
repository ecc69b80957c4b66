use Rattle.std.proofs.Common.{◌≡◌, ◌↔◌, IsTrue, ◌∙◌, ap, subst}
use Rattle.std.specs.Prelude.{Option}
use Rattle.host_core.specs.Paths.{Path}
use Rattle.host_core.specs.World.{World}
use Rattle.host_core.specs.Host.{State, Reads}
use Rattle.host_core.proofs.Moments.{reads_then}
use Rattle.host_core.specs.declared.node.Node.{Node}
use Rattle.package_tree.specs.Debian.{Ships}
use Rattle.package_tree.proofs.reading.look.Goals as goal

-- one look after another
infixr 35 ◌⨾◌
◌⨾◌ : {a b c : State} → Reads a b → Reads b c → Reads a c
first ⨾ second = reads_then _ _ _ first second

-- what stands in a world stands in the same one
there : {now old : World} (path : Path) {node : Option Node} → node ≡ now path → now ≡ old → node ≡ old path
there path found same = found ∙ ap (λ (w : World). w path) same

pub returns-in_err-look_at-3-clause-reads : goal.returns-in_err-look_at-3-clause-reads
returns-in_err-look_at-3-clause-reads g c = c.look_at.ensures.reads ⨾ c.look_at-2.ensures.reads ⨾ c.look_at-3.ensures.reads

pub returns-in_err-look_at-4-clause-reads : goal.returns-in_err-look_at-4-clause-reads
returns-in_err-look_at-4-clause-reads g c = c.look_at.ensures.reads ⨾ c.look_at-2.ensures.reads ⨾ c.look_at-3.ensures.reads ⨾ c.look_at-4.ensures.reads

pub returns-in_err-look_at-5-clause-reads : goal.returns-in_err-look_at-5-clause-reads
returns-in_err-look_at-5-clause-reads g c = c.look_at.ensures.reads ⨾ c.look_at-2.ensures.reads ⨾ c.look_at-3.ensures.reads ⨾ c.look_at-4.ensures.reads ⨾ c.look_at-5.ensures.reads

pub returns-in_err-contents-clause-reads : goal.returns-in_err-contents-clause-reads
returns-in_err-contents-clause-reads g c = c.look_at.ensures.reads ⨾ c.look_at-2.ensures.reads ⨾ c.look_at-3.ensures.reads ⨾ c.look_at-4.ensures.reads ⨾ c.look_at-5.ensures.reads ⨾ c.ships.ensures.looks.reads

pub returns-clause-reads : goal.returns-clause-reads
returns-clause-reads g c = c.look_at.ensures.reads ⨾ c.look_at-2.ensures.reads ⨾ c.look_at-3.ensures.reads ⨾ c.look_at-4.ensures.reads ⨾ c.look_at-5.ensures.reads ⨾ c.ships.ensures.looks.reads

pub returns-clause-found : goal.returns-clause-found
returns-clause-found g c = λ h.
    let honest-5 = c.ships.ensures.looks.silent.honest h in
    let honest-4 = c.look_at-5.ensures.silent.honest honest-5 in
    let honest-3 = c.look_at-4.ensures.silent.honest honest-4 in
    let honest-2 = c.look_at-3.ensures.silent.honest honest-3 in
    let honest-1 = c.look_at-2.ensures.silent.honest honest-2 in
    let same-1 = c.look_at.ensures.reads.world in
    let same-2 = c.look_at-2.ensures.reads.world ∙ same-1 in
    let same-3 = c.look_at-3.ensures.reads.world ∙ same-2 in
    let same-4 = c.look_at-4.ensures.reads.world ∙ same-3 in
    let same-5 = c.look_at-5.ensures.reads.world ∙ same-4 in
    record {
      conffiles = c.in_ok-look_at.ensures.found honest-1;
      postinst = there _ (c.in_ok-look_at-2.ensures.found honest-2) same-1;
      postrm = there _ (c.in_ok-look_at-3.ensures.found honest-3) same-2;
      preinst = there _ (c.in_ok-look_at-4.ensures.found honest-4) same-3;
      prerm = there _ (c.in_ok-look_at-5.ensures.found honest-5) same-4;
      ships = subst (λ w. IsTrue c.in_ok-contents.field-0 ↔ Ships w) same-5 (c.in_ok-contents.ensures.looks.found h);
    }
