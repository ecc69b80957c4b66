use Rattle.std.proofs.Common.{◌∙◌, sym, ap, subst, List}
use Rattle.std.specs.List.{filter}
use Rattle.std.specs.BTreeSet.{contains_text}
use Rattle.host_core.specs.Paths.{Path}
use Rattle.host_core.specs.World.{World}
use Rattle.host_core.specs.Host.{State, Reads}
use Rattle.host_core.proofs.Moments.{reads_then}
use Rattle.package_tree.specs.ConffileFaults.{IsOfBoth}
use Rattle.package_tree.specs.ControlLimit.{IsOverOther}
use Rattle.package_tree.specs.OtherFiles.{AreOthers}
use Rattle.package_tree.specs.ShipMap.{paths_of, is_file_in, AreFiles, IsTooLarge}
use Rattle.package_tree.specs.Shipped.{AreInOrder, ArePathTexts, HasNoPath}
use Rattle.package_tree.specs.declared.shipped.Shipped.{Shipped}
use Rattle.package_tree.proofs.reading.read_found.Goals as goal

-- one look after another
infixr 35 ◌⨾◌
◌⨾◌ : {a b c : State} → Reads a b → Reads b c → Reads a c
first ⨾ second = reads_then _ _ _ first second

pub collect_others-requires-clause-room : goal.collect_others-requires-clause-room
collect_others-requires-clause-room g c = λ h. subst (λ (w : World). HasNoPath (IsTooLarge w)) (sym c.collect_files.ensures.reads.world) (c.in_ok-collect_files.ensures.found h).1

pub returns-in_err-collect_others-clause-reads : goal.returns-in_err-collect_others-clause-reads
returns-in_err-collect_others-clause-reads g c = c.check_lines.ensures.reads ⨾ c.collect_files.ensures.reads ⨾ c.collect_others.ensures.reads

pub returns-in_err-found-clause-reads : goal.returns-in_err-found-clause-reads
returns-in_err-found-clause-reads g c = c.check_lines.ensures.reads ⨾ c.collect_files.ensures.reads ⨾ c.collect_others.ensures.reads

pub returns-clause-reads : goal.returns-clause-reads
returns-clause-reads g c = c.check_lines.ensures.reads ⨾ c.collect_files.ensures.reads ⨾ c.collect_others.ensures.reads

pub returns-clause-found : goal.returns-clause-found
returns-clause-found g c = λ h.
    let honest-2 = c.collect_others.ensures.silent.honest h in
    let honest-1 = c.collect_files.ensures.silent.honest honest-2 in
    let same-1 = c.check_lines.ensures.reads.world in
    let same-2 = c.collect_files.ensures.reads.world ∙ same-1 in
    let stored = c.in_ok-collect_others.ensures.found h in
    let collected = c.in_ok-collect_files.ensures.found honest-2 in
    record {
      lines = c.in_ok-check_lines.ensures.good honest-1;
      room = subst (λ (w : World). HasNoPath (IsTooLarge w)) same-1 collected.1;
      files = subst (λ (w : World). AreFiles w c.collect_files.new.files.items) same-1 collected.0;
      others = subst (λ (w : World). AreOthers w c.collect_others.new.others.items) same-2 stored.0;
      small = subst (λ (w : World). HasNoPath (IsOverOther w)) same-2 stored.1;
    }

pub returns-clause-whole : goal.returns-clause-whole
returns-clause-whole g c =
    let whole = c.in_ok-collect_files.ensures.whole in
    record {
      order = subst AreInOrder (sym whole.0) c.requires.paths;
      texts = subst ArePathTexts (sym whole.0) c.requires.texts;
      few = whole.1;
      conffiles = c.in_ok-found.ensures ∙ ap (λ (fs : List Shipped). paths_of (filter (is_file_in (contains_text c.args.lines.now.plain)) fs)) c.as_slice.ensures.value;
      flagged = c.requires.flagged;
      apart = subst (λ (l : List Path). HasNoPath (IsOfBoth c.args.lines.now.flagged.items l)) (sym whole.0) c.in_ok-check_lines.ensures.apart;
      others = c.in_ok-collect_others.ensures.order;
    }
