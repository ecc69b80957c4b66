use Rattle.std.proofs.Common.{◌≡◌, ◌∙◌, sym, ap, subst, List}
use Rattle.std.specs.BTreeSet.{contains_text}
use Rattle.host_core.specs.Paths.{Path}
use Rattle.package_tree.specs.Conffiles.{entries_at}
use Rattle.package_tree.specs.ConffileFaults.{AreNamed}
use Rattle.package_tree.specs.Debian.{conffiles_path, lists_conffiles}
use Rattle.package_tree.specs.OtherFiles.{AreOthers}
use Rattle.package_tree.specs.Package.{AreFitting}
use Rattle.package_tree.specs.ShipMap.{is_file_in, AreFiles}
use Rattle.package_tree.specs.Shipped.{AreInOrder}
use Rattle.package_tree.specs.declared.conffile_lines.Entry.TheVariants.{Plain, Flagged}
use Rattle.package_tree.specs.declared.shipped.Shipped.{Shipped}
use Rattle.package_tree.proofs.Drawn.{text_in}
use Rattle.package_tree.proofs.Filtered.{filter_order, file_among, name_among, plain_named, flagged_named}
use Rattle.package_tree.proofs.reading.assemble.Goals as goal

pub new-requires-3 : goal.new-requires-3
new-requires-3 c = subst AreInOrder (sym c.requires.whole.conffiles) (filter_order (is_file_in (contains_text c.args.lines.plain)) c.args.found.files.items c.requires.whole.order)

fits_as : (files fs : List Shipped) (conffiles cs flagged gs : List Path) → fs ≡ files → cs ≡ conffiles → gs ≡ flagged → AreFitting files conffiles flagged → AreFitting fs cs gs
fits_as files fs conffiles cs flagged gs f c g fits =
    subst (λ (l : List Shipped). AreFitting l cs gs) (sym f) (subst (λ (l : List Path). AreFitting files l gs) (sym c) (subst (λ (l : List Path). AreFitting files conffiles l) (sym g) fits))

pub invariant_of-result : goal.invariant_of-result
invariant_of-result c =
    let files = c.args.found.files.items in
    let conffiles = c.args.found.conffiles.items in
    let flagged = c.args.lines.flagged.items in
    let fits : AreFitting files conffiles flagged = record {
      shipped = λ q has. file_among (contains_text c.args.lines.plain) files conffiles q c.requires.whole.conffiles has;
      gone = λ q one other. c.requires.whole.apart q (one, other);
      few = c.requires.whole.few;
      trimmed = λ q has. c.requires.trimmed.plain q (name_among (contains_text c.args.lines.plain) files conffiles q c.requires.whole.conffiles has);
      trimmed_flagged = c.requires.trimmed.flagged;
    } in
    record {
      named = c.args.control.named;
      written = c.args.control.written;
      readable = c.args.control.readable;
      stated = c.args.control.stated;
      fitting = ∣ fits_as files _ conffiles _ flagged _ c.new-2.ensures c.new-3.ensures c.new-4.ensures fits ∣₁;
    }

pub returns : goal.returns
returns c = λ w text there control contents members paths lines found.
    let all = entries_at (w conffiles_path) in
    let plain = plain_named w (contains_text c.args.lines.plain) all c.args.found.files.items c.args.found.conffiles.items found.lines.named found.files c.requires.whole.texts (text_in c.args.lines.plain) lines.plain c.requires.whole.conffiles in
    let flagged = flagged_named w all c.args.lines.flagged.items found.lines.named lines.order lines.only lines.whole in
    record {
      text = text;
      there = there;
      control = control;
      relations = c.args.control.stated;
      scripts = c.scripts_of.ensures w contents paths.files;
      members = members;
      paths = paths;
      lines = found.lines;
      room = found.room;
      files = subst (AreFiles w) (sym c.new-2.ensures) found.files;
      conffiles = subst (AreNamed Plain all) (sym c.new-3.ensures) plain;
      flagged = subst (AreNamed Flagged all) (sym c.new-4.ensures) flagged;
      others = subst (AreOthers w) (sym c.new.ensures) found.others;
      small = found.small;
      has_conffiles = c.requires.listed ∙ ap lists_conffiles contents.conffiles;
      ships = contents.ships;
    }
