use Rattle.std.proofs.Common.{◌∙◌, sym, ap}
use Rattle.std.specs.List.{list_any}
use Rattle.package_tree.specs.LineNames.{is_named}
use Rattle.package_tree.specs.declared.line_names.LineKind.TheVariants.{Plain, Flagged}
use Rattle.package_tree.proofs.Drawn.{text_in}
use Rattle.package_tree.proofs.Trims.{named_trimmed}
use Rattle.package_tree.proofs.reading.lines_at.Goals as goal

pub returns-clause-lines : goal.returns-clause-lines
returns-clause-lines c =
    let first = c.as_slice.ensures.value ∙ c.in_ok-entries.ensures in
    let second = c.as_slice-2.ensures.value ∙ c.in_ok-entries.ensures in
    record {
      entries = c.in_ok-entries.ensures;
      plain = λ q text. c.in_ok-plain.ensures q text ∙ ap (list_any (is_named Plain q)) first;
      order = c.in_ok-flagged.ensures.order;
      only = λ q has.
          (let there = c.in_ok-flagged.ensures.only q has in
          sym (ap (list_any (is_named Flagged q)) second) ∙ sym (c.in_ok-named.ensures q (text_in c.in_ok-named.named q there)) ∙ there);
      whole = λ q ships e. c.in_ok-flagged.ensures.whole q (c.in_ok-named.ensures q ships.0 ∙ ap (list_any (is_named Flagged q)) second ∙ e) ships.1;
    }

pub returns-clause-trimmed : goal.returns-clause-trimmed
returns-clause-trimmed c =
    let first = c.as_slice.ensures.value ∙ c.in_ok-entries.ensures in
    let second = c.as_slice-2.ensures.value ∙ c.in_ok-entries.ensures in
    record {
      plain = λ q has.
          named_trimmed Plain q c.args.conffiles.now (sym (ap (list_any (is_named Plain q)) first) ∙ sym (c.in_ok-plain.ensures q (text_in c.in_ok-plain.plain q has)) ∙ has);
      flagged = λ q has.
          (let there = c.in_ok-flagged.ensures.only q has in
          named_trimmed Flagged q c.args.conffiles.now (sym (ap (list_any (is_named Flagged q)) second) ∙ sym (c.in_ok-named.ensures q (text_in c.in_ok-named.named q there)) ∙ there));
    }
