use Rattle.std.proofs.Common.{rules, ◌∙◌, ◌&&◌, sym, ap, List}
use Rattle.std.specs.List.{list_any}
use Rattle.std.specs.Str.{bytes_eq}
use Rattle.host_core.specs.Paths.{Path}
use Rattle.package_tree.specs.OtherNames.{is_other_name}
use Rattle.package_tree.proofs.OthersTaken.{named_other, listed_other}
use Rattle.package_tree.proofs.others.listed.Goals as goal

pub returns-clause-named : goal.returns-clause-named
returns-clause-named g c = λ q e. named_other c.as_slice.result.now q (sym (c.in_ok-other_names.ensures q) ∙ e)

pub returns-clause-looks : goal.returns-clause-looks
returns-clause-looks g c = record {
  found = λ h q is some.
      c.in_ok-other_names.ensures q ∙ ap (λ (names : List Path). list_any (λ name. is_other_name q && bytes_eq q name) names) c.as_slice.ensures
      ∙ listed_other (g.H.Host.state c.args.host.now).world c.args.directory.now c.in_ok-listing.listing.names c.in_ok-listing.listing.bad q c.requires (c.in_ok-listing.ensures.listed h) is some;
  reads = search rules;
  silent = search rules;
  counts = search rules;
}
