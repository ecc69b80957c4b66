use Rattle.std.proofs.Common.{◌≡◌, false, sym, ap, subst, ◌∙◌}
use Rattle.std.specs.List.{list_any}
use Rattle.host_core.specs.Host.{WasDenied}
use Rattle.file_lists.specs.Beside.{AreSameBeside}
use Rattle.file_lists.specs.Owners.{places_in}
use Rattle.unit_stages.specs.Holding.{is_listing}
use Rattle.unit_stages.specs.Parts.{HaveDone}
use Rattle.unit_stages.proofs.Keeping.{parts_beside, unlisted}
use Rattle.unit_stages.proofs.RunLaws.{later}
use Rattle.unit_stages.proofs.parts.do_and_keep.Goals as goal

pub keep_places-requires-clause-had : goal.keep_places-requires-clause-had
keep_places-requires-clause-had g c =
    let had = c.args.administration.now.lists.lists in
    let name = c.args.name.now in
    record {
      before = had;
      sound = c.law.ensures;
      same = subst (AreSameBeside name had) (sym c.in_ok-do_parts.ensures.lists) (parts_beside name c.as_slice-items.result.now had);
      is = c.requires.open.kept;
    }

pub keep_places-requires-clause-unwritten : goal.keep_places-requires-clause-unwritten
keep_places-requires-clause-unwritten g c = λ written.
    let items = c.as_slice-items.result.now in
    let none : list_any is_listing items ≡ false = sym c.have_listing-written.ensures ∙ written in
    c.requires.open.kept
    ∙ ap (places_in c.args.diversions.now.ways) (sym (unlisted c.args.name.now items c.args.administration.now.lists.lists none))
    ∙ ap (places_in c.args.diversions.now.ways) (sym c.in_ok-do_parts.ensures.lists)

pub returns-clause-done : goal.returns-clause-done
returns-clause-done g c = record {
  silent = c.do_parts.ensures.silent;
  later = later _ _ _ c.do_parts.ensures.any_moment;
  done = λ h. subst (λ ps. HaveDone c.args.name.now (WasDenied (g.H.Host.state c.args.host.now) (g.H.Host.state c.do_parts.new.host)) ps c.args.administration.now.database.records (g.H.Host.state c.args.host.now).world (g.H.Host.state c.do_parts.new.host).world) c.as_slice-items.ensures.value (c.in_ok-do_parts.ensures.done h);
}
