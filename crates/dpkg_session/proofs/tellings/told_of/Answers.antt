use Rattle.std.proofs.Common.{◌≡◌, ◌∙◌, List, ℕ, ap, map}
use Rattle.unit_reports.specs.Units.{touched_at}
use Rattle.dpkg_session.specs.Touched.{deconfigured_among, told_among}
use Rattle.dpkg_session.proofs.tellings.told_of.Goals as goal

pub returns : goal.returns
returns c =
    let name = c.args.«package».now in
    let records = c.args.database.now.records in
    let told : c.in_ok-told.told ≡ told_among name c.in_ok-unchanged.unchanged c.in_ok-names.names =
    c.in_ok-told.ensures ∙ ap (λ (l : List (List ℕ)). told_among name l c.as_slice-2.result.now) c.as_slice.ensures ∙ ap (told_among name c.in_ok-unchanged.unchanged) c.as_slice-2.ensures in
    record {
      names = c.in_ok-names.names;
      both = c.in_ok-names.ensures;
      unchanged = c.in_ok-unchanged.unchanged;
      known = c.in_ok-unchanged.ensures;
      touched_are = c.in_ok-touched.ensures ∙ ap (map (touched_at records)) (c.as_slice-4.ensures ∙ told);
      deconfigured_are = c.in_ok-deconfigured.ensures ∙ ap (deconfigured_among name records c.args.half.now) (c.as_slice-3.ensures ∙ told);
    }
