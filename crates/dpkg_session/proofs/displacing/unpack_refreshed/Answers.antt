use Rattle.std.proofs.Common.{ℕ, List, take, ap, subst, sym, ◌∙◌}
use Rattle.diversions.specs.Diverted.{Diverted}
use Rattle.file_lists.specs.Owners.{places_in}
use Rattle.file_lists.specs.Beside.{AreSameBeside}
use Rattle.recorded_packages.specs.Renewal.{AreSameBut}
use Rattle.dpkg_session.proofs.displacing.unpack_refreshed.Goals as goal

pub unpack_beside-requires-clause-open : goal.unpack_beside-requires-clause-open
unpack_beside-requires-clause-open g c = record { noting = c.requires.open.noting; listing = c.requires.open.listing }

pub bring_up_to_date-requires : goal.bring_up_to_date-requires
bring_up_to_date-requires g c = record {
  had = λ others_kept.
      let same = c.in-Ok.ensures.anew (c.keeps_others.ensures.table others_kept) in
      let before = c.args.administration.now.lists.lists in
      let after = c.unpack_beside.new.administration in
      record {
        before = before;
        sound = c.law-2.ensures;
        same = subst (λ (n : List ℕ). AreSameBeside n before after.lists.lists) (sym c.requires.named) (c.in-Ok.ensures.alone.0 (c.keeps_others.ensures.alone others_kept));
        is = ap (λ (n : ℕ). take n after.places) c.place_count-kept.ensures ∙ c.in-Ok.ensures.places ∙ c.requires.open.kept ∙ ap (λ (d : Diverted). places_in d.ways before) (sym same);
      };
}

pub returns-in-Ok-bring_up_to_date-clause-open : goal.returns-in-Ok-bring_up_to_date-clause-open
returns-in-Ok-bring_up_to_date-clause-open g c =
    record { noting = c.in-Ok.ensures.open.noting; listing = c.in-Ok.ensures.open.listing; kept = c.in-Ok-bring_up_to_date.ensures.places }

pub returns-in-Ok-bring_up_to_date-clause-indexed : goal.returns-in-Ok-bring_up_to_date-clause-indexed
returns-in-Ok-bring_up_to_date-clause-indexed g c =
    c.in-Ok-bring_up_to_date.ensures.packages c.args.administration.now.database.records c.law.ensures.order c.requires.indexed
    (subst (λ (names : List (List ℕ)). AreSameBut names c.args.administration.now.database.records c.unpack_beside.new.administration.database.records) (sym c.as_slice.ensures) c.in-Ok.ensures.touched.others)
