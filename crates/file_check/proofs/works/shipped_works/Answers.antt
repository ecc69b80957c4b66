use Rattle.std.proofs.Common.{rules, ◌≡◌, ◌∷◌, ◌++◌, [], Bool, sym, ap, subst, ◌∙◌, append_assoc}
use Rattle.std.specs.BTreeSet.{contains_text}
use Rattle.host_core.specs.Paths.{Path}
use Rattle.host_core.specs.declared.node.Node.{Node}
use Rattle.diversions.specs.Ways.{place}
use Rattle.package_files.specs.Files.{Each}
use Rattle.package_files.specs.Names.{IsNamed}
use Rattle.package_files.specs.Works.{work_of}
use Rattle.package_files.specs.declared.work.Work.{Work}
use Rattle.file_check.specs.Ships.{work_at}
use Rattle.file_check.proofs.Shipping.{has_directory, places_next, works_more, works_same, written}
use Rattle.file_check.proofs.WorkLists.{each_more}
use Rattle.file_check.proofs.works.shipped_works.Goals.{then-not-branch+in_ok-push, else-not-branch+in-File+in-None-1, else-not-branch+in-File+in-Some-1, else-not-branch+in-Link-1, else-not-branch+in-Dir-1}
use Rattle.file_check.proofs.works.shipped_works.Goals as goal

pub loop-path-preserved : goal.loop-path-preserved
loop-path-preserved c =
    let ways = c.args.diversions.now.ways in
    let name = c.args.name.now in
    let conffiles = c.args.conffiles.now in
    let inv = c.loop-path.invariant in
    let path = c.in-Some.path in
    let x = c.in_ok-work.work in
    let at : x ≡ work_at ways name conffiles (path, c.in-Some.node) = c.in_ok-work.ensures.work ∙ ap (work_of path (place ways name path) c.in-Some.node) c.is_conffile-is_conffile.ensures in
    let s : Path × Node = (path, c.in-Some.node) in
    let left = c.in_ok-is_left_out.field-0 in
    let was : contains_text c.loop-path.directories x.place ≡ has_directory (written ways name conffiles c.loop-path.yielded) x.place = inv.directories x.place in
    let same = works_same ways name conffiles c.loop-path.yielded s x at (contains_text c.loop-path.directories x.place) left was c.in_ok-is_left_out.ensures.left c.loop-path.works.items in
    let more = works_more ways name conffiles c.loop-path.yielded s x at (contains_text c.loop-path.directories x.place) left was c.in_ok-is_left_out.ensures.left c.loop-path.works.items in
    let named = c.in_ok-work.ensures.named in
    let walk : c.args.files.items ≡ c.loop-path.yielded ++ s ∷ c.next.new.self.rest.items = search rules in
    record {
      works = elim c.if-not-branch.branch [
        | then-not-branch+in_ok-push w ↦ (λ i. (w.works-is i).items) ∙ w.in_ok-push.ensures.items ∙ more w.if-not-branch.true inv.works
        | else-not-branch+in-File+in-None-1 w ↦ (λ i. (w.works-is i).items) ∙ same w.if-not-branch.false inv.works
        | else-not-branch+in-File+in-Some-1 w ↦ (λ i. (w.works-is i).items) ∙ same w.if-not-branch.false inv.works
        | else-not-branch+in-Link-1 w ↦ (λ i. (w.works-is i).items) ∙ same w.if-not-branch.false inv.works
        | else-not-branch+in-Dir-1 w ↦ (λ i. (w.works-is i).items) ∙ same w.if-not-branch.false inv.works
      ];
      directories = λ q. places_next ways name conffiles c.loop-path.yielded s x at q (contains_text c.loop-path.directories q) (contains_text c.is_left_out.new.directories q) (c.in_ok-is_left_out.ensures.added q) (inv.directories q);
      named = elim c.if-not-branch.branch [
        | then-not-branch+in_ok-push w ↦ subst (Each IsNamed) (sym ((λ i. (w.works-is i).items) ∙ w.in_ok-push.ensures.items)) (each_more IsNamed c.loop-path.works.items x inv.named named)
        | else-not-branch+in-File+in-None-1 w ↦ subst (Each IsNamed) (sym ((λ i. (w.works-is i).items))) inv.named
        | else-not-branch+in-File+in-Some-1 w ↦ subst (Each IsNamed) (sym ((λ i. (w.works-is i).items))) inv.named
        | else-not-branch+in-Link-1 w ↦ subst (Each IsNamed) (sym ((λ i. (w.works-is i).items))) inv.named
        | else-not-branch+in-Dir-1 w ↦ subst (Each IsNamed) (sym ((λ i. (w.works-is i).items))) inv.named
      ];
      left = walk ∙ sym (append_assoc c.loop-path.yielded (s ∷ []) c.next.new.self.rest.items);
    }
