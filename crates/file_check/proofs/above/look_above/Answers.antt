use Rattle.std.proofs.Common.{sym, ap, subst, ◌∙◌, rules}
use Rattle.std.specs.BTreeSet.{contains_text}
use Rattle.host_core.specs.Paths.{is_path}
use Rattle.host_core.specs.World.{World, IsDirectory}
use Rattle.host_core.proofs.Moments.{reads_then, silent_then}
use Rattle.host_core.proofs.PathLaws.{front_is_path}
use Rattle.diversions.specs.Sights.{is_directory_kind}
use Rattle.file_check.specs.Above.{IsAbove, IsLink, is_link_kind}
use Rattle.file_check.proofs.Looking.{IsLooking, looked_all, looked_directory, looked_link, looked_on, dir_is, link_is, no_dir, no_link}
use Rattle.file_check.proofs.above.look_above.Goals as goal

pub kind_at-requires : goal.kind_at-requires
kind_at-requires g c = front_is_path c.in-Some.front.now c.in-Some.field-0-1.now (ap is_path (sym c.in-Some.ensures.0) ∙ c.loop-front.invariant.path)

pub returns-in_err-kind : goal.returns-in_err-kind
returns-in_err-kind g c = record {
  looks = record {
    found = search rules;
    reads = reads_then _ _ _ c.loop-front.invariant.reads c.kind_at.ensures.looks.reads;
    silent = search rules;
    counts = search rules;
  };
}

pub returns-then-is_directory : goal.returns-then-is_directory
returns-then-is_directory g c = record {
  looks = record {
    found = λ h.
        let inv = c.loop-front.invariant in
        let made = contains_text c.args.made.now in
        let w = (g.H.Host.state c.args.host.now).world in
        let front = c.in-Some.front.now in
        let cut = c.in-Some.ensures in
        let h0 = c.kind_at.ensures.looks.silent.honest h in
        let dir : IsDirectory (w front) = subst (λ (v : World). IsDirectory (v front)) inv.reads.world (dir_is _ (ap is_directory_kind (sym (c.in_ok-kind.ensures.looks.found h)) ∙ sym c.is_directory.ensures ∙ c.if-is_directory.true)) in
        subst (IsAbove made w c.args.place.now) (sym c.answer.ensures)
        (looked_directory made w c.args.place.now c.loop-front.rest.now c.loop-front.lacking (inv.looking h0) front c.in-Some.field-0-1.now cut.0 cut.1 (g.H.Host.tree c.args.host.now (inv.silent.honest h0)) dir);
    reads = reads_then _ _ _ c.loop-front.invariant.reads c.kind_at.ensures.looks.reads;
    silent = search rules;
    counts = search rules;
  };
}

pub returns-then-is_link : goal.returns-then-is_link
returns-then-is_link g c = record {
  looks = record {
    found = λ h.
        let inv = c.loop-front.invariant in
        let made = contains_text c.args.made.now in
        let w = (g.H.Host.state c.args.host.now).world in
        let front = c.in-Some.front.now in
        let cut = c.in-Some.ensures in
        let h0 = c.kind_at.ensures.looks.silent.honest h in
        let link : IsLink (w front) = subst (λ (v : World). IsLink (v front)) inv.reads.world (link_is _ (ap is_link_kind (sym (c.in_ok-kind.ensures.looks.found h)) ∙ sym c.is_link.ensures ∙ c.if-is_link.true)) in
        looked_link made w c.args.place.now c.loop-front.rest.now c.loop-front.lacking (inv.looking h0) front c.in-Some.field-0-1.now cut.0 cut.1 link;
    reads = reads_then _ _ _ c.loop-front.invariant.reads c.kind_at.ensures.looks.reads;
    silent = search rules;
    counts = search rules;
  };
}

pub loop-front-preserved : goal.loop-front-preserved
loop-front-preserved g c =
    let inv = c.loop-front.invariant in
    let made = contains_text c.args.made.now in
    let old = g.H.Host.state c.args.host.now in
    let front = c.in-Some.front.now in
    let cut = c.in-Some.ensures in
    record {
      text = search rules;
      path = front_is_path front c.in-Some.field-0-1.now (ap is_path (sym cut.0) ∙ inv.path);
      looking = λ h.
          let found = c.in_ok-kind.ensures.looks.found h in
          subst (IsLooking made old.world c.args.place.now front) (sym c.lacks-lacking.ensures)
          (looked_on made old.world c.args.place.now c.loop-front.rest.now c.loop-front.lacking (inv.looking (c.kind_at.ensures.looks.silent.honest h)) front c.in-Some.field-0-1.now cut.0 cut.1
          (subst (λ (v : World). IsDirectory (v front) → ⊥) inv.reads.world (no_dir _ (ap is_directory_kind (sym found) ∙ sym c.is_directory.ensures ∙ c.if-is_directory.false)))
          (subst (λ (v : World). IsLink (v front) → ⊥) inv.reads.world (no_link _ (ap is_link_kind (sym found) ∙ sym c.is_link.ensures ∙ c.if-is_link.false))));
      reads = reads_then _ _ _ inv.reads c.kind_at.ensures.looks.reads;
      silent = silent_then _ _ _ inv.silent c.kind_at.ensures.looks.silent;
      counts = search rules;
    }

pub returns : goal.returns
returns g c = record {
  looks = record {
    found = λ h.
        let inv = c.loop-front.invariant in
        let made = contains_text c.args.made.now in
        let w = (g.H.Host.state c.args.host.now).world in
        subst (IsAbove made w c.args.place.now) (sym c.answer-2.ensures)
        (looked_all made w c.args.place.now c.loop-front.rest.now c.loop-front.lacking (inv.looking h) c.in_default.ensures);
    reads = search rules;
    silent = search rules;
    counts = search rules;
  };
}
