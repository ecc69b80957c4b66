use Rattle.std.proofs.Common.{[], ◌∷◌, Some, refl, sym, ap, subst, ◌∙◌}
use Rattle.package_files.specs.Steps.{AreCleared, KeepsBesideSpares}
use Rattle.host_core.proofs.Moments.{since_reads, since_then, since_weaker_if}
use Rattle.package_files.specs.Back.{CanGoBack, GoesBack, IsGoingBack}
use Rattle.package_files.specs.Laid.{Undoes, IsUndoing}
use Rattle.package_files.proofs.Written.{kind_none, kind_file, kind_link, kind_directory}
use Rattle.package_files.proofs.TakingBack.{gone_written, can_by, undoes_by, undoing_by, undoing_same, undoes_laid, undoing_laid, no_loose_none, no_loose_directory}
use Rattle.package_files.proofs.WriteMoments.{on_ok}
use Rattle.package_files.proofs.putting_back.take_back_loose.Goals as goal

pub returns-in_err-kind-clause-any_moment : goal.returns-in_err-kind-clause-any_moment
returns-in_err-kind-clause-any_moment g c =
    let x = c.args.work.now in
    let old = g.H.Host.state c.args.host.now in
    since_reads (λ so_far. IsUndoing (x ∷ []) old.world) old _ c.kind.ensures.reads (λ fs all. undoing_same x old.world old.world refl)

pub put_back_loose-requires-clause-written : goal.put_back_loose-requires-clause-written
put_back_loose-requires-clause-written g c = λ h.
    let h0 = c.kind.ensures.silent.honest h in
    let x = c.args.work.now in
    let old = (g.H.Host.state c.args.host.now).world in
    subst (CanGoBack (x ∷ [])) (sym c.kind.ensures.reads.world)
    (can_by x old (λ was from. gone_written x was old from c.requires.node (no_loose_none _ (kind_none _ (sym c.in-None.is ∙ c.in_ok-kind.ensures.found h)))) (c.requires.under_way h0))

pub returns-in-None-clause-back : goal.returns-in-None-clause-back
returns-in-None-clause-back g c = λ h.
    let h1 = c.put_back_loose.ensures.silent.honest h in
    let x = c.args.work.now in
    let old = (g.H.Host.state c.args.host.now).world in
    let mid = (g.H.Host.state c.kind.new.self).world in
    let new = (g.H.Host.state c.put_back_loose.new.host).world in
    on_ok c.put_back_loose.result (GoesBack (x ∷ []) mid new) (Undoes (x ∷ []) old new)
    (λ goes. undoes_by x old (λ was from. gone_written x was old from c.requires.node (no_loose_none _ (kind_none _ (sym c.in-None.is ∙ c.in_ok-kind.ensures.found h1)))) new (subst (λ w. GoesBack (x ∷ []) w new) c.kind.ensures.reads.world goes)) (c.put_back_loose.ensures.back h)

pub returns-in-None-clause-any_moment : goal.returns-in-None-clause-any_moment
returns-in-None-clause-any_moment g c =
    let x = c.args.work.now in
    let old = g.H.Host.state c.args.host.now in
    let mid = g.H.Host.state c.kind.new.self in
    let new = g.H.Host.state c.put_back_loose.new.host in
    let P = IsUndoing (x ∷ []) old.world in
    since_then (λ so_far. P) old mid new (since_reads (λ so_far. P) old mid c.kind.ensures.reads (λ fs all. undoing_same x old.world old.world refl))
    (since_weaker_if (λ so_far. IsGoingBack (x ∷ []) mid.world) (λ so_far. P) mid new
    (λ h so_far w going. undoing_by x old.world (λ was from. gone_written x was old.world from c.requires.node (no_loose_none _ (kind_none _ (sym c.in-None.is ∙ c.in_ok-kind.ensures.found (c.put_back_loose.ensures.silent.honest h))))) w
    (subst (λ v. IsGoingBack (x ∷ []) v w) c.kind.ensures.reads.world going)) c.put_back_loose.ensures.any_moment)

pub put_back_loose-requires-in-Some-Directory-clause-written : goal.put_back_loose-requires-in-Some-Directory-clause-written
put_back_loose-requires-in-Some-Directory-clause-written g c = λ h.
    let h0 = c.kind.ensures.silent.honest h in
    let x = c.args.work.now in
    let old = (g.H.Host.state c.args.host.now).world in
    subst (CanGoBack (x ∷ [])) (sym c.kind.ensures.reads.world)
    (can_by x old (λ was from. gone_written x was old from c.requires.node (no_loose_directory _ (kind_directory _ (sym (c.in-Some-Directory.is ∙ ap Some c.in-Some-Directory.field-0-is) ∙ c.in_ok-kind.ensures.found h)))) (c.requires.under_way h0))

pub returns-in-Some-Directory-clause-back : goal.returns-in-Some-Directory-clause-back
returns-in-Some-Directory-clause-back g c = λ h.
    let h1 = c.put_back_loose-in-Some-Directory.ensures.silent.honest h in
    let x = c.args.work.now in
    let old = (g.H.Host.state c.args.host.now).world in
    let mid = (g.H.Host.state c.kind.new.self).world in
    let new = (g.H.Host.state c.put_back_loose-in-Some-Directory.new.host).world in
    on_ok c.put_back_loose-in-Some-Directory.result (GoesBack (x ∷ []) mid new) (Undoes (x ∷ []) old new)
    (λ goes. undoes_by x old (λ was from. gone_written x was old from c.requires.node (no_loose_directory _ (kind_directory _ (sym (c.in-Some-Directory.is ∙ ap Some c.in-Some-Directory.field-0-is) ∙ c.in_ok-kind.ensures.found h1)))) new (subst (λ w. GoesBack (x ∷ []) w new) c.kind.ensures.reads.world goes)) (c.put_back_loose-in-Some-Directory.ensures.back h)

pub returns-in-Some-Directory-clause-any_moment : goal.returns-in-Some-Directory-clause-any_moment
returns-in-Some-Directory-clause-any_moment g c =
    let x = c.args.work.now in
    let old = g.H.Host.state c.args.host.now in
    let mid = g.H.Host.state c.kind.new.self in
    let new = g.H.Host.state c.put_back_loose-in-Some-Directory.new.host in
    let P = IsUndoing (x ∷ []) old.world in
    since_then (λ so_far. P) old mid new (since_reads (λ so_far. P) old mid c.kind.ensures.reads (λ fs all. undoing_same x old.world old.world refl))
    (since_weaker_if (λ so_far. IsGoingBack (x ∷ []) mid.world) (λ so_far. P) mid new
    (λ h so_far w going. undoing_by x old.world (λ was from. gone_written x was old.world from c.requires.node (no_loose_directory _ (kind_directory _ (sym (c.in-Some-Directory.is ∙ ap Some c.in-Some-Directory.field-0-is) ∙ c.in_ok-kind.ensures.found (c.put_back_loose-in-Some-Directory.ensures.silent.honest h))))) w
    (subst (λ v. IsGoingBack (x ∷ []) v w) c.kind.ensures.reads.world going)) c.put_back_loose-in-Some-Directory.ensures.any_moment)

pub returns-in-Some-File-clause-back : goal.returns-in-Some-File-clause-back
returns-in-Some-File-clause-back g c = λ h.
    let h1 = c.clear_spares.ensures.silent.honest h in
    let x = c.args.work.now in
    let old = (g.H.Host.state c.args.host.now).world in
    let mid = (g.H.Host.state c.kind.new.self).world in
    let new = (g.H.Host.state c.clear_spares.new.host).world in
    let there = kind_file (old x.fresh) (sym (c.in-Some-File.is ∙ ap Some c.in-Some-File.field-0-is) ∙ c.in_ok-kind.ensures.found h1) in
    on_ok c.clear_spares.result (AreCleared x mid new) (Undoes (x ∷ []) old new)
    (λ clear. undoes_laid x old c.requires.named c.requires.node there new (subst (λ w. AreCleared x w new) c.kind.ensures.reads.world clear)) (c.clear_spares.ensures.cleared h)

pub returns-in-Some-File-clause-any_moment : goal.returns-in-Some-File-clause-any_moment
returns-in-Some-File-clause-any_moment g c =
    let x = c.args.work.now in
    let old = g.H.Host.state c.args.host.now in
    let mid = g.H.Host.state c.kind.new.self in
    let new = g.H.Host.state c.clear_spares.new.host in
    let P = IsUndoing (x ∷ []) old.world in
    since_then (λ so_far. P) old mid new (since_reads (λ so_far. P) old mid c.kind.ensures.reads (λ fs all. undoing_same x old.world old.world refl))
    (since_weaker_if (λ so_far. KeepsBesideSpares x mid.world) (λ so_far. P) mid new
    (λ h so_far w keeps. undoing_laid x old.world c.requires.named c.requires.node (kind_file (old.world x.fresh) (sym (c.in-Some-File.is ∙ ap Some c.in-Some-File.field-0-is) ∙ c.in_ok-kind.ensures.found (c.clear_spares.ensures.silent.honest h))) w
    (subst (λ v. KeepsBesideSpares x v w) c.kind.ensures.reads.world keeps)) c.clear_spares.ensures.any_moment)

pub returns-in-Some-SymbolicLink-clause-back : goal.returns-in-Some-SymbolicLink-clause-back
returns-in-Some-SymbolicLink-clause-back g c = λ h.
    let h1 = c.clear_spares-in-Some-SymbolicLink.ensures.silent.honest h in
    let x = c.args.work.now in
    let old = (g.H.Host.state c.args.host.now).world in
    let mid = (g.H.Host.state c.kind.new.self).world in
    let new = (g.H.Host.state c.clear_spares-in-Some-SymbolicLink.new.host).world in
    let there = kind_link (old x.fresh) (sym (c.in-Some-SymbolicLink.is ∙ ap Some c.in-Some-SymbolicLink.field-0-is) ∙ c.in_ok-kind.ensures.found h1) in
    on_ok c.clear_spares-in-Some-SymbolicLink.result (AreCleared x mid new) (Undoes (x ∷ []) old new)
    (λ clear. undoes_laid x old c.requires.named c.requires.node there new (subst (λ w. AreCleared x w new) c.kind.ensures.reads.world clear)) (c.clear_spares-in-Some-SymbolicLink.ensures.cleared h)

pub returns-in-Some-SymbolicLink-clause-any_moment : goal.returns-in-Some-SymbolicLink-clause-any_moment
returns-in-Some-SymbolicLink-clause-any_moment g c =
    let x = c.args.work.now in
    let old = g.H.Host.state c.args.host.now in
    let mid = g.H.Host.state c.kind.new.self in
    let new = g.H.Host.state c.clear_spares-in-Some-SymbolicLink.new.host in
    let P = IsUndoing (x ∷ []) old.world in
    since_then (λ so_far. P) old mid new (since_reads (λ so_far. P) old mid c.kind.ensures.reads (λ fs all. undoing_same x old.world old.world refl))
    (since_weaker_if (λ so_far. KeepsBesideSpares x mid.world) (λ so_far. P) mid new
    (λ h so_far w keeps. undoing_laid x old.world c.requires.named c.requires.node (kind_link (old.world x.fresh) (sym (c.in-Some-SymbolicLink.is ∙ ap Some c.in-Some-SymbolicLink.field-0-is) ∙ c.in_ok-kind.ensures.found (c.clear_spares-in-Some-SymbolicLink.ensures.silent.honest h))) w
    (subst (λ v. KeepsBesideSpares x v w) c.kind.ensures.reads.world keeps)) c.clear_spares-in-Some-SymbolicLink.ensures.any_moment)
