use Rattle.std.proofs.Common.{◌≡◌, refl, sym, subst}
use Rattle.host_core.specs.Paths.{Path}
use Rattle.host_core.specs.World.{World, IsLoose}
use Rattle.host_core.proofs.Moments.{since_now, since_then, since_weaker, since_weaker_if}
use Rattle.info_format.specs.Steps.{IsBringing}
use Rattle.info_format.proofs.Formats.{brought_by, format_loose, moments_given, moments_left, moments_taken}
use Rattle.info_format.proofs.bringing.bring.Goals as goal

pub returns-in_err-give_all-clause-any_moment : goal.returns-in_err-give_all-clause-any_moment
returns-in_err-give_all-clause-any_moment g c = moments_given c.args.pairs.now _ _ c.give_all.ensures.any_moment

pub leave_between-requires : goal.leave_between-requires
leave_between-requires g c = record { there = λ h. subst (λ (p : Path). IsLoose ((g.H.Host.state c.give_all.new.host).world p)) (sym c.requires.place) (format_loose c.args.pairs.now _ _ c.requires.apart (c.in_ok-give_all.ensures.given h).giving (c.requires.there (c.give_all.ensures.silent.honest h))) }

pub returns-in_err-leave_between-clause-any_moment : goal.returns-in_err-leave_between-clause-any_moment
returns-in_err-leave_between-clause-any_moment g c =
    moments_left c.args.pairs.now c.args.format.now _ _ _ c.requires.place c.leave_between.ensures.silent.honest c.in_ok-give_all.ensures.given c.give_all.ensures.any_moment c.leave_between.ensures.any_moment

pub take_all-requires-clause-disk : goal.take_all-requires-clause-disk
take_all-requires-clause-disk g c = c.in_ok-leave_between.ensures.disk

pub returns-clause-brought : goal.returns-clause-brought
returns-clause-brought g c = λ h.
    let h2 = c.take_all.ensures.silent.honest h in
    let h1 = c.leave_between.ensures.silent.honest h2 in
    brought_by c.args.pairs.now c.args.format.now c.take_all.result _ _ _ _ c.requires.place (c.in_ok-give_all.ensures.given h1) (c.in_ok-leave_between.ensures.left h2) (c.take_all.ensures.taken h)

pub returns-clause-any_moment : goal.returns-clause-any_moment
returns-clause-any_moment g c =
    moments_taken c.args.pairs.now c.args.format.now (g.H.Host.state c.args.host.now) (g.H.Host.state c.give_all.new.host) (g.H.Host.state c.leave_between.new.host) (g.H.Host.state c.take_all.new.host) c.requires.place c.leave_between.ensures.silent.honest c.take_all.ensures.silent.honest c.in_ok-give_all.ensures.given c.in_ok-leave_between.ensures.left
    (moments_left c.args.pairs.now c.args.format.now _ _ _ c.requires.place c.leave_between.ensures.silent.honest c.in_ok-give_all.ensures.given c.give_all.ensures.any_moment c.leave_between.ensures.any_moment)
    c.take_all.ensures.any_moment
