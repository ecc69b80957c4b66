use Rattle.std.proofs.Common.{sym, subst}
use Rattle.control_members.specs.Members.{AreInOrder, names_of}
use Rattle.control_members.proofs.LaidOut.{made_bare, since_laying}
use Rattle.control_members.proofs.incoming.lay_out.Goals as goal

pub put_all-requires-clause-order : goal.put_all-requires-clause-order
put_all-requires-clause-order g c = subst (λ l. AreInOrder (names_of l)) (sym c.as_slice.ensures) c.law.ensures

pub put_all-requires-clause-bare : goal.put_all-requires-clause-bare
put_all-requires-clause-bare g c = λ h1.
    let h = c.make_tmp.ensures.silent.honest h1 in
    made_bare _ _ (g.H.Host.tree c.args.host.now h) (c.requires.absent h) (c.in_ok-make_tmp.ensures.made h1)

pub returns-clause-any_moment : goal.returns-clause-any_moment
returns-clause-any_moment g c = since_laying _ _ _ c.make_tmp.ensures.any_moment c.put_all.ensures.any_moment
