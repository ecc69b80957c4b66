use Rattle.std.proofs.Common.{◌≡◌, List, Some, length, refl, subst, inr}
use Rattle.std.specs.Prelude.{slice_get}
use Rattle.std.proofs.lemmas.Option.{slice_get_read}
use Rattle.host_memory.specs.declared.past.Past.{Past}
use Rattle.host_memory.proofs.history.History.survivors.Goals as goal

pub returns-in-Some-clause-survives : goal.returns-in-Some-clause-survives
returns-in-Some-clause-survives c =
    let look = c.in-Some.ensures.lookup in
    let is : slice_get c.args.self.now.pasts.items c.args.keep ≡ Some c.in-Some.past.now =
    subst (λ (l : List Past). slice_get l c.args.keep ≡ Some c.in-Some.past.now) c.deref.ensures.value (slice_get_read c.deref.result.now (length c.deref.result.now) c.args.keep c.in-Some.past.now refl look.3.0 look.1) in
    let here = c.args.self.now.before c.args.keep c.in-Some.past.now is in
    inr (here.0, here.2, here.3)

pub returns-in-Some-clause-files : goal.returns-in-Some-clause-files
returns-in-Some-clause-files c =
    let look = c.in-Some.ensures.lookup in
    let is : slice_get c.args.self.now.pasts.items c.args.keep ≡ Some c.in-Some.past.now =
    subst (λ (l : List Past). slice_get l c.args.keep ≡ Some c.in-Some.past.now) c.deref.ensures.value (slice_get_read c.deref.result.now (length c.deref.result.now) c.args.keep c.in-Some.past.now refl look.3.0 look.1) in
    (c.args.self.now.before c.args.keep c.in-Some.past.now is).1
