use Rattle.std.proofs.Common.{rules, ◌≡◌, ◌++◌, ◌∷◌, [], sym, subst}
use Rattle.trigger_files.specs.Steps.{AreRegisters}
use Rattle.trigger_files.proofs.Names.{registers_push}
use Rattle.trigger_files.proofs.due.add_open.Goals as goal

pub returns-in_ok-push-clause-registers : goal.returns-in_ok-push-clause-registers
returns-in_ok-push-clause-registers g c =
    let grown : c.push.new.self.items ≡ c.args.found.now.items ++ c.args.name.now ∷ [] = search rules in
    subst AreRegisters (sym grown) (registers_push c.args.found.now.items c.args.name.now c.requires.registers c.requires.register)
