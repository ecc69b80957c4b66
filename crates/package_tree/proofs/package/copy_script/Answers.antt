use Rattle.std.proofs.Common.{◌≡◌, ◌∙◌, true, Some, sym, ap}
use Rattle.std.proofs.Props.{props}
use mathlib.Core.HLevel.{is_prop→PathP}
use Rattle.host_core.specs.World.{is_file}
use Rattle.administration.specs.declared.scripts.ScriptFile.{ScriptFile}
use Rattle.package_tree.proofs.package.copy_script.Goals as goal

same : (a b : ScriptFile) → a.node ≡ b.node → a ≡ b
same a b e = λ i. record { node = e i; file = is_prop→PathP (λ j. is_file (e j) ≡ true) (λ j. hlevel props) a.file b.file i }

pub returns-in_ok-copy-in-Some : goal.returns-in_ok-copy-in-Some
returns-in_ok-copy-in-Some c = ap Some (same c.in_ok-copy-in-Some.field-0 c.in-Some.script c.in_ok-copy-in-Some.ensures) ∙ sym c.in-Some.is
