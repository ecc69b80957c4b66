use Rattle.std.proofs.Common.{◌≡◌, List, Option, Some, None, sym, ◌∙◌}
use Rattle.host_core.specs.declared.node.Node.{Node}
use Rattle.host_core.specs.declared.node.Node.TheVariants.{File, Dir, Link}
use Rattle.diversions.specs.Lines.{HasEntries}
use Rattle.diversions.specs.declared.entry.Diversion.{Diversion}
use Rattle.diversions.proofs.LinesOf.{same_table}
use Rattle.diversions.proofs.WrittenTables.{written_read}
use Rattle.diversions.proofs.laws.a_table_is_read_as_written.Goals as goal

one_table : (n : Option Node) (entries others : List Diversion) → HasEntries n entries → HasEntries n others → entries ≡ others
one_table None entries others first second = first ∙ sym second
one_table (Some (File bytes access)) entries others first second = same_table entries others first.table second.table (sym first.lines ∙ second.lines)
one_table (Some (Dir access)) entries others first second = absurd first
one_table (Some (Link target)) entries others first second = absurd first

pub returns-clause-written : goal.returns-clause-written
returns-clause-written c = written_read

pub returns-clause-once : goal.returns-clause-once
returns-clause-once c = λ w entries others first second. one_table _ entries others first second
