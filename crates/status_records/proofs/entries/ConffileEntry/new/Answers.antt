use Rattle.std.proofs.lemmas.Bool.{and_from}
use Rattle.status_records.specs.ConffilePaths.{is_ship_path, is_trimmed}
use Rattle.status_records.proofs.entries.ConffileEntry.new.Goals as goal

pub invariant_of-result : goal.invariant_of-result
invariant_of-result c = record {
  conffile = and_from (is_ship_path c.args.path) (is_trimmed c.args.path) c.path_law.ensures c.requires;
  digested = ∣ c.digest_law.ensures ∣₁;
}
