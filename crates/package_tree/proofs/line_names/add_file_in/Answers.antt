use Rattle.std.proofs.Common.{◌∙◌, sym}
use Rattle.std.specs.BTreeSet.{contains_text}
use Rattle.package_tree.specs.ShipMap.{is_file_in}
use Rattle.package_tree.proofs.Named.{kept_one, passed_one}
use Rattle.package_tree.proofs.line_names.add_file_in.Goals as goal

pub returns-then-is_file_in : goal.returns-then-is_file_in
returns-then-is_file_in c =
    kept_one (is_file_in (contains_text c.args.names.now)) c.args.file.now c.args.paths.now.items c.push.new.self.items c.in_ok-copy.field-0 (sym c.is_file_in.ensures ∙ c.if-is_file_in.true) c.in_ok-copy.ensures c.in_ok-push.ensures.items

pub returns : goal.returns
returns c = passed_one (is_file_in (contains_text c.args.names.now)) c.args.file.now c.args.paths.now.items (sym c.is_file_in.ensures ∙ c.if-is_file_in.false)
