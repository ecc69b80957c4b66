use Rattle.json_lines.proofs.LastColon.{last_parts}
use Rattle.json_lines.proofs.cutting.cut_at_last_colon.Goals as goal

pub returns : goal.returns
returns c = last_parts c.args.text.now c.rsplit_once.result c.rsplit_once.ensures.cases
