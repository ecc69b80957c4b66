use Rattle.std.proofs.Common.{◌∙◌, ap, string_bytes, option_map}
use Rattle.hex.specs.Hex.{encode_lower}
use Rattle.host_overlay.specs.Seen.{seen}
use Rattle.verification.proofs.Adding.{adds_one}
use Rattle.verification.proofs.packages.add_path.Goals as goal

pub returns-clause-added : goal.returns-clause-added
returns-clause-added g c =
    adds_one c.args.all.now.opened.diversions.ways (seen c.args.all.now.shown) c.args.entry.now c.args.path.now c.in_ok-place.place c.args.sums.now (option_map encode_lower c.known_digest-known.result)
    (g.H.Host.state c.args.host.now) (g.H.Host.state c.find_difference.new.host) c.in_ok-difference.difference (string_bytes c.args.lines.now) (string_bytes c.add_difference.new.lines)
    c.in_ok-place.ensures c.known_digest-known.ensures c.requires c.find_difference.ensures.reads c.in_ok-difference.ensures.told c.in_ok-add_difference.ensures
