use Rattle.std.proofs.Common.{rules, ◌≡◌, length}
use Rattle.std.specs.Bool.{Decides}
use Rattle.std.proofs.lemmas.Slice.Eq.{bytes_eq-Decides}
use Rattle.host_files.proofs.Alike.{pieces}
use Rattle.host_files.proofs.comparing.fill_alike.Goals as goal

pub returns : goal.returns
returns g c =
    let decides : Decides c.eq.result (c.read_piece.new.piece ≡ c.read_piece-2.new.piece) = search (rules, bytes_eq-Decides) in
    let long : length c.read_piece.new.piece ≡ length c.args.first.now = search rules in
    let as_long : length c.read_piece-2.new.piece ≡ length c.args.first.now = search rules in
    pieces c.eq.result (length c.args.first.now) c.read_piece.new.piece c.read_piece-2.new.piece (g.R.Read.remaining c.args.one.now) (g.R.Read.remaining c.read_piece.new.reader) (g.S.Read.remaining c.args.other.now) (g.S.Read.remaining c.read_piece-2.new.reader)
    decides long as_long c.in_ok-read_piece.ensures c.in_ok-read_piece-2.ensures
