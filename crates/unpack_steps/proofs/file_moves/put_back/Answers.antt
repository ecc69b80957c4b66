use Rattle.std.proofs.Common.{inl}
use Rattle.administration.specs.Places.{list_path}
use Rattle.file_lists.specs.Writing.{list_file}
use Rattle.package_files.proofs.BackLists.{going_none}
use Rattle.listed_files.specs.Listing.{MayUnlist}
use Rattle.unpack_rows.specs.EndStates.{own_name}
use Rattle.unpack_steps.proofs.Answering.{quiet_moments}
use Rattle.unpack_steps.proofs.file_moves.put_back.Goals as goal

pub returns-in_err-listed-clause-any_moment : goal.returns-in_err-listed-clause-any_moment
returns-in_err-listed-clause-any_moment g c =
    let s = g.H.Host.state c.args.host.now in
    let works = c.args.works.now in
    quiet_moments (MayUnlist (list_path (own_name c.args.rows.now.found c.args.rows.now.incoming)) (list_file c.args.rows.now.listed) works s.world) s (λ h. inl (going_none works s.world))
