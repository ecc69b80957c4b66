use Rattle.host_overlay.specs.Seen.{seen}
use Rattle.inquiries.proofs.Followed.{search_told}
use Rattle.inquiries.proofs.files.search_read.Goals as goal

pub returns-clause-told : goal.returns-clause-told
returns-clause-told g c =
    let all = c.args.all.opened in
    search_told all.database.records all.lists.lists (seen c.args.all.shown) all.diversions c.read_above.new.self c.args.path.now _ _ _ _ c.read_above.ensures.reads c.read_above.ensures.grows c.read_above.ensures.kept c.in_ok-read_above.ensures.whole
    c.requires.held c.in_ok-place.ensures c.in_ok-text.ensures
