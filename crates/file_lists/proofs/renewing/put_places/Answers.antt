use Rattle.std.proofs.Common.{◌∙◌, ap, take, drop}
use Rattle.file_lists.proofs.SameBeside.{put_between}
use Rattle.file_lists.proofs.renewing.put_places.Goals as goal

pub returns : goal.returns
returns c = put_between _ _ _ _ _ _ _ _ _ c.requires.order (c.in_ok-behind.ensures.items ∙ ap (take c.args.end) c.places.view_is) (c.in_ok-behind.ensures.tail ∙ ap (drop c.args.end) c.places.view_is)
    c.truncate.ensures.items (c.places-2.view_is ∙ c.in_ok-take_places.ensures) c.in_ok-append.ensures.items
