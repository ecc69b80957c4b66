use Rattle.std.proofs.Common.{◌≡◌, ◌++◌, map}
use Rattle.configure_engine.specs.Waiting.{place_of, places_once}
use Rattle.configure_engine.proofs.waiting.places_once.Given as goal

abbrev pub invariant-loop-path : goal.invariant-loop-path
invariant-loop-path l =
    let ways = l.diversions.ways in
    record {
      kept : l.kept.items ≡ places_once ways l.yielded;
      places : l.places.items ≡ map (place_of ways) l.kept.items;
      rest : l.fn.paths.items ≡ l.yielded ++ l.path-iterator.rest.items;
    }
