-- What a search reaches is the first of the hits that are left.
use Rattle.hits.specs.Queries.{is_hit}
use Rattle.hits.proofs.Left.{taken, goes_on}
use Rattle.hits.proofs.HitsIterator.next.Goals as goal

pub returns-clause-steps : goal.returns-clause-steps
returns-clause-steps c =
    let s = c.args.self.now in
    let r = c.next_hit-reached in
    taken (is_hit s.query.now) s.search.place.0 s.end.0 r.result.hit r.result.search.place.0 r.ensures.0.hit_is r.ensures.0.place_is

pub returns-clause-goes : goal.returns-clause-goes
returns-clause-goes c =
    let r = c.next_hit-reached in
    let reached = r.ensures.1 c.requires.0 in
    goes_on c.args.self.now r.result.hit r.result.search (reached.0.search_is, reached.1) reached.0.hit_is reached.0.place_is
