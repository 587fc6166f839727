-- What a search reaches keeps the length of its way. Assumes nothing.
use Rattle.std.proofs.Common.{ℕ}
use Rattle.matching.specs.declared.query.Query.{Query}
use Rattle.hits.specs.declared.Search.{Search}
use Rattle.hits.specs.declared.Reached.{Reached}
use Rattle.hits.specs.Queries.{SearchIn, ReachesOf, ReachesIn}

-- where the way of a search is at most three long, so is that of the search which the call hands back
pub reaches_in : (q : Query) {x : Search} {end : ℕ} {r : Reached} → ReachesOf q x end r → SearchIn q x → ReachesIn q x end r
reaches_in q h s = (h, rw h.way_is s.1)
