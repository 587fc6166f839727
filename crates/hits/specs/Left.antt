-- The hits of a query that are left.
use Rattle.std.specs.Prelude.{ℕ, ◌≤◌, List}
use Rattle.hits.specs.declared.Hits.{Hits}
use Rattle.hits.specs.Hits.{hits_between}
use Rattle.hits.specs.Queries.{is_hit, SearchIn}

-- their places, ascending
abbrev pub hits_left : Hits → List ℕ
hits_left h = hits_between (is_hit h.query.now) h.search.place.0 h.end.0

-- its search is one for what is sought, and is not past the end
abbrev pub IsOn : Hits → Type 0
IsOn h = SearchIn h.query.now h.search × (h.search.place.0 ≤ h.end.0)
