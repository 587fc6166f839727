-- Searches over a query. Callers hand them on.
use Rattle.std.specs.Prelude.{ℕ, ◌≤◌, Bool, List}
use Rattle.index.specs.Lent.{slices_of}
use Rattle.words.specs.declared.indexed_text.IndexedText.{IndexedText}
use Rattle.words.specs.Texts.{text_of}
use Rattle.matching.specs.declared.Sought.{Sought}
use Rattle.matching.specs.declared.query.Query.{Query}
use Rattle.matching.specs.Sought.{hit_in}
use Rattle.anchors.specs.declared.Second.{Second}
use Rattle.hits.specs.declared.Search.{Search}
use Rattle.hits.specs.declared.Reached.{Reached}
use Rattle.hits.specs.Searches.{Sides, SearchFor, Reaches}

-- whether what is sought stands at a place inside one document
abbrev pub is_hit : Query → ℕ → Bool
is_hit q = hit_in q.documents.now (text_of q.text) q.words.now q.sought

-- its anchor and its second word
abbrev pub SidesIn : Query → ℕ → Second → Type 0
SidesIn q anchor second = Sides (text_of q.text) q.words.now q.sought anchor second

-- a search for words in an indexed text
abbrev pub SearchOf : IndexedText → List ℕ → Sought → Search → Type 0
SearchOf text words sought x = SearchFor text.index.s text.index.shape (slices_of text.index) text.starts.now words sought x

-- a search for it, along a way whose length is at most three
abbrev pub SearchIn : Query → Search → Type 0
SearchIn q x = SearchOf q.text q.words.now q.sought x × (x.way.length ≤ 3)

-- what a search for it reaches up to an end
abbrev pub ReachesOf : Query → Search → ℕ → Reached → Type 0
ReachesOf q x end r = Reaches q.text.index.s q.text.index.shape (slices_of q.text.index) q.text.starts.now q.documents.now q.words.now q.sought x end r

-- the same, with a way whose length is at most three
abbrev pub ReachesIn : Query → Search → ℕ → Reached → Type 0
ReachesIn q x end r = ReachesOf q x end r × (r.search.way.length ≤ 3)
