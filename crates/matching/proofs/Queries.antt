-- What is sought in an indexed text can be searched, by what a query says of itself. Assumes nothing.
use Rattle.std.proofs.Common.{refl}
use Rattle.index.specs.Lent.{slices_of}
use Rattle.matching.specs.declared.Sought.{Sought}
use Rattle.matching.specs.declared.Sought.TheVariants.{Phrase, Pair}
use Rattle.matching.specs.declared.query.Query.{Query}
use Rattle.matching.specs.Searching.{Searchable, Searching, Paired, AsPair}
use Rattle.std.proofs.Common.{ℕ, List}

-- the words can be searched
pub query_searchable : (q : Query) → Searchable q.text.index.s q.text.index.shape (slices_of q.text.index) q.text.starts.now q.words.now
query_searchable q = record { ready = q.text.ready; some = q.some; most = q.most; below = q.below }

-- with their first bytes
pub query_searching : (q : Query) → Searching q.text.index.s q.text.index.shape (slices_of q.text.index) q.text.starts.now q.firsts.now q.words.now
query_searching q = record { searchable = query_searchable q; firsts_are = q.firsts_are }

-- a pair is of two words
pub paired_of : (words : List ℕ) (sought : Sought) → AsPair words sought → Paired words sought
paired_of words Phrase h = tt
paired_of words (Pair d) h = h d refl

-- and what is of two words, or a phrase, is as a query has it
pub query_paired : (q : Query) → Paired q.words.now q.sought
query_paired q = paired_of q.words.now q.sought q.paired
