-- Whether a word of a list is in it twice, by the hash table of a part.
use Rattle.std.specs.Prelude.{ℕ, suc, Bool, ◌||◌, List, eqb}
use Rattle.base.specs.Lists.{all_pass, range_from}
use Rattle.hashing.specs.declared.part.Part.{Part}
use Rattle.hashing.specs.HashTables.{spelled_at, index_in}

-- whether the word number q from an offset on is not found in the part of the first k, or at its own place
unfoldable pub is_own : List ℕ → List ℕ → ℕ → ℕ → ℕ → Bool
is_own table list from k q =
    eqb (index_in table list from k (spelled_at table list from q)) 0 || eqb (index_in table list from k (spelled_at table list from q)) (suc q)

-- whether none of the n words from an offset on is found in the part of the first k at another place than its own
unfoldable pub is_unrepeated : List ℕ → List ℕ → ℕ → ℕ → ℕ → Bool
is_unrepeated table list from k n = all_pass (is_own table list from k) (range_from 0 n)

-- the same of a part in a hash table
abbrev pub is_part_unrepeated : Part → ℕ → Bool
is_part_unrepeated p n = is_unrepeated p.list.now.letters.table.now p.list.now.bytes.now p.from p.count n
