-- What is found in a part of a word list, said of the part itself.
use Rattle.std.specs.Prelude.{ℕ, suc, Option, Some, None, List}
use Rattle.lexicon.specs.Reading.{spellings}
use Rattle.hashing.specs.declared.word_list.WordList.{WordList}
use Rattle.hashing.specs.declared.part.Part.{Part}
use Rattle.hashing.specs.HashTables.{index_in, index_from}

-- the words of a list, as they are spelled
abbrev pub words_of : WordList → List (List ℕ)
words_of list = spellings list.letters.table.now list.bytes.now

-- the link to a number: 1 and the number, 0 where there is none
abbrev pub link_to : Option ℕ → ℕ
link_to None = 0
link_to (Some i) = suc i

-- the link to the first word of a part that is w
abbrev pub index_in_part : Part → List ℕ → ℕ
index_in_part p w = index_in p.list.now.letters.table.now p.list.now.bytes.now p.from p.count w

-- the same among those from a link on
abbrev pub index_from_part : Part → List ℕ → ℕ → ℕ
index_from_part p w n = index_from p.list.now.letters.table.now p.list.now.bytes.now p.from p.count w n
