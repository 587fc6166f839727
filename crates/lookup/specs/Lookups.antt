-- What is found where the words of a text are looked up in a word list, part by part.
use Rattle.std.specs.Prelude.{ℕ, cond, Option, Some, None, List, [], ◌∷◌, ltb, length}
use Rattle.base.specs.Lists.{filter_by}
use Rattle.hashing.specs.HashTables.{index_in}
use Rattle.hashing.specs.declared.part.Part.{Part}
use Rattle.lexicon.specs.Lexicon.{is_in}
use Rattle.lexicon.specs.Reading.{TextWord}

-- how many of the words of a text are in a part
unfoldable pub count_in : List ℕ → List ℕ → ℕ → ℕ → List TextWord → ℕ
count_in table list from k ws = length (filter_by (λ w. ltb 0 (index_in table list from k w.spelling)) ws)

-- the same of a part in a hash table
abbrev pub count_in_part : Part → List TextWord → ℕ
count_in_part p ws = count_in p.list.now.letters.table.now p.list.now.bytes.now p.from p.count ws

-- how many of the words of a text are in a list of words
unfoldable pub count_listed : List (List ℕ) → List TextWord → ℕ
count_listed words ws = length (filter_by (λ w. is_in words w.spelling) ws)

-- the offset of the first word that is not in a list of words; the given end where there is none
abbrev pub first_missing : List (List ℕ) → ℕ → List TextWord → ℕ
first_missing words end [] = end
first_missing words end (w ∷ ws) = cond (is_in words w.spelling) (first_missing words end ws) w.offset

-- the offset that is found; the given end where none is
abbrev pub offset_or : ℕ → Option ℕ → ℕ
offset_or end None = end
offset_or end (Some at) = at
