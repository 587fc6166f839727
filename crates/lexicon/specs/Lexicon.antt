-- The word list: its words in rank order, each closed by 0A; over any letter table.
use Rattle.std.specs.Prelude.{ℕ, Bool, true, not, ◌&&◌, List, [], ◌∷◌, map, eqb, ltb, length}
use Rattle.base.specs.Lists.{all_pass, filter_by, first_where, count_of, same, cut_after}
use Rattle.lexicon.specs.Letters.{keeps, line_feed}

-- V of a list: its number of 0A bytes
unfoldable pub list_size : List ℕ → ℕ
list_size list = count_of line_feed list

-- the words of a list without their 0A, the last one also where it is not closed
unfoldable pub list_words : List ℕ → List (List ℕ)
list_words list = map (filter_by (λ x. not (eqb x line_feed))) (cut_after (λ x. eqb x line_feed) list)

-- whether each word of a list is closed: the list is empty or ends in 0A
abbrev pub is_closed : List ℕ → Bool
is_closed [] = true
is_closed (x ∷ []) = eqb x line_feed
is_closed (x ∷ y ∷ ys) = is_closed (y ∷ ys)

-- the rank of a word in a list of words, which is where it stands; their number where it is not among them
unfoldable pub list_rank : List (List ℕ) → List ℕ → ℕ
list_rank words w = first_where (same w) words

-- whether a word is in a list of words
unfoldable pub is_in : List (List ℕ) → List ℕ → Bool
is_in words w = ltb (list_rank words w) (length words)

-- whether no word is there twice
abbrev pub distinct : List (List ℕ) → Bool
distinct [] = true
distinct (w ∷ ws) = not (is_in ws w) && distinct ws

-- whether a byte may stand in a word of a list: it is not 00, and the table keeps it
unfoldable pub is_spelling : List ℕ → ℕ → Bool
is_spelling table x = not (eqb x 0) && keeps table x

-- whether a word is not empty and made only of bytes other than 00 that the table keeps
unfoldable pub is_spelled : List ℕ → List ℕ → Bool
is_spelled table w = ltb 0 (length w) && all_pass (is_spelling table) w

-- whether each word of a list is closed by 0A, not empty, and spelled in kept bytes
unfoldable pub is_written : List ℕ → List ℕ → Bool
is_written table list = is_closed list && all_pass (is_spelled table) (list_words list)

-- whether a word list keeps the rules: its words are written as they must be, and none is there twice
unfoldable pub is_list : List ℕ → List ℕ → Bool
is_list table list = is_written table list && distinct (list_words list)
