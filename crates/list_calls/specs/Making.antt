-- A word list out of a plain text: its distinct words, most frequent first, and the ranks of the text; over any letter table.
use Rattle.std.specs.Prelude.{ℕ, suc, ◌+◌, ◌≤◌, cond, ◌||◌, ltb, length}
use mathlib.Core.List.{List, [], ◌∷◌, ◌++◌, map, flatten}
use Rattle.base.specs.declared.Answer.{Answer}
use Rattle.base.specs.Refusals.{refusal_short_slice, refusal_list_making}
use Rattle.base.specs.Answers.{accepted, refused, is_accepted, Case, ◌⇒◌, first_of, filled}
use Rattle.base.specs.Texts.{words_case}
use Rattle.lexicon.specs.Letters.{line_feed}
use Rattle.lexicon.specs.Lexicon.{list_rank}
use Rattle.lexicon.specs.Reading.{text_words, spellings}
use Rattle.word_order.specs.Order.{by_frequency}
use Rattle.list_calls.specs.declared.ListMade.{ListMade}

-- the most bytes of a text that a list is made of
abbrev pub max_list_text : ℕ
max_list_text = 65536

-- the most words of a list that is made
abbrev pub max_list_words : ℕ
max_list_words = 4096

-- words as a list: each closed by 0A
unfoldable pub list_of : List (List ℕ) → List ℕ
list_of words = flatten (map (λ w. w ++ line_feed ∷ []) words)

-- the words of the list that is made of a text, in rank order
unfoldable pub made_words : List ℕ → List ℕ → List (List ℕ)
made_words table text = by_frequency (spellings table text)

-- the list that is made of a text
unfoldable pub made_list : List ℕ → List ℕ → List ℕ
made_list table text = list_of (made_words table text)

-- the ranks of the text in it
unfoldable pub made_ranks : List ℕ → List ℕ → List ℕ
made_ranks table text = map (list_rank (made_words table text)) (spellings table text)

-- refusal 17: more than 65,536 bytes or 4,096 distinct words
unfoldable pub list_making_case : List ℕ → List ℕ → Case
list_making_case table text = ltb max_list_text (length text) || ltb max_list_words (length (made_words table text)) ⇒ refused refusal_list_making

-- refusal 5: the slice that holds y is too short for the list, or the one that holds z for the ranks
unfoldable pub list_room_case : List ℕ → List ℕ → List ℕ → List ℕ → Case
list_room_case table text y z = ltb (length y) (length (made_list table text)) || ltb (length z) (length (text_words table text)) ⇒ refused refusal_short_slice

-- making a word list of a text, in slices that hold y and z, for the list and for the ranks: refusals 2, 17 and 5
unfoldable pub make_list_answer : List ℕ → List ℕ → List ℕ → List ℕ → Answer
make_list_answer table text y z =
    first_of (words_case (length (text_words table text)) ∷ list_making_case table text ∷ list_room_case table text y z ∷ []) (accepted 0)

-- all that a call with this answer returns: a number for each slice filled, two zeros beside a refusal
abbrev pub list_made_by : List ℕ → List ℕ → Answer → ListMade
list_made_by table text answer =
    record {
      answer = answer;
      bytes = cond (is_accepted answer) (length (made_list table text)) 0;
      words = cond (is_accepted answer) (length (text_words table text)) 0;
    }

-- all that the call that makes a word list returns
unfoldable pub list_made : List ℕ → List ℕ → List ℕ → List ℕ → ListMade
list_made table text y z = list_made_by table text (make_list_answer table text y z)

-- what the slice for the list holds then: the list in front, the rest as it was
unfoldable pub make_list_exit : List ℕ → List ℕ → List ℕ → List ℕ → List ℕ
make_list_exit table text y z = filled (make_list_answer table text y z) (made_list table text) y

-- what the slice for the ranks holds then: the ranks in front, the rest as it was
unfoldable pub make_ranks_exit : List ℕ → List ℕ → List ℕ → List ℕ → List ℕ
make_ranks_exit table text y z = filled (make_list_answer table text y z) (made_ranks table text) z

-- Statement, for those who lend the slices: the list has at most one byte more than the text.
abbrev pub MadeFits : Type 0
MadeFits = (table text : List ℕ) → length (made_list table text) ≤ suc (length text)

-- Statement, for them and for the tables of the call: twice the number of words is at most one above the number of bytes, so that 65,536 bytes have
-- at most 32,768 words.
abbrev pub WordsFit : Type 0
WordsFit = (table text : List ℕ) → length (text_words table text) + length (text_words table text) ≤ suc (length text)
