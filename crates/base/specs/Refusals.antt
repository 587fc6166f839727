-- The numbers of the table of refusals: 1 to 15 of paper 01, "Calls turned down", the others of paper 02. `refusal` in `src/` has the same, by
-- the same names.
use Rattle.std.specs.Prelude.{ℕ}

-- V is outside its limits
abbrev pub refusal_vocabulary : ℕ
refusal_vocabulary = 1

-- a text, stream or plain text has more than 16,777,216 words
abbrev pub refusal_words : ℕ
refusal_words = 2

-- B or b is 0, or the superblock length S is above 65,535
abbrev pub refusal_blocks : ℕ
refusal_blocks = 3

-- a rank of the text to index or code is not below V
abbrev pub refusal_text_rank : ℕ
refusal_text_rank = 4

-- a slice to be built or filled is shorter than needed
abbrev pub refusal_short_slice : ℕ
refusal_short_slice = 5

-- the check of the index does not pass
abbrev pub refusal_index : ℕ
refusal_index = 6

-- the kind of a question is outside 1 to 5
abbrev pub refusal_kind : ℕ
refusal_kind = 7

-- a phrase's length is above 16, or 0 in a summary, or its part is outside the lent words
abbrev pub refusal_phrase : ℕ
refusal_phrase = 8

-- a rank asked about is above V
abbrev pub refusal_asked_rank : ℕ
refusal_asked_rank = 9

-- an offset is outside -16 to 16
abbrev pub refusal_offset : ℕ
refusal_offset = 10

-- a place or ordinal is outside its range, or a listing's next place is above n
abbrev pub refusal_place : ℕ
refusal_place = 11

-- a page has length 0, an answer slice is shorter than two elements a question, or one of counts than one a document
abbrev pub refusal_page : ℕ
refusal_page = 12

-- a word list breaks a rule
abbrev pub refusal_word_list : ℕ
refusal_word_list = 13

-- a word of the plain text is not in the list
abbrev pub refusal_unlisted : ℕ
refusal_unlisted = 14

-- a stream has a codeword of over three bytes, or ends inside one
abbrev pub refusal_stream : ℕ
refusal_stream = 15

-- four sizes that are handed back are not those of the text
abbrev pub refusal_sizes : ℕ
refusal_sizes = 16

-- a plain text has more bytes, or more distinct words, than a word list is made of
abbrev pub refusal_list_making : ℕ
refusal_list_making = 17

-- a letter table breaks a rule
abbrev pub refusal_table : ℕ
refusal_table = 18

-- document starts break a rule
abbrev pub refusal_documents : ℕ
refusal_documents = 19
