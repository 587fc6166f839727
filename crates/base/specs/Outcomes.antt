-- What a call gives that is refused or gives a value, and the answer that it returns for it.
use Rattle.std.specs.Prelude.{ℕ, Result, Ok, Err, ⊤}
use Rattle.base.specs.declared.Answer.{Answer}
use Rattle.base.specs.declared.refusal.Refusal.{Refusal}
use Rattle.base.specs.declared.refusal.Refusal.TheVariants.{Vocabulary, Words, Blocks, TextRank, ShortSlice, Index, Kind, Phrase, AskedRank, Offset, Place, Page, WordList, Unlisted, Stream, Sizes, ListMaking, Table, Documents}
use Rattle.base.specs.declared.refusal.Refused.{Refused}
use Rattle.base.specs.Refusals.{refusal_vocabulary, refusal_words, refusal_blocks, refusal_text_rank, refusal_short_slice, refusal_index, refusal_kind, refusal_phrase, refusal_asked_rank, refusal_offset, refusal_place, refusal_page, refusal_word_list, refusal_unlisted, refusal_stream, refusal_sizes, refusal_list_making, refusal_table, refusal_documents}
use Rattle.base.specs.Answers.{accepted, refused_at}

-- the number of a refusal
abbrev pub number_of : Refusal → ℕ
number_of Vocabulary = refusal_vocabulary
number_of Words = refusal_words
number_of Blocks = refusal_blocks
number_of TextRank = refusal_text_rank
number_of ShortSlice = refusal_short_slice
number_of Index = refusal_index
number_of Kind = refusal_kind
number_of Phrase = refusal_phrase
number_of AskedRank = refusal_asked_rank
number_of Offset = refusal_offset
number_of Place = refusal_place
number_of Page = refusal_page
number_of WordList = refusal_word_list
number_of Unlisted = refusal_unlisted
number_of Stream = refusal_stream
number_of Sizes = refusal_sizes
number_of ListMaking = refusal_list_making
number_of Table = refusal_table
number_of Documents = refusal_documents

-- a refusal with which 0 is returned
abbrev pub refused_by : Refusal → Refused
refused_by refusal = record { refusal = refusal; at = 0 }

-- the number of the refusal that a test brings; 0 where nothing refuses
abbrev pub number_of_test : Result ⊤ Refusal → ℕ
number_of_test (Ok _) = 0
number_of_test (Err refusal) = number_of refusal

-- the answer of a refused call
abbrev pub refused_answer : Refused → Answer
refused_answer e = refused_at (number_of e.refusal) e.at

-- the answer of a call that gives a value
abbrev pub answer_of : Result ℕ Refused → Answer
answer_of (Ok value) = accepted value
answer_of (Err e) = refused_answer e

-- the answer of a call that tests: 0 where nothing refuses
abbrev pub test_answer : Result ⊤ Refused → Answer
test_answer (Ok _) = accepted 0
test_answer (Err e) = refused_answer e
