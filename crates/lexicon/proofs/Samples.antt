-- The edges of the letter table and the samples of reading, by computation. Assumes nothing.
use mathlib.Core.Path.{refl}
use Rattle.base.specs.Answers.{first_of, front, filled}
use Rattle.base.specs.Texts.{outside, words_case}
use Rattle.dense.specs.Code.{vocabulary_case}
use Rattle.lexicon.specs.Letters.{within, letter_of, letters}
use Rattle.lexicon.specs.Lexicon.{list_size, list_words, list_rank, is_in, is_spelling, is_spelled, is_written, is_list}
use Rattle.lexicon.specs.Reading.{text_words, text_ranks, is_listed, first_unlisted, read_text_answer, read_text_exit}
use Rattle.lexicon.specs.Samples.{LetterEdges, ReadingSamples}

pub letter_edges : LetterEdges
unfolding within outside letter_of
letter_edges = refl

pub reading_samples : ReadingSamples
unfolding first_of front filled outside words_case vocabulary_case within letter_of letters list_size list_words list_rank is_in is_spelling is_spelled is_written is_list text_words text_ranks is_listed first_unlisted read_text_answer read_text_exit
reading_samples =
    record {
      words = refl;
      no_words = refl;
      listed = refl;
      size = refl;
      rules = refl;
      broken = refl;
      answer = refl;
      exit = refl;
      empty = refl;
      no_list = refl;
      short_first = refl;
      broken_first = refl;
      unlisted = refl;
      refused_exit = refl;
    }
