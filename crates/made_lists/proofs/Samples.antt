-- The samples of making word lists, by computation. Assumes nothing.
use mathlib.Core.Path.{refl}
use mathlib.Core.List.{flatten}
use Rattle.base.specs.Answers.{first_of, front, filled}
use Rattle.base.specs.Texts.{outside, words_case}
use Rattle.dense.specs.Code.{vocabulary_case}
use Rattle.lexicon.specs.Letters.{within, letter_of, letters}
use Rattle.lexicon.specs.Lexicon.{list_size, list_rank}
use Rattle.lexicon.specs.Reading.{text_words, spellings, read_text_answer}
use Rattle.word_order.specs.Order.{times_in, standing_times, by_frequency}
use Rattle.list_calls.specs.Making.{list_of, made_words, made_list, made_ranks, list_making_case, list_room_case, make_list_answer, list_made, make_list_exit, make_ranks_exit}
use Rattle.made_lists.specs.Samples.{MakingSamples}

-- the samples
pub making_samples : MakingSamples
unfolding flatten first_of front filled outside words_case vocabulary_case within letter_of letters list_size list_rank text_words read_text_answer spellings times_in standing_times by_frequency list_of made_words made_list made_ranks list_making_case list_room_case make_list_answer list_made make_list_exit make_ranks_exit
making_samples =
    record {
      made = refl;
      list = refl;
      ranks = refl;
      short_list = refl;
      short_ranks = refl;
      refused_list = refl;
      no_words = refl;
      empty_read = refl;
    }
