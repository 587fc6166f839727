-- The samples of finding a word, by computation. Assumes nothing.
use mathlib.Core.Path.{refl}
use Rattle.base.specs.Answers.{first_of}
use Rattle.base.specs.Texts.{outside}
use Rattle.dense.specs.Code.{vocabulary_case}
use Rattle.lexicon.specs.Letters.{within, letter_of, letters}
use Rattle.lexicon.specs.Lexicon.{list_size, list_words, list_rank, is_in, is_spelling, is_spelled, is_written, is_list}
use Rattle.finding.specs.Finding.{folded_by, word_rank, find_word_answer}
use Rattle.finding.specs.Samples.{FindingSamples}

pub finding_samples : FindingSamples
unfolding first_of outside vocabulary_case within letter_of letters list_size list_words list_rank is_in is_spelling is_spelled is_written is_list folded_by word_rank find_word_answer
finding_samples = record { listed = refl; lacking = refl; no_words = refl; broken = refl }
