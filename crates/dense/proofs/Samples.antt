-- The published codes, and the samples of streams, by computation. Assumes nothing.
use mathlib.Core.Path.{refl}
use mathlib.Core.List.{flatten}
use Rattle.base.specs.Answers.{first_of, front, filled}
use Rattle.base.specs.Texts.{outside, ranks_below, words_case, rank_case}
use Rattle.dense.specs.Code.{vocabulary_case, code}
use Rattle.dense.specs.Streams.{stream, codewords, is_broken, stream_text, closings, write_stream_answer, write_stream_exit, read_stream_answer, read_stream_exit}
use Rattle.dense.specs.Samples.{PublishedCodes, StreamSamples}

pub published_codes : PublishedCodes
unfolding code
published_codes = refl

pub stream_samples : StreamSamples
unfolding flatten first_of front filled outside ranks_below words_case rank_case vocabulary_case code stream codewords is_broken stream_text closings write_stream_answer write_stream_exit read_stream_answer read_stream_exit
stream_samples =
    record {
      most_words = refl;
      written = refl;
      read = refl;
      ends_inside = refl;
      four_bytes = refl;
      empty = refl;
      short_first = refl;
      broken_long = refl;
      read_answer = refl;
      read_exit = refl;
      read_refused = refl;
      no_word = refl;
      past_limit = refl;
      at_limit = refl;
      rank_is_v = refl;
      short_slice = refl;
      write_answer = refl;
      write_exit = refl;
      write_refused = refl;
    }
