-- Statement: the eight codes that paper 01 marks to be proved, the sample's stream, and the edges of the definitions of this crate.
use Rattle.std.specs.Prelude.{ℕ, ◌≡◌, true, false, List, [], ◌∷◌, map}
use Rattle.base.specs.Answers.{accepted, refused, refused_at}
use Rattle.base.specs.Samples.{sample_text}
use Rattle.dense.specs.Code.{max_vocabulary, code}
use Rattle.dense.specs.Streams.{stream, is_broken, stream_text, write_stream_answer, write_stream_exit, read_stream_answer, read_stream_exit}

-- the stream of the sample
abbrev pub sample_stream : List ℕ
sample_stream = 0x80 ∷ 0x00 ∷ 0x80 ∷ 0x80 ∷ 0x00 ∷ 0x81 ∷ 0x00 ∷ 0x80 ∷ []

-- the codes of 0, 127, 128, 255, 256, 16511, 16512, 2113663
abbrev pub PublishedCodes : Type 0
PublishedCodes =
    map (code 128) (0 ∷ 127 ∷ 128 ∷ 255 ∷ 256 ∷ 16511 ∷ 16512 ∷ 2113663 ∷ [])
    ≡ (0x80 ∷ []) ∷ (0xFF ∷ []) ∷ (0x00 ∷ 0x80 ∷ []) ∷ (0x00 ∷ 0xFF ∷ []) ∷ (0x01 ∷ 0x80 ∷ []) ∷ (0x7F ∷ 0xFF ∷ [])
    ∷ (0x00 ∷ 0x00 ∷ 0x80 ∷ []) ∷ (0x7F ∷ 0x7F ∷ 0xFF ∷ []) ∷ []

pub record StreamSamples : Type 0 where
  pub most_words : max_vocabulary 128 ≡ 2113664
  pub written : stream 128 sample_text ≡ sample_stream
  pub read : stream_text 128 sample_stream ≡ sample_text
  -- a stream that ends inside a codeword of one, two and three bytes, and a codeword of four bytes
  pub ends_inside : map (is_broken 128) ((0x00 ∷ []) ∷ (0x00 ∷ 0x00 ∷ []) ∷ (0x00 ∷ 0x00 ∷ 0x00 ∷ []) ∷ []) ≡ true ∷ true ∷ true ∷ []
  pub four_bytes : is_broken 128 (0x00 ∷ 0x00 ∷ 0x00 ∷ 0x80 ∷ []) ≡ true
  pub empty : is_broken 128 [] ≡ false
  -- reading: a short slice before a broken stream, a broken stream in a long slice, the value and what is left past the words
  pub short_first : read_stream_answer 128 (0x80 ∷ 0x00 ∷ []) [] ≡ refused 5
  pub broken_long : read_stream_answer 128 (0x80 ∷ 0x00 ∷ []) (7 ∷ 7 ∷ 7 ∷ []) ≡ refused 15
  pub read_answer : read_stream_answer 128 (0x80 ∷ 0x00 ∷ 0x81 ∷ []) (7 ∷ 7 ∷ 7 ∷ []) ≡ accepted 2
  pub read_exit : read_stream_exit 128 (0x80 ∷ 0x00 ∷ 0x81 ∷ []) (7 ∷ 7 ∷ 7 ∷ []) ≡ 0 ∷ 129 ∷ 7 ∷ []
  pub read_refused : read_stream_exit 128 (0x80 ∷ 0x00 ∷ []) (7 ∷ 7 ∷ 7 ∷ []) ≡ 7 ∷ 7 ∷ 7 ∷ []
  -- writing: V 0 and one past its limit, a rank that is V with its place, a short slice, the value and what is left past the stream
  pub no_word : write_stream_answer 128 0 [] [] ≡ refused 1
  pub past_limit : write_stream_answer 128 2113665 [] [] ≡ refused 1
  pub at_limit : write_stream_answer 128 2113664 [] [] ≡ accepted 0
  pub rank_is_v : write_stream_answer 128 3 (0 ∷ 3 ∷ 4 ∷ []) [] ≡ refused_at 4 1
  pub short_slice : write_stream_answer 128 129 (0 ∷ 128 ∷ []) (9 ∷ 9 ∷ []) ≡ refused 5
  pub write_answer : write_stream_answer 128 129 (0 ∷ 128 ∷ []) (9 ∷ 9 ∷ 9 ∷ 9 ∷ []) ≡ accepted 3
  pub write_exit : write_stream_exit 128 129 (0 ∷ 128 ∷ []) (9 ∷ 9 ∷ 9 ∷ 9 ∷ []) ≡ 0x80 ∷ 0x00 ∷ 0x80 ∷ 9 ∷ []
  pub write_refused : write_stream_exit 128 129 (0 ∷ 128 ∷ []) (9 ∷ 9 ∷ []) ≡ 9 ∷ 9 ∷ []
