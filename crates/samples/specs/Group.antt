-- Statement: the examples that paper 01 marks to be proved, as one group, with 128 closing values.
use Rattle.std.specs.Prelude.{◌≡◌, [], ◌∷◌, pos}
use Rattle.base.specs.Answers.{accepted}
use Rattle.dense.specs.Streams.{stream, stream_text}
use Rattle.base.specs.Samples.{sample_text}
use Rattle.dense.specs.Samples.{sample_stream, PublishedCodes}
use Rattle.tree.specs.Nodes.{nodes}
use Rattle.index.specs.declared.Shape.{Shape}
use Rattle.index.specs.Arrays.{Arrays, index_of, text_in}
use Rattle.phrases.specs.Phrases.{places}
use Rattle.questions.specs.Makers.{asks_occurrences_below, asks_place_of, asks_neighbours, asks_phrase}
use Rattle.questions.specs.Answering.{ask_answer}

-- V one above the largest rank, B 256, b 8
abbrev pub sample_shape : Shape
sample_shape = record { vocabulary = 130; block = 256; per_superblock = 8 }

-- the index of the sample
unfoldable pub sample_index : Arrays
sample_index = index_of 128 sample_shape sample_text

pub record SampleGroup : Type 0 where
  -- the codes of 0, 127, 128, 255, 256, 16511, 16512 and 2113663
  pub codes : PublishedCodes
  -- the sample: its text, its stream, its nodes, and its text as it is read back
  pub text : stream_text 128 sample_stream ≡ sample_text
  pub written : stream 128 sample_text ≡ sample_stream
  pub node_lines : nodes 128 130 sample_text ≡ (0x80 ∷ 0x00 ∷ 0x80 ∷ 0x00 ∷ 0x00 ∷ []) ∷ (0x80 ∷ 0x81 ∷ 0x80 ∷ []) ∷ []
  pub read_back : text_in 128 sample_index ≡ sample_text
  -- kind 2 of 128 below 4 is 1; the second 128 is at 4; the phrase 0 128 stands at 0 only; neighbours 0, 129, d = 1 give 1
  pub below_four : ask_answer 128 sample_shape sample_index [] (asks_occurrences_below 128 4) ≡ accepted 1
  pub second : ask_answer 128 sample_shape sample_index [] (asks_place_of 128 2) ≡ accepted 4
  pub phrase : places sample_text (0 ∷ 128 ∷ []) ≡ 0 ∷ []
  pub phrase_count : ask_answer 128 sample_shape sample_index (0 ∷ 128 ∷ []) (asks_phrase 0 2) ≡ accepted 1
  pub neighbours : ask_answer 128 sample_shape sample_index [] (asks_neighbours 0 129 (pos 1)) ≡ accepted 1
  -- in 7 7 7 7 the phrase 7 7 stands at 0, 1 and 2
  pub overlaps : places (7 ∷ 7 ∷ 7 ∷ 7 ∷ []) (7 ∷ 7 ∷ []) ≡ 0 ∷ 1 ∷ 2 ∷ []
