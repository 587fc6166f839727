-- The group of examples, by computation. Assumes nothing.
use mathlib.Core.Path.{refl}
use mathlib.Core.List.{flatten}
use Rattle.base.specs.Answers.{first_of}
use Rattle.base.specs.Texts.{outside, ranks_below, is_text}
use Rattle.dense.specs.Code.{vocabulary_case, code}
use Rattle.dense.specs.Streams.{stream, codewords, stream_text}
use Rattle.dense.proofs.Samples.{published_codes}
use Rattle.directory.specs.Counters.{row, superblock_row, block_row, superblock_rows, block_rows, blocks_case}
use Rattle.tree.specs.Nodes.{path, reach, node_bytes, nodes}
use Rattle.tree.specs.Walks.{text_of}
use Rattle.index.specs.Arrays.{bytes_of, lengths_of, index_of, text_in, same_arrays, passes}
use Rattle.index.specs.Entries.{index_cases}
use Rattle.phrases.specs.Phrases.{agrees, stands, places}
use Rattle.phrases.specs.Neighbours.{stands_at, neighbour_at}
use Rattle.documents.specs.Documents.{is_ascending, are_starts, documents_case, document_of, same_document, in_one_document, stands_in, places_in, neighbour_in, neighbours_in}
use Rattle.questions.specs.Answering.{reading_cases, rank_asked_case, phrase_in, phrase_cases, occurrences_answer, place_answer, neighbours_answer, phrase_answer, question_answer, ask_answer_in, ask_answer}
use Rattle.samples.specs.Group.{sample_index, SampleGroup}

pub sample_group : SampleGroup
unfolding flatten first_of outside ranks_below is_text vocabulary_case code stream codewords stream_text row superblock_row block_row superblock_rows block_rows blocks_case path reach node_bytes nodes text_of bytes_of lengths_of index_of text_in same_arrays passes index_cases agrees stands places stands_at neighbour_at is_ascending are_starts documents_case document_of same_document in_one_document stands_in places_in neighbour_in neighbours_in reading_cases rank_asked_case phrase_in phrase_cases occurrences_answer place_answer neighbours_answer phrase_answer question_answer ask_answer_in ask_answer sample_index
sample_group =
    record {
      codes = published_codes;
      text = refl;
      written = refl;
      node_lines = refl;
      read_back = refl;
      below_four = refl;
      second = refl;
      phrase = refl;
      phrase_count = refl;
      neighbours = refl;
      overlaps = refl;
    }
