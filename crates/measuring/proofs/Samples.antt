-- The samples of sizes, by computation. Assumes nothing.
use mathlib.Core.Path.{refl}
use mathlib.Core.List.{flatten}
use Rattle.base.specs.Answers.{first_of}
use Rattle.base.specs.Texts.{outside, ranks_below, words_case, rank_case}
use Rattle.dense.specs.Code.{vocabulary_case, code}
use Rattle.directory.specs.Counters.{row, superblock_row, block_row, superblock_rows, block_rows, blocks_case}
use Rattle.tree.specs.Nodes.{path, reach, node_bytes, nodes}
use Rattle.index.specs.Arrays.{bytes_of, lengths_of, index_of}
use Rattle.index.specs.Entries.{is_shorter, text_cases, short_case}
use Rattle.measuring.specs.Sizes.{sizes_of, same_sizes, sizes_case, measure_answer, measured_of, build_sized_answer}
use Rattle.measuring.specs.Samples.{SizesSamples}

pub sizes_samples : SizesSamples
unfolding flatten first_of outside ranks_below words_case rank_case vocabulary_case code row superblock_row block_row superblock_rows block_rows blocks_case path reach node_bytes nodes bytes_of lengths_of index_of is_shorter text_cases short_case sizes_of same_sizes sizes_case measure_answer measured_of build_sized_answer
sizes_samples =
    record {
      sample = refl;
      published = refl;
      empty = refl;
      no_word = refl;
      no_block = refl;
      rank_is_v = refl;
      changed = refl;
      unchanged = refl;
      rank_first = refl;
      other_nodes = refl;
      other_bytes = refl;
      other_superblocks = refl;
      other_blocks = refl;
    }
