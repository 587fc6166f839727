-- The samples, computed. Assumes nothing.
use mathlib.Core.Path.{refl}
use mathlib.Core.List.{flatten}
use Rattle.formatting.specs.Characters.{decimal, labelled, bytes_text}
use Rattle.dense.specs.Code.{code}
use Rattle.dense.specs.Streams.{stream, codewords, is_broken, stream_text, closings}
use Rattle.tree.specs.Nodes.{path, reach, node_bytes, nodes}
use Rattle.index.specs.Arrays.{bytes_of, lengths_of, index_of}
use Rattle.node_lines.specs.Lines.{refusal_line, counts_line, node_line}
use Rattle.node_listing.specs.Listing.{index_listing, text_listing, listing}
use Rattle.node_listing.specs.Samples.{ListingSamples}

pub listing_samples : ListingSamples
unfolding flatten decimal labelled bytes_text code stream codewords is_broken stream_text closings path reach node_bytes nodes bytes_of lengths_of index_of refusal_line counts_line node_line index_listing text_listing listing
listing_samples = record { sample = refl; empty = refl; two_bytes = refl; empty_node = refl; broken = refl; three_bytes = refl }
