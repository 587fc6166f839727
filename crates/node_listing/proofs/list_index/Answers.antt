-- the index is built in slices that are long enough, and its nodes are written
use Rattle.std.proofs.Common.{◌≡◌, ◌≤◌, ◌+◌, ◌++◌, ℕ, List, length, refl, arith}
use Rattle.std.specs.Prelude.{replicate}
use Rattle.formatting.proofs.Wrote.{room_first, room_second, wrote_both}
use Rattle.index.specs.Arrays.{arrays}
use Rattle.node_listing.specs.Listing.{vocabulary_of, index_listing, max_stream_vocabulary, max_stream_words}
use Rattle.node_listing.specs.Calls.{max_listing}
use Rattle.node_listing.proofs.Lengths.{index_length}
use Rattle.node_listing.proofs.Built.{counts_of, lines_of, Listed, listed, sum_taken, sum_inside, nodes_inside, counts_are, lines_are}
use Rattle.node_listing.proofs.list_index.Goals as goal
use Rattle.node_listing.proofs.list_index.Goals.{After-node_count-nodes}

-- the listing has room
room : (t : List ℕ) (v n : ℕ) → length t ≤ max_stream_words → v ≡ vocabulary_of t → v ≤ max_stream_vocabulary → max_listing ≤ n → 0 + length (counts_of t ++ lines_of t) ≤ n
unfolding index_listing
room t v n short e small long = omega (arith, index_length t short (omega arith))

-- the index stands in front of the slices
built : (c : After-node_count-nodes) → Listed c.args.text.now c.node_count-nodes.result c.build-built.result.value c.build-built.new.lengths c.build-built.new.bytes
built c =
    let call = c.build-built in
    listed c.args.text.now c.requires.0 (omega (arith, c.requires.1, c.requires.2)) (arrays (replicate 129 0) (replicate 8192 0) (replicate 1280 0) (replicate 8448 0)) record { lengths = refl; bytes = refl; superblocks = refl; blocks = refl } c.args.vocabulary c.requires.1 call.result (arrays call.new.lengths call.new.bytes call.new.superblocks call.new.blocks) c.node_count-nodes.result call.ensures.answered call.ensures.filled c.node_count-nodes.ensures

pub write_counts-next-requires : goal.write_counts-next-requires
write_counts-next-requires c =
    let text = c.args.text.now in
    rw (counts_are text c.requires.0 (omega (arith, c.requires.1, c.requires.2)) (built (goal.at.write_counts-next-requires c).After-node_count-nodes))
    (omega (arith, room_first (counts_of text) (lines_of text) 0 (length c.args.output.now) (room text c.args.vocabulary (length c.args.output.now) c.requires.0 c.requires.1 c.requires.2 c.requires.3)))

pub slice_bounds-bytes-end : goal.slice_bounds-bytes-end
slice_bounds-bytes-end c =
    sum_inside c.args.text.now c.requires.0 (omega (arith, c.requires.1, c.requires.2)) (built (goal.at.slice_bounds-bytes-end c).After-node_count-nodes)

pub slice_bounds-write_nodes-end-2 : goal.slice_bounds-write_nodes-end-2
slice_bounds-write_nodes-end-2 c =
    sum_taken c.args.text.now c.requires.0 (omega (arith, c.requires.1, c.requires.2)) (built (goal.at.slice_bounds-write_nodes-end-2 c).After-node_count-nodes)

pub write_nodes-requires : goal.write_nodes-requires
write_nodes-requires c =
    let text = c.args.text.now in
    let small : vocabulary_of text ≤ max_stream_vocabulary = omega (arith, c.requires.1, c.requires.2) in
    let is = built (goal.at.write_nodes-requires c).After-node_count-nodes in
    let line = rw (counts_are text c.requires.0 small is) at c.write_counts-next.ensures in (
      nodes_inside text c.requires.0 small is,
      rw (lines_are text c.requires.0 small is) (room_second line (lines_of text) (room text c.args.vocabulary (length c.args.output.now) c.requires.0 c.requires.1 c.requires.2 c.requires.3)),
    )

pub returns : goal.returns
unfolding index_listing
returns c =
    let text = c.args.text.now in
    let small : vocabulary_of text ≤ max_stream_vocabulary = omega (arith, c.requires.1, c.requires.2) in
    let is = built (goal.at.returns c).After-node_count-nodes in
    let line = rw (counts_are text c.requires.0 small is) at c.write_counts-next.ensures in
    let rest = rw (lines_are text c.requires.0 small is) at c.write_nodes.ensures in
    wrote_both line (lines_of text) (room text c.args.vocabulary (length c.args.output.now) c.requires.0 c.requires.1 c.requires.2 c.requires.3) rest
