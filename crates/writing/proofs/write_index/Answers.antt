-- Nodes and counters go to the fronts of the slices. Assumes nothing.
use Rattle.std.proofs.Common.{sym}
use Rattle.std.proofs.Math.Seq.{length-take-le}
use Rattle.writing.proofs.Builds.{lengths_room, bytes_room, nodes_fit, first_room, first_size, counters_fit, index_written}
use Rattle.writing.proofs.write_index.Goals as goal

pub slice_bounds-write_nodes-end : goal.slice_bounds-write_nodes-end
slice_bounds-write_nodes-end c = lengths_room c.requires.0 _ _ c.node_count-nodes.ensures c.requires.1

pub slice_bounds-write_nodes-end-2 : goal.slice_bounds-write_nodes-end-2
slice_bounds-write_nodes-end-2 c = sym (length-take-le _ _ (lengths_room c.requires.0 _ _ c.node_count-nodes.ensures c.requires.1))

pub slice_bounds-write_nodes-end-3 : goal.slice_bounds-write_nodes-end-3
slice_bounds-write_nodes-end-3 c = bytes_room c.requires.0 _ _ c.node_count-nodes.ensures c.requires.1

pub slice_bounds-write_nodes-end-4 : goal.slice_bounds-write_nodes-end-4
slice_bounds-write_nodes-end-4 c = sym (length-take-le _ _ (bytes_room c.requires.0 _ _ c.node_count-nodes.ensures c.requires.1))

pub write_nodes-requires : goal.write_nodes-requires
write_nodes-requires c = nodes_fit c.requires.0 _ _ c.node_count-nodes.ensures c.requires.1

pub slice_bounds-fill-end : goal.slice_bounds-fill-end
slice_bounds-fill-end c = first_room c.requires.0 _ _ c.node_count-nodes.ensures c.requires.1 _ _ c.write_nodes.ensures.0 c.write_nodes.ensures.1

pub slice_bounds-fill-end-2 : goal.slice_bounds-fill-end-2
slice_bounds-fill-end-2 c = first_size c.requires.0 _ _ c.node_count-nodes.ensures c.requires.1 _ _ c.write_nodes.ensures.0 c.write_nodes.ensures.1

pub fill-requires : goal.fill-requires
fill-requires c = counters_fit c.requires.0 _ _ c.node_count-nodes.ensures c.requires.1 _ _ c.write_nodes.ensures.0 c.write_nodes.ensures.1

pub returns : goal.returns
returns c =
    index_written c.requires.0 _ _ c.node_count-nodes.ensures c.requires.1 _ _ c.write_nodes.ensures.0 c.write_nodes.ensures.1 _ _ c.fill.ensures.0 c.fill.ensures.1
