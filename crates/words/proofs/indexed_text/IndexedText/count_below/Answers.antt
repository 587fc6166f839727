-- The closing byte is counted below the position of the place. Assumes nothing.
use Rattle.std.proofs.Common.{◌<◌, length, sym, ◌∙◌}
use Rattle.words.proofs.Parts.{node_from_lem}
use Rattle.words.proofs.Positions.{position_most, end_there, often_below}
use Rattle.words.proofs.indexed_text.IndexedText.count_below.Goals as goal
use Rattle.words.proofs.indexed_text.IndexedText.count_below.Goals.{After-node_of-node}

-- the node of the rank is there
here : (c : After-node_of-node) → c.node_of-node.result < length c.args.self.now.index.lengths.now
here c = rw c.node_of-node.ensures (end_there c.args.self.now.ready.checked c.args.rank c.requires.0)

pub position_in-at-requires : goal.position_in-at-requires
position_in-at-requires c = (here (goal.at.position_in-at-requires c).After-node_of-node, c.requires.1)

pub count_in_node-count-requires : goal.count_in_node-count-requires
count_in_node-count-requires c =
    let ready = c.args.self.now.ready in
    let k = c.node_of-node.result in
    let h = here (goal.at.count_in_node-count-requires c).After-node_of-node in
    (h, rw (node_from_lem ready k h, c.position_in-at.ensures) (position_most ready.checked k c.args.place.0))

pub returns : goal.returns
returns c =
    let ready = c.args.self.now.ready in
    let k = c.node_of-node.result in
    let h = here (goal.at.returns c).After-node_of-node in (
      record {
        inside = rw (← c.node_of-node.ensures, node_from_lem ready k h, c.position_in-at.ensures) (position_most ready.checked k c.args.place.0);
        counted = rw (← c.node_of-node.ensures, ← c.closing_byte-byte.ensures) (sym c.count_in_node-count.ensures);
      },
      c.count_in_node-count.ensures
          ∙ rw (node_from_lem ready k h, c.position_in-at.ensures, c.closing_byte-byte.ensures, c.node_of-node.ensures)
          (sym (often_below ready.checked c.args.rank c.requires.0 c.args.place.0)),
    )
