-- In all bytes the occurrence has those too before it that stand before the node. Assumes nothing.
use Rattle.std.proofs.Common.{◌≡◌, ◌+◌, ◌∙◌, arith}
use Rattle.base.specs.Lists.{nth}
use Rattle.words.specs.Texts.{bytes_of_node}
use Rattle.words.proofs.Parts.{from_nth}
use Rattle.ways.proofs.Ways.{ordinal_most}
use Rattle.ways.proofs.nth_in_node.Goals as goal
use Rattle.ways.proofs.nth_in_node.Goals.{After-nth-found}

-- the occurrence is found as far from the node's start as it stands in the node
found : (c : After-nth-found) → let a = c.args in
    c.nth-found.result.at ≡ c.start_of-start.result + nth a.step.byte a.j (bytes_of_node a.text.now a.step.node)
found c =
    let a = c.args in
    c.nth-found.ensures
    ∙ rw (c.counted.ensures, c.start_of-start.ensures.0, c.requires.is.skipped_is) (from_nth a.text.now.index.bytes.now a.text.now.starts.now a.step.node a.step.byte a.j c.requires.has)

pub overflow_add-ordinal : goal.overflow_add-ordinal
overflow_add-ordinal c = omega (arith, ordinal_most c.args.text.now c.requires)

pub overflow_sub-at : goal.overflow_sub-at
overflow_sub-at c = omega (arith, found (goal.at.overflow_sub-at c).After-nth-found)

pub returns : goal.returns
returns c = omega (arith, found (goal.at.returns c).After-nth-found)
