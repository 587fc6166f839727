-- In all bytes as many stand before the position as before the node and, below it, in the node. Assumes nothing.
use Rattle.std.proofs.Common.{◌≡◌, ◌+◌, ◌≤◌, ◌∙◌, length, arith}
use Rattle.base.specs.Lists.{nth}
use Rattle.words.specs.Texts.{bytes_of_node}
use Rattle.words.proofs.Parts.{checked_bytes, from_end, from_count, from_nth}
use Rattle.ways.proofs.Ways.{ordinal_most}
use Rattle.ways.proofs.next_in_node.Goals as goal
use Rattle.ways.proofs.next_in_node.Goals.{After-start_of-start, After-nth_from-found}

-- the position is inside all bytes, or their end
inside : (c : After-start_of-start) → c.start_of-start.result + c.args.at.0 ≤ length c.args.text.now.index.bytes.now
inside c =
    let a = c.args in
    let text = a.text.now in
    let e = c.start_of-start.ensures in
    omega (arith, e.0, from_end text.index.bytes.now text.starts.now a.step.node a.at.0 (omega (arith, e.0, e.1)) c.requires.1)

-- the occurrence is found as far from the node's start as it stands in the node
found : (c : After-nth_from-found) → let a = c.args in
    c.nth_from-found.result.at ≡ c.start_of-start.result + nth a.step.byte a.j (bytes_of_node a.text.now a.step.node)
found c =
    let a = c.args in
    c.nth_from-found.ensures
    ∙ rw (c.counted.ensures, c.start_of-start.ensures.0, c.requires.0.is.skipped_is) (from_nth a.text.now.index.bytes.now a.text.now.starts.now a.step.node a.step.byte a.j c.requires.0.has)

pub overflow_add-ordinal : goal.overflow_add-ordinal
overflow_add-ordinal c = omega (arith, ordinal_most c.args.text.now c.requires.0)

pub overflow_add-from : goal.overflow_add-from
overflow_add-from c = omega (arith, inside (goal.at.overflow_add-from c).After-start_of-start, checked_bytes c.args.text.now.ready.checked)

pub nth_from-found-requires : goal.nth_from-found-requires
nth_from-found-requires c =
    let a = c.args in
    let text = a.text.now in (
      rw c.counted.ensures (inside (goal.at.nth_from-found-requires c).After-start_of-start),
      rw (c.counted.ensures, c.start_of-start.ensures.0)
          (omega (arith, from_count text.index.bytes.now text.starts.now a.step.node a.step.byte a.at.0 c.requires.1, c.requires.0.is.skipped_is, c.requires.2)),
    )

pub overflow_sub-position : goal.overflow_sub-position
overflow_sub-position c = omega (arith, found (goal.at.overflow_sub-position c).After-nth_from-found)

pub returns : goal.returns
returns c = omega (arith, found (goal.at.returns c).After-nth_from-found)
