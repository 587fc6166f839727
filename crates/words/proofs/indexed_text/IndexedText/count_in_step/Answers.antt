-- What stands in all bytes below the position is what stands before the node and what stands in the node below the position. Assumes nothing.
use Rattle.std.proofs.Common.{◌≡◌, ◌+◌, take, arith}
use Rattle.base.specs.Lists.{count_of}
use Rattle.words.specs.Texts.{bytes_of_node}
use Rattle.words.proofs.Parts.{from_count}
use Rattle.words.proofs.indexed_text.IndexedText.count_in_step.Goals as goal
use Rattle.words.proofs.indexed_text.IndexedText.count_in_step.Goals.{After-count_below-below}

both : (c : After-count_below-below) → let a = c.args in
    c.count_below-below.result ≡ a.step.skipped + count_of a.step.byte (take a.at.0 (bytes_of_node a.self.now a.step.node))
both c =
    let a = c.args in
    rw (c.count_below-below.ensures, c.start_of-start.ensures.0, c.requires.1.skipped_is, c.counted.ensures)
    (from_count a.self.now.index.bytes.now a.self.now.starts.now a.step.node a.step.byte a.at.0 c.requires.2)

pub overflow_sub-result : goal.overflow_sub-result
overflow_sub-result c = omega (arith, both (goal.at.overflow_sub-result c).After-count_below-below)

pub returns : goal.returns
returns c = omega (arith, both (goal.at.returns c).After-count_below-below)
