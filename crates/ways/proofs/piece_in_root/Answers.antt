-- The root is the front of the bytes, where the same byte stands. Assumes nothing.
use Rattle.std.proofs.Common.{◌≡◌, ◌<◌, arith}
use Rattle.base.specs.Lists.{count_of, nth}
use Rattle.base.proofs.Counts.{nth_found}
use Rattle.words.specs.Texts.{bytes_of_node}
use Rattle.words.proofs.Parts.{node_counted, checked_bytes}
use Rattle.ways.proofs.Ways.{root_nth, from_often}
use Rattle.ways.proofs.piece_in_root.Goals as goal
use Rattle.ways.proofs.piece_in_root.Goals.{Start}

-- all bytes have so many of the byte too
has : (c : Start) → c.args.j < count_of c.args.step.byte c.args.text.now.index.bytes.now
has c =
    let a = c.args in
    let text = a.text.now in
    omega (arith, from_often text.index.bytes.now text.starts.now a.step.node a.step.byte (node_counted text.ready a.step.node c.requires.0.there).inside, c.requires.0.has)

-- and the same one
same : (c : Start) → let a = c.args in
    nth a.step.byte a.j a.text.now.index.bytes.now ≡ nth a.step.byte a.j (bytes_of_node a.text.now a.step.node)
same c =
    let a = c.args in
    root_nth a.text.now.index.bytes.now a.text.now.starts.now a.step.node a.step.byte a.j c.requires.1 c.requires.0.has

pub overflow_add-result : goal.overflow_add-result
overflow_add-result c =
    let a = c.args in
    let found = rw c.counted-counted.ensures at c.nth-found.ensures in
    omega (arith, found, (nth_found a.step.byte a.j a.text.now.index.bytes.now (has (goal.at.overflow_add-result c).Start)).inside, checked_bytes a.text.now.ready.checked)

pub returns-then-exact : goal.returns-then-exact
returns-then-exact c =
    let found = rw c.counted-counted.ensures at c.nth-found.ensures in
    let e = same (goal.at.returns-then-exact c).Start in
    (omega (arith, found, e), omega (arith, found, e))

pub piece_of-requires : goal.piece_of-requires
piece_of-requires c = rw c.counted-counted.ensures (has (goal.at.piece_of-requires c).Start)

pub returns : goal.returns
returns c =
    let found = rw c.counted-counted.ensures at c.piece_of.ensures in
    let e = same (goal.at.returns c).Start in
    (omega (arith, found.0, e), omega (arith, found.1, e))
