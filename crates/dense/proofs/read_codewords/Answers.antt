-- `dense::read_codewords`: one byte that is passed closes the next word, or continues it.
use Rattle.std.proofs.Common.{◌+◌, ◌*◌, ◌%◌, ◌≤◌, ◌<◌, length, drop, get_or, arith}
use borrow.Author.Tests.{le-leb, lt-leb}
use Rattle.dense.specs.Code.{continuing}
use Rattle.dense.proofs.Numbers.{node_products}
use Rattle.dense.proofs.Reading.{open_most, passed_none, passed_all, place_room, passed_closing, passed_continuing}
use Rattle.dense.proofs.read_codewords.Goals as goal
use Rattle.dense.proofs.read_codewords.Goals.{After-from-byte, then-least-byte, else-least-byte}

-- the products with the node of the open codeword are small
products : (c : After-from-byte) → let s = c.args.s in let node = c.loop-byte.node in (s * node ≤ 16646400) × (continuing s * node ≤ 16646400)
products c =
    node_products c.args.s c.loop-byte.node c.requires.0.least c.requires.0.most (open_most c.args.s c.loop-byte.node (drop c.loop-byte.byte-index c.args.stream.now) c.loop-byte.invariant.inner)

-- there is room for the next word
room : (c : After-from-byte) → c.loop-byte.place < length c.args.text.now
room c =
    let loop = c.loop-byte in
    place_room c.args.s c.args.stream.now c.args.text.now c.requires.1 c.requires.2 loop.byte-index loop.node loop.place loop.text loop.invariant c.loop-byte-test.true

pub loop-byte-init : goal.loop-byte-init
loop-byte-init c = passed_none c.args.s c.args.stream.now c.args.text.now c.requires.1 c.requires.2

pub overflow_mul-text : goal.overflow_mul-text
overflow_mul-text c = omega (arith, (products (goal.at.overflow_mul-text c).After-from-byte).0)

pub offset_bounds-text-place : goal.offset_bounds-text-place
offset_bounds-text-place c = omega (arith, room (goal.at.offset_bounds-text-place c).After-from-byte)

pub bounds-text-place : goal.bounds-text-place
bounds-text-place c = omega (arith, room (goal.at.bounds-text-place c).After-from-byte, c.loop-byte.invariant.long)

pub overflow_add-place : goal.overflow_add-place
overflow_add-place c = omega (arith, room (goal.at.overflow_add-place c).After-from-byte)

pub loop-byte-preserved : goal.loop-byte-preserved
loop-byte-preserved c =
    let a = c.args in
    let loop = c.loop-byte in
    let h : loop.byte-index < length a.stream.now = c.loop-byte-test.true in
    let fits : get_or a.stream.now loop.byte-index 0 < 256 = omega (arith, c.type_inv.stream loop.byte-index) in
    let stored = a.s * loop.node + (c.from-byte.result + a.s) % 256 in
    elim c.if-least-byte.branch [
      | then-least-byte w ↦
          rw (w.node-is, w.place-is)
          (passed_closing a.s a.stream.now a.text.now c.requires.1 c.requires.2 loop.byte-index loop.node loop.place loop.text loop.invariant h
          (le-leb _ _ (omega arith)) stored (omega (arith, c.requires.0.most)))
      | else-least-byte w ↦
          rw w.place-is
          (passed_continuing a.s a.stream.now a.text.now c.requires.1 c.requires.2 loop.byte-index loop.node loop.place loop.text loop.invariant h
          (lt-leb _ _ (omega arith)) stored c.if-least-byte.node (omega (arith, c.requires.0.least)))
    ]

pub returns : goal.returns
returns c = let loop = c.loop-byte in
    passed_all c.args.s c.args.stream.now c.args.text.now c.requires.1 c.requires.2 loop.byte-index loop.node loop.place loop.text loop.invariant c.loop-byte-test.false
