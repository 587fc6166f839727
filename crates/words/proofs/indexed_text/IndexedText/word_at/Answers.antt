-- From each position that it passes, the walk reads the word at the place. Assumes nothing.
use Rattle.std.proofs.Common.{◌≡◌, ◌<◌, ◌≤◌, length, get_or, ℕ, List, sym, ap, ◌∙◌, arith}
use Rattle.dense.proofs.Numbers.{small}
use Rattle.tree.specs.Nodes.{rank_in}
use Rattle.tree.proofs.Numbers.{child_above, nodes_most}
use Rattle.index.specs.Lent.{slices_of}
use Rattle.words.specs.Texts.{text_of}
use Rattle.words.proofs.Parts.{checked_number, node_inside, node_from_lem}
use Rattle.words.proofs.Positions.{rank_below}
use Rattle.words.proofs.Walking.{Reads, reads_root, reads_closing, reads_going}
use Rattle.words.proofs.indexed_text.IndexedText.word_at.Goals as goal
use Rattle.words.proofs.indexed_text.IndexedText.word_at.Goals.{After-root_position-at, At-loop-at, After-child-node, After-loop-at}

-- the walk begins in the root, at the place
begins : (c : After-root_position-at) → let x = c.args.self.now in
    Reads x.index.s x.index.shape (slices_of x.index) c.args.place.0 0 c.root_position-at.result.0
begins c = rw c.root_position-at.ensures (reads_root c.args.self.now.ready.checked c.args.place.0 c.requires)

-- the node of the walk is there
here : (c : At-loop-at) → c.loop-at.node < length c.args.self.now.index.lengths.now
here c = node_inside c.args.self.now.ready.checked c.loop-at.node c.loop-at.at.0 c.loop-at.invariant.0.there

-- at a byte that leads on, the walk goes on in the child
goes : (c : After-child-node) → let x = c.args.self.now in
    Reads x.index.s x.index.shape (slices_of x.index) c.args.place.0 c.child-node.result c.count_in_node-below.result
goes c =
    let ready = c.args.self.now.ready in
    let l = c.loop-at in
    let h = node_inside ready.checked l.node l.at.0 l.invariant.0.there in
    rw (c.child-node.ensures, c.count_in_node-below.ensures, node_from_lem ready l.node h)
    (reads_going ready.checked c.args.place.0 l.node l.at.0 l.invariant.0 l.byte (sym l.invariant.1) (omega arith))

pub byte_at-byte-requires : goal.byte_at-byte-requires
byte_at-byte-requires c =
    let ready = c.args.self.now.ready in
    let r = begins (goal.at.byte_at-byte-requires c).After-root_position-at in
    let h = node_inside ready.checked 0 c.root_position-at.result.0 r.there in
    (h, rw (node_from_lem ready 0 h) r.there)

pub loop-at-init : goal.loop-at-init
loop-at-init c =
    let ready = c.args.self.now.ready in
    let at = c.root_position-at.result.0 in
    let r = begins (goal.at.loop-at-init c).After-root_position-at in
    (r, c.byte_at-byte.ensures ∙ ap (λ (x : List ℕ). get_or x at 0) (node_from_lem ready 0 (node_inside ready.checked 0 at r.there)))

pub count_in_node-below-requires : goal.count_in_node-below-requires
count_in_node-below-requires c =
    let l = c.loop-at in
    let h = here (goal.at.count_in_node-below-requires c).At-loop-at in
    (h, rw (node_from_lem c.args.self.now.ready l.node h) (omega (arith, l.invariant.0.there)))

pub child-node-requires : goal.child-node-requires
child-node-requires c =
    let checked = c.args.self.now.ready.checked in
    let index = c.args.self.now.index in
    (checked.closing, omega (arith, here (goal.at.child-node-requires c).At-loop-at, checked_number checked, nodes_most index.s checked.closing index.shape.vocabulary checked.limits.most_words))

pub byte_at-byte-requires-in-loop-at : goal.byte_at-byte-requires-in-loop-at
byte_at-byte-requires-in-loop-at c =
    let ready = c.args.self.now.ready in
    let r = goes (goal.at.byte_at-byte-requires-in-loop-at c).After-child-node in
    let h = node_inside ready.checked c.child-node.result c.count_in_node-below.result r.there in
    (h, rw (node_from_lem ready c.child-node.result h) r.there)

pub loop-at-smaller : goal.loop-at-smaller
loop-at-smaller c =
    let l = c.loop-at in
    let x = c.args.self.now in
    omega (arith, here (goal.at.loop-at-smaller c).At-loop-at, c.child-node.ensures, child_above x.index.s x.ready.checked.closing l.node l.byte)

pub loop-at-preserved : goal.loop-at-preserved
loop-at-preserved c =
    let ready = c.args.self.now.ready in
    let at = c.count_in_node-below.result in
    let r = goes (goal.at.loop-at-preserved c).After-child-node in
    let h = node_inside ready.checked c.child-node.result at r.there in
    (r, c.byte_at-byte-in-loop-at.ensures ∙ ap (λ (x : List ℕ). get_or x at 0) (node_from_lem ready c.child-node.result h))

-- the byte that closes the word names the rank
word : (c : After-loop-at) → get_or (text_of c.args.self.now) c.args.place.0 0 ≡ rank_in c.args.self.now.index.s c.loop-at.node c.loop-at.byte
word c =
    let l = c.loop-at in
    reads_closing c.args.self.now.ready.checked c.args.place.0 l.node l.at.0 l.invariant.0 l.byte (sym l.invariant.1) (omega arith)

-- which is a small number
few : (c : After-loop-at) → rank_in c.args.self.now.index.s c.loop-at.node c.loop-at.byte ≤ 16646655
few c =
    let x = c.args.self.now in
    let checked = x.ready.checked in
    omega (
      arith,
      word c,
      rank_below checked c.args.place.0 c.requires,
      checked.limits.most_words,
      (small x.index.s checked.closing.least checked.closing.most).all,
    )

pub overflow_mul-result : goal.overflow_mul-result
overflow_mul-result c = omega (arith, few (goal.at.overflow_mul-result c).After-loop-at)

pub overflow_add-result : goal.overflow_add-result
overflow_add-result c = omega (arith, few (goal.at.overflow_add-result c).After-loop-at)

pub overflow_cast-result : goal.overflow_cast-result
overflow_cast-result c = omega (arith, few (goal.at.overflow_cast-result c).After-loop-at)

pub returns : goal.returns
returns c = rw c.from-2.ensures (sym (word (goal.at.returns c).After-loop-at))
