-- The position counts the digit of the node below the position in its parent, which has a smaller number. Assumes nothing.
use Rattle.std.proofs.Common.{◌≡◌, ◌<◌, length, ℕ, sym, ap, ◌∙◌, arith}
use Rattle.tree.specs.declared.Position.{Position}
use Rattle.tree.specs.Nodes.{position}
use Rattle.words.specs.Texts.{text_of}
use Rattle.words.proofs.Parts.{node_from_lem}
use Rattle.words.proofs.Positions.{position_most, at_root, parent_less, at_child}
use Rattle.words.proofs.indexed_text.IndexedText.+position_in.Goals as goal
use Rattle.words.proofs.indexed_text.IndexedText.+position_in.Goals.{After-position_in-at}

-- the parent is there
up : (t : ℕ) → (c : After-position_in-at t) → c.parent-up.result < length c.args.self.now.index.lengths.now
up t c = omega (arith, parent_less c.args.self.now.index.s c.args.node (omega arith), c.parent-up.ensures, c.requires.0)

pub returns-then-node-eq0 : goal.returns-then-node-eq0
returns-then-node-eq0 t c =
    let x = c.args.self.now in
    let z : c.args.node ≡ 0 = omega arith in
    ap (λ (p : Position). p.0) c.root_position.ensures
    ∙ sym (ap (λ (k : ℕ). position x.index.s k c.args.place.0 (text_of x)) z ∙ at_root x.ready.checked c.args.place.0 (omega (arith, c.requires.1)))

pub count_in_node-requires : goal.count_in_node-requires
count_in_node-requires t c =
    let ready = c.args.self.now.ready in
    let k = c.parent-up.result in
    let h = up t (goal.at.count_in_node-requires t c).After-position_in-at in
    (h, rw (node_from_lem ready k h, c.position_in-at.ensures) (position_most ready.checked k c.args.place.0))

pub returns : goal.returns
returns t c =
    let ready = c.args.self.now.ready in
    let h = up t (goal.at.returns t c).After-position_in-at in
    c.count_in_node.ensures
    ∙ rw (node_from_lem ready c.parent-up.result h, c.position_in-at.ensures, c.digit-byte.ensures, c.parent-up.ensures)
    (sym (at_child ready.checked c.args.node c.args.place.0 (omega arith)))
