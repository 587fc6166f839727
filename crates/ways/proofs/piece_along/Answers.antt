-- Each step finds the position of the place in its node, and in the root the piece with it. Assumes nothing.
use Rattle.std.proofs.Common.{◌≡◌, ◌+◌, ◌-◌, ℕ, suc, get_or, refl, ap, subst, ◌∙◌, arith}
use Rattle.base.specs.Lists.{nth}
use Rattle.words.specs.Texts.{text_of, bytes_of_node}
use Rattle.ways.specs.Asks.{Asks}
use Rattle.ways.specs.Ways.{step_of, steps_in}
use Rattle.ways.proofs.Ways.{Climbed, asks_most, root_start, first_asks, first_climbed, up_asks, up_climbed, climbed_root, track_past}
use Rattle.ways.proofs.piece_along.Goals as goal
use Rattle.ways.proofs.piece_along.Goals.{Start, After-next_in_node-low}

-- what the first step asks
first : (c : Start) → let a = c.args in Asks a.text.now a.way.first a.track.ordinal
first c = first_asks c.args.text.now c.args.rank c.requires.0 c.args.track.ordinal c.requires.3 c.requires.1.first

-- and what it finds
in-first : (c : After-next_in_node-low) → let a = c.args in Climbed a.text.now a.rank a.track.ordinal a.way.first.node c.next_in_node-low.result.at.0
in-first c =
    first_climbed c.args.text.now c.args.rank c.requires.0 c.args.track.ordinal c.requires.3 c.requires.1.first c.next_in_node-low.result.at.0 c.next_in_node-low.ensures

pub next_in_node-low-requires : goal.next_in_node-low-requires
next_in_node-low-requires c =
    let e = c.requires.1.first in
    (first (goal.at.next_in_node-low-requires c).Start, rw e.node_is c.requires.2.inside, rw (e.node_is, e.byte_is) c.requires.2.passed)

pub overflow_add-at : goal.overflow_add-at
overflow_add-at c = omega (arith, c.next_in_node-low.ensures, (asks_most c.args.text.now (first (goal.at.overflow_add-at c).Start)).0)

pub overflow_add-ordinal : goal.overflow_add-ordinal
overflow_add-ordinal c = omega (arith, (asks_most c.args.text.now (first (goal.at.overflow_add-ordinal c).Start)).1)

pub overflow_add-result : goal.overflow_add-result
overflow_add-result c = omega (arith, c.next_in_node-low.ensures, (asks_most c.args.text.now (first (goal.at.overflow_add-result c).Start)).0)

pub returns-then-way-eq1 : goal.returns-then-way-eq1
returns-then-way-eq1 c =
    let a = c.args in
    let n : 0 ≡ steps_in a.way - 1 = omega arith in
    let e = climbed_root a.text.now a.rank c.requires.0 a.track.ordinal c.requires.3
    (ap (λ (m : ℕ). (step_of a.way m).node) n ∙ c.requires.1.ends) (in-first (goal.at.returns-then-way-eq1 c).After-next_in_node-low) in
    (omega (arith, e), omega (arith, e), track_past c.requires.1.first (first (goal.at.returns-then-way-eq1 c).Start).has c.next_in_node-low.ensures _, refl)

pub loop-i-init : goal.loop-i-init
loop-i-init c = in-first (goal.at.loop-i-init c).After-next_in_node-low

pub nth_in_node-found-requires : goal.nth_in_node-found-requires
nth_in_node-found-requires c =
    let l = c.loop-i in
    up_asks c.args.text.now c.args.rank c.requires.0 c.args.track.ordinal c.requires.3 (c.requires.1.above l.i (omega arith)) l.invariant

pub loop-i-preserved : goal.loop-i-preserved
loop-i-preserved c =
    let a = c.args in
    let l = c.loop-i in
    let found = c.nth_in_node-found in
    let e : suc l.i ≡ l.i + 1 = omega arith in
    subst (λ (m : ℕ). Climbed a.text.now a.rank a.track.ordinal (step_of a.way m).node found.result.at.0) e
    (up_climbed a.text.now a.rank c.requires.0 a.track.ordinal c.requires.3 (c.requires.1.above l.i (omega arith)) l.invariant found.result.at.0 found.ensures)

pub piece_in_root-piece-requires : goal.piece_in_root-piece-requires
piece_in_root-piece-requires c =
    let a = c.args in
    let l = c.loop-i in
    let e : l.i ≡ c.min-last.result - 2 = omega arith in
    let n : suc l.i ≡ steps_in a.way - 1 = omega arith in
    subst (λ (m : ℕ). Asks a.text.now (step_of a.way (suc m)) l.position.0 × (get_or a.text.now.starts.now (step_of a.way (suc m)).node 0 ≡ 0)) e (
      up_asks a.text.now a.rank c.requires.0 a.track.ordinal c.requires.3 (c.requires.1.above l.i (omega arith)) l.invariant,
      root_start a.text.now.ready (step_of a.way (suc l.i)).node (ap (λ (m : ℕ). (step_of a.way m).node) n ∙ c.requires.1.ends),
    )

pub returns : goal.returns
returns c =
    let a = c.args in
    let l = c.loop-i in
    let y = step_of a.way (suc l.i) in
    let e : l.i ≡ c.min-last.result - 2 = omega arith in
    let n : suc l.i ≡ steps_in a.way - 1 = omega arith in
    let up = up_climbed a.text.now a.rank c.requires.0 a.track.ordinal c.requires.3 (c.requires.1.above l.i (omega arith)) l.invariant
    (nth y.byte l.position.0 (bytes_of_node a.text.now y.node)) refl in
    let at = climbed_root a.text.now a.rank c.requires.0 a.track.ordinal c.requires.3 (ap (λ (m : ℕ). (step_of a.way m).node) n ∙ c.requires.1.ends) up in
    let is = subst (λ (m : ℕ). nth (step_of a.way (suc m)).byte l.position.0 (bytes_of_node a.text.now (step_of a.way (suc m)).node) ≡ nth a.rank a.track.ordinal (text_of a.text.now)) e at in (
      omega (arith, c.piece_in_root-piece.ensures.0, is),
      omega (arith, c.piece_in_root-piece.ensures.1, is),
      track_past c.requires.1.first (first (goal.at.returns c).Start).has c.next_in_node-low.ensures _,
      refl,
    )
