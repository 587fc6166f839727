-- From the position in the node where the codeword ends each step finds the one in its parent. Assumes nothing.
use Rattle.std.proofs.Common.{◌≡◌, ◌+◌, ◌-◌, ℕ, suc, ap, subst, ◌∙◌, arith}
use Rattle.tree.specs.declared.Place.{Place}
use Rattle.ways.specs.Ways.{step_of, steps_in}
use Rattle.ways.proofs.Ways.{Climbed, first_asks, first_climbed, up_asks, up_climbed, climbed_root}
use Rattle.ways.proofs.place_along.Goals as goal

pub nth_in_node-low-requires : goal.nth_in_node-low-requires
nth_in_node-low-requires c = first_asks c.args.text.now c.args.rank c.requires.0 c.args.j c.requires.2 c.requires.1.first

pub loop-i-init : goal.loop-i-init
loop-i-init c = first_climbed c.args.text.now c.args.rank c.requires.0 c.args.j c.requires.2 c.requires.1.first c.nth_in_node-low.result.at.0 c.nth_in_node-low.ensures

pub nth_in_node-found-requires : goal.nth_in_node-found-requires
nth_in_node-found-requires c =
    let l = c.loop-i in
    up_asks c.args.text.now c.args.rank c.requires.0 c.args.j c.requires.2 (c.requires.1.above l.i (omega arith)) l.invariant

pub loop-i-preserved : goal.loop-i-preserved
loop-i-preserved c =
    let a = c.args in
    let l = c.loop-i in
    let found = c.nth_in_node-found in
    let e : suc l.i ≡ l.i + 1 = omega arith in
    subst (λ (m : ℕ). Climbed a.text.now a.rank a.j (step_of a.way m).node found.result.at.0) e
    (up_climbed a.text.now a.rank c.requires.0 a.j c.requires.2 (c.requires.1.above l.i (omega arith)) l.invariant found.result.at.0 found.ensures)

pub returns : goal.returns
returns c =
    let a = c.args in
    let l = c.loop-i in
    let e : l.i ≡ steps_in a.way - 1 = omega arith in
    ap (λ (x : Place). x.0) c.root_place.ensures
    ∙ climbed_root a.text.now a.rank c.requires.0 a.j c.requires.2 (ap (λ (m : ℕ). (step_of a.way m).node) e ∙ c.requires.1.ends) l.invariant
