-- `list_writing::lists::look_up` meets its contract. Assumes nothing.
use Rattle.std.proofs.Common.{◌≡◌, ℕ, ◌<◌, map, length, get_or, take, sym, ◌∙◌, ap, arith}
use Rattle.std.proofs.Math.ListN.{length-map}
use Rattle.std.proofs.Math.Seq.{take_all, length-take-le, get_or-take}
use Rattle.base.proofs.Fronts.{front_none, front_next}
use Rattle.base.proofs.Lists.{get_d_map}
use Rattle.list_writing.proofs.lists.look_up.Goals as goal

pub loop-i-init : goal.loop-i-init
loop-i-init c = sym (front_none _)

pub loop-i-preserved : goal.loop-i-preserved
loop-i-preserved c =
    let a = c.args in
    let loop = c.loop-i in
    let places = take a.size a.places.now in
    let xs = map (λ (p : ℕ). get_or a.values.now p 0) places in
    let h : loop.i < a.size = c.loop-i-test.true in
    let l : length places ≡ a.size = length-take-le a.size a.places.now c.requires.0 in
    let m : length xs ≡ length places = length-map places (λ (p : ℕ). get_or a.values.now p 0) in
    let v : get_or xs loop.i 0 ≡ get_or a.values.now (get_or a.places.now loop.i 0) 0 =
    get_d_map (λ (p : ℕ). get_or a.values.now p 0) places loop.i 0 0 (omega arith)
    ∙ ap (λ (p : ℕ). get_or a.values.now p 0) (get_or-take a.size a.places.now loop.i 0 h) in
    rw (← v, loop.invariant) (front_next xs c.args.ranks.now loop.i (omega arith) (omega (arith, c.requires.2)))

pub returns : goal.returns
returns c =
    let a = c.args in
    let places = take a.size a.places.now in
    let xs = map (λ (p : ℕ). get_or a.values.now p 0) places in
    let l : length places ≡ a.size = length-take-le a.size a.places.now c.requires.0 in
    let m : length xs ≡ length places = length-map places (λ (p : ℕ). get_or a.values.now p 0) in
    rw (take_all c.loop-i.i xs (omega (arith, c.loop-i-test.false))) at c.loop-i.invariant
