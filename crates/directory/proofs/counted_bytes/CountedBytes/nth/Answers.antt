-- The search finds the block that holds the occurrence, and the scan its position in the block. Assumes nothing.
use Rattle.std.proofs.Common.{◌≡◌, ℕ, ◌+◌, ◌-◌, List, length, drop, ap, ◌∙◌, arith}
use Rattle.std.proofs.Math.ListN.{length-take, length-drop}
use Rattle.base.specs.Lists.{nth}
use Rattle.base.proofs.Counts.{nth_most}
use Rattle.block_scan.specs.declared.Scanned.{Scanned}
use Rattle.block_scan.specs.BlockScans.{scan_of, position_of}
use Rattle.block_scan.proofs.BlockScans.{scan_position}
use Rattle.directory.specs.Blocks.{held_part}
use Rattle.directory.proofs.counted_bytes.CountedBytes.nth.Goals as goal
use Rattle.directory.proofs.counted_bytes.CountedBytes.nth.Goals.{After-position_of}

-- the answer
found : (c : After-position_of) → let a = c.args in c.block_with-held.result.start + c.position_of.result ≡ nth a.byte a.j a.self.now.bytes.now
found c =
    let a = c.args in
    let bytes = a.self.now.bytes.now in
    let held = c.block_with-held.result in
    let w = c.block_with-held.ensures in
    let n : ℕ = held.stop - held.start in
    let part : List ℕ = held_part bytes held in
    let size : n ≡ length part = omega (arith, length-take n (drop held.start bytes), length-drop held.start bytes, w.inside) in
    let e : c.position_of.result ≡ nth a.byte held.rest part =
    c.position_of.ensures ∙ ap (λ (r : Scanned). position_of r.stands n) c.scan-scanned.ensures
    ∙ ap (λ (n : ℕ). position_of (scan_of a.byte held.rest part).stands n) size ∙ scan_position a.byte held.rest part in
    rw e w.position

pub overflow_add-at : goal.overflow_add-at
overflow_add-at c =
    let a = c.args in
    omega (arith, found (goal.at.overflow_add-at c).After-position_of, nth_most a.byte a.j a.self.now.bytes.now)

pub returns : goal.returns
returns c = found (goal.at.returns c).After-position_of
