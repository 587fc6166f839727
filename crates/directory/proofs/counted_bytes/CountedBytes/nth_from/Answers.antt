-- The first occurrence in the bytes read on is the one with j others before it. Assumes nothing.
use Rattle.std.proofs.Common.{◌≡◌, ℕ, ◌-◌, length, take, drop, sym, arith}
use Rattle.std.proofs.Math.ListN.{length-take, length-drop}
use Rattle.directory.proofs.Pieces.{nth_next}
use Rattle.directory.proofs.counted_bytes.CountedBytes.nth_from.Goals as goal

pub returns-then-ahead-stop : goal.returns-then-ahead-stop
returns-then-ahead-stop c =
    let a = c.args in
    let bytes = a.self.now.bytes.now in
    let n : ℕ = c.min-stop.result - a.from in
    let e = c.next_of-ahead.ensures in
    let size : length (take n (drop a.from bytes)) ≡ n =
    omega (arith, length-take n (drop a.from bytes), length-drop a.from bytes, c.min-stop.ensures) in
    rw e (sym (nth_next a.byte a.j a.from n bytes c.requires.0 c.requires.1 (omega (arith, e, c.if-ahead-stop.true))))
