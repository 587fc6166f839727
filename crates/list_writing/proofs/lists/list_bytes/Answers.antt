-- `list_writing::lists::list_bytes` meets its contract. Assumes nothing.
use Rattle.std.proofs.Common.{◌≡◌, ◌+◌, ◌-◌, ◌≤◌, ◌<◌, List, ℕ, length, get_or, take, sym, ◌∙◌, ap, arith}
use Rattle.std.proofs.Math.Seq.{take_all}
use Rattle.list_calls.proofs.Fits.{made_fits}
use Rattle.list_calls.proofs.Lists.{list_none, made_list_lem, bytes_next, bytes_most}
use Rattle.list_calls.specs.Making.{list_of, made_words}
use Rattle.list_writing.proofs.lists.list_bytes.Goals as goal
use Rattle.list_writing.proofs.lists.list_bytes.Goals.{After-scan_word-scan}

-- the bytes with those of the word at the rank
longer : (c : After-scan_word-scan)
    → c.loop-rank.bytes + (c.scan_word-scan.result.end - get_or c.args.starts.now (get_or c.args.order.now c.loop-rank.rank 0) 0 + 1)
    ≡ length (list_of (take (c.loop-rank.rank + 1) (made_words c.args.letters.now.table.now c.args.text.now)))
longer c =
    let a = c.args in
    let W = made_words a.letters.now.table.now a.text.now in
    let rank = c.loop-rank.rank in
    let h : rank < length W = omega (arith, c.loop-rank-test.true, c.requires.1) in
    omega (arith, c.loop-rank.invariant, c.scan_word-scan.ensures.0, bytes_next W rank h, ap length (c.requires.0.word rank h).1)

-- and these are not too many
few : (c : After-scan_word-scan)
    → c.loop-rank.bytes + (c.scan_word-scan.result.end - get_or c.args.starts.now (get_or c.args.order.now c.loop-rank.rank 0) 0 + 1) ≤ 65537
few c =
    let a = c.args in
    let table = a.letters.now.table.now in
    omega (
      arith,
      longer c,
      bytes_most (made_words table a.text.now) (c.loop-rank.rank + 1),
      ap length (made_list_lem table a.text.now),
      made_fits table a.text.now,
      c.requires.2,
    )

pub loop-rank-init : goal.loop-rank-init
loop-rank-init c = sym (ap length list_none)

pub overflow_add-bytes : goal.overflow_add-bytes
overflow_add-bytes c = omega (arith, few (goal.at.overflow_add-bytes c).After-scan_word-scan)

pub overflow_add-bytes-in-loop-rank : goal.overflow_add-bytes-in-loop-rank
overflow_add-bytes-in-loop-rank c = omega (arith, few (goal.at.overflow_add-bytes-in-loop-rank c).After-scan_word-scan)

pub loop-rank-preserved : goal.loop-rank-preserved
loop-rank-preserved c = longer (goal.at.loop-rank-preserved c).After-scan_word-scan

pub returns : goal.returns
returns c =
    let a = c.args in
    let W = made_words a.letters.now.table.now a.text.now in
    c.loop-rank.invariant ∙ ap (λ (ws : List (List ℕ)). length (list_of ws)) (take_all c.loop-rank.rank W (omega (arith, c.loop-rank-test.false, c.requires.1)))
    ∙ sym (ap length (made_list_lem a.letters.now.table.now a.text.now))
