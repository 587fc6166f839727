-- `hashing::chain::find_from` meets its contract. Assumes nothing.
use Rattle.std.proofs.Common.{◌≡◌, ℕ, suc, ◌-◌, ◌<◌, get_or, refl, sym, ◌∙◌, ap, arith}
use Rattle.base.specs.Lists.{same}
use Rattle.hashing.proofs.HashTables.{chain_left_less, next_in_most, next_in_from, next_in_bucket, index_next, index_hit, index_none}
use Rattle.hashing.specs.HashTables.{spelled_at, next_in, index_from}
use Rattle.scanning.specs.Scans.{run_at, bucket_of}
use Rattle.hashing.proofs.chain.find_from.Goals as goal
use Rattle.hashing.proofs.chain.find_from.Goals.{After-same_word}

-- the word compared agrees with the one looked for exactly if they are spelled alike
compared : (c : After-same_word) → c.same_word.result
    ≡ same (run_at c.args.letters.now.table.now c.args.text.now c.args.at)
    (spelled_at c.args.letters.now.table.now c.args.list.now c.args.from (c.loop-word.word - 1))
compared c =
    c.same_word.ensures
    ∙ ap (same (run_at c.args.letters.now.table.now c.args.text.now c.args.at))
    (c.requires.1.start (c.loop-word.word - 1) (omega (arith, c.loop-word.invariant.0, c.loop-word-test.true))).1

-- the next word of its bucket
linked : (c : After-same_word) → get_or c.args.links.now (c.loop-word.word - 1) 0
    ≡ next_in c.args.letters.now.table.now c.args.list.now c.args.from c.args.count
    (bucket_of (run_at c.args.letters.now.table.now c.args.text.now c.args.at)) (suc (c.loop-word.word - 1))
linked c =
    let a = c.args in
    c.requires.2.link (c.loop-word.word - 1) (omega arith) (omega (arith, c.loop-word.invariant.0, c.loop-word-test.true))
    ∙ ap (λ (b : ℕ). next_in a.letters.now.table.now a.list.now a.from a.count b (suc (c.loop-word.word - 1))) (c.loop-word.invariant.2 c.loop-word-test.true)

pub same_word-requires : goal.same_word-requires
same_word-requires c = (c.requires.3, (c.requires.1.start (c.loop-word.word - 1) (omega (arith, c.loop-word.invariant.0, c.loop-word-test.true))).0)

pub returns-then-same_word : goal.returns-then-same_word
returns-then-same_word c =
    let a = c.args in
    let table = a.letters.now.table.now in
    let loop = c.loop-word in
    let w = run_at table a.text.now a.at in
    let e : loop.word ≡ suc (loop.word - 1) = omega (arith, c.loop-word-test.true) in
    sym (index_hit table a.list.now a.from w a.count (loop.word - 1) (omega (arith, loop.invariant.0, c.loop-word-test.true))
    (sym (compared (goal.at.returns-then-same_word c).After-same_word) ∙ c.if-same_word.true))
    ∙ ap (index_from table a.list.now a.from a.count w) (sym e) ∙ loop.invariant.1

pub loop-word-smaller : goal.loop-word-smaller
loop-word-smaller c =
    let a = c.args in
    let table = a.letters.now.table.now in
    let loop = c.loop-word in
    let w = run_at table a.text.now a.at in
    let l = linked (goal.at.loop-word-smaller c).After-same_word in
    chain_left_less a.count loop.word (get_or a.links.now (loop.word - 1) 0) c.loop-word-test.true loop.invariant.0
    (omega (arith, l, next_in_most table a.list.now a.from a.count (bucket_of w) (suc (loop.word - 1)) (omega (arith, c.loop-word-test.true, loop.invariant.0))))
    (λ i e. omega (arith, next_in_from table a.list.now a.from a.count (bucket_of w) (suc (loop.word - 1)) i (sym l ∙ e)))

pub loop-word-preserved : goal.loop-word-preserved
loop-word-preserved c =
    let a = c.args in
    let table = a.letters.now.table.now in
    let list = a.list.now in
    let loop = c.loop-word in
    let w = run_at table a.text.now a.at in
    let e : loop.word ≡ suc (loop.word - 1) = omega (arith, c.loop-word-test.true) in
    let h : loop.word - 1 < a.count = omega (arith, loop.invariant.0) in
    let l = linked (goal.at.loop-word-preserved c).After-same_word in (
      omega (arith, l, next_in_most table list a.from a.count (bucket_of w) (suc (loop.word - 1)) (omega arith)),
      ap (index_from table list a.from a.count w) l
          ∙ index_next table list a.from w (bucket_of w) a.count (loop.word - 1) refl h (sym (compared (goal.at.loop-word-preserved c).After-same_word) ∙ c.if-same_word.false)
          ∙ ap (index_from table list a.from a.count w) (sym e) ∙ loop.invariant.1,
      λ (n : 0 < get_or a.links.now (loop.word - 1) 0).
          next_in_bucket table list a.from a.count (bucket_of w) (suc (loop.word - 1)) (get_or a.links.now (loop.word - 1) 0 - 1) (omega (arith, l, n)),
    )

pub returns : goal.returns
returns c =
    let a = c.args in
    let w = run_at a.letters.now.table.now a.text.now a.at in
    let e : c.loop-word.word ≡ 0 = omega arith in
    sym (index_none a.letters.now.table.now a.list.now a.from w a.count)
    ∙ ap (index_from a.letters.now.table.now a.list.now a.from a.count w) (sym e) ∙ c.loop-word.invariant.1
