-- `list_writing::lists::write_list` meets its contract. Assumes nothing.
use Rattle.std.proofs.Common.{◌+◌, ◌<◌, List, ℕ, length, sym, ◌∙◌, ap, arith}
use Rattle.std.proofs.Math.Seq.{take_all}
use Rattle.base.proofs.Fronts.{front_none}
use Rattle.base.specs.Answers.{front}
use Rattle.list_calls.proofs.Lists.{list_none, made_list_lem, bytes_next, bytes_most, front_word}
use Rattle.list_calls.specs.Making.{list_of, made_words}
use Rattle.list_writing.proofs.lists.write_list.Goals as goal

pub loop-rank-init : goal.loop-rank-init
loop-rank-init c = (sym (ap length list_none), sym (ap (λ (xs : List ℕ). front xs c.args.list.now) list_none ∙ front_none c.args.list.now))

pub write_spelling-at-requires : goal.write_spelling-at-requires
write_spelling-at-requires c =
    let a = c.args in
    let W = made_words a.letters.now.table.now a.text.now in
    let loop = c.loop-rank in
    let h : loop.rank < length W = omega (arith, c.loop-rank-test.true, c.requires.1) in
    let word = c.requires.0.word loop.rank h in (
      word.0,
      omega (
        arith,
        loop.invariant.0,
        loop.auto.list,
        ap length word.1,
        bytes_next W loop.rank h,
        bytes_most W (loop.rank + 1),
        ap length (made_list_lem a.letters.now.table.now a.text.now),
        c.requires.2,
      ),
    )

pub loop-rank-preserved : goal.loop-rank-preserved
loop-rank-preserved c =
    let a = c.args in
    let W = made_words a.letters.now.table.now a.text.now in
    let loop = c.loop-rank in
    let done = c.write_spelling-at in
    let h : loop.rank < length W = omega (arith, c.loop-rank-test.true, c.requires.1) in
    let word = (c.requires.0.word loop.rank h).1 in (
      omega (arith, done.ensures.0, loop.invariant.0, ap length word, bytes_next W loop.rank h),
      done.ensures.1 ∙ front_word W loop.rank loop.at _ loop.list c.args.list.now h loop.invariant.0 word loop.invariant.1,
    )

pub returns : goal.returns
returns c =
    let a = c.args in
    let W = made_words a.letters.now.table.now a.text.now in
    c.loop-rank.invariant.1
    ∙ ap (λ (ws : List (List ℕ)). front (list_of ws) c.args.list.now) (take_all c.loop-rank.rank W (omega (arith, c.loop-rank-test.false, c.requires.1)))
    ∙ sym (ap (λ (xs : List ℕ). front xs c.args.list.now) (made_list_lem a.letters.now.table.now a.text.now))
