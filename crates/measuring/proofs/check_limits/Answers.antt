-- Each refusal by the tests before it, the limits past all of them. Assumes nothing.
use Rattle.std.proofs.Common.{refl, arith}
use Rattle.std.proofs.lemmas.Result.{err_from_is_err_and}
use Rattle.base.specs.Answers.{accepted}
use Rattle.index.proofs.Limits.{tested_limits}
use Rattle.index.proofs.Refusals.{text_vocabulary, text_words_lem, text_blocks}
use Rattle.measuring.specs.Sizes.{measure_answer}
use Rattle.measuring.proofs.Passes.{refuses_by}
use Rattle.measuring.proofs.check_limits.Goals as goal

pub returns-in_err-check_vocabulary : goal.returns-in_err-check_vocabulary
unfolding measure_answer
returns-in_err-check_vocabulary c =
    let a = c.args in
    let p = err_from_is_err_and c.from_residual.result c.from_residual.ensures.1 in
    let e = c.in_err-check_vocabulary.ensures in
    rw (p.1, p.2, e.0) (refuses_by a.s a.shape a.text.now 1 0 (omega arith) refl (text_vocabulary a.s a.shape a.text.now (accepted 0) e.1))

pub returns-then-text-gt-MAX_WORDS : goal.returns-then-text-gt-MAX_WORDS
unfolding measure_answer
returns-then-text-gt-MAX_WORDS c =
    let a = c.args in
    rw c.into.ensures (refuses_by a.s a.shape a.text.now 2 0 (omega arith) refl (text_words_lem a.s a.shape a.text.now (accepted 0) c.in_ok-check_vocabulary.ensures c.if-text-gt-MAX_WORDS.true))

pub returns-in_err-check_blocks : goal.returns-in_err-check_blocks
unfolding measure_answer
returns-in_err-check_blocks c =
    let a = c.args in
    let p = err_from_is_err_and c.from_residual-in_err-check_blocks.result c.from_residual-in_err-check_blocks.ensures.1 in
    let e = c.in_err-check_blocks.ensures in
    rw (p.1, p.2, e.0) (refuses_by a.s a.shape a.text.now 3 0 (omega arith) refl (text_blocks a.s a.shape a.text.now (accepted 0) c.in_ok-check_vocabulary.ensures c.if-text-gt-MAX_WORDS.false e.1))

pub returns : goal.returns
returns c =
    record {
      refuses = λ n. absurd (n refl);
      accepts = λ _. refl;
      limits = λ _. tested_limits c.args.s c.args.shape c.in_ok-check_vocabulary.ensures c.in_ok-check_blocks.ensures;
      words = λ _. c.if-text-gt-MAX_WORDS.false;
    }
