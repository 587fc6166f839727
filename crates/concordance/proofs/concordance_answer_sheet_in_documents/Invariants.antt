-- `concordance::concordance_answer_sheet_in_documents`: the first i questions are answered, and their pairs stand in front of the slice.
use Rattle.std.proofs.Common.{◌≡◌}
use Rattle.index.specs.Arrays.{arrays, text_in}
use Rattle.questions.specs.Answering.{question_answer}
use Rattle.sheet_calls.proofs.Tested.{after}
use Rattle.concordance.proofs.concordance_answer_sheet_in_documents.Given as goal

abbrev pub invariant-loop-i : goal.invariant-loop-i
invariant-loop-i l =
    l.answers ≡ after (question_answer l.fn.shape.vocabulary (text_in 128 (arrays l.fn.lengths l.fn.bytes l.fn.superblocks l.fn.blocks)) l.fn.documents l.fn.words) l.fn.questions l.fn.answers l.i
