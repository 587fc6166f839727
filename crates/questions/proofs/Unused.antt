-- Fields that a kind does not use never matter, and the mirror law of the calls follows from that of the numbers. Assumes nothing.
use Prim.Native.Nat.{ℕ, zero, suc, ◌≤◌}
use mathlib.Core.Path.{◌≡◌, refl, sym, ap, ◌∙◌}
use mathlib.Core.Bool.{Bool, true, false, ◌&&◌, false≢true}
use native.Mathlib.Omega.{arith}
use borrow.Author.Tests.{ne_eqb}
use lib.Dec.{leb}
use lib.IntN.{ℤ, pos, negsuc, neg_ℤ, nat_abs}
use Rattle.base.specs.Answers.{first_of}
use Rattle.base.specs.Texts.{outside}
use Rattle.base.proofs.Tests.{inside_range}
use Rattle.index.specs.Arrays.{text_in}
use Rattle.documents.proofs.Inside.{mirror_in}
use Rattle.questions.specs.Answering.{reading_cases, ask_answer_in, question_answer, neighbours_answer, rank_asked_case}
use Rattle.questions.specs.Laws.{FieldsUnused, MirrorAsked}
use Rattle.questions.proofs.Answered.{kind_none}

pub fields_unused : FieldsUnused
unfolding ask_answer_in question_answer
fields_unused s shape a documents words q = record {
  kind1 = λ e. rw e;
  kind2 = λ e. rw e;
  kind3 = λ e. rw e;
  kind4 = λ e. rw e;
  kind5 = λ e. rw e;
  other_kind = λ o. ap (first_of (reading_cases s shape a documents)) (kind_none shape.vocabulary (text_in s a) documents words q (none o 1 (omega arith) (omega arith)) (none o 2 (omega arith) (omega arith)) (none o 3 (omega arith) (omega arith)) (none o 4 (omega arith) (omega arith)) (none o 5 (omega arith) (omega arith)));
  lent_words = λ other h. rw (ne_eqb q.kind 5 h);
}
  where
    -- a kind outside 1 to 5 is none of them
    none : outside 1 5 q.kind ≡ true → (k : ℕ) → 1 ≤ k → k ≤ 5 → q.kind ≡ k → ⊥
    none o k l h e = false≢true (sym (inside_range 1 5 q.kind (omega arith) (omega arith)) ∙ o)

-- two tests in either order
and_turned : (p q : Bool) → (p && (q && true)) ≡ (q && (p && true))
and_turned true true = refl
and_turned true false = refl
and_turned false true = refl
and_turned false false = refl

-- a negated offset is as far
abs_negated : (d : ℤ) → nat_abs (neg_ℤ d) ≡ nat_abs d
abs_negated (pos zero) = refl
abs_negated (pos (suc n)) = refl
abs_negated (negsuc n) = refl

pub mirror_asked : MirrorAsked
unfolding ask_answer_in question_answer neighbours_answer rank_asked_case
mirror_asked s shape a documents words w v d = rw (mirror_in documents _ w v d, abs_negated d, and_turned (leb w shape.vocabulary) (leb v shape.vocabulary))
