-- What a call answers that hands on the refusal of another. Assumes nothing.
use Rattle.std.proofs.Common.{◌≡◌, sym, ap, subst, ◌∙◌, ℕ, arith}
use Rattle.std.specs.Prelude.{Result, Ok, Err, ⊤, IsErrAnd, MatchResult}
use Rattle.base.specs.declared.Answer.{Answer}
use Rattle.base.specs.declared.refusal.Refusal.{Refusal}
use Rattle.base.specs.declared.refusal.Refusal.TheVariants.{Vocabulary, Words, Blocks, TextRank, ShortSlice, Index, Kind, Phrase, AskedRank, Offset, Place, Page, WordList, Unlisted, Stream, Sizes, ListMaking, Table, Documents}
use Rattle.base.specs.declared.refusal.Refused.{Refused}
use Rattle.base.specs.Answers.{accepted, refused, refused_at}
use Rattle.base.specs.Outcomes.{number_of, refused_by, answer_of, test_answer}

-- a value's call that is refused by a test
pub answer_from_refusal : (r : Result ℕ Refused) (x : Refusal) → IsErrAnd r (λ e. e ≡ refused_by x) → answer_of r ≡ refused (number_of x)
answer_from_refusal (Ok v) x h = absurd h
answer_from_refusal (Err e) x h = ap (λ (y : Refused). refused_at (number_of y.refusal) y.at) h

-- a test's call that is
pub test_from_refusal : (r : Result ⊤ Refused) (x : Refusal) → IsErrAnd r (λ e. e ≡ refused_by x) → test_answer r ≡ refused (number_of x)
test_from_refusal (Ok v) x h = absurd h
test_from_refusal (Err e) x h = ap (λ (y : Refused). refused_at (number_of y.refusal) y.at) h

-- a value's call that is refused as another is
pub answer_from_refused : (r : Result ℕ Refused) (x : Refused) → IsErrAnd r (λ e. e ≡ x) → answer_of r ≡ refused_at (number_of x.refusal) x.at
answer_from_refused (Ok v) x h = absurd h
answer_from_refused (Err e) x h = ap (λ (y : Refused). refused_at (number_of y.refusal) y.at) h

-- no refusal has the number 0
pub refusal_some : (x : Refusal) → number_of x ≡ 0 → ⊥
refusal_some Vocabulary h = absurd (omega arith)
refusal_some Words h = absurd (omega arith)
refusal_some Blocks h = absurd (omega arith)
refusal_some TextRank h = absurd (omega arith)
refusal_some ShortSlice h = absurd (omega arith)
refusal_some Index h = absurd (omega arith)
refusal_some Kind h = absurd (omega arith)
refusal_some Phrase h = absurd (omega arith)
refusal_some AskedRank h = absurd (omega arith)
refusal_some Offset h = absurd (omega arith)
refusal_some Place h = absurd (omega arith)
refusal_some Page h = absurd (omega arith)
refusal_some WordList h = absurd (omega arith)
refusal_some Unlisted h = absurd (omega arith)
refusal_some Stream h = absurd (omega arith)
refusal_some Sizes h = absurd (omega arith)
refusal_some ListMaking h = absurd (omega arith)
refusal_some Table h = absurd (omega arith)
refusal_some Documents h = absurd (omega arith)

-- a test's call that is refused as another is
pub test_from_refused : (r : Result ⊤ Refused) (x : Refused) → IsErrAnd r (λ e. e ≡ x) → test_answer r ≡ refused_at (number_of x.refusal) x.at
test_from_refused (Ok v) x h = absurd h
test_from_refused (Err e) x h = ap (λ (y : Refused). refused_at (number_of y.refusal) y.at) h

-- what a test that refuses answers, whose number is not 0
pub tested_err : (r : Result ⊤ Refused) (x : Refused) (a : Answer) → r ≡ Err x → test_answer r ≡ a → (a.refusal ≡ 0 → ⊥) × (refused_at (number_of x.refusal) x.at ≡ a)
tested_err r x a was is =
    let e : refused_at (number_of x.refusal) x.at ≡ a = ap test_answer (sym was) ∙ is in
    (λ z. refusal_some x.refusal (ap (λ (y : Answer). y.refusal) e ∙ z), e)

-- and what one that does not answers
pub tested_ok : (r : Result ⊤ Refused) (v : ⊤) (a : Answer) → r ≡ Ok v → test_answer r ≡ a → a ≡ accepted 0
tested_ok r v a was is = sym is ∙ ap test_answer was

-- a call that hands an error on gives what is said of that error
pub match_err : {A E : Type 0} (P : A → Type 0) (Q : E → Type 0) (r : Result A E) (x : E) → IsErrAnd r (λ e. e ≡ x) → Q x → MatchResult r P Q
match_err P Q (Ok v) x h q = absurd h
match_err P Q (Err e) x h q = subst Q (sym h) q
