-- The answers of a sheet equal the single ones. Assumes nothing.
use Prim.Native.Nat.{ℕ, suc, ◌+◌, ◌*◌, ◌≤◌}
use mathlib.Core.Path.{◌≡◌, refl, sym, ap, ◌∙◌, subst}
use mathlib.Core.Bool.{Bool, true, false, cond}
use mathlib.Core.List.{List, [], ◌∷◌, ◌++◌, map, map-append}
use native.Mathlib.Omega.{arith}
use borrow.Author.Tests.{eqb-true}
use lib.ListN.{length, get_or, drop, length-map}
use Rattle.base.specs.declared.Answer.{Answer}
use Rattle.base.specs.Answers.{accepted, is_accepted, front, filled}
use Rattle.base.proofs.Fronts.{front_is, front_none}
use Rattle.index.specs.declared.Shape.{Shape}
use Rattle.index.specs.Arrays.{Arrays, text_in}
use Rattle.index.specs.Entries.{check_answer}
use Rattle.documents.specs.Documents.{are_starts}
use Rattle.questions.specs.declared.Question.{Question}
use Rattle.questions.specs.Answering.{question_answer, ask_answer_in}
use Rattle.questions.proofs.Read.{ask_in_passed}
use Rattle.sheet_calls.specs.Sheets.{pairs_of, sheet_answer, sheet_exit, HasPair, SheetsEqualSingles}
use Rattle.sheet_calls.proofs.Values.{has_pair}
use Rattle.sheet_calls.proofs.Tested.{sheet_clear, sheet_accepted, sheet_filled, sheet_untouched}

-- the pair of an answer stands at twice the number of those before it, whatever stands after it
pair_at_lem : (rs : List Answer) (r : Answer) (us : List Answer) (rest : List ℕ)
    → (get_or (pairs_of (rs ++ r ∷ us) ++ rest) (2 * length rs) 0 ≡ r.refusal) × (get_or (pairs_of (rs ++ r ∷ us) ++ rest) (2 * length rs + 1) 0 ≡ r.value)
pair_at_lem [] r us rest = (refl, refl)
pair_at_lem (x ∷ rs) r us rest =
    let xs : List ℕ = pairs_of (rs ++ r ∷ us) ++ rest in
    let e : 2 * suc (length rs) ≡ suc (suc (2 * length rs)) = omega arith in
    let f : 2 * suc (length rs) + 1 ≡ suc (suc (2 * length rs + 1)) = omega arith in
    (ap (λ (k : ℕ). get_or (x.refusal ∷ x.value ∷ xs) k 0) e ∙ (pair_at_lem rs r us rest).0, ap (λ (k : ℕ). get_or (x.refusal ∷ x.value ∷ xs) k 0) f ∙ (pair_at_lem rs r us rest).1)

module _ (s : ℕ) (shape : Shape) (a : Arrays) (documents words : List ℕ) (qs : List Question) (z : List ℕ) where
  abbrev answer : Answer
  answer = sheet_answer s shape a documents (length qs) (length z)

  module _ (e : is_accepted answer ≡ true) where
    clear : (check_answer s shape a ≡ accepted 0) × (are_starts (length (text_in s a)) documents ≡ true) × (2 * length qs ≤ length z)
    clear = sheet_clear s shape a documents (length qs) (length z) (eqb-true answer.refusal 0 e)

    -- each single question is answered of the text
    single : map (question_answer shape.vocabulary (text_in s a) documents words) qs ≡ map (ask_answer_in s shape a documents words) qs
    single = λ i. map (λ (q : Question). sym (ask_in_passed s shape a documents words q clear.0 clear.1) i) qs

    equal : sheet_exit s shape a documents words qs z ≡ front (pairs_of (map (ask_answer_in s shape a documents words) qs)) z
    equal = sheet_filled s shape a documents words qs z e ∙ ap (λ (rs : List Answer). front (pairs_of rs) z) single

    at : (before : List Question) (q : Question) (after : List Question) → before ++ q ∷ after ≡ qs
        → (get_or (sheet_exit s shape a documents words qs z) (2 * length before) 0 ≡ (ask_answer_in s shape a documents words q).refusal)
        × (get_or (sheet_exit s shape a documents words qs z) (2 * length before + 1) 0 ≡ (ask_answer_in s shape a documents words q).value)
    at before q after is =
        let ask = ask_answer_in s shape a documents words in
        let parts : List Answer = map ask before ++ ask q ∷ map ask after in
        let whole : sheet_exit s shape a documents words qs z ≡ pairs_of parts ++ drop (length (pairs_of parts)) z =
        equal ∙ ap (λ (us : List Question). front (pairs_of (map ask us)) z) (sym is) ∙ ap (λ (rs : List Answer). front (pairs_of rs) z) (map-append ask before (q ∷ after)) ∙ front_is (pairs_of parts) z in
        let there = pair_at_lem (map ask before) (ask q) (map ask after) (drop (length (pairs_of parts)) z) in
        rw (whole, ← length-map before ask) there

-- nothing is written for no question
empty : (s : ℕ) (shape : Shape) (a : Arrays) (documents words z : List ℕ) → sheet_exit s shape a documents words [] z ≡ z
unfolding sheet_exit filled
empty s shape a documents words z = either (is_accepted (sheet_answer s shape a documents 0 (length z)))
  where
    either : (test : Bool) → cond test (front [] z) z ≡ z
    either true = front_none z
    either false = refl

pub sheets_equal_singles : SheetsEqualSingles
sheets_equal_singles s shape a documents words qs z =
    record {
      accepts = (λ e. clear s shape a documents words qs z e, λ h. ap is_accepted (sheet_accepted s shape a documents (length qs) (length z) h.0 h.1 h.2));
      counted = λ e. let h = clear s shape a documents words qs z e in sheet_accepted s shape a documents (length qs) (length z) h.0 h.1 h.2;
      pairs = λ e. equal s shape a documents words qs z e;
      pair = λ e before q after is. at s shape a documents words qs z e before q after is;
      own = λ e q. subst HasPair (sym (ask_in_passed s shape a documents words q (clear s shape a documents words qs z e).0 (clear s shape a documents words qs z e).1)) (has_pair shape.vocabulary (text_in s a) documents words q);
      untouched = λ e. sheet_untouched s shape a documents words qs z e;
      empty = empty s shape a documents words z;
    }
