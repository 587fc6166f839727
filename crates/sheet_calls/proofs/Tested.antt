-- The answer of a sheet by its tests, and the pairs in front of its slice. Assumes nothing.
use Prim.Native.Nat.{ℕ, suc, ◌+◌, ◌*◌, ◌≤◌, ◌<◌}
use mathlib.Core.Path.{◌≡◌, refl, sym, ap, ◌∙◌}
use mathlib.Core.Bool.{true, false}
use mathlib.Core.List.{List, [], ◌∷◌, ◌++◌, map, map-append}
use native.Mathlib.Numerals.{add-one}
use native.Mathlib.Omega.{arith}
use borrow.Author.Tests.{lt-ltb, le-ltb, ltb-false, eq-eqb, not-false}
use lib.Dec.{ltb}
use lib.ListN.{length, get_or, set, take, length-map}
use lib.Seq.{take-suc, take_all, length-take-le}
use Rattle.base.specs.declared.Answer.{Answer}
use Rattle.base.specs.Refusals.{refusal_page}
use Rattle.base.specs.Answers.{accepted, refused, is_accepted, first_of, NoneHolds, front, written}
use Rattle.base.proofs.Answers.{first_here, first_append, answers, none_holds, none_append, filled_not, filled_front}
use Rattle.base.proofs.Fronts.{written_sets, front_is, front_none, front_more, length_front}
use Rattle.dense.specs.Code.{vocabulary_case}
use Rattle.directory.specs.Counters.{blocks_case}
use Rattle.index.specs.declared.Shape.{Shape}
use Rattle.index.specs.Arrays.{Arrays, text_in}
use Rattle.index.specs.Entries.{index_cases, check_answer}
use Rattle.documents.specs.Documents.{are_starts, documents_case}
use Rattle.questions.specs.declared.Question.{Question}
use Rattle.questions.specs.Answering.{reading_cases, check_answer_in, question_answer}
use Rattle.questions.proofs.Checks.{reading_tests, reading_passed, reading_index, reading_refused}
use Rattle.sheet_calls.specs.Sheets.{pair_of, pairs_of, room_case, sheet_cases, sheet_answer, sheet_exit}

-- a slice that is too short, and one that is not
short_room : (asked room : ℕ) (answer : Answer) → room < 2 * asked → first_of (room_case asked room ∷ []) answer ≡ refused refusal_page
unfolding room_case
short_room asked room answer l = first_here (ltb room (2 * asked)) (refused refusal_page) [] answer (lt-ltb room (2 * asked) l)

enough_room : (asked room : ℕ) → 2 * asked ≤ room → NoneHolds (room_case asked room ∷ [])
unfolding room_case
enough_room asked room l = (le-ltb room (2 * asked) l, tt)

module _ (s : ℕ) (shape : Shape) (a : Arrays) (documents : List ℕ) (asked room : ℕ) where
  -- arrays that the check refuses, and document starts that break a rule, whatever the room
  pub sheet_checked : ((check_answer_in s shape a documents).refusal ≡ 0 → ⊥) → sheet_answer s shape a documents asked room ≡ check_answer_in s shape a documents
  unfolding sheet_answer sheet_cases
  sheet_checked h = first_append (reading_cases s shape a documents) (room_case asked room ∷ []) (accepted (2 * asked)) ∙ reading_refused s shape a documents h _

  -- the first of these, whatever the starts
  pub sheet_index : ((check_answer s shape a).refusal ≡ 0 → ⊥) → sheet_answer s shape a documents asked room ≡ check_answer s shape a
  unfolding sheet_answer sheet_cases
  sheet_index h = first_append (reading_cases s shape a documents) (room_case asked room ∷ []) (accepted (2 * asked)) ∙ reading_index s shape a documents h _

  -- a sheet that has too little room
  pub sheet_short : check_answer s shape a ≡ accepted 0 → are_starts (length (text_in s a)) documents ≡ true → room < 2 * asked → sheet_answer s shape a documents asked room ≡ refused refusal_page
  unfolding sheet_answer sheet_cases
  sheet_short e h l =
      first_append (reading_cases s shape a documents) (room_case asked room ∷ []) (accepted (2 * asked))
      ∙ reading_passed s shape a documents e h _
      ∙ short_room asked room (accepted (2 * asked)) l

  -- and one that has enough
  pub sheet_accepted : check_answer s shape a ≡ accepted 0 → are_starts (length (text_in s a)) documents ≡ true → 2 * asked ≤ room → sheet_answer s shape a documents asked room ≡ accepted (2 * asked)
  unfolding sheet_answer sheet_cases
  sheet_accepted e h l =
      answers (sheet_cases s shape a documents asked room) (accepted (2 * asked))
      (none_append (reading_cases s shape a documents) (room_case asked room ∷ []) (reading_tests s shape a documents e h) (enough_room asked room l))

  -- an accepted sheet has passed the check, its starts keep the rules, and it has room
  pub sheet_clear : (sheet_answer s shape a documents asked room).refusal ≡ 0
      → (check_answer s shape a ≡ accepted 0) × (are_starts (length (text_in s a)) documents ≡ true) × (2 * asked ≤ room)
  unfolding sheet_answer sheet_cases reading_cases check_answer index_cases vocabulary_case blocks_case documents_case room_case
  sheet_clear e =
      let n : NoneHolds (sheet_cases s shape a documents asked room) = none_holds (sheet_cases s shape a documents asked room) (accepted (2 * asked)) (refl, (refl, (refl, (refl, (refl, tt))))) (eq-eqb (sheet_answer s shape a documents asked room).refusal 0 e) in (
        answers (index_cases s shape a) (accepted 0) (n.0, (n.1.0, (n.1.1.0, tt))),
        not-false (are_starts (length (text_in s a)) documents) n.1.1.1.0,
        ltb-false room (2 * asked) n.1.1.1.1.0,
      )

-- the two numbers of a pair, stored one after the other
pub pair_written : (r : Answer) (z : List ℕ) (at : ℕ) → at + 1 < length z → set (set z at r.refusal) (at + 1) r.value ≡ written (pair_of r) at z
pair_written r z at h = ap (λ (k : ℕ). set (set z at r.refusal) k r.value) (add-one at) ∙ written_sets (pair_of r) z at (omega arith)

-- there are two numbers for each answer
pub length_pairs : (rs : List Answer) → length (pairs_of rs) ≡ 2 * length rs
length_pairs [] = refl
length_pairs (r ∷ rs) = omega (arith, length_pairs rs)

-- pairs one after another
pub pairs_append : (rs us : List Answer) → pairs_of (rs ++ us) ≡ pairs_of rs ++ pairs_of us
pairs_append [] us = refl
pairs_append (r ∷ rs) us = ap (λ (xs : List ℕ). r.refusal ∷ r.value ∷ xs) (pairs_append rs us)

module _ (f : Question → Answer) (qs : List Question) (z : List ℕ) where
  -- what the slice holds after the first i questions
  abbrev pub after : ℕ → List ℕ
  after i = front (pairs_of (map f (take i qs))) z

  length_first : (i : ℕ) → i ≤ length qs → length (pairs_of (map f (take i qs))) ≡ 2 * i
  length_first i h = omega (arith, length_pairs (map f (take i qs)), length-map (take i qs) f, length-take-le i qs h)

  pub after_none : after 0 ≡ z
  after_none = front_none z

  -- question i adds its pair
  pub after_next : (i : ℕ) (d : Question) → i < length qs → written (pair_of (f (get_or qs i d))) (2 * i) (after i) ≡ after (suc i)
  after_next i d h =
      ap (λ (k : ℕ). written (pair_of (f (get_or qs i d))) k (after i)) (sym (length_first i (omega arith)))
      ∙ front_more (pairs_of (map f (take i qs))) (pair_of (f (get_or qs i d))) z
      ∙ ap (λ (xs : List ℕ). front xs z)
      (sym (pairs_append (map f (take i qs)) (f (get_or qs i d) ∷ []))
      ∙ ap pairs_of (sym (map-append f (take i qs) (get_or qs i d ∷ [])) ∙ ap (map f) (sym (take-suc qs i d h))))

  pub after_all : after (length qs) ≡ front (pairs_of (map f qs)) z
  after_all = ap (λ (us : List Question). front (pairs_of (map f us)) z) (take_all (length qs) qs (omega arith))

  -- and the slice has its length
  pub after_length : 2 * length qs ≤ length z → (i : ℕ) → i ≤ length qs → length (after i) ≡ length z
  after_length room i h = length_front (pairs_of (map f (take i qs))) z (omega (arith, length_first i h))

module _ (s : ℕ) (shape : Shape) (a : Arrays) (documents words : List ℕ) (qs : List Question) (z : List ℕ) where
  -- what the slice holds after an accepted sheet, and after one that is turned down
  pub sheet_filled : is_accepted (sheet_answer s shape a documents (length qs) (length z)) ≡ true
      → sheet_exit s shape a documents words qs z ≡ front (pairs_of (map (question_answer shape.vocabulary (text_in s a) documents words) qs)) z
  unfolding sheet_exit
  sheet_filled e =
      filled_front (sheet_answer s shape a documents (length qs) (length z)) (pairs_of (map (question_answer shape.vocabulary (text_in s a) documents words) qs)) z e
      ∙ sym (front_is (pairs_of (map (question_answer shape.vocabulary (text_in s a) documents words) qs)) z)

  pub sheet_untouched : is_accepted (sheet_answer s shape a documents (length qs) (length z)) ≡ false → sheet_exit s shape a documents words qs z ≡ z
  unfolding sheet_exit
  sheet_untouched e = filled_not (sheet_answer s shape a documents (length qs) (length z)) (pairs_of (map (question_answer shape.vocabulary (text_in s a) documents words) qs)) z e
