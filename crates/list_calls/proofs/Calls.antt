-- Which calls that make a word list are refused, in the order of the refusals, and what each returns and leaves. Assumes nothing.
use Prim.Native.Nat.{ℕ, ◌≤◌, ◌<◌}
use mathlib.Core.Path.{◌≡◌, sym, ap, ◌∙◌}
use mathlib.Core.Bool.{Bool, true, false, cond}
use mathlib.Core.List.{List, []}
use borrow.Author.Tests.{lt-ltb, le-ltb}
use lib.Dec.{ltb}
use lib.ListN.{length}
use Rattle.base.proofs.Answers.{first_here, first_later, answers, filled_not, filled_front}
use Rattle.base.proofs.Tests.{or_false, or_left, or_right}
use Rattle.base.specs.Answers.{accepted, refused, refused_at, is_accepted, front}
use Rattle.base.specs.Outcomes.{number_of, refused_by}
use Rattle.base.specs.declared.refusal.Refusal.{Refusal}
use Rattle.base.specs.declared.refusal.Refused.{Refused}
use Rattle.base.specs.Refusals.{refusal_words, refusal_short_slice, refusal_list_making}
use Rattle.base.specs.Texts.{max_words, words_case}
use Rattle.base.specs.declared.Answer.{Answer}
use Rattle.lexicon.specs.Reading.{text_words}
use Rattle.list_calls.specs.declared.ListMade.{ListMade}
use Rattle.list_calls.specs.Making.{max_list_text, max_list_words, made_words, made_list, made_ranks, list_making_case, list_room_case, make_list_answer, list_made, make_list_exit, make_ranks_exit}

-- the answer of a call that a refusal ends with which 0 is returned
pub refused_is : (e : Refused) (why : Refusal) → e ≡ refused_by why → refused_at (number_of e.refusal) e.at ≡ refused (number_of why)
refused_is e why q = ap (λ (x : Refused). refused_at (number_of x.refusal) x.at) q

module _ (table text y z : List ℕ) where
  -- ---- the refusals in their order, and none

  pub too_many_words_lem : max_words < length (text_words table text) → make_list_answer table text y z ≡ refused refusal_words
  unfolding make_list_answer words_case
  too_many_words_lem h = first_here _ _ _ _ (lt-ltb max_words (length (text_words table text)) h)

  module _ (few : length (text_words table text) ≤ max_words) where
    pub too_long : max_list_text < length text → make_list_answer table text y z ≡ refused refusal_list_making
    unfolding make_list_answer words_case list_making_case
    too_long h =
        first_later _ _ _ _ (le-ltb max_words (length (text_words table text)) few)
        ∙ first_here _ _ _ _ (or_left (ltb max_list_text (length text)) (ltb max_list_words (length (made_words table text))) (lt-ltb max_list_text (length text) h))

    pub too_many_distinct : max_list_words < length (made_words table text) → make_list_answer table text y z ≡ refused refusal_list_making
    unfolding make_list_answer words_case list_making_case
    too_many_distinct h =
        first_later _ _ _ _ (le-ltb max_words (length (text_words table text)) few)
        ∙ first_here _ _ _ _ (or_right (ltb max_list_text (length text)) (ltb max_list_words (length (made_words table text))) (lt-ltb max_list_words (length (made_words table text)) h))

    module _ (short : length text ≤ max_list_text) (listed : length (made_words table text) ≤ max_list_words) where
      pub list_too_long : length y < length (made_list table text) → make_list_answer table text y z ≡ refused refusal_short_slice
      unfolding make_list_answer words_case list_making_case list_room_case
      list_too_long h =
          first_later _ _ _ _ (le-ltb max_words (length (text_words table text)) few)
          ∙ first_later _ _ _ _ (or_false (ltb max_list_text (length text)) (ltb max_list_words (length (made_words table text))) (le-ltb max_list_text (length text) short) (le-ltb max_list_words (length (made_words table text)) listed))
          ∙ first_here _ _ _ _ (or_left (ltb (length y) (length (made_list table text))) (ltb (length z) (length (text_words table text))) (lt-ltb (length y) (length (made_list table text)) h))

      pub ranks_too_long : length z < length (text_words table text) → make_list_answer table text y z ≡ refused refusal_short_slice
      unfolding make_list_answer words_case list_making_case list_room_case
      ranks_too_long h =
          first_later _ _ _ _ (le-ltb max_words (length (text_words table text)) few)
          ∙ first_later _ _ _ _ (or_false (ltb max_list_text (length text)) (ltb max_list_words (length (made_words table text))) (le-ltb max_list_text (length text) short) (le-ltb max_list_words (length (made_words table text)) listed))
          ∙ first_here _ _ _ _ (or_right (ltb (length y) (length (made_list table text))) (ltb (length z) (length (text_words table text))) (lt-ltb (length z) (length (text_words table text)) h))

      pub makes : length (made_list table text) ≤ length y → length (text_words table text) ≤ length z → make_list_answer table text y z ≡ accepted 0
      unfolding make_list_answer words_case list_making_case list_room_case
      makes l r =
          first_later _ _ _ _ (le-ltb max_words (length (text_words table text)) few)
          ∙ first_later _ _ _ _ (or_false (ltb max_list_text (length text)) (ltb max_list_words (length (made_words table text))) (le-ltb max_list_text (length text) short) (le-ltb max_list_words (length (made_words table text)) listed))
          ∙ first_later _ _ _ _ (or_false (ltb (length y) (length (made_list table text))) (ltb (length z) (length (text_words table text))) (le-ltb (length y) (length (made_list table text)) l) (le-ltb (length z) (length (text_words table text)) r))
          ∙ answers [] _ tt

  -- ---- what is returned and left

  -- a refused call returns its answer and two zeros, and leaves both slices
  pub list_refused : (a : Answer) → is_accepted a ≡ false → make_list_answer table text y z ≡ a → (r : ListMade) → r.answer ≡ a → r.bytes ≡ 0 → r.words ≡ 0
      → (r ≡ list_made table text y z) × (y ≡ make_list_exit table text y z) × (z ≡ make_ranks_exit table text y z)
  unfolding list_made make_list_exit make_ranks_exit
  list_refused a n e r p b w =
      let no : is_accepted (make_list_answer table text y z) ≡ false = ap is_accepted e ∙ n in
      let q : r.answer ≡ make_list_answer table text y z = p ∙ sym e in
      let s : r.bytes ≡ cond (is_accepted (make_list_answer table text y z)) (length (made_list table text)) 0 = b ∙ sym (ap (λ (t : Bool). cond t (length (made_list table text)) 0) no) in
      let m : r.words ≡ cond (is_accepted (make_list_answer table text y z)) (length (text_words table text)) 0 = w ∙ sym (ap (λ (t : Bool). cond t (length (text_words table text)) 0) no) in
      (λ i. record { answer = q i; bytes = s i; words = m i }, sym (filled_not (make_list_answer table text y z) (made_list table text) y no), sym (filled_not (make_list_answer table text y z) (made_ranks table text) z no))

  -- an accepted call returns 0 and how much it has written, and has the list and the ranks in front
  pub list_accepted : make_list_answer table text y z ≡ accepted 0 → (r : ListMade) (list ranks : List ℕ) → r.answer ≡ accepted 0 → r.bytes ≡ length (made_list table text)
      → r.words ≡ length (text_words table text) → list ≡ front (made_list table text) y → ranks ≡ front (made_ranks table text) z
      → (r ≡ list_made table text y z) × (list ≡ make_list_exit table text y z) × (ranks ≡ make_ranks_exit table text y z)
  unfolding list_made make_list_exit make_ranks_exit front
  list_accepted e r list ranks p b w f g =
      let yes : is_accepted (make_list_answer table text y z) ≡ true = ap is_accepted e in
      let q : r.answer ≡ make_list_answer table text y z = p ∙ sym e in
      let s : r.bytes ≡ cond (is_accepted (make_list_answer table text y z)) (length (made_list table text)) 0 = b ∙ sym (ap (λ (t : Bool). cond t (length (made_list table text)) 0) yes) in
      let m : r.words ≡ cond (is_accepted (make_list_answer table text y z)) (length (text_words table text)) 0 = w ∙ sym (ap (λ (t : Bool). cond t (length (text_words table text)) 0) yes) in
      (λ i. record { answer = q i; bytes = s i; words = m i }, f ∙ sym (filled_front (make_list_answer table text y z) (made_list table text) y yes), g ∙ sym (filled_front (make_list_answer table text y z) (made_ranks table text) z yes))
