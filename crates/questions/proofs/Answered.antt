-- What each kind of question answers, by what the tests of its call have shown. Assumes nothing.
use Prim.Native.Nat.{ℕ, ◌+◌, ◌≤◌, ◌<◌}
use mathlib.Core.Path.{◌≡◌, refl, ap, ◌∙◌}
use mathlib.Core.Bool.{Bool, true, false, not, ◌||◌, false≢true}
use mathlib.Core.Logic.{◌⊎◌, inl, inr}
use mathlib.Core.List.{List, [], ◌∷◌}
use native.Mathlib.Omega.{arith}
use borrow.Author.Tests.{lt-ltb, le-ltb, ltb-true, ltb-false, le-leb, lt-leb, eq-eqb, ne_eqb, not-false}
use lib.Dec.{ltb, leb}
use lib.IntN.{ℤ, pos, negsuc, nat_abs}
use lib.Signed.{lt_z}
use lib.ListN.{length, take, drop, length-drop}
use lib.Seq.{length-take-le}
use Rattle.base.specs.declared.Answer.{Answer}
use Rattle.base.specs.Refusals.{refusal_kind, refusal_phrase, refusal_asked_rank, refusal_offset, refusal_place}
use Rattle.base.specs.Lists.{all_pass, first_where}
use Rattle.base.specs.Answers.{accepted, refused, ◌⇒◌, first_of, NoneHolds}
use Rattle.base.specs.Texts.{max_phrase, max_offset, outside}
use Rattle.base.proofs.Tests.{and_never, or_false, or_left, or_right, or_neither, inside_range, below_range, above_range, below_or_not}
use Rattle.base.proofs.Answers.{first_here, first_later, first_append, first_decided, none_holds, answers, filled_not}
use Rattle.dense.specs.Code.{vocabulary_case}
use Rattle.directory.specs.Counters.{blocks_case}
use Rattle.index.specs.declared.Shape.{Shape}
use Rattle.index.specs.Arrays.{Arrays, text_in}
use Rattle.index.specs.Entries.{index_cases, check_answer}
use Rattle.words.specs.Words.{rank_at, occurrences_below, frequency, nth_place}
use Rattle.documents.specs.Documents.{places_in, neighbours_in}
use Rattle.questions.specs.declared.Question.{Question}
use Rattle.questions.specs.Answering.{is_askable, rank_asked_case, phrase_in, phrase_cases, phrase_refusal, word_at_answer, occurrences_answer, place_answer, neighbours_answer, phrase_answer, question_answer}
use Rattle.questions.specs.Passages.{passage_answer, passage_exit}
use Rattle.questions.proofs.Askable.{some_above, none_above}

-- kind 1
pub word_at_outside : (t : List ℕ) (p : ℕ) → length t ≤ p → word_at_answer t p ≡ refused refusal_place
unfolding word_at_answer
word_at_outside t p h = first_here (leb (length t) p) (refused refusal_place) [] _ (le-leb (length t) p h)

pub word_at_inside : (t : List ℕ) (p : ℕ) → p < length t → word_at_answer t p ≡ accepted (rank_at t p)
unfolding word_at_answer
word_at_inside t p h = answers ((leb (length t) p ⇒ refused refusal_place) ∷ []) (accepted (rank_at t p)) (lt-leb (length t) p h, tt)

-- one rank asked about
one_askable : (vocab w : ℕ) → w ≤ vocab → not (all_pass (is_askable vocab) (w ∷ [])) ≡ false
one_askable vocab w h = rw (le-leb w vocab h)

one_above : (vocab w : ℕ) → vocab < w → not (all_pass (is_askable vocab) (w ∷ [])) ≡ true
one_above vocab w h = rw (lt-leb w vocab h)

-- two of them
two_askable : (vocab w v : ℕ) → w ≤ vocab → v ≤ vocab → not (all_pass (is_askable vocab) (w ∷ v ∷ [])) ≡ false
two_askable vocab w v h k = rw (le-leb w vocab h, le-leb v vocab k)

first_above : (vocab w v : ℕ) → vocab < w → not (all_pass (is_askable vocab) (w ∷ v ∷ [])) ≡ true
first_above vocab w v h = rw (lt-leb w vocab h)

second_above : (vocab w v : ℕ) → vocab < v → not (all_pass (is_askable vocab) (w ∷ v ∷ [])) ≡ true
second_above vocab w v k = rw (lt-leb v vocab k) (ap not (and_never (leb w vocab)))

-- kind 2
module _ (vocab : ℕ) (t : List ℕ) (w p : ℕ) where
  pub occurrences_rank : vocab < w → occurrences_answer vocab t w p ≡ refused refusal_asked_rank
  unfolding occurrences_answer rank_asked_case
  occurrences_rank h = first_here (not (all_pass (is_askable vocab) (w ∷ []))) (refused refusal_asked_rank) ((ltb (length t) p ⇒ refused refusal_place) ∷ []) _ (one_above vocab w h)

  pub occurrences_outside : w ≤ vocab → length t < p → occurrences_answer vocab t w p ≡ refused refusal_place
  unfolding occurrences_answer rank_asked_case
  occurrences_outside h l =
      first_later (not (all_pass (is_askable vocab) (w ∷ []))) (refused refusal_asked_rank) ((ltb (length t) p ⇒ refused refusal_place) ∷ []) _ (one_askable vocab w h)
      ∙ first_here (ltb (length t) p) (refused refusal_place) [] _ (lt-ltb (length t) p l)

  pub occurrences_inside : w ≤ vocab → p ≤ length t → occurrences_answer vocab t w p ≡ accepted (occurrences_below t w p)
  unfolding occurrences_answer rank_asked_case
  occurrences_inside h l = answers (rank_asked_case vocab (w ∷ []) ∷ (ltb (length t) p ⇒ refused refusal_place) ∷ []) (accepted (occurrences_below t w p)) (one_askable vocab w h, (le-ltb (length t) p l, tt))

  -- kind 3
  pub place_rank : vocab < w → place_answer vocab t w p ≡ refused refusal_asked_rank
  unfolding place_answer rank_asked_case
  place_rank h = first_here (not (all_pass (is_askable vocab) (w ∷ []))) (refused refusal_asked_rank) ((outside 1 (frequency t w) p ⇒ refused refusal_place) ∷ []) _ (one_above vocab w h)

  pub place_outside : w ≤ vocab → outside 1 (frequency t w) p ≡ true → place_answer vocab t w p ≡ refused refusal_place
  unfolding place_answer rank_asked_case
  place_outside h l =
      first_later (not (all_pass (is_askable vocab) (w ∷ []))) (refused refusal_asked_rank) ((outside 1 (frequency t w) p ⇒ refused refusal_place) ∷ []) _ (one_askable vocab w h)
      ∙ first_here (outside 1 (frequency t w) p) (refused refusal_place) [] _ l

  pub place_inside : w ≤ vocab → 1 ≤ p → p ≤ frequency t w → place_answer vocab t w p ≡ accepted (nth_place t w p)
  unfolding place_answer rank_asked_case
  place_inside h k l = answers (rank_asked_case vocab (w ∷ []) ∷ (outside 1 (frequency t w) p ⇒ refused refusal_place) ∷ []) (accepted (nth_place t w p)) (one_askable vocab w h, (inside_range 1 (frequency t w) p k l, tt))

  -- a word that stands nowhere has no place
  pub place_never : w ≤ vocab → frequency t w ≡ 0 → place_answer vocab t w p ≡ refused refusal_place
  place_never h e = place_outside h (ap (λ (n : ℕ). outside 1 n p) e ∙ go (below_or_not p 1))
    where
      go : (p < 1) ⊎ (1 ≤ p) → outside 1 0 p ≡ true
      go (inl l) = below_range 1 0 p l
      go (inr l) = above_range 1 0 p (omega arith)

-- an offset below -16 or above 16 is far, and one that is neither is not
pub offset_left : (d : ℤ) → lt_z d (negsuc 15) ≡ true → max_offset < nat_abs d
offset_left (pos k) e = absurd (false≢true e)
offset_left (negsuc k) e = omega (arith, ltb-true 15 k e)

pub offset_right : (d : ℤ) → lt_z (pos 16) d ≡ true → max_offset < nat_abs d
offset_right (pos k) e = ltb-true 16 k e
offset_right (negsuc k) e = absurd (false≢true e)

pub offset_near : (d : ℤ) → lt_z d (negsuc 15) ≡ false → lt_z (pos 16) d ≡ false → nat_abs d ≤ max_offset
offset_near (pos k) e h = ltb-false 16 k h
offset_near (negsuc k) e h = omega (arith, ltb-false 15 k e)

-- kind 4
module _ (vocab : ℕ) (t documents : List ℕ) (w v : ℕ) (d : ℤ) where
  neighbours_asked : not (all_pass (is_askable vocab) (w ∷ v ∷ [])) ≡ true → neighbours_answer vocab t documents w v d ≡ refused refusal_asked_rank
  unfolding neighbours_answer rank_asked_case
  neighbours_asked h = first_here (not (all_pass (is_askable vocab) (w ∷ v ∷ []))) (refused refusal_asked_rank) ((ltb max_offset (nat_abs d) ⇒ refused refusal_offset) ∷ []) _ h

  pub neighbours_first : vocab < w → neighbours_answer vocab t documents w v d ≡ refused refusal_asked_rank
  neighbours_first h = neighbours_asked (first_above vocab w v h)

  pub neighbours_second : vocab < v → neighbours_answer vocab t documents w v d ≡ refused refusal_asked_rank
  neighbours_second k = neighbours_asked (second_above vocab w v k)

  pub neighbours_far : w ≤ vocab → v ≤ vocab → max_offset < nat_abs d → neighbours_answer vocab t documents w v d ≡ refused refusal_offset
  unfolding neighbours_answer rank_asked_case
  neighbours_far h k l =
      first_later (not (all_pass (is_askable vocab) (w ∷ v ∷ []))) (refused refusal_asked_rank) ((ltb max_offset (nat_abs d) ⇒ refused refusal_offset) ∷ []) _ (two_askable vocab w v h k)
      ∙ first_here (ltb max_offset (nat_abs d)) (refused refusal_offset) [] _ (lt-ltb max_offset (nat_abs d) l)

  pub neighbours_near : w ≤ vocab → v ≤ vocab → nat_abs d ≤ max_offset → neighbours_answer vocab t documents w v d ≡ accepted (neighbours_in documents t w v d)
  unfolding neighbours_answer rank_asked_case
  neighbours_near h k l = answers (rank_asked_case vocab (w ∷ v ∷ []) ∷ (ltb max_offset (nat_abs d) ⇒ refused refusal_offset) ∷ []) (accepted (neighbours_in documents t w v d)) (two_askable vocab w v h k, (le-ltb max_offset (nat_abs d) l, tt))

-- a phrase that is not refused: it has up to 16 words, lies in the lent words, and has no rank above V
pub record PhraseFits (vocab : ℕ) (words : List ℕ) (start len : ℕ) : Type 0 where
  pub most : len ≤ max_phrase
  pub inside : start + len ≤ length words
  pub askable : all_pass (is_askable vocab) (phrase_in words start len) ≡ true

-- kind 5
module _ (vocab : ℕ) (words : List ℕ) (start len : ℕ) where
  phrase_outside : ltb max_phrase len || ltb (length words) (start + len) ≡ true → phrase_refusal vocab words start len ≡ refusal_phrase
  unfolding phrase_refusal phrase_cases
  phrase_outside h = ap (λ (r : Answer). r.refusal) (first_here (ltb max_phrase len || ltb (length words) (start + len)) (refused refusal_phrase) (rank_asked_case vocab (phrase_in words start len) ∷ []) (accepted 0) h)

  pub phrase_long : max_phrase < len → phrase_refusal vocab words start len ≡ refusal_phrase
  phrase_long h = phrase_outside (or_left (ltb max_phrase len) (ltb (length words) (start + len)) (lt-ltb max_phrase len h))

  pub phrase_past : length words < start + len → phrase_refusal vocab words start len ≡ refusal_phrase
  phrase_past h = phrase_outside (or_right (ltb max_phrase len) (ltb (length words) (start + len)) (lt-ltb (length words) (start + len) h))

  inside_part : len ≤ max_phrase → start + len ≤ length words → ltb max_phrase len || ltb (length words) (start + len) ≡ false
  inside_part k l = or_false (ltb max_phrase len) (ltb (length words) (start + len)) (le-ltb max_phrase len k) (le-ltb (length words) (start + len) l)

  pub phrase_rank : len ≤ max_phrase → start + len ≤ length words → all_pass (is_askable vocab) (phrase_in words start len) ≡ false → phrase_refusal vocab words start len ≡ refusal_asked_rank
  unfolding phrase_refusal phrase_cases rank_asked_case
  phrase_rank k l e =
      ap (λ (r : Answer). r.refusal)
      (first_later (ltb max_phrase len || ltb (length words) (start + len)) (refused refusal_phrase) (rank_asked_case vocab (phrase_in words start len) ∷ []) (accepted 0) (inside_part k l)
      ∙ first_here (not (all_pass (is_askable vocab) (phrase_in words start len))) (refused refusal_asked_rank) [] (accepted 0) (ap not e))

  pub phrase_none : len ≤ max_phrase → start + len ≤ length words → all_pass (is_askable vocab) (phrase_in words start len) ≡ true → phrase_refusal vocab words start len ≡ 0
  unfolding phrase_refusal phrase_cases rank_asked_case
  phrase_none k l e = ap (λ (r : Answer). r.refusal) (answers (phrase_cases vocab words start len) (accepted 0) (inside_part k l, (ap not e, tt)))

  -- a phrase that lies in the lent words has its length
  pub part_length : start + len ≤ length words → length (phrase_in words start len) ≡ len
  unfolding phrase_in
  part_length l = length-take-le len (drop start words) (omega (arith, length-drop start words))

  -- the first of its words that is above V lies in it, or there is none
  pub part_above : start + len ≤ length words → (m r : ℕ) → m ≡ len → r ≡ first_where (λ (w : ℕ). ltb vocab w) (take m (drop start words)) → r < len
      → all_pass (is_askable vocab) (phrase_in words start len) ≡ false
  unfolding phrase_in
  part_above l m r em er h =
      let f : r ≡ first_where (λ (w : ℕ). ltb vocab w) (phrase_in words start len) = er ∙ ap (λ (k : ℕ). first_where (λ (w : ℕ). ltb vocab w) (take k (drop start words))) em in
      some_above vocab (phrase_in words start len) (omega (arith, f, part_length l))

  pub part_askable : start + len ≤ length words → (m r : ℕ) → m ≡ len → r ≡ first_where (λ (w : ℕ). ltb vocab w) (take m (drop start words)) → len ≤ r
      → all_pass (is_askable vocab) (phrase_in words start len) ≡ true
  unfolding phrase_in
  part_askable l m r em er h =
      let f : r ≡ first_where (λ (w : ℕ). ltb vocab w) (phrase_in words start len) = er ∙ ap (λ (k : ℕ). first_where (λ (w : ℕ). ltb vocab w) (take k (drop start words))) em in
      none_above vocab (phrase_in words start len) (omega (arith, f, part_length l))

  -- no test of it holds
  phrase_clear : phrase_refusal vocab words start len ≡ 0 → NoneHolds (phrase_cases vocab words start len)
  unfolding phrase_refusal phrase_cases rank_asked_case
  phrase_clear e = none_holds (phrase_cases vocab words start len) (accepted 0) (refl, (refl, tt)) (eq-eqb (phrase_refusal vocab words start len) 0 e)

  pub phrase_fits : phrase_refusal vocab words start len ≡ 0 → PhraseFits vocab words start len
  unfolding phrase_cases rank_asked_case
  phrase_fits e =
      let n = phrase_clear e in
      let part = or_neither (ltb max_phrase len) (ltb (length words) (start + len)) n.0 in
      record { most = ltb-false max_phrase len part.0; inside = ltb-false (length words) (start + len) part.1; askable = not-false (all_pass (is_askable vocab) (phrase_in words start len)) n.1.0 }

  pub phrase_counted : (t documents : List ℕ) → phrase_refusal vocab words start len ≡ 0 → phrase_answer vocab t documents words start len ≡ accepted (length (places_in documents t (phrase_in words start len)))
  unfolding phrase_answer
  phrase_counted t documents e = answers (phrase_cases vocab words start len) (accepted (length (places_in documents t (phrase_in words start len)))) (phrase_clear e)

  -- of two refusals
  refused_number : (x y : Bool) (value : ℕ) → ((first_of ((x ⇒ refused refusal_phrase) ∷ (y ⇒ refused refusal_asked_rank) ∷ []) (accepted 0)).refusal ≡ 0 → ⊥)
      → first_of ((x ⇒ refused refusal_phrase) ∷ (y ⇒ refused refusal_asked_rank) ∷ []) (accepted value) ≡ refused (first_of ((x ⇒ refused refusal_phrase) ∷ (y ⇒ refused refusal_asked_rank) ∷ []) (accepted 0)).refusal
  unfolding first_of
  refused_number true y value h = refl
  refused_number false true value h = refl
  refused_number false false value h = absurd (h refl)

  pub phrase_refused : (t documents : List ℕ) → (phrase_refusal vocab words start len ≡ 0 → ⊥) → phrase_answer vocab t documents words start len ≡ refused (phrase_refusal vocab words start len)
  unfolding phrase_answer phrase_refusal phrase_cases rank_asked_case
  phrase_refused t documents h = refused_number (ltb max_phrase len || ltb (length words) (start + len)) (not (all_pass (is_askable vocab) (phrase_in words start len))) (length (places_in documents t (phrase_in words start len))) h

-- a question is answered by its kind
module _ (vocab : ℕ) (t documents words : List ℕ) (q : Question) where
  pub kind_1 : q.kind ≡ 1 → question_answer vocab t documents words q ≡ word_at_answer t q.p
  unfolding question_answer
  kind_1 e = rw e

  pub kind_2 : q.kind ≡ 2 → question_answer vocab t documents words q ≡ occurrences_answer vocab t q.w q.p
  unfolding question_answer
  kind_2 e = rw e

  pub kind_3 : q.kind ≡ 3 → question_answer vocab t documents words q ≡ place_answer vocab t q.w q.p
  unfolding question_answer
  kind_3 e = rw e

  pub kind_4 : q.kind ≡ 4 → question_answer vocab t documents words q ≡ neighbours_answer vocab t documents q.w q.v q.d
  unfolding question_answer
  kind_4 e = rw e

  pub kind_5 : q.kind ≡ 5 → question_answer vocab t documents words q ≡ phrase_answer vocab t documents words q.start q.length
  unfolding question_answer
  kind_5 e = rw e

  pub kind_none : (q.kind ≡ 1 → ⊥) → (q.kind ≡ 2 → ⊥) → (q.kind ≡ 3 → ⊥) → (q.kind ≡ 4 → ⊥) → (q.kind ≡ 5 → ⊥) → question_answer vocab t documents words q ≡ refused refusal_kind
  unfolding question_answer
  kind_none a b c d e = rw (ne_eqb q.kind 1 a, ne_eqb q.kind 2 b, ne_eqb q.kind 3 c, ne_eqb q.kind 4 d, ne_eqb q.kind 5 e)

-- arrays that the check refuses, and arrays that it accepts
module _ (s : ℕ) (shape : Shape) (a : Arrays) where
  pub check_passed : (check_answer s shape a).refusal ≡ 0 → check_answer s shape a ≡ accepted 0
  unfolding check_answer index_cases vocabulary_case blocks_case
  check_passed e = answers (index_cases s shape a) (accepted 0) (none_holds (index_cases s shape a) (accepted 0) (refl, (refl, (refl, tt))) (eq-eqb (check_answer s shape a).refusal 0 e))

  pub index_refused : ((check_answer s shape a).refusal ≡ 0 → ⊥) → (other : Answer) → first_of (index_cases s shape a) other ≡ check_answer s shape a
  unfolding check_answer
  index_refused h other = first_decided (index_cases s shape a) (accepted 0) other refl (ne_eqb (check_answer s shape a).refusal 0 h)

  pub passage_index : ((check_answer s shape a).refusal ≡ 0 → ⊥) → (p : ℕ) (z : List ℕ) → passage_answer s shape a p z ≡ check_answer s shape a
  unfolding passage_answer
  passage_index h p z =
      first_append (index_cases s shape a) ((ltb (length (text_in s a)) (p + length z) ⇒ refused refusal_place) ∷ []) (accepted (length z))
      ∙ index_refused h _

  pub passage_outside : (check_answer s shape a).refusal ≡ 0 → (p : ℕ) (z : List ℕ) → length (text_in s a) < p + length z → passage_answer s shape a p z ≡ refused refusal_place
  unfolding passage_answer check_answer index_cases vocabulary_case blocks_case
  passage_outside e p z l =
      first_append (index_cases s shape a) ((ltb (length (text_in s a)) (p + length z) ⇒ refused refusal_place) ∷ []) (accepted (length z))
      ∙ answers (index_cases s shape a) (first_of ((ltb (length (text_in s a)) (p + length z) ⇒ refused refusal_place) ∷ []) (accepted (length z)))
      (none_holds (index_cases s shape a) (accepted 0) (refl, (refl, (refl, tt))) (eq-eqb (check_answer s shape a).refusal 0 e))
      ∙ first_here (ltb (length (text_in s a)) (p + length z)) (refused refusal_place) [] (accepted (length z)) (lt-ltb (length (text_in s a)) (p + length z) l)

  -- a refused passage leaves the slice as it was
  pub passage_untouched : (p : ℕ) (z : List ℕ) → ((passage_answer s shape a p z).refusal ≡ 0 → ⊥) → passage_exit s shape a p z ≡ z
  unfolding passage_exit
  passage_untouched p z h = filled_not (passage_answer s shape a p z) _ z (ne_eqb (passage_answer s shape a p z).refusal 0 h)
