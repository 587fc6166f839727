-- A summary, case by case: its refusals in the order tried, and what it comes to where it is accepted. Assumes nothing.
use Prim.Native.Nat.{ℕ, ◌+◌, ◌≤◌, ◌<◌}
use mathlib.Core.Path.{◌≡◌, refl, ap, ◌∙◌}
use mathlib.Core.Bool.{true, false, not, ◌||◌}
use mathlib.Core.List.{List, [], ◌∷◌, ◌++◌}
use native.Mathlib.Omega.{arith}
use borrow.Author.Tests.{eq-eqb, ne_eqb, lt-ltb, le-ltb, ltb-false, not-false}
use lib.Dec.{ltb}
use lib.ListN.{length}
use Rattle.base.specs.declared.Answer.{Answer}
use Rattle.base.specs.Refusals.{refusal_phrase, refusal_page}
use Rattle.base.specs.Answers.{Case, ◌⇒◌, first_of, is_accepted, accepted, refused}
use Rattle.base.specs.Lists.{all_pass}
use Rattle.base.specs.Texts.{max_phrase, outside}
use Rattle.base.proofs.Tests.{or_left, or_neither, or_false, inside_range, range_inside}
use Rattle.base.proofs.Answers.{first_here, first_append, first_decided, none_holds, none_append, answers, filled_not}
use Rattle.dense.specs.Code.{vocabulary_case}
use Rattle.directory.specs.Counters.{blocks_case}
use Rattle.index.specs.declared.Shape.{Shape}
use Rattle.index.specs.Arrays.{Arrays, text_in}
use Rattle.index.specs.Entries.{index_cases, check_answer}
use Rattle.documents.specs.Documents.{are_starts, documents_case, places_in}
use Rattle.questions.specs.Answering.{reading_cases, check_answer_in, is_askable, rank_asked_case, phrase_in, phrase_cases, phrase_refusal, phrase_answer}
use Rattle.questions.proofs.Answered.{phrase_refused}
use Rattle.questions.proofs.Checks.{reading_refused, reading_passed, check_in_clear, reading_tests}
use Rattle.summaries.specs.Summaries.{summary_request_cases, summary_request, summary_cases, summary_answer, summary_exit, Summarised}

-- the tests after those of the index and of the starts
module _ (vocab : ℕ) (words : List ℕ) (start len documents room : ℕ) where
  -- the test of the room, after those of the phrase
  abbrev room_test : List Case
  room_test = (ltb room documents ⇒ refused refusal_page) ∷ []

  -- the phrase of no words
  pub request_no_words : len ≡ 0 → summary_request vocab words start len documents room ≡ refused refusal_phrase
  unfolding summary_request summary_request_cases outside
  request_no_words none =
      first_here (outside 1 max_phrase len || ltb (length words) (start + len)) (refused refusal_phrase) _ (accepted 0)
      (or_left (outside 1 max_phrase len) (ltb (length words) (start + len)) (or_left (ltb len 1) (ltb max_phrase len) (lt-ltb len 1 (omega arith))))

  module _ (some : 1 ≤ len) where
    -- of another the tests are those of a phrase, and that of the room
    request-cases : summary_request_cases vocab words start len documents room ≡ phrase_cases vocab words start len ++ room_test
    unfolding summary_request_cases phrase_cases outside
    request-cases = rw (le-ltb len 1 some)

    request-split : summary_request vocab words start len documents room ≡ first_of (phrase_cases vocab words start len) (first_of room_test (accepted 0))
    unfolding summary_request
    request-split = ap (λ (cs : List Case). first_of cs (accepted 0)) request-cases ∙ first_append (phrase_cases vocab words start len) room_test (accepted 0)

    -- the tests of the phrase decide
    pub request_phrase : (phrase_refusal vocab words start len ≡ 0 → ⊥) → summary_request vocab words start len documents room ≡ refused (phrase_refusal vocab words start len)
    unfolding phrase_answer
    request_phrase h =
        let ph = phrase_cases vocab words start len in
        let not-it = phrase_refused vocab words start len [] [] h in
        request-split
        ∙ first_decided ph (accepted (length (places_in [] [] (phrase_in words start len)))) (first_of room_test (accepted 0)) refl (ap is_accepted not-it ∙ ne_eqb (phrase_refusal vocab words start len) 0 h)
        ∙ not-it

    -- or leave it to that of the room
    module _ (f : phrase_refusal vocab words start len ≡ 0) where
      request-room : summary_request vocab words start len documents room ≡ first_of room_test (accepted 0)
      unfolding phrase_refusal phrase_cases rank_asked_case
      request-room =
          let ph = phrase_cases vocab words start len in
          request-split ∙ answers ph (first_of room_test (accepted 0)) (none_holds ph (accepted 0) (refl, (refl, tt)) (eq-eqb (phrase_refusal vocab words start len) 0 f))

      pub request_short : room < documents → summary_request vocab words start len documents room ≡ refused refusal_page
      request_short h = request-room ∙ first_here (ltb room documents) (refused refusal_page) [] (accepted 0) (lt-ltb room documents h)

      pub request_none : documents ≤ room → summary_request vocab words start len documents room ≡ accepted 0
      request_none h = request-room ∙ answers room_test (accepted 0) (le-ltb room documents h, tt)

module _ (s : ℕ) (shape : Shape) (a : Arrays) (documents words : List ℕ) (start len room : ℕ) where
  -- the tests after those of the index and of the starts, and their answer
  abbrev request : List Case
  request = summary_request_cases shape.vocabulary words start len (length documents) room

  abbrev asked : Answer
  asked = summary_request shape.vocabulary words start len (length documents) room

  -- the tests of the index and of the starts decide
  pub summary_checked : ((check_answer_in s shape a documents).refusal ≡ 0 → ⊥) → summary_answer s shape a documents words start len room ≡ check_answer_in s shape a documents
  unfolding summary_answer summary_cases
  summary_checked h = first_append (reading_cases s shape a documents) request (accepted (length documents)) ∙ reading_refused s shape a documents h _

  -- or leave it to those after them
  after_check : (check_answer_in s shape a documents).refusal ≡ 0 → summary_answer s shape a documents words start len room ≡ first_of request (accepted (length documents))
  unfolding summary_answer summary_cases
  after_check e =
      let ok = check_in_clear s shape a documents e in
      first_append (reading_cases s shape a documents) request (accepted (length documents)) ∙ reading_passed s shape a documents ok.0 ok.1 _

  pub summary_asked : (check_answer_in s shape a documents).refusal ≡ 0 → (asked.refusal ≡ 0 → ⊥) → summary_answer s shape a documents words start len room ≡ asked
  unfolding summary_request
  summary_asked e h = after_check e ∙ first_decided request (accepted 0) (accepted (length documents)) refl (ne_eqb asked.refusal 0 h)

  pub summary_accepted : (check_answer_in s shape a documents).refusal ≡ 0 → asked.refusal ≡ 0 → summary_answer s shape a documents words start len room ≡ accepted (length documents)
  unfolding summary_request summary_request_cases rank_asked_case
  summary_accepted e f =
      after_check e ∙ answers request (accepted (length documents)) (none_holds request (accepted 0) (refl, (refl, (refl, tt))) (eq-eqb asked.refusal 0 f))

  -- what an accepted summary has passed
  pub summarised : is_accepted (summary_answer s shape a documents words start len room) ≡ true → Summarised s shape a documents words start len room
  unfolding summary_answer summary_cases summary_request_cases rank_asked_case reading_cases documents_case index_cases vocabulary_case blocks_case check_answer
  summarised h =
      let n = none_holds (summary_cases s shape a documents words start len room) (accepted (length documents)) (refl, (refl, (refl, (refl, (refl, (refl, (refl, tt))))))) h in
      let o = or_neither (outside 1 max_phrase len) (ltb (length words) (start + len)) n.1.1.1.1.0 in
      let i = range_inside 1 max_phrase len o.0 in
      record {
        passed = answers (index_cases s shape a) (accepted 0) (n.0, (n.1.0, (n.1.1.0, tt)));
        rules = not-false (are_starts (length (text_in s a)) documents) n.1.1.1.0;
        some = i.0;
        most = i.1;
        inside = ltb-false (length words) (start + len) o.1;
        askable = not-false (all_pass (is_askable shape.vocabulary) (phrase_in words start len)) n.1.1.1.1.1.0;
        enough = ltb-false room (length documents) n.1.1.1.1.1.1.0;
      }

  -- and one that has passed it is accepted
  pub accepts : Summarised s shape a documents words start len room → summary_answer s shape a documents words start len room ≡ accepted (length documents)
  unfolding summary_answer summary_cases summary_request_cases rank_asked_case
  accepts p =
      answers (summary_cases s shape a documents words start len room) (accepted (length documents))
      (none_append (reading_cases s shape a documents) request (reading_tests s shape a documents p.passed p.rules) (
        or_false (outside 1 max_phrase len) (ltb (length words) (start + len)) (inside_range 1 max_phrase len p.some p.most) (le-ltb (length words) (start + len) p.inside),
        (ap not p.askable, (le-ltb room (length documents) p.enough, tt)),
      ))

-- a refused summary leaves its slice
pub summary_untouched : (s : ℕ) (shape : Shape) (a : Arrays) (documents words : List ℕ) (start len : ℕ) (z : List ℕ)
    → is_accepted (summary_answer s shape a documents words start len (length z)) ≡ false → summary_exit s shape a documents words start len z ≡ z
unfolding summary_exit
summary_untouched s shape a documents words start len z h = filled_not (summary_answer s shape a documents words start len (length z)) _ z h
