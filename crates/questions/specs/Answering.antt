-- The answer to a question about the text of an index.
use Rattle.std.specs.Prelude.{ℕ, ◌+◌, Bool, cond, not, ◌||◌, List, [], ◌∷◌, ◌++◌, eqb, leb, ltb, ℤ, nat_abs, length, take, drop}
use Rattle.base.specs.declared.Answer.{Answer}
use Rattle.base.specs.Lists.{all_pass, first_where}
use Rattle.base.specs.Refusals.{refusal_kind, refusal_phrase, refusal_asked_rank, refusal_offset, refusal_place}
use Rattle.base.specs.Answers.{accepted, refused, Case, ◌⇒◌, first_of}
use Rattle.base.specs.Texts.{max_phrase, max_offset, outside}
use Rattle.index.specs.declared.Shape.{Shape}
use Rattle.index.specs.Arrays.{Arrays, text_in}
use Rattle.index.specs.Entries.{index_cases}
use Rattle.words.specs.Words.{rank_at, occurrences_below, frequency, nth_place}
use Rattle.documents.specs.Documents.{documents_case, one_start, places_in, neighbours_in}
use Rattle.questions.specs.declared.Question.{Question}

-- refusals 1, 3, 6 and 19, which every call that brings an index and document starts tries
unfoldable pub reading_cases : ℕ → Shape → Arrays → List ℕ → List Case
reading_cases s shape a documents = index_cases s shape a ++ documents_case (length (text_in s a)) documents ∷ []

-- the answer of these tests: the first refusal, and 0 accepted where there is none
unfoldable pub check_answer_in : ℕ → Shape → Arrays → List ℕ → Answer
check_answer_in s shape a documents = first_of (reading_cases s shape a documents) (accepted 0)

-- whether a rank may be asked about: it is at most V, and V itself is an absent word, which stands nowhere
abbrev pub is_askable : ℕ → ℕ → Bool
is_askable vocab w = leb w vocab

-- refusal 9: a rank asked about is above V
unfoldable pub rank_asked_case : ℕ → List ℕ → Case
rank_asked_case vocab asked = not (all_pass (is_askable vocab) asked) ⇒ refused refusal_asked_rank

-- whether a phrase has an absent word
unfoldable pub has_absent : ℕ → List ℕ → Bool
has_absent vocab phrase = ltb (first_where (λ w. eqb w vocab) phrase) (length phrase)

-- the phrase in a part of the lent words
unfoldable pub phrase_in : List ℕ → ℕ → ℕ → List ℕ
phrase_in words start len = take len (drop start words)

-- refusals 8 and 9 of a phrase: its length is above 16 or its part outside the lent words; one of its words is above V
unfoldable pub phrase_cases : ℕ → List ℕ → ℕ → ℕ → List Case
phrase_cases vocab words start len =
    (ltb max_phrase len || ltb (length words) (start + len) ⇒ refused refusal_phrase)
    ∷ rank_asked_case vocab (phrase_in words start len)
    ∷ []

-- the refusal number of a phrase, 0 where it has none
unfoldable pub phrase_refusal : ℕ → List ℕ → ℕ → ℕ → ℕ
phrase_refusal vocab words start len = (first_of (phrase_cases vocab words start len) (accepted 0)).refusal

-- kind 1: the rank at place p, p < n
unfoldable pub word_at_answer : List ℕ → ℕ → Answer
word_at_answer t p = first_of ((leb (length t) p ⇒ refused refusal_place) ∷ []) (accepted (rank_at t p))

-- kind 2: how often w stands at places below p, p ≤ n
unfoldable pub occurrences_answer : ℕ → List ℕ → ℕ → ℕ → Answer
occurrences_answer vocab t w p =
    first_of (rank_asked_case vocab (w ∷ []) ∷ (ltb (length t) p ⇒ refused refusal_place) ∷ []) (accepted (occurrences_below t w p))

-- kind 3: the place of the p-th w, from 1 up to the number there are
unfoldable pub place_answer : ℕ → List ℕ → ℕ → ℕ → Answer
place_answer vocab t w p =
    first_of (rank_asked_case vocab (w ∷ []) ∷ (outside 1 (frequency t w) p ⇒ refused refusal_place) ∷ []) (accepted (nth_place t w p))

-- kind 4: how often w has v at the offset d, d from -16 to 16, in one document
unfoldable pub neighbours_answer : ℕ → List ℕ → List ℕ → ℕ → ℕ → ℤ → Answer
neighbours_answer vocab t documents w v d =
    first_of (rank_asked_case vocab (w ∷ v ∷ []) ∷ (ltb max_offset (nat_abs d) ⇒ refused refusal_offset) ∷ []) (accepted (neighbours_in documents t w v d))

-- kind 5: how often the phrase stands inside one document
unfoldable pub phrase_answer : ℕ → List ℕ → List ℕ → List ℕ → ℕ → ℕ → Answer
phrase_answer vocab t documents words start len =
    first_of (phrase_cases vocab words start len) (accepted (length (places_in documents t (phrase_in words start len))))

-- the answer to a question about the text t of a vocabulary and its documents: refusal 7 for a kind outside 1 to 5
unfoldable pub question_answer : ℕ → List ℕ → List ℕ → List ℕ → Question → Answer
question_answer vocab t documents words q =
    cond (eqb q.kind 1) (word_at_answer t q.p)
    (cond (eqb q.kind 2) (occurrences_answer vocab t q.w q.p)
    (cond (eqb q.kind 3) (place_answer vocab t q.w q.p)
    (cond (eqb q.kind 4) (neighbours_answer vocab t documents q.w q.v q.d)
    (cond (eqb q.kind 5) (phrase_answer vocab t documents words q.start q.length)
    (refused refusal_kind)))))

-- asking one question of an index with document starts
unfoldable pub ask_answer_in : ℕ → Shape → Arrays → List ℕ → List ℕ → Question → Answer
ask_answer_in s shape a documents words q =
    first_of (reading_cases s shape a documents) (question_answer shape.vocabulary (text_in s a) documents words q)

-- asking one question of an index without document starts: its text is one document
unfoldable pub ask_answer : ℕ → Shape → Arrays → List ℕ → Question → Answer
ask_answer s shape a words q = ask_answer_in s shape a (one_start (length (text_in s a))) words q
