-- Statement: samples of absent words: questions about the ranks 2 and 3 in the text 0 1 0 of two words, which is one document.
use Rattle.std.specs.Prelude.{ℕ, ◌≡◌, true, false, List, [], ◌∷◌, map, pos, negsuc}
use Rattle.base.specs.Answers.{accepted, refused}
use Rattle.documents.specs.Documents.{counts_by_document}
use Rattle.questions.specs.Answering.{has_absent, occurrences_answer, place_answer, neighbours_answer, phrase_answer}

-- the text
abbrev pub two_words : List ℕ
two_words = 0 ∷ 1 ∷ 0 ∷ []

pub record AbsentSamples : Type 0 where
  -- kind 2 of V below 0, 3 and 4, and of V + 1
  pub below : map (occurrences_answer 2 two_words 2) (0 ∷ 3 ∷ 4 ∷ []) ≡ accepted 0 ∷ accepted 0 ∷ refused 11 ∷ []
  pub above : occurrences_answer 2 two_words 3 4 ≡ refused 9
  -- kind 3
  pub place : map (place_answer 2 two_words 2) (0 ∷ 1 ∷ []) ≡ refused 11 ∷ refused 11 ∷ []
  pub place_above : place_answer 2 two_words 3 1 ≡ refused 9
  -- kind 4
  pub neighbour : neighbours_answer 2 two_words (0 ∷ []) 2 0 (pos 0) ≡ accepted 0
  pub mirrored : neighbours_answer 2 two_words (0 ∷ []) 0 2 (pos 0) ≡ accepted 0
  pub itself : neighbours_answer 2 two_words (0 ∷ []) 2 2 (pos 0) ≡ accepted 0
  pub far : neighbours_answer 2 two_words (0 ∷ []) 2 0 (pos 17) ≡ refused 10
  pub far_left : neighbours_answer 2 two_words (0 ∷ []) 0 2 (negsuc 16) ≡ refused 10
  pub neighbour_above : neighbours_answer 2 two_words (0 ∷ []) 0 3 (pos 17) ≡ refused 9
  -- kind 5: 0 V, V, 0 1, and 0 with V + 1
  pub phrase : phrase_answer 2 two_words (0 ∷ []) (0 ∷ 2 ∷ []) 0 2 ≡ accepted 0
  pub phrase_one : phrase_answer 2 two_words (0 ∷ []) (0 ∷ 2 ∷ []) 1 1 ≡ accepted 0
  pub phrase_there : phrase_answer 2 two_words (0 ∷ []) (0 ∷ 1 ∷ []) 0 2 ≡ accepted 1
  pub phrase_above : phrase_answer 2 two_words (0 ∷ []) (0 ∷ 3 ∷ []) 0 2 ≡ refused 9
  -- a word of V + 1 is not the absent one; in each of two documents the phrase 0 V stands 0 times
  pub which : map (has_absent 2) ((0 ∷ 2 ∷ []) ∷ (0 ∷ 3 ∷ []) ∷ (0 ∷ 1 ∷ []) ∷ []) ≡ true ∷ false ∷ false ∷ []
  pub in_documents : counts_by_document (0 ∷ 2 ∷ []) two_words (0 ∷ 2 ∷ []) ≡ 0 ∷ 0 ∷ []
