-- Ascending starts for a search by halving: they are sorted, and where those at or before a place end is the number of its document. Assumes nothing.
use Rattle.std.proofs.Common.{◌≡◌, ◌≤◌, ◌<◌, ℕ, zero, suc, true, List, [], ◌∷◌, length, get_or, inl, inr, ◌⊎◌, arith}
use Rattle.std.specs.List.Sorted.{IsNonDecreasing}
use Rattle.std.proofs.lemmas.List.Sorted.{IsNonDecreasingBy-from_default}
use Rattle.base.proofs.Tests.{below_or_not}
use Rattle.documents.specs.Documents.{is_ascending, document_of}
use Rattle.documents.proofs.Starts.{ascending_above, ascending_rest}
use Rattle.documents.proofs.Numbers.{document_most, document_started, document_ahead}

-- an earlier start is no later
rises : (xs : List ℕ) → is_ascending xs ≡ true → (i j : ℕ) → i ≤ j → j < length xs → get_or xs i 0 ≤ get_or xs j 0
rises [] e i j h l = absurd (omega arith)
rises (x ∷ xs) e zero zero h l = omega arith
rises (x ∷ xs) e zero (suc j) h l = omega (arith, ascending_above x xs e j (omega arith))
rises (x ∷ xs) e (suc i) zero h l = absurd (omega arith)
rises (x ∷ xs) e (suc i) (suc j) h l = rises xs (ascending_rest x xs e) i j (omega arith) (omega arith)

pub ascending_sorted : (xs : List ℕ) → is_ascending xs ≡ true → IsNonDecreasing xs
ascending_sorted xs e = IsNonDecreasingBy-from_default (λ (x : ℕ). x) xs 0 (rises xs e)

-- if the starts below i are those at or before a place, i documents have started there
pub started_are : (starts : List ℕ) → is_ascending starts ≡ true → (q i : ℕ) → i ≤ length starts → ((k : ℕ) → k < i → get_or starts k 0 ≤ q)
    → (i < length starts → q < get_or starts i 0) → i ≡ document_of starts q
started_are starts e q zero h before behind = by (below_or_not zero (length starts))
  where
    by : (zero < length starts) ⊎ (length starts ≤ zero) → zero ≡ document_of starts q
    by (inl l) = omega (arith, document_ahead starts e q zero (behind l))
    by (inr l) = omega (arith, document_most starts q)
started_are starts e q (suc i) h before behind = by (below_or_not (suc i) (length starts))
  where
    least : i < document_of starts q
    least = document_started starts e q i (omega arith) (before i (omega arith))

    by : (suc i < length starts) ⊎ (length starts ≤ suc i) → suc i ≡ document_of starts q
    by (inl l) = omega (arith, least, document_ahead starts e q (suc i) (behind l))
    by (inr l) = omega (arith, least, document_most starts q)
