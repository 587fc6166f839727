-- What the call that writes a listing answers and leaves. Assumes nothing.
use Prim.Native.Nat.{ℕ, ◌≤◌, ◌<◌}
use mathlib.Core.Path.{◌≡◌, sym, ap, ◌∙◌}
use mathlib.Core.Logic.{◌⊎◌, inl, inr}
use mathlib.Core.List.{List}
use native.Mathlib.Omega.{arith}
use borrow.Author.Tests.{lt-ltb, le-ltb}
use lib.ListN.{length, take}
use lib.Seq.{length-take-le}
use Rattle.base.specs.declared.Answer.{Answer}
use Rattle.base.specs.Answers.{accepted, refused, is_accepted, front}
use Rattle.base.proofs.Answers.{first_here, first_later, first_none, filled_not, filled_front}
use Rattle.base.proofs.Fronts.{front_is, length_front}
use Rattle.base.proofs.Tests.{below_or_not}
use Rattle.node_listing.specs.Listing.{listing}
use Rattle.node_listing.specs.Calls.{listing_answer, listing_exit}

module _ (stream z : List ℕ) where
  -- a slice that is too short stays as it was
  pub listing_short : length z < length (listing stream) → (listing_answer stream z ≡ refused 5) × (listing_exit stream z ≡ z)
  unfolding listing_answer listing_exit
  listing_short h =
      let e : listing_answer stream z ≡ refused 5 = first_here _ _ _ _ (lt-ltb (length z) (length (listing stream)) h) in
      (e, filled_not (listing_answer stream z) (listing stream) z (ap is_accepted e))

  -- a slice that is long enough has the listing in front
  pub listing_written : length (listing stream) ≤ length z → (listing_answer stream z ≡ accepted (length (listing stream))) × (listing_exit stream z ≡ front (listing stream) z)
  unfolding listing_answer listing_exit
  listing_written h =
      let e : listing_answer stream z ≡ accepted (length (listing stream)) = first_later _ _ _ _ (le-ltb (length z) (length (listing stream)) h) ∙ first_none _ in
      (e, filled_front (listing_answer stream z) (listing stream) z (ap is_accepted e) ∙ sym (front_is (listing stream) z))

  -- the number that is answered counts bytes of the slice as it is left
  pub listing_counts : (r : Answer) (y : List ℕ) → r ≡ listing_answer stream z → y ≡ listing_exit stream z → (r.value ≤ length y) × (r.value ≡ length (take r.value y))
  listing_counts r y is left =
      let n : r.value ≤ length y = go (below_or_not (length z) (length (listing stream))) in
      (n, sym (length-take-le r.value y n))
    where
      go : (length z < length (listing stream)) ⊎ (length (listing stream) ≤ length z) → r.value ≤ length y
      go (inl h) = omega (arith, ap (λ (a : Answer). a.value) (is ∙ (listing_short h).0))
      go (inr h) = omega (arith, ap (λ (a : Answer). a.value) (is ∙ (listing_written h).0), ap length (left ∙ (listing_written h).1), length_front (listing stream) z h)
