-- A loop that fills a page with places: its start, a turn of it, and the two ways out. Assumes nothing.
use Rattle.std.proofs.Common.{◌≡◌, ℕ, suc, ◌+◌, ◌≤◌, ◌<◌, Bool, true, false, List, ◌∷◌, ◌++◌, Some, length, arith}
use native.Mathlib.Nat.{sub_self}
use lib.ListN.{set}
use Rattle.base.specs.Answers.{front}
use Rattle.tree.specs.declared.Place.{Place}
use Rattle.pages.specs.Pages.{HitPage, page_over}
use Rattle.pages.proofs.Pages.{page_full, page_last}
use Rattle.pages.proofs.Filling.{Filled, filled_none, filled_more, filled_length}
use Rattle.pages.proofs.Searching.{Made, made_full, made_end}
use Rattle.hits.specs.Hits.{hits_between, least_hit}
use Rattle.hits.proofs.Least.{hits_more}
use Rattle.paging.specs.declared.Written.{Written}
use Rattle.paging.specs.Written.{written_of}

-- what is returned and what the slice holds, as the contract says it
pub written_result : (p : HitPage) (entry slice : List ℕ) (count : ℕ) (more : Bool) (next : ℕ) (finished : Bool) (r : Written)
    → r ≡ record { count = count; more = more; next = record { 0 = next }; finished = finished } → Made p entry slice count more next finished
    → (r ≡ written_of p) × (slice ≡ front p.found entry)
written_result p entry slice count more next finished r e m = (rw (e, m.value_is, m.more_is, m.next_is, m.finished_is), m.slice_is)

-- at the first place nothing is written
pub filling_starts : (P : ℕ → Bool) (next : ℕ) (entry : List ℕ) → Filled entry (hits_between P next next) entry 0 0
filling_starts P next entry = rw (sub_self next) (filled_none entry)

-- the search began at the place `next` and is at `place`: the slice has the hits between; another hit, and there is a line for it
pub filling_more : (P : ℕ → Bool) (n next place end : ℕ) (entry slice : List ℕ) (count last : ℕ) → end ≡ suc n → next ≤ place → Filled entry (hits_between P next place) slice count last
    → (q : Place) → least_hit P place end ≡ Some q → count < length entry → Filled entry (hits_between P next (q.0 + 1)) (set slice count q.0) (count + 1) q.0
filling_more P n next place end entry slice count last e h f q is room = rw (hits_more P place end q is next h) (filled_more entry (hits_between P next place) slice count last q.0 f room)

-- the slice has the first hits of those from the place `next` on
module _ (P : ℕ → Bool) (n next : ℕ) (entry slice xs : List ℕ) (count last : ℕ) (f : Filled entry xs slice count last) (r : Written) where
  -- another hit follows, and the page is full
  pub filling_full : (q : ℕ) (rest : List ℕ) → hits_between P next (suc n) ≡ xs ++ q ∷ rest → count ≡ length slice
      → r ≡ record { count = count; more = true; next = record { 0 = last + 1 }; finished = false }
      → (r ≡ written_of (page_over P n (length entry) next false)) × (slice ≡ front (page_over P n (length entry) next false).found entry)
  filling_full q rest is full e =
      written_result (page_over P n (length entry) next false) entry slice count true (last + 1) false r e
      (made_full (page_over P n (length entry) next false) entry xs slice count last f
      (page_full P n (length entry) next q xs rest is (omega (arith, filled_length entry xs slice count last f, f.value_is))))

  -- no more follow
  pub filling_over : hits_between P next (suc n) ≡ xs → r ≡ record { count = count; more = false; next = record { 0 = n }; finished = true }
      → (r ≡ written_of (page_over P n (length entry) next false)) × (slice ≡ front (page_over P n (length entry) next false).found entry)
  filling_over is e =
      written_result (page_over P n (length entry) next false) entry slice count false n true r e
      (made_end (page_over P n (length entry) next false) entry xs slice count last n f
      (page_last P n (length entry) next xs is (omega (arith, f.value_is, f.fits))))
