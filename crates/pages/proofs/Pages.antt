-- Laws of one page: of what its state has still to write, a page writes the first and leaves the rest. Assumes nothing.
use Prim.Native.Nat.{ℕ, suc, ◌-◌, ◌≤◌, ◌<◌}
use mathlib.Core.Path.{◌≡◌, refl, sym, ap, ◌∙◌}
use mathlib.Core.Bool.{Bool, true, false, cond, not}
use mathlib.Core.List.{List, [], ◌∷◌, ◌++◌}
use native.Mathlib.Omega.{arith}
use borrow.Author.Tests.{ltb-true, ltb-false, lt-ltb, le-ltb, not-true}
use lib.Dec.{ltb}
use lib.ListN.{length, take, drop, length-append, length-drop, drop_of_length-le}
use lib.Seq.{take_all, take-nil, drop-nil, take_at}
use Rattle.base.proofs.Ranges.{length_filter_range, filter_range_none}
use Rattle.pages.specs.Hits.{hits_from, last_or}
use Rattle.pages.specs.Pages.{HitPage, pending, more_after, page_over}
use Rattle.pages.proofs.Hits.{hits_rest}

-- a page that is full, with another hit after it
abbrev pub full_page : List ℕ → HitPage
full_page found = record { found = found; more = true; next = suc (last_or 0 found); finished = false }

-- a page with which the hits run out
abbrev pub end_page : ℕ → List ℕ → HitPage
end_page end found = record { found = found; more = false; next = end; finished = true }

module _ (P : ℕ → Bool) (end lines next : ℕ) (finished : Bool) where
  -- a page writes the first of the pending hits, as many as it has lines
  pub page_found : (page_over P end lines next finished).found ≡ take lines (pending P end next finished)
  unfolding page_over
  page_found = refl

  -- it reports more exactly if more hits are pending than it has lines
  pub page_more : (page_over P end lines next finished).more ≡ ltb lines (length (pending P end next finished))
  unfolding page_over
  page_more = refl

  -- the state that it hands back is finished exactly if it does not
  pub page_closes : (page_over P end lines next finished).finished ≡ not (page_over P end lines next finished).more
  unfolding page_over
  page_closes = refl

-- and it has its next place at the end then, if a finished one had
pub page_ended : (P : ℕ → Bool) (end lines next : ℕ) (finished : Bool) → (finished ≡ true → next ≡ end) → (page_over P end lines next finished).finished ≡ true
    → (page_over P end lines next finished).next ≡ end
unfolding page_over
page_ended P end lines next true k f = rw (not-true (more_after P end lines next true) f) (k refl)
page_ended P end lines next false k f = rw (not-true (more_after P end lines next false) f)

module _ (P : ℕ → Bool) (end lines : ℕ) (some : 1 ≤ lines) (next : ℕ) (inside : next ≤ end) where
  -- past the hits of a full page are the rest of those that were pending
  full_rest : lines < length (hits_from P end next) → hits_from P end (suc (last_or 0 (take lines (hits_from P end next)))) ≡ drop lines (hits_from P end next)
  full_rest h =
      let e : suc (lines - 1) ≡ lines = omega arith in
      ap (λ (n : ℕ). hits_from P end (suc (last_or 0 (take n (hits_from P end next))))) (sym e) ∙ hits_rest P end next (lines - 1) inside (omega arith)
      ∙ ap (λ (n : ℕ). drop n (hits_from P end next)) e

  -- pending after a page is the rest of what was pending before it
  pub page_rest : (finished : Bool)
      → pending P end (page_over P end lines next finished).next (page_over P end lines next finished).finished ≡ drop lines (pending P end next finished)
  unfolding page_over
  page_rest true = rw (le-ltb lines 0 (omega arith)) (sym (drop-nil lines))
  page_rest false = by (ltb lines (length (hits_from P end next))) refl
    where
      by : (b : Bool) → ltb lines (length (hits_from P end next)) ≡ b
          → pending P end (cond b (suc (last_or 0 (take lines (hits_from P end next)))) end) (not b) ≡ drop lines (hits_from P end next)
      by true e = full_rest (ltb-true lines (length (hits_from P end next)) e)
      by false e = sym (drop_of_length-le (hits_from P end next) (ltb-false lines (length (hits_from P end next)) e))

  -- a page hands back a next place that is not past the end
  pub page_within : (finished : Bool) → (page_over P end lines next finished).next ≤ end
  unfolding page_over
  page_within true = rw (le-ltb lines 0 (omega arith)) inside
  page_within false = by (ltb lines (length (hits_from P end next))) refl
    where
      by : (b : Bool) → ltb lines (length (hits_from P end next)) ≡ b → cond b (suc (last_or 0 (take lines (hits_from P end next)))) end ≤ end
      by false e = omega arith
      by true e =
          let l : lines < length (hits_from P end next) = ltb-true lines (length (hits_from P end next)) e in
          let after : ℕ = suc (last_or 0 (take lines (hits_from P end next))) in
          omega (arith, length_filter_range P after (suc end - after), ap length (full_rest l), length-drop lines (hits_from P end next))

-- the page of a search that has filled it and met another hit
pub page_full : (P : ℕ → Bool) (end lines next q : ℕ) (ws later : List ℕ) → hits_from P end next ≡ ws ++ q ∷ later → length ws ≡ lines
    → page_over P end lines next false ≡ full_page ws
unfolding page_over
page_full P end lines next q ws later e l =
    rw (e, lt-ltb lines (length (ws ++ q ∷ later)) (omega (arith, length-append ws (q ∷ later))), take_at ws (q ∷ later) lines l)

-- the page of a search that has met no hit that it had no line for
pub page_last : (P : ℕ → Bool) (end lines next : ℕ) (ws : List ℕ) → hits_from P end next ≡ ws → length ws ≤ lines
    → page_over P end lines next false ≡ end_page end ws
unfolding page_over
page_last P end lines next ws e l = rw (e, le-ltb lines (length ws) l, take_all lines ws l)

-- the page over a finished state
pub page_over_finished : (P : ℕ → Bool) (end lines next : ℕ) → page_over P end lines next true ≡ end_page next []
unfolding page_over
page_over_finished P end lines next = rw (le-ltb lines 0 (omega arith), take-nil lines)

-- where there is no hit the page over a state that is not finished ends the listing
pub page_nowhere : (P : ℕ → Bool) → ((q : ℕ) → P q ≡ false) → (end lines next : ℕ) → page_over P end lines next false ≡ end_page end []
page_nowhere P none end lines next = page_last P end lines next [] (filter_range_none P next (suc end - next) (λ q l u. none q)) (omega arith)

-- and over whatever state nothing is written
pub page_none : (P : ℕ → Bool) → ((q : ℕ) → P q ≡ false) → (end lines next : ℕ) (finished : Bool) → (page_over P end lines next finished).found ≡ []
page_none P none end lines next true = ap (λ (p : HitPage). p.found) (page_over_finished P end lines next)
page_none P none end lines next false = ap (λ (p : HitPage). p.found) (page_nowhere P none end lines next)

-- the page over a state that is not finished depends on nothing but the hits that are pending, and the end
pub page_by_hits : (P Q : ℕ → Bool) (end lines next from : ℕ) → hits_from P end next ≡ hits_from Q end from
    → page_over P end lines next false ≡ page_over Q end lines from false
unfolding page_over
page_by_hits P Q end lines next from e = rw e
