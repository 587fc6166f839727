-- What a loop that fills a page returns and leaves in the slice. Assumes nothing.
use Prim.Native.Nat.{ℕ, suc, ◌+◌}
use mathlib.Core.Path.{◌≡◌, refl, ap, ◌∙◌}
use mathlib.Core.Bool.{Bool, true, false}
use mathlib.Core.List.{List, []}
use native.Mathlib.Numerals.{add-one}
use lib.ListN.{length}
use Rattle.base.specs.Answers.{front}
use Rattle.pages.specs.Pages.{HitPage, page_over}
use Rattle.pages.proofs.Pages.{full_page, end_page, page_over_finished, page_nowhere}
use Rattle.pages.proofs.Filling.{Filled, filled_none}

-- what is returned and what is left in the slice, which was `entry`, is a page
pub record Made (p : HitPage) (entry slice : List ℕ) (value : ℕ) (more : Bool) (next : ℕ) (finished : Bool) : Type 0 where
  pub value_is : value ≡ length p.found
  pub more_is : more ≡ p.more
  pub next_is : next ≡ p.next
  pub finished_is : finished ≡ p.finished
  pub slice_is : slice ≡ front p.found entry

-- a filled slice, of a page that is full
pub made_full : (p : HitPage) (entry found slice : List ℕ) (value last : ℕ) → Filled entry found slice value last → p ≡ full_page found → Made p entry slice value true (last + 1) false
made_full p entry found slice value last f e =
    rw e (record { value_is = f.value_is; more_is = refl; next_is = add-one last ∙ ap suc f.last_is; finished_is = refl; slice_is = f.slice_is })

-- a filled slice, of a page with which the hits run out
pub made_end : (p : HitPage) (entry found slice : List ℕ) (value last end : ℕ) → Filled entry found slice value last → p ≡ end_page end found → Made p entry slice value false end true
made_end p entry found slice value last end f e =
    rw e (record { value_is = f.value_is; more_is = refl; next_is = refl; finished_is = refl; slice_is = f.slice_is })

-- over a finished state nothing is written, and the state comes back the same
pub made_finished : (P : ℕ → Bool) (end next : ℕ) (entry : List ℕ) → Made (page_over P end (length entry) next true) entry entry 0 false next true
made_finished P end next entry = made_end (page_over P end (length entry) next true) entry [] entry 0 0 next (filled_none entry) (page_over_finished P end (length entry) next)

-- where there is no hit nothing is written, and the state is finished at the end
pub made_none : (P : ℕ → Bool) → ((q : ℕ) → P q ≡ false) → (end next : ℕ) (entry : List ℕ) → Made (page_over P end (length entry) next false) entry entry 0 false end true
made_none P none end next entry = made_end (page_over P end (length entry) next false) entry [] entry 0 0 end (filled_none entry) (page_nowhere P none end (length entry) next)
