-- Each place is a hit.
use Rattle.std.proofs.Common.{◌≡◌, ℕ, ◌+◌, ◌-◌, ◌≤◌, ◌<◌, false, set, suc, List, [], ◌∷◌, ◌++◌, length, ap, ◌∙◌, refl, arith}
use native.Mathlib.Nat.{sub_self}
use Rattle.base.specs.Lists.{range_from}
use Rattle.base.proofs.Ranges.{filter_range_all, range_append}
use Rattle.base.specs.Answers.{front}
use Rattle.pages.specs.Pages.{page_over}
use Rattle.pages.proofs.Filling.{Filled, filled_none, filled_more, filled_length}
use Rattle.hits.specs.Hits.{hits_between}
use Rattle.paging.specs.Places.{every_place}
use Rattle.paging.specs.declared.Written.{Written}
use Rattle.paging.specs.Written.{written_of, ended_at}
use Rattle.paging.proofs.Filling.{filling_full, filling_over}
use Rattle.paging.proofs.write_places.Goals as goal
use Rattle.paging.proofs.write_places.Goals.{else-loop-at-test, then-loop-at-test+else-count-lines+else-at-at-end}

module _ (from at : ℕ) (h : from ≤ at) where
  -- the places from one on, parted at another
  range_parted : (m : ℕ) → range_from from (at + suc m - from) ≡ range_from from (at - from) ++ at ∷ range_from (suc at) m
  range_parted m =
      let e : at + suc m - from ≡ (at - from) + suc m = omega arith in
      let f : from + (at - from) ≡ at = omega arith in
      ap (range_from from) e
      ∙ range_append from (at - from) (suc m)
      ∙ ap (λ (k : ℕ). range_from from (at - from) ++ range_from k (suc m)) f

  -- with it
  range_with : range_from from (at + 1 - from) ≡ range_from from (at - from) ++ at ∷ []
  range_with = range_parted 0

  -- all of them are hits
  parted : (n : ℕ) → at ≤ n → hits_between every_place from (suc n) ≡ range_from from (at - from) ++ at ∷ range_from (suc at) (n - at)
  parted n l =
      let e : suc n ≡ at + suc (n - at) = omega arith in
      filter_range_all every_place from (suc n - from) (λ q a b. refl)
      ∙ ap (λ (k : ℕ). range_from from (k - from)) e
      ∙ range_parted (n - at)

pub loop-at-init : goal.loop-at-init
loop-at-init c = record { filled = rw (sub_self c.args.from.0) (filled_none c.args.lines.now); inside = omega arith }

pub returns-then-count-lines : goal.returns-then-count-lines
returns-then-count-lines c =
    filling_full every_place c.args.end.0 c.args.from.0 c.args.lines.now c.loop-at.lines (range_from c.args.from.0 (c.loop-at.at - c.args.from.0)) c.loop-at.count c.loop-at.last.0 c.loop-at.invariant.filled c.full.result
    c.loop-at.at (range_from (suc c.loop-at.at) (c.args.end.0 - c.loop-at.at)) (parted c.args.from.0 c.loop-at.at (omega arith) c.args.end.0 (omega arith)) c.if-count-lines.true c.full.ensures

pub loop-at-preserved : goal.loop-at-preserved
loop-at-preserved c =
    let f = c.loop-at.invariant.filled in
    record {
      filled = rw (range_with c.args.from.0 c.loop-at.at (omega arith))
          (filled_more c.args.lines.now (range_from c.args.from.0 (c.loop-at.at - c.args.from.0)) c.loop-at.lines c.loop-at.count c.loop-at.last.0 c.loop-at.at f
          (omega (arith, filled_length _ _ _ _ _ f, f.fits, c.if-count-lines.false)));
      inside = omega arith;
    }

-- with the last of them
over : (from at n : ℕ) (entry slice lines : List ℕ) (count more last : ℕ) (r : Written) → from ≤ at → at ≡ n → Filled entry (range_from from (at - from)) slice count last → count < length slice
    → lines ≡ set slice count at → more ≡ count + 1 → r ≡ ended_at more n
    → (r ≡ written_of (page_over every_place n (length entry) from false)) × (lines ≡ front (page_over every_place n (length entry) from false).found entry)
over from at n entry slice lines count more last r h e f room is counted result =
    let z : n - at ≡ 0 = omega arith in
    let all : hits_between every_place from (suc n) ≡ range_from from (at - from) ++ at ∷ [] = parted from at h n (omega arith) ∙ ap (λ (k : ℕ). range_from from (at - from) ++ at ∷ range_from (suc at) k) z in
    let g : Filled entry (range_from from (at - from) ++ at ∷ []) lines more at = rw (is, counted) (filled_more entry (range_from from (at - from)) slice count last at f (omega (arith, filled_length _ _ _ _ _ f))) in
    filling_over every_place n from entry lines (range_from from (at - from) ++ at ∷ []) more at g r all result

pub returns : goal.returns
returns c =
    elim c.loop-at-test.branch [
      | else-loop-at-test w ↦ absurd (omega arith)
      | then-loop-at-test+else-count-lines+else-at-at-end w ↦
          let f = c.loop-at.invariant.filled in
          over c.args.from.0 c.loop-at.at c.args.end.0 c.args.lines.now c.loop-at.lines c.loop-at-test.lines c.loop-at.count c.loop-at-test.count c.loop-at.last.0 c.ended.result (omega arith) (omega arith) f
          (omega (arith, filled_length _ _ _ _ _ f, f.fits, w.if-count-lines.false)) w.lines-is w.count-is c.ended.ensures
    ]
