-- The hits so far are written, and each way out is the page.
use Rattle.std.proofs.Common.{◌≡◌, ℕ, ◌≤◌, suc, map, List, [], ◌∷◌, ◌++◌, length, ap, ◌∙◌, arith}
use Rattle.std.proofs.lemmas.List.{map-append}
use Rattle.base.specs.Texts.{max_words}
use Rattle.tree.specs.declared.Place.{Place}
use Rattle.words.specs.Texts.{text_of}
use Rattle.words.proofs.Positions.{text_most}
use Rattle.documents.specs.Documents.{stands_in}
use Rattle.pages.proofs.Filling.{filled_none, filled_more, filled_length}
use Rattle.matching.proofs.FirstBytes.{first_bytes_part}
use Rattle.hits.specs.Hits.{hits_between}
use Rattle.hits.specs.Left.{hits_left}
use Rattle.hits.proofs.Left.{at_turn, at_end, is_one}
use Rattle.paging.specs.Written.{ended_at}
use Rattle.paging.proofs.Filling.{filling_full, filling_over}
use Rattle.paging.proofs.fill_page.Goals as goal
use Rattle.paging.proofs.fill_page.Goals.{In-Some}

pub invariant_of-query-clause-firsts_are : goal.invariant_of-query-clause-firsts_are
invariant_of-query-clause-firsts_are c = first_bytes_part c.args.text.now.index.s c.args.words.now _ _ c.first_bytes.ensures

pub loop-place-init : goal.loop-place-init
loop-place-init c = record { filled = filled_none c.args.lines.now; inside = omega arith }

-- a turn of the loop
module _ (c : In-Some) where
  abbrev so_far : List ℕ
  so_far = map (λ (p : Place). p.0) c.loop-place.yielded

  parted : hits_between (stands_in c.args.documents.now (text_of c.args.text.now) c.args.words.now) c.args.next.0 (suc (length (text_of c.args.text.now)))
      ≡ so_far ++ c.in-Some.place.0 ∷ hits_left c.next.new.self
  parted = at_turn _ _ _ c.loop-place.yielded c.in-Some.place c.hits_from-place-items.ensures.left c.into_iter-place-iterator.ensures.into_iter_gives c.loop-place.yielded_by c.in-Some.ensures.steps

  hit_inside : c.in-Some.place.0 ≤ max_words
  hit_inside =
      let n = length (text_of c.args.text.now) in
      omega (arith, (is_one (stands_in c.args.documents.now (text_of c.args.text.now) c.args.words.now) c.args.next.0 n so_far (hits_left c.next.new.self) c.in-Some.place.0 parted).0, text_most c.args.text.now.ready.checked)

pub returns-then-count-lines : goal.returns-then-count-lines
returns-then-count-lines c =
    let w = (goal.at.returns-then-count-lines c).In-Some in
    filling_full (stands_in c.args.documents.now (text_of c.args.text.now) c.args.words.now) (length (text_of c.args.text.now)) c.args.next.0 c.args.lines.now c.loop-place.lines (so_far w) c.loop-place.count c.loop-place.last.0
    c.loop-place.invariant.filled c.full.result c.in-Some.place.0 (hits_left c.next.new.self) (parted w) c.if-count-lines.true c.full.ensures

pub overflow_cast-lines : goal.overflow_cast-lines
overflow_cast-lines c =
    let w = (goal.at.overflow_cast-lines c).In-Some in
    omega (arith, hit_inside w)

pub loop-place-preserved : goal.loop-place-preserved
loop-place-preserved c =
    let w = (goal.at.loop-place-preserved c).In-Some in
    record {
      filled = rw (map-append (λ (p : Place). p.0) c.loop-place.yielded (c.in-Some.place ∷ []))
          (filled_more c.args.lines.now (so_far w) c.loop-place.lines c.loop-place.count c.loop-place.last.0 c.in-Some.place.0 c.loop-place.invariant.filled
          (omega (arith, filled_length _ _ _ _ _ c.loop-place.invariant.filled, c.loop-place.invariant.filled.fits, c.if-count-lines.false)));
      inside = hit_inside w;
    }

pub returns : goal.returns
returns c =
    let xs = map (λ (p : Place). p.0) c.loop-place.yielded in
    let t = text_of c.args.text.now in
    let all : hits_between (stands_in c.args.documents.now t c.args.words.now) c.args.next.0 (suc (length t)) ≡ xs = at_end _ _ _ c.loop-place.yielded c.hits_from-place-items.ensures.left c.into_iter-place-iterator.ensures.into_iter_gives c.loop-place.yielded_by c.in-None.ensures.steps.0 in
    filling_over (stands_in c.args.documents.now t c.args.words.now) (length t) c.args.next.0 c.args.lines.now c.loop-place.lines xs c.loop-place.count c.loop-place.last.0 c.loop-place.invariant.filled c.ended.result all
    (c.ended.ensures ∙ ap (ended_at c.loop-place.count) c.length.ensures)
