-- Each hit lies in a document, whose count is small.
use Rattle.std.proofs.Common.{◌≡◌, ℕ, ◌+◌, ◌-◌, ◌≤◌, ◌<◌, suc, map, List, [], ◌∷◌, ◌++◌, length, get_or, set, sym, ap, ◌∙◌, arith}
use Rattle.std.proofs.lemmas.List.{map-append}
use Rattle.base.specs.Lists.{filter_by, range_from}
use native.Mathlib.Nat.{sub-zero}
use Rattle.base.specs.Answers.{front}
use Rattle.base.proofs.Ranges.{length_map_range}
use Rattle.base.proofs.Fronts.{length_front, front_over}
use Rattle.tree.specs.declared.Place.{Place}
use Rattle.words.specs.Texts.{text_of}
use Rattle.words.proofs.Positions.{text_most}
use Rattle.documents.specs.Documents.{document_of, stands_in, places_in, count_in_document, counts_by_document}
use Rattle.documents.proofs.Starts.{starts_are}
use Rattle.documents.proofs.Numbers.{document_most}
use Rattle.matching.proofs.FirstBytes.{first_bytes_part}
use Rattle.hits.specs.Hits.{hits_between}
use Rattle.hits.specs.Left.{hits_left}
use Rattle.hits.proofs.Left.{at_turn, at_end}
use Rattle.document_counts.proofs.Counts.{count_among, counts_among, count_few_lem, count_stands, count_more, hit_numbered, hits_few}
use Rattle.document_counts.proofs.count_by_document.Goals as goal
use Rattle.document_counts.proofs.count_by_document.Goals.{In-Some}

pub invariant_of-query-clause-firsts_are : goal.invariant_of-query-clause-firsts_are
invariant_of-query-clause-firsts_are c = first_bytes_part c.args.text.now.index.s c.args.words.now _ _ c.first_bytes.ensures

pub invariant_of-query-clause-ascending : goal.invariant_of-query-clause-ascending
invariant_of-query-clause-ascending c = (starts_are _ _ c.requires.3).ascending

-- whatever counts come in front of the cleared slice come in front of the slice as it was
over_zeros : (starts qs z cleared : List ℕ) → length starts ≤ length z → cleared ≡ front (counts_among starts []) z → front (counts_among starts qs) cleared ≡ front (counts_among starts qs) z
over_zeros starts qs z cleared room e =
    ap (front (counts_among starts qs)) e
    ∙ front_over (counts_among starts []) (counts_among starts qs) z (omega (arith, length_map_range (count_among starts []) 0 (length starts), length_map_range (count_among starts qs) 0 (length starts)))

pub loop-place-init : goal.loop-place-init
loop-place-init c =
    let d = c.args.documents.now in
    c.clear_counts.ensures ∙ sym (over_zeros d [] c.args.counts.now c.clear_counts.new.counts c.requires.4 c.clear_counts.ensures)

-- a turn of the loop
module _ (c : In-Some) where
  abbrev d : List ℕ
  d = c.args.documents.now

  abbrev t : List ℕ
  t = text_of c.args.text.now

  abbrev so_far : List ℕ
  so_far = map (λ (p : Place). p.0) c.loop-place.yielded

  abbrev hit : ℕ
  hit = c.in-Some.place.0

  parted : hits_between (stands_in d t c.args.words.now) 0 (suc (length t)) ≡ so_far ++ hit ∷ hits_left c.next.new.self
  parted = at_turn _ _ _ c.loop-place.yielded c.in-Some.place c.hits_from-place-items.ensures.left c.into_iter-place-iterator.ensures.into_iter_gives c.loop-place.yielded_by c.in-Some.ensures.steps

  numbered : 1 ≤ document_of d hit
  numbered = hit_numbered d t c.args.words.now so_far (hits_left c.next.new.self) hit c.requires.0 c.requires.3 parted

  counted : c.loop-place.counts ≡ front (counts_among d so_far) c.args.counts.now
  counted = c.loop-place.invariant ∙ over_zeros d so_far c.args.counts.now c.clear_counts.new.counts c.requires.4 c.clear_counts.ensures

  kept : length c.loop-place.counts ≡ length c.args.counts.now
  kept = ap length counted ∙ length_front (counts_among d so_far) c.args.counts.now (omega (arith, length_map_range (count_among d so_far) 0 (length d), c.requires.4))

  small : get_or c.loop-place.counts (document_of d hit - 1) 0 < 4294967295
  small =
      omega (
        arith,
        ap (λ (xs : List ℕ). get_or xs (document_of d hit - 1) 0) counted,
        count_stands d so_far hit c.args.counts.now numbered (document_most d hit),
        count_few_lem d so_far hit (document_of d hit - 1),
        hits_few d t c.args.words.now so_far (hits_left c.next.new.self) hit c.requires.0 c.requires.3 parted,
        text_most c.args.text.now.ready.checked,
      )

pub count_place-requires : goal.count_place-requires
count_place-requires c =
    let w = (goal.at.count_place-requires c).In-Some in
    ((starts_are _ _ c.requires.3).ascending, numbered w, omega (arith, document_most (d w) (hit w), kept w, c.requires.4), small w)

pub loop-place-preserved : goal.loop-place-preserved
loop-place-preserved c =
    let w = (goal.at.loop-place-preserved c).In-Some in
    let n = document_of (d w) (hit w) - 1 in
    c.count_place.ensures
    ∙ ap (λ (xs : List ℕ). set xs n (get_or xs n 0 + 1)) c.loop-place.invariant
    ∙ count_more (d w) (so_far w) (hit w) c.clear_counts.new.counts (numbered w) (document_most (d w) (hit w))
    ∙ ap (λ (qs : List ℕ). front (counts_among (d w) qs) c.clear_counts.new.counts) (sym (map-append (λ (p : Place). p.0) c.loop-place.yielded (c.in-Some.place ∷ [])))

pub returns : goal.returns
unfolding counts_by_document count_in_document places_in
returns c =
    let d = c.args.documents.now in
    let t = text_of c.args.text.now in
    let xs = map (λ (p : Place). p.0) c.loop-place.yielded in
    let all : hits_between (stands_in d t c.args.words.now) 0 (suc (length t)) ≡ xs = at_end _ _ _ c.loop-place.yielded c.hits_from-place-items.ensures.left c.into_iter-place-iterator.ensures.into_iter_gives c.loop-place.yielded_by c.in-None.ensures.steps.0 in
    c.loop-place.invariant
    ∙ over_zeros d xs c.args.counts.now c.clear_counts.new.counts c.requires.4 c.clear_counts.ensures
    ∙ ap (λ (qs : List ℕ). front (counts_among d qs) c.args.counts.now) (sym all ∙ ap (λ (n : ℕ). filter_by (stands_in d t c.args.words.now) (range_from 0 n)) (sub-zero (suc (length t))))
