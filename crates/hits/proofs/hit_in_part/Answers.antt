-- No place before the first pair is a hit, and a place with a pair is tested.
use Rattle.std.proofs.Common.{◌-◌, ◌≡◌, ℕ, ◌+◌, ◌≤◌, ◌<◌, false, length, take, drop, get_or, refl, sym, ap, ◌∙◌, inl, inr, ◌⊎◌, arith, length-take}
use Rattle.base.proofs.Tests.{below_or_not}
use Rattle.directory.specs.Counters.{max_bytes}
use Rattle.words.specs.Texts.{text_of}
use Rattle.words.proofs.Parts.{checked_bytes}
use Rattle.words.proofs.Positions.{root_inside}
use Rattle.pairs.proofs.Pairs.{pair_most}
use Rattle.matching.specs.declared.query.Query.{Query}
use Rattle.matching.proofs.Queries.{query_searching}
use Rattle.anchors.specs.declared.Second.{Second}
use Rattle.hits.specs.Searches.{InPart}
use Rattle.hits.specs.Queries.{is_hit}
use Rattle.hits.proofs.Searches.{no_hit}
use Rattle.hits.proofs.hit_in_part.Goals as goal
use Rattle.hits.proofs.hit_in_part.Goals.{After-next_pair-at}

-- the bytes in which the pair is sought lie inside, and there are few
module _ (q : Query) (anchor : ℕ) (second : Second) (from to : ℕ) (part : InPart (length (text_of q.text)) anchor second from to) where
  inside : to ≤ length q.text.index.bytes.now
  inside = omega (arith, part.inside, root_inside q.text.ready.checked)

  beside : (at : ℕ) → from ≤ at → at < to → to - second.here + second.there ≤ length q.text.index.bytes.now
  beside at h l = omega (arith, part.back, part.beside (omega arith), root_inside q.text.ready.checked)

few : (q : Query) → length q.text.index.bytes.now ≤ max_bytes
few q = checked_bytes q.text.ready.checked

pub overflow_add-other : goal.overflow_add-other
overflow_add-other c = omega (arith, beside c.args.query.now c.args.anchor c.args.second c.args.from c.args.to c.requires.1 c.loop-at.at (omega arith) (omega arith), few c.args.query.now)

pub overflow_add-end : goal.overflow_add-end
overflow_add-end c = omega (arith, beside c.args.query.now c.args.anchor c.args.second c.args.from c.args.to c.requires.1 c.loop-at.at (omega arith) (omega arith), few c.args.query.now)

pub slice_bounds-next_pair-end : goal.slice_bounds-next_pair-end
slice_bounds-next_pair-end c = inside c.args.query.now c.args.anchor c.args.second c.args.from c.args.to c.requires.1

pub slice_bounds-next_pair-end-in-loop-at : goal.slice_bounds-next_pair-end-in-loop-at
slice_bounds-next_pair-end-in-loop-at c =
    beside c.args.query.now c.args.anchor c.args.second c.args.from c.args.to c.requires.1 c.loop-at.at (omega arith) (omega arith)

-- the pair that is met
module _ (c : After-next_pair-at) where
  -- stands in the part or at its end
  met : c.loop-at.at + c.next_pair-at.result ≤ c.args.to
  met =
      let q = c.args.query.now in
      let bytes = q.text.index.bytes.now in
      let at = c.loop-at.at in
      let back = λ (p : ℕ). p - c.args.second.here + c.args.second.there in
      omega (
        arith,
        c.next_pair-at.ensures,
        pair_most (get_or q.firsts.now c.args.anchor 0) (get_or q.firsts.now c.args.second.number 0) (take (c.args.to - at) (drop at bytes)) (take (back c.args.to - back at) (drop (back at) bytes)),
        length-take (c.args.to - at) (drop at bytes),
      )

  -- and no hit has its anchor before it
  clear : (p : ℕ) → c.args.from ≤ p + c.args.anchor → p + c.args.anchor < c.loop-at.at + c.next_pair-at.result → is_hit c.args.query.now p ≡ false
  clear p h l = by (below_or_not (p + c.args.anchor) c.loop-at.at)
    where
      by : (p + c.args.anchor < c.loop-at.at) ⊎ (c.loop-at.at ≤ p + c.args.anchor) → is_hit c.args.query.now p ≡ false
      by (inl g) = c.loop-at.invariant.clear p h g
      by (inr g) =
          no_hit (query_searching c.args.query.now) c.args.query.now.documents.now c.requires.0 c.loop-at.at c.args.to _ _ c.next_pair-at.result
          (omega (arith, c.requires.1.back)) (omega arith) refl refl c.next_pair-at.ensures p g l

  -- it has a place
  placed : c.loop-at.at + c.next_pair-at.result - c.args.anchor + c.args.anchor ≡ c.loop-at.at + c.next_pair-at.result
  placed = omega (arith, c.requires.1.anchored)

  small : length c.args.query.now.text.index.bytes.now ≤ max_bytes
  small = few c.args.query.now

  part-inside : c.args.to ≤ length c.args.query.now.text.index.bytes.now
  part-inside = inside c.args.query.now c.args.anchor c.args.second c.args.from c.args.to c.requires.1

pub overflow_add-at : goal.overflow_add-at
overflow_add-at c =
    let p = (goal.at.overflow_add-at c).After-next_pair-at in
    omega (arith, met p, part-inside p, small p)

pub returns-then-at-to : goal.returns-then-at-to
returns-then-at-to c = λ p h l.
    clear (goal.at.returns-then-at-to c).After-next_pair-at p h (omega arith)

pub hit_at-requires : goal.hit_at-requires
hit_at-requires c =
    let p = (goal.at.hit_at-requires c).After-next_pair-at in
    omega (arith, met p, c.requires.1.inside)

pub returns-then-hit_at : goal.returns-then-hit_at
returns-then-hit_at c =
    let p = (goal.at.returns-then-hit_at c).After-next_pair-at in (
      omega (arith, placed p),
      omega (arith, placed p, met p),
      sym c.hit_at.ensures ∙ c.if-hit_at.true,
      λ r g l. clear p r g (omega (arith, placed p)),
    )

pub overflow_add-at-in-loop-at : goal.overflow_add-at-in-loop-at
overflow_add-at-in-loop-at c =
    let p = (goal.at.overflow_add-at-in-loop-at c).After-next_pair-at in
    omega (arith, met p, part-inside p, small p)

pub loop-at-preserved : goal.loop-at-preserved
loop-at-preserved c =
    let p = (goal.at.loop-at-preserved c).After-next_pair-at in
    record { onward = omega arith; clear = λ r g l. by p r g (below_or_not (r + c.args.anchor) (c.loop-at.at + c.next_pair-at.result)) l }
  where
    by : (p : After-next_pair-at) (r : ℕ) → c.args.from ≤ r + c.args.anchor
        → (r + c.args.anchor < c.loop-at.at + c.next_pair-at.result) ⊎ (c.loop-at.at + c.next_pair-at.result ≤ r + c.args.anchor)
        → r + c.args.anchor < c.loop-at.at + c.next_pair-at.result + 1 → is_hit c.args.query.now r ≡ false
    by p r g (inl k) l = clear (goal.at.loop-at-preserved c).After-next_pair-at r g k
    by p r g (inr k) l =
        let e : c.loop-at.at + c.next_pair-at.result - c.args.anchor ≡ r = omega arith in
        ap (is_hit c.args.query.now) (sym e) ∙ sym c.hit_at.ensures ∙ c.if-hit_at.false
