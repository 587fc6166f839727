-- The parts of the root with words of the anchor are looked at in order, and each way out is the least hit.
use Rattle.std.proofs.Common.{◌≡◌, ℕ, ◌+◌, ◌≤◌, ◌<◌, max, true, length, get_or, sym, refl, arith, Some, None}
use Rattle.base.specs.Lists.{nth}
use Rattle.tree.specs.declared.Place.{Place}
use Rattle.words.specs.Texts.{text_of}
use Rattle.words.proofs.Positions.{text_most}
use Rattle.phrases.specs.Anchors.{Anchored}
use Rattle.matching.specs.declared.query.Query.{Query}
use Rattle.matching.proofs.Queries.{query_searching}
use Rattle.hits.specs.declared.Search.{Search}
use Rattle.hits.specs.Hits.{least_hit}
use Rattle.hits.specs.Searches.{LeastIn}
use Rattle.hits.specs.Queries.{is_hit, SearchOf}
use Rattle.hits.proofs.Least.{hit_after}
use Rattle.hits.proofs.Searches.{anchored_inside, second_back, second_there, reaches}
use Rattle.hits.proofs.Queries.{reaches_in}
use Rattle.hits.proofs.Sweeping.{Swept, swept_begin, swept_hit, swept_over, swept_all, swept_next}
use Rattle.hits.proofs.next_hit.Goals as goal
use Rattle.hits.proofs.next_hit.Goals.{After-hit_in_part-hit, then-high-until-via-then-high-until, then-high-until-via-else-high-until+then-frequency-track}

-- what is known of the places of a query's hits by a search for it
module _ (q : Query) (x : Search) (h : SearchOf q.text q.words.now q.sought x) where
  anchored : Anchored (text_of q.text) x.rank x.anchor (is_hit q)
  anchored = rw h.rank_is (anchored_inside q.documents.now (text_of q.text) q.words.now q.sought (get_or q.words.now x.anchor 0) x.anchor h.sides.anchored)

  back : (p : ℕ) → is_hit q p ≡ true → x.second.here ≤ p + x.anchor
  back p e = second_back (query_searching q) q.documents.now h.sides p e

  beside : (p : ℕ) → is_hit q p ≡ true → p + x.anchor + x.second.there < length (text_of q.text) + x.second.here
  beside p e = second_there (query_searching q) q.documents.now h.sides p e

pub last_below-high-requires : goal.last_below-high-requires
last_below-high-requires c = (
  omega (arith, text_most c.args.query.now.text.ready.checked),
  omega (arith, c.requires.0.sides.numbered, c.args.query.now.most),
  c.requires.0.sides.seconded.near,
)

pub overflow_add-from : goal.overflow_add-from
overflow_add-from c =
    omega (arith, text_most c.args.query.now.text.ready.checked, c.requires.0.sides.numbered, c.args.query.now.most)

pub loop-place-init : goal.loop-place-init
loop-place-init c =
    let q = c.args.query.now in
    let x = c.args.search.now in
    record {
      swept = swept_begin (text_of q.text) x.rank x.anchor (is_hit q) (anchored q x c.requires.0) x.second.here x.second.there (back q x c.requires.0) (beside q x c.requires.0) x.place.0 c.args.end.0
          c.max-at.result x.until x.track.ordinal (omega arith) c.requires.0.passed;
      tracked = c.requires.0.track_is;
    }

-- what the part that is looked at says of the least hit
module _ (c : After-hit_in_part-hit) where
  abbrev q : Query
  q = c.args.query.now

  abbrev x : Search
  x = c.args.search.now

  inside : c.last_below-high.result ≤ length (text_of q.text)
  inside = omega arith

  covers : (p : ℕ) → p < c.args.end.0 → p + x.anchor < length (text_of q.text)
      → p + x.anchor + x.second.there < length (text_of q.text) + x.second.here → p + x.anchor < c.last_below-high.result
  covers p l h g = c.last_below-high.ensures.3 p l (omega arith) (omega arith)

  -- a hit in it is the least
  found : (p : Place) → LeastIn (is_hit q) x.anchor c.loop-place.at c.min-stop.result (Some p) → least_hit (is_hit q) x.place.0 c.args.end.0 ≡ Some p
  found p l =
      swept_hit (text_of q.text) x.rank x.anchor (is_hit q) (anchored q x c.requires.0) x.second.here x.second.there (back q x c.requires.0) (beside q x c.requires.0) x.place.0 c.args.end.0
      c.last_below-high.result inside c.last_below-high.ensures.1 covers c.loop-place.invariant.swept c.min-stop.result c.min-stop.ensures p l

  module _ (none : LeastIn (is_hit q) x.anchor c.loop-place.at c.min-stop.result None) where
    -- without one there is none, where it reaches as far as there can be hits
    over : c.last_below-high.result ≤ c.loop-place.until → least_hit (is_hit q) x.place.0 c.args.end.0 ≡ None
    over far =
        swept_over (text_of q.text) x.rank x.anchor (is_hit q) (anchored q x c.requires.0) x.second.here x.second.there (back q x c.requires.0) (beside q x c.requires.0) x.place.0 c.args.end.0
        c.last_below-high.result inside c.last_below-high.ensures.1 covers c.loop-place.invariant.swept c.min-stop.result c.min-stop.ensures none far

    -- or where no word of the anchor is left
    all : c.loop-place.until < c.last_below-high.result → x.frequency ≤ c.loop-place.track.ordinal → least_hit (is_hit q) x.place.0 c.args.end.0 ≡ None
    all near left =
        swept_all (text_of q.text) x.rank x.anchor (is_hit q) (anchored q x c.requires.0) x.second.here x.second.there (back q x c.requires.0) (beside q x c.requires.0) x.place.0 c.args.end.0
        c.last_below-high.result inside c.last_below-high.ensures.1 covers c.loop-place.invariant.swept c.min-stop.result c.min-stop.ensures none near (omega (arith, c.requires.0.often))

    -- and otherwise the next part is that of its next word
    next : c.loop-place.until < c.last_below-high.result → c.loop-place.track.ordinal < x.frequency
        → (from to at : ℕ) → from ≤ nth x.rank c.loop-place.track.ordinal (text_of q.text) → nth x.rank c.loop-place.track.ordinal (text_of q.text) < to
        → at ≡ max (max c.loop-place.at c.loop-place.until) from
        → Swept (text_of q.text) x.rank x.anchor (is_hit q) x.second.here x.place.0 at to (c.loop-place.track.ordinal + 1)
    next near left from to at low high is =
        swept_next (text_of q.text) x.rank x.anchor (is_hit q) (anchored q x c.requires.0) x.second.here x.second.there (back q x c.requires.0) (beside q x c.requires.0) x.place.0 c.args.end.0
        c.last_below-high.result inside c.last_below-high.ensures.1 covers c.loop-place.invariant.swept c.min-stop.result c.min-stop.ensures none near (omega (arith, c.requires.0.often)) from to at low high is

pub returns-in-Some : goal.returns-in-Some
returns-in-Some c =
    let p = (goal.at.returns-in-Some c).After-hit_in_part-hit in
    let least = found p c.in-Some.place c.in-Some.ensures in
    let reached =
    reaches c.args.search.now c.requires.0 _ _ _ _ _ _ c.moved_to.ensures (sym least) c.loop-place.invariant.tracked
    (λ r g f. c.loop-place.invariant.swept.passed r (omega (arith, hit_after (is_hit c.args.query.now) c.args.search.now.place.0 c.args.end.0 c.in-Some.place least)) f)
    refl in
    (reached, reaches_in c.args.query.now reached)

pub returns-then-high-until : goal.returns-then-high-until
returns-then-high-until c =
    let p = (goal.at.returns-then-high-until c).After-hit_in_part-hit in
    let least : least_hit (is_hit c.args.query.now) c.args.search.now.place.0 c.args.end.0 ≡ None = elim c.then-high-until.branch [
      | then-high-until-via-then-high-until w ↦ over p c.in_default.ensures (omega (arith, w.if-high-until.true))
      | then-high-until-via-else-high-until+then-frequency-track w ↦ all p c.in_default.ensures (omega (arith, w.if-high-until.false)) (omega (arith, w.if-frequency-track.true))
    ] in
    let reached =
    reaches c.args.search.now c.requires.0 _ _ _ _ _ _ c.moved_to-then-high-until.ensures (sym least) c.loop-place.invariant.tracked
    (λ r g f. c.loop-place.invariant.swept.passed r (omega (arith, c.requires.1)) f)
    refl in
    (reached, reaches_in c.args.query.now reached)

pub loop-place-preserved : goal.loop-place-preserved
loop-place-preserved c =
    let p = (goal.at.loop-place-preserved c).After-hit_in_part-hit in
    let n = c.piece_along-next in
    record {
      swept = rw n.ensures.3
          (next p c.in_default.ensures (omega arith) (omega arith) n.result.from n.result.to c.max-at-in-loop-place.result n.ensures.0 n.ensures.1 (omega arith));
      tracked = n.ensures.2;
    }
