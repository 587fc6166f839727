-- Searches, as they are begun and as they go on. Assumes nothing.
use Prim.Native.Nat.{ℕ, ◌+◌, ◌-◌, ◌≤◌, ◌<◌}
use mathlib.Core.Path.{◌≡◌, sym, ap, subst, ◌∙◌}
use mathlib.Core.Bool.{true, false}
use mathlib.Core.List.{List}
use native.Mathlib.Omega.{arith}
use lib.IntN.{pos, ◌+ℤ◌, nat_abs}
use lib.ListN.{length, take, drop, get_or, length-take}
use lib.Seq.{get_or-take, get_or-drop}
use Rattle.base.specs.Lists.{count_of}
use Rattle.base.proofs.Tests.{and_right, false_of}
use Rattle.dense.specs.Code.{code}
use Rattle.pairs.specs.Pairs.{first_pair}
use Rattle.pairs.proofs.Pairs.{pair_most, pair_none_before}
use Rattle.tree.specs.declared.Place.{Place}
use Rattle.tree.specs.Nodes.{first_byte}
use Rattle.index.specs.declared.Shape.{Shape}
use Rattle.index.specs.Arrays.{Arrays, text_in}
use Rattle.words.proofs.Positions.{root_byte}
use Rattle.ways.specs.declared.Track.{Track}
use Rattle.ways.specs.Ways.{TrackOf}
use Rattle.phrases.specs.Phrases.{stands}
use Rattle.phrases.specs.Neighbours.{neighbour_at}
use Rattle.phrases.specs.Anchors.{Anchored}
use Rattle.phrases.proofs.Anchors.{phrase_anchored}
use Rattle.phrases.proofs.Neighbours.{neighbour_anchored}
use Rattle.documents.specs.Documents.{same_document, in_one_document, stands_in, neighbour_in}
use Rattle.matching.specs.declared.Sought.{Sought}
use Rattle.matching.specs.declared.Sought.TheVariants.{Phrase, Pair}
use Rattle.matching.specs.Sought.{hit_at, hit_in}
use Rattle.matching.specs.Searching.{Searching}
use Rattle.matching.proofs.FirstBytes.{first_byte_at}
use Rattle.anchors.specs.declared.Second.{Second}
use Rattle.anchors.specs.Anchors.{AnchorOf}
use Rattle.std.specs.Prelude.{Option}
use Rattle.hits.specs.declared.Search.{Search}
use Rattle.hits.specs.Hits.{least_hit}
use Rattle.hits.specs.Searches.{Sides, SearchFor, moved_to, place_after, Reaches}

-- the word with the number of an anchor is an anchor of what is sought
pub anchor_anchored : (t words : List ℕ) (sought : Sought) (i : ℕ) → AnchorOf words sought i → Anchored t (get_or words i 0) i (hit_at t words sought)
anchor_anchored t words Phrase i h = phrase_anchored t words i h
anchor_anchored t words (Pair d) i h =
    subst (λ (k : ℕ). Anchored t (get_or words k 0) k (hit_at t words (Pair d))) (sym h) (neighbour_anchored t (get_or words 0 0) (get_or words 1 0) d)

-- it is one of the words
pub anchor_inside : (words : List ℕ) (sought : Sought) (i : ℕ) → 1 ≤ length words → AnchorOf words sought i → i < length words
anchor_inside words Phrase i some h = h
anchor_inside words (Pair d) i some h = omega (arith, h)

-- what stands inside one document stands
hit_in_stands : (documents t words : List ℕ) (sought : Sought) (q : ℕ) → hit_in documents t words sought q ≡ true → hit_at t words sought q ≡ true
unfolding stands_in neighbour_in
hit_in_stands documents t words Phrase q e = and_right (in_one_document documents q (length words)) (stands t words q) e
hit_in_stands documents t words (Pair d) q e =
    and_right (same_document documents q (nat_abs (pos q +ℤ d))) (neighbour_at t (get_or words 0 0) (get_or words 1 0) d q) e

-- so that an anchor of what is sought is one of what stands inside one document
pub anchored_inside : (documents t words : List ℕ) (sought : Sought) (w i : ℕ) → Anchored t w i (hit_at t words sought) → Anchored t w i (hit_in documents t words sought)
anchored_inside documents t words sought w i a = record {
  inside = λ q e. a.inside q (hit_in_stands documents t words sought q e);
  word = λ q e. a.word q (hit_in_stands documents t words sought q e);
}

-- where what is sought stands inside one document, the root has the first bytes of its anchor and its second word
module _ {s : ℕ} {shape : Shape} {a : Arrays} {starts firsts words : List ℕ} (h : Searching s shape a starts firsts words)
    (documents : List ℕ) {sought : Sought} {anchor : ℕ} {second : Second} (sides : Sides (text_in s a) words sought anchor second)
    (q : ℕ) (e : hit_in documents (text_in s a) words sought q ≡ true) where
  stands_there : hit_at (text_in s a) words sought q ≡ true
  stands_there = hit_in_stands documents (text_in s a) words sought q e

  -- the first byte of a word of the text that is one of the words
  first_of : (p i : ℕ) → p < length (text_in s a) → i < length words → get_or (text_in s a) p 0 ≡ get_or words i 0 → get_or a.bytes p 0 ≡ get_or firsts i 0
  first_of p i inside number word =
      root_byte h.searchable.ready.checked p inside
      ∙ ap (λ (w : ℕ). first_byte (code s w)) word
      ∙ sym (first_byte_at s words i number)
      ∙ ap (λ (x : List ℕ). get_or x i 0) (sym h.firsts_are)

  anchor_there : q + anchor < length (text_in s a)
  anchor_there = sides.anchored.inside q stands_there

  pub second_back : second.here ≤ q + anchor
  second_back = sides.seconded.beside.back q stands_there

  pub second_there : q + anchor + second.there < length (text_in s a) + second.here
  second_there = omega (arith, second_back, sides.seconded.beside.inside q stands_there)

  pub anchor_byte : get_or a.bytes (q + anchor) 0 ≡ get_or firsts anchor 0
  anchor_byte = first_of (q + anchor) anchor anchor_there sides.numbered (sides.anchored.word q stands_there)

  pub second_byte : (p : ℕ) → p + second.here ≡ q + anchor + second.there → get_or a.bytes p 0 ≡ get_or firsts second.number 0
  second_byte p is =
      let m : q + anchor - second.here + second.there ≡ p = omega (arith, second_back) in
      first_of p second.number (omega (arith, second_there)) sides.seconded.numbered
      (ap (λ (k : ℕ). get_or (text_in s a) k 0) (sym m) ∙ sides.seconded.beside.word q stands_there)

-- before the first pair of two parts of the bytes, which lie so far apart, no two bytes are a pair
pair_free : (bytes : List ℕ) (x y at to other end here there r : ℕ) → here ≤ at → at ≤ to → other ≡ at - here + there → end ≡ to - here + there
    → r ≡ first_pair x y (take (to - at) (drop at bytes)) (take (end - other) (drop other bytes))
    → (k m : ℕ) → at ≤ k → k < at + r → m + here ≡ k + there → get_or bytes k 0 ≡ x → get_or bytes m 0 ≡ y → ⊥
pair_free bytes x y at to other end here there r back in_order is-other is-end first k m after before apart one two =
    let hs = take (to - at) (drop at bytes) in
    let short : r ≤ to - at = omega (arith, first, pair_most x y hs (take (end - other) (drop other bytes)), length-take (to - at) (drop at bytes)) in
    pair_none_before x y hs (take (end - other) (drop other bytes)) (k - at) (omega (arith, first))
    (element at (to - at) (k - at) k (omega arith) (omega (arith, short)) one)
    (element other (end - other) (k - at) m (omega arith) (omega (arith, short)) two)
  where
    element : (from n j p : ℕ) → from + j ≡ p → j < n → {z : ℕ} → get_or bytes p 0 ≡ z → get_or (take n (drop from bytes)) j 0 ≡ z
    element from n j p is inside e = get_or-take n (drop from bytes) j 0 inside ∙ get_or-drop from bytes j 0 ∙ ap (λ (q : ℕ). get_or bytes q 0) is ∙ e

-- so that what is sought stands at none of their places
pub no_hit : {s : ℕ} {shape : Shape} {a : Arrays} {starts firsts words : List ℕ} → Searching s shape a starts firsts words
    → (documents : List ℕ) {sought : Sought} {anchor : ℕ} {second : Second} → Sides (text_in s a) words sought anchor second
    → (at to other end r : ℕ) → second.here ≤ at → at ≤ to → other ≡ at - second.here + second.there → end ≡ to - second.here + second.there
    → r ≡ first_pair (get_or firsts anchor 0) (get_or firsts second.number 0) (take (to - at) (drop at a.bytes)) (take (end - other) (drop other a.bytes))
    → (q : ℕ) → at ≤ q + anchor → q + anchor < at + r → hit_in documents (text_in s a) words sought q ≡ false
no_hit {s} {shape} {a} {starts} {firsts} {words} h documents {sought} {anchor} {second} sides at to other end r back in_order is-other is-end first q after before =
    false_of (hit_in documents (text_in s a) words sought q) (λ e.
    let m = q + anchor - second.here + second.there in
    let apart : m + second.here ≡ q + anchor + second.there = omega (arith, second_back h documents sides q e) in
    pair_free a.bytes (get_or firsts anchor 0) (get_or firsts second.number 0) at to other end second.here second.there r back in_order is-other is-end first
    (q + anchor) m after before apart (anchor_byte h documents sides q e) (second_byte h documents sides q e m apart))

-- a search that has looked up to an end and gone on from there
pub reaches : {s : ℕ} {shape : Shape} {a : Arrays} {starts documents words : List ℕ} {sought : Sought} (x : Search) → SearchFor s shape a starts words sought x
    → (end : ℕ) (hit : Option Place) (y : Search) (place : Place) (until : ℕ) (track : Track) → y ≡ moved_to x place until track
    → hit ≡ least_hit (hit_in documents (text_in s a) words sought) x.place.0 end
    → TrackOf s a.bytes starts x.rank track
    → ((p : ℕ) → place.0 + x.anchor ≤ p → until ≤ p → track.ordinal ≤ count_of x.rank (take p (text_in s a)))
    → place.0 ≡ place_after hit end → Reaches s shape a starts documents words sought x end (record { hit = hit; search = y })
reaches {s} {shape} {a} {starts} {documents} {words} {sought} x h end hit y place until track e least tracked passed after = record {
  hit_is = least;
  search_is = subst (λ (z : Search). SearchFor s shape a starts words sought z) (sym e) moved;
  way_is = ap (λ (z : Search). z.way) e;
  place_is = rw (ap (λ (z : Search). z.place.0) e) after;
}
  where
    moved : SearchFor s shape a starts words sought (moved_to x place until track)
    moved = record {
      sides = h.sides;
      paired = h.paired;
      rank_is = h.rank_is;
      inside = h.inside;
      often = h.often;
      way_is = h.way_is;
      track_is = tracked;
      passed = passed;
    }
