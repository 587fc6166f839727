-- The way of a rank up to the root: at each step, the position of the place sought. Assumes nothing.
use Prim.Native.Nat.{ℕ, suc, ◌+◌, ◌≤◌, ◌<◌}
use mathlib.Core.Path.{◌≡◌, refl, sym, ap, ◌∙◌}
use mathlib.Core.List.{List}
use native.Mathlib.Omega.{arith}
use lib.ListN.{length, take, get_or}
use lib.Seq.{take-length}
use Rattle.base.specs.Lists.{count_of, nth}
use Rattle.base.proofs.Counts.{Found, nth_found, count_hit, count_most, count_take_whole}
use Rattle.directory.specs.Counters.{max_bytes}
use Rattle.tree.specs.Nodes.{parent, digit, node_of, closing_byte, position}
use Rattle.index.specs.declared.Shape.{Shape}
use Rattle.index.specs.Arrays.{Arrays}
use Rattle.index.specs.Lent.{slices_of}
use Rattle.words.specs.Words.{frequency}
use Rattle.words.specs.declared.Step.{Step}
use Rattle.words.specs.Ready.{node_from, Ready}
use Rattle.words.specs.Texts.{text_of, vocabulary_of, bytes_of_node}
use Rattle.words.specs.declared.indexed_text.IndexedText.{IndexedText}
use Rattle.words.specs.Steps.{StepIn}
use Rattle.ways.specs.declared.Near.{Near}
use Rattle.ways.specs.Ways.{StepUp, TrackOf}
use Rattle.ways.specs.Asks.{Asks}
use Rattle.words.proofs.Parts.{node_in, node_from_lem, node_counted, from_inside, from_count, from_nth}
use Rattle.words.proofs.Positions.{Leads, parent_less, at_root, end_there, often, leads_end, leads_up, end_position, parent_position, parent_has}

-- a node that starts with the bytes has each of its bytes where all bytes have it
pub root_nth : (bytes starts : List ℕ) (k b j : ℕ) → get_or starts k 0 ≡ 0 → j < count_of b (node_from bytes starts k) → nth b j bytes ≡ nth b j (node_from bytes starts k)
root_nth bytes starts k b j z h =
    let m : count_of b (take (get_or starts k 0) bytes) + j ≡ j = rw z (omega arith) in
    ap (λ (n : ℕ). nth b n bytes) (sym m) ∙ from_nth bytes starts k b j h ∙ omega (arith, z)

-- the root does
pub root_start : {s : ℕ} {shape : Shape} {a : Arrays} {starts : List ℕ} → Ready s shape a starts → (k : ℕ) → k ≡ 0 → get_or starts k 0 ≡ 0
root_start {starts = starts} ready k z = ap (λ (i : ℕ). get_or starts i 0) z ∙ ready.nodes.sums 0 (omega arith)

-- past the x with j others before it, one more is passed
past : (x j at : ℕ) (xs : List ℕ) → j < count_of x xs → at ≡ nth x j xs → (at + 1 ≤ length xs) × (count_of x (take (at + 1) xs) ≡ j + 1)
past x j at xs h e =
    let f : Found x j xs = nth_found x j xs h in
    let n : at + 1 ≡ suc (nth x j xs) = omega arith in
    rw n (omega (arith, f.inside), omega (arith, count_hit x xs (nth x j xs) f.inside f.stands, f.before))

-- a walk along rank i past its next occurrence, which the first step of its way finds
pub track_past : {s i j at : ℕ} {bytes starts : List ℕ} {x : Step} → StepIn bytes starts (node_of s i) (closing_byte s i) x
    → j < count_of x.byte (node_from bytes starts x.node) → at ≡ nth x.byte j (node_from bytes starts x.node) → (near : Near)
    → TrackOf s bytes starts i (record { ordinal = j + 1; at = record { 0 = at + 1 }; near = near })
track_past {s} {i} {j} {at} {bytes} {starts} {x} e h f near =
    let r = rw (e.node_is, e.byte_is) at (past x.byte j at (node_from bytes starts x.node) h f) in
    record { inside = r.0; passed = r.1 }

-- a byte stands in all bytes no less often than in a node
pub from_often : (bytes starts : List ℕ) (k b : ℕ) → get_or starts k 0 ≤ length bytes → count_of b (node_from bytes starts k) ≤ count_of b bytes
from_often bytes starts k b inside =
    let xs = node_from bytes starts k in
    omega (
      arith,
      ap (count_of b) (take-length xs),
      from_count bytes starts k b (length xs) (omega arith),
      count_take_whole b (get_or starts k 0 + length xs) bytes,
    )

-- the position in node k, to which the codeword of rank i leads, of the place at which it stands with j others before it
pub record Climbed (text : IndexedText) (i j k at : ℕ) : Type 0 where
  pub inside : k < length text.index.lengths.now
  pub leads : Leads text.index.s i k
  pub position_is : at ≡ position text.index.s k (nth i j (text_of text)) (text_of text)

module _ (text : IndexedText) where
  -- what is found, and how many stand before it, are below the number of bytes
  pub asks_most : {x : Step} {j : ℕ} → Asks text x j → (nth x.byte j (bytes_of_node text x.node) < max_bytes) × (j < max_bytes)
  asks_most {x} {j} asks =
      let bytes = text.index.bytes.now in
      let starts = text.starts.now in
      let xs = bytes_of_node text x.node in
      let counted = node_counted text.ready x.node asks.there in
      let f : Found x.byte j xs = nth_found x.byte j xs asks.has in (
        omega (arith, from_inside bytes starts x.node (nth x.byte j xs) f.inside, counted.sizes.bytes_most),
        omega (arith, asks.has, from_often bytes starts x.node x.byte counted.inside, count_most x.byte bytes, counted.sizes.bytes_most),
      )

  -- and so are all of the byte before the one that is looked for
  pub ordinal_most : {x : Step} {j : ℕ} → Asks text x j → x.skipped + j ≤ max_bytes
  ordinal_most {x} {j} asks =
      let bytes = text.index.bytes.now in
      let starts = text.starts.now in
      let xs = bytes_of_node text x.node in
      let counted = node_counted text.ready x.node asks.there in
      omega (
        arith,
        asks.is.skipped_is,
        asks.has,
        ap (count_of x.byte) (take-length xs),
        from_count bytes starts x.node x.byte (length xs) (omega arith),
        count_take_whole x.byte (get_or starts x.node 0 + length xs) bytes,
        count_most x.byte bytes,
        counted.sizes.bytes_most,
      )

  -- a step that looks for byte b in node k asks that the node is there and has so many of it
  step_asks : {x : Step} {k b : ℕ} (j : ℕ) → StepIn text.index.bytes.now text.starts.now k b x → k < length text.index.lengths.now → j < count_of b (node_in (slices_of text.index) k)
      → Asks text x j
  step_asks {x} {k} {b} j e there has =
      rw (e.node_is, e.byte_is) (record {
        there = there;
        is = record { node_is = refl; byte_is = refl; skipped_is = e.skipped_is };
        has = rw (node_from_lem text.ready k there) has;
      })

  -- and finds it there
  step_finds : {x : Step} {k b : ℕ} (j at : ℕ) → StepIn text.index.bytes.now text.starts.now k b x → k < length text.index.lengths.now
      → at ≡ nth x.byte j (bytes_of_node text x.node) → at ≡ nth b j (node_in (slices_of text.index) k)
  step_finds {x} {k} {b} j at e there found = rw (e.node_is, e.byte_is, node_from_lem text.ready k there) at found

  -- the place at which rank i stands with j others before it
  module _ (i : ℕ) (below : i < vocabulary_of text) (j : ℕ) (less : j < frequency (text_of text) i) where
    there : Found i j (text_of text)
    there = nth_found i j (text_of text) less

    module _ {x : Step} (e : StepIn text.index.bytes.now text.starts.now (node_of text.index.s i) (closing_byte text.index.s i) x) where
      -- the first step
      pub first_asks : Asks text x j
      first_asks = step_asks j e (end_there text.ready.checked i below) (rw (← often text.ready.checked i below) less)

      pub first_climbed : (at : ℕ) → at ≡ nth x.byte j (bytes_of_node text x.node) → Climbed text i j x.node at
      first_climbed at found =
          rw e.node_is (record {
            inside = end_there text.ready.checked i below;
            leads = leads_end text.ready.checked i below;
            position_is = step_finds j at e (end_there text.ready.checked i below) found
                ∙ ap (λ (m : ℕ). nth (closing_byte text.index.s i) m (node_in (slices_of text.index) (node_of text.index.s i))) (sym there.before)
                ∙ end_position text.ready.checked i below (nth i j (text_of text)) there.inside there.stands;
          })

    module _ {x y : Step} (e : StepUp text.index.s text.index.bytes.now text.starts.now x y) {at : ℕ} (c : Climbed text i j x.node at) where
      up-inside : parent text.index.s x.node < length text.index.lengths.now
      up-inside = omega (arith, parent_less text.index.s x.node e.goes_on, c.inside)

      -- a further step
      pub up_asks : Asks text y at
      up_asks =
          step_asks at e.step up-inside
          (rw c.position_is (parent_has text.ready.checked i below (nth i j (text_of text)) there.inside there.stands x.node e.goes_on c.leads))

      pub up_climbed : (up : ℕ) → up ≡ nth y.byte at (bytes_of_node text y.node) → Climbed text i j y.node up
      up_climbed up found =
          rw e.step.node_is (record {
            inside = up-inside;
            leads = leads_up text.ready.checked i below x.node e.goes_on c.leads;
            position_is = step_finds at up e.step up-inside found
                ∙ ap (λ (m : ℕ). nth (digit text.index.s x.node) m (node_in (slices_of text.index) (parent text.index.s x.node))) c.position_is
                ∙ parent_position text.ready.checked i below (nth i j (text_of text)) there.inside there.stands x.node e.goes_on c.leads;
          })

    -- in the root the position is the place
    pub climbed_root : {k at : ℕ} → k ≡ 0 → Climbed text i j k at → at ≡ nth i j (text_of text)
    climbed_root {k} {at} z c =
        c.position_is
        ∙ ap (λ (m : ℕ). position text.index.s m (nth i j (text_of text)) (text_of text)) z
        ∙ at_root text.ready.checked (nth i j (text_of text)) (omega (arith, there.inside))
