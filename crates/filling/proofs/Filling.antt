-- What one byte more of one codeword does to the nodes that are counted and written, and what stands in them at the end. Assumes nothing.
use Prim.Native.Nat.{ℕ, zero, suc, ◌+◌, ◌≤◌, ◌<◌}
use mathlib.Core.Path.{◌≡◌, refl, sym, ap, ap₂, ◌∙◌}
use mathlib.Core.Bool.{cond}
use mathlib.Core.Logic.{◌⊎◌, inl, inr}
use mathlib.Core.List.{List, [], ◌∷◌, ◌++◌, flatten, append_assoc, append-nil}
use native.Mathlib.Numerals.{add-one}
use native.Mathlib.Omega.{arith}
use lib.Dec.{eqb}
use lib.ListN.{length, get_or, set, take, drop, replicate, length-append, length-set, length-replicate, get_or-replicate, take-append-drop, get_or-append}
use lib.Seq.{take-suc, take_all, get_or-take, get_or-append_seam, get_or-set_same, get_or-set_other, ext_get_or}
use Rattle.base.specs.Lists.{Below, total, segments}
use Rattle.base.proofs.Tests.{same_or_not, below_or_not, cond_same, cond_other}
use Rattle.base.proofs.Lists.{all_at}
use Rattle.base.proofs.Ranges.{length_map_range, get_d-map_range, map_range_is}
use Rattle.base.proofs.Sums.{total_take_suc, total_take_most, total_take_whole}
use Rattle.base.proofs.Segments.{flatten_segments, count_segments, segment_length, segment_element}
use Rattle.dense.specs.declared.Codeword.{Codeword}
use Rattle.dense.specs.Code.{Closing, max_vocabulary, code}
use Rattle.dense.specs.Words.{codeword_bytes}
use Rattle.directory.specs.Counters.{max_bytes}
use Rattle.tree.specs.Nodes.{child, node_of, node_bytes}
use Rattle.tree.specs.Walks.{end_node}
use Rattle.tree.proofs.Numbers.{end_below, code_ends, levels_most}
use Rattle.tree.proofs.Nodes.{node_bytes-append, node_bytes-nil}
use Rattle.tree.proofs.Visits.{leaves, node_of_next}
use Rattle.filling.specs.Filling.{first_nodes, node_lengths, InNodes, LengthsCounted, Parted, Stands}
use Rattle.starts.specs.Starts.{max_starts, NodeStarts}

-- ---- the way of a codeword

-- the node that a codeword, starting in node j, has reached past these bytes
abbrev pub node_after : ℕ → ℕ → List ℕ → ℕ
node_after s j [] = j
node_after s j (b ∷ bs) = node_after s (child s j b) bs

-- past bytes and those after them
pub after_append : (s j : ℕ) (xs ys : List ℕ) → node_after s j (xs ++ ys) ≡ node_after s (node_after s j xs) ys
after_append s j [] ys = refl
after_append s j (b ∷ xs) ys = after_append s (child s j b) xs ys

-- what bytes and those after them leave in a node
leaves_append : (s k j : ℕ) (xs ys : List ℕ) → leaves s k j (xs ++ ys) ≡ leaves s k j xs ++ leaves s k (node_after s j xs) ys
leaves_append s k j [] ys = refl
leaves_append s k j (b ∷ xs) ys =
    ap (λ (r : List ℕ). cond (eqb j k) (b ∷ []) [] ++ r) (leaves_append s k (child s j b) xs ys)
    ∙ sym (append_assoc (cond (eqb j k) (b ∷ []) []) (leaves s k (child s j b) xs) (leaves s k (node_after s (child s j b) xs) ys))

-- no byte lies past the node in which the codeword ends
after_most : (s : ℕ) → Closing s → (j : ℕ) (w : List ℕ) (i : ℕ) → i < length w → node_after s j (take i w) ≤ end_node s j w
after_most s within j [] i h = absurd (omega arith)
after_most s within j (b ∷ w) zero h = end_below s within j (b ∷ w)
after_most s within j (b ∷ []) (suc i) h = absurd (omega arith)
after_most s within j (b ∷ e ∷ w) (suc i) h = after_most s within (child s j b) (e ∷ w) i (omega arith)

-- the next node is the child by the next byte
pub after_more : (s j : ℕ) (w : List ℕ) (i : ℕ) → i < length w → node_after s j (take (i + 1) w) ≡ child s (node_after s j (take i w)) (get_or w i 0)
after_more s j w i h = ap (node_after s j) (ap (λ (n : ℕ). take n w) (add-one i) ∙ take-suc w i 0 h) ∙ after_append s j (take i w) (get_or w i 0 ∷ [])

-- a byte of a codeword as it is handed on
pub encoded_byte : (s rank : ℕ) (w : Codeword) → codeword_bytes w ≡ code s rank → (i : ℕ) → i < w.length → get_or (w.first ∷ w.second ∷ w.third ∷ []) i 0 ≡ get_or (code s rank) i 0
encoded_byte s rank w is i h = sym (get_or-take w.length (w.first ∷ w.second ∷ w.third ∷ []) i 0 h) ∙ ap (λ (bs : List ℕ). get_or bs i 0) is

-- ---- the bytes that stand in the nodes after i bytes of word p

-- the codeword of word p
abbrev pub word : ℕ → List ℕ → ℕ → List ℕ
word s t p = code s (get_or t p 0)

-- in which node its byte i lies
abbrev pub node_at : ℕ → List ℕ → ℕ → ℕ → ℕ
node_at s t p i = node_after s 0 (take i (word s t p))

-- what the words before it and its first i bytes leave in node k
abbrev pub held : ℕ → List ℕ → ℕ → ℕ → ℕ → List ℕ
held s t p i k = node_bytes s k (take p t) ++ leaves s k 0 (take i (word s t p))

-- one byte more
abbrev pub with : (ℕ → List ℕ) → ℕ → ℕ → ℕ → List ℕ
with f j b k = f k ++ cond (eqb j k) (b ∷ []) []

-- in its own node it stands behind the others
pub with_here : (f : ℕ → List ℕ) (j b k : ℕ) → j ≡ k → with f j b k ≡ f k ++ (b ∷ [])
with_here f j b k q = ap (λ (r : List ℕ). f k ++ r) (cond_same (b ∷ []) [] j k q)

-- and all other nodes stay
pub with_other : (f : ℕ → List ℕ) (j b k : ℕ) → (j ≡ k → ⊥) → with f j b k ≡ f k
with_other f j b k n = ap (λ (r : List ℕ). f k ++ r) (cond_other (b ∷ []) [] j k n) ∙ append-nil (f k)

module _ (s : ℕ) (t : List ℕ) (p : ℕ) where
  -- none of its bytes
  pub held_none : (k : ℕ) → held s t p 0 k ≡ node_bytes s k (take p t)
  held_none k = append-nil (node_bytes s k (take p t))

  -- one byte more goes to the node in which it lies
  pub held_more : (i : ℕ) → i < length (word s t p) → (k : ℕ) → held s t p (i + 1) k ≡ with (held s t p i) (node_at s t p i) (get_or (word s t p) i 0) k
  held_more i h k =
      let w = word s t p in
      ap (λ (r : List ℕ). node_bytes s k (take p t) ++ r)
      (ap (leaves s k 0) (ap (λ (n : ℕ). take n w) (add-one i) ∙ take-suc w i 0 h)
      ∙ leaves_append s k 0 (take i w) (get_or w i 0 ∷ [])
      ∙ ap (λ (r : List ℕ). leaves s k 0 (take i w) ++ r) (append-nil (cond (eqb (node_at s t p i) k) (get_or w i 0 ∷ []) [])))
      ∙ sym (append_assoc (node_bytes s k (take p t)) (leaves s k 0 (take i w)) (cond (eqb (node_at s t p i) k) (get_or w i 0 ∷ []) []))

  module _ (within : Closing s) (h : p < length t) (codes : Below (max_vocabulary s) t) where
    -- the word has a codeword
    rank-codes : get_or t p 0 < max_vocabulary s
    rank-codes = all_at (λ (i : ℕ). i < max_vocabulary s) t 0 p codes h

    -- all of its bytes
    pub held_all : (i : ℕ) → length (word s t p) ≤ i → (k : ℕ) → held s t p i k ≡ node_bytes s k (take (p + 1) t)
    held_all i l k =
        ap (λ (w : List ℕ). node_bytes s k (take p t) ++ leaves s k 0 w) (take_all i (word s t p) l)
        ∙ sym (ap (node_bytes s k) (ap (λ (n : ℕ). take n t) (add-one p) ∙ take-suc t p 0 h) ∙ node_of_next s within k (get_or t p 0) (take p t) rank-codes)

    -- each node has at most what it has at the end
    pub held_most : (i k : ℕ) → length (held s t p i k) ≤ length (node_bytes s k t)
    held_most i k =
        let w = word s t p in
        omega (
          arith,
          length-append (node_bytes s k (take p t)) (leaves s k 0 (take i w)),
          ap length (leaves_append s k 0 (take i w) (drop i w)),
          ap (λ (bs : List ℕ). length (leaves s k 0 bs)) (take-append-drop i w),
          length-append (leaves s k 0 (take i w)) (leaves s k (node_after s 0 (take i w)) (drop i w)),
          length-append (node_bytes s k (take p t)) (leaves s k 0 (take (length w) w)),
          ap (λ (bs : List ℕ). length (leaves s k 0 bs)) (take_all (length w) w (omega arith)),
          ap length (held_all (length w) (omega arith) k),
          ap (λ (u : List ℕ). length (node_bytes s k u)) (take-append-drop (p + 1) t),
          ap length (node_bytes-append s k (take (p + 1) t) (drop (p + 1) t)),
          length-append (node_bytes s k (take (p + 1) t)) (node_bytes s k (drop (p + 1) t)),
        )

  -- each byte lies in one of the nodes
  pub node_inside : {n : ℕ} → InNodes s n t → p < length t → (i : ℕ) → i < length (word s t p) → node_at s t p i < n
  node_inside {n} fits h i l =
      omega (
        arith,
        after_most s fits.closing 0 (word s t p) i l,
        (code_ends s fits.closing (get_or t p 0) (all_at (λ (i : ℕ). i < max_vocabulary s) t 0 p fits.codes h)).0,
        all_at (λ (i : ℕ). node_of s i < n) t 0 p fits.ends h,
      )

-- ---- lengths

module _ (s n : ℕ) (t : List ℕ) where
  -- there is a length for each of the first n nodes
  pub lengths_number : length (node_lengths s n t) ≡ n
  unfolding node_lengths
  lengths_number = length_map_range _ 0 n

  -- and it is that of the node
  pub lengths_at : (k : ℕ) → k < n → get_or (node_lengths s n t) k 0 ≡ length (node_bytes s k t)
  unfolding node_lengths
  lengths_at k h = get_d-map_range _ n k 0 h

  -- none is more than the longest text has bytes
  pub length_most : InNodes s n t → (k : ℕ) → k < n → length (node_bytes s k t) ≤ max_bytes
  length_most fits k h =
      omega (
        arith,
        fits.most,
        lengths_at k h,
        total_take_suc (node_lengths s n t) k (omega (arith, lengths_number)),
        total_take_whole (node_lengths s n t) (suc k),
      )

-- lengths that are those of the nodes are as many, and fit the table of starts
pub lengths_fit : (s : ℕ) (t ls before : List ℕ) → InNodes s (length before) t → ls ≡ node_lengths s (length before) t
    → (length ls ≡ length before) × (length ls < max_starts) × (total ls ≤ max_bytes)
lengths_fit s t ls before fits e =
    let n : length ls ≡ length before = ap length e ∙ lengths_number s (length before) t in
    (n, omega (arith, fits.number, levels_most s fits.closing), omega (arith, ap total e, fits.most))

-- starts of such lengths part the bytes
pub parted : (s : ℕ) (t ls before starts bytes : List ℕ) → ls ≡ node_lengths s (length before) t → NodeStarts ls starts
    → total (node_lengths s (length before) t) ≡ length bytes → Parted s (length ls) t starts bytes
parted s t ls before starts bytes e begin whole =
    let n : length ls ≡ length before = ap length e ∙ lengths_number s (length before) t in
    record { begin = rw (n, ← e) begin; whole = rw n whole }

-- no text has no bytes in any node
pub counted_none : (s : ℕ) (t : List ℕ) (n : ℕ) → LengthsCounted (λ k. node_bytes s k (take 0 t)) (replicate n 0)
counted_none s t n = record {
  counted = λ k h. get_or-replicate {A = ℕ} n k 0 0 (omega (arith, length-replicate {A = ℕ} n 0)) ∙ sym (ap length (node_bytes-nil s k));
}

-- one byte more adds 1 to the length of its node
pub counted_more : (f : ℕ → List ℕ) (ls : List ℕ) (j b : ℕ) → j < length ls → LengthsCounted f ls → LengthsCounted (with f j b) (set ls j (get_or ls j 0 + 1))
counted_more f ls j b h c = record { counted = λ k l. go k (omega (arith, length-set ls j (get_or ls j 0 + 1))) (same_or_not j k) }
  where
    go : (k : ℕ) → k < length ls → (j ≡ k) ⊎ (j ≡ k → ⊥) → get_or (set ls j (get_or ls j 0 + 1)) k 0 ≡ length (with f j b k)
    go k l (inl q) =
        ap (λ (m : ℕ). get_or (set ls j (get_or ls j 0 + 1)) m 0) (sym q) ∙ get_or-set_same ls j (get_or ls j 0 + 1) 0 h
        ∙ omega (arith, c.counted j h, ap (λ (m : ℕ). length (f m)) q, ap length (with_here f j b k q), length-append (f k) (b ∷ []))
    go k l (inr n) = get_or-set_other ls j k (get_or ls j 0 + 1) 0 (λ q. n (sym q)) ∙ c.counted k l ∙ ap length (sym (with_other f j b k n))

-- bytes that are the same in each node are counted alike
pub counted_same : (f g : ℕ → List ℕ) (ls : List ℕ) → ((k : ℕ) → f k ≡ g k) → LengthsCounted f ls → LengthsCounted g ls
counted_same f g ls e c = record { counted = λ k h. c.counted k h ∙ ap length (e k) }

-- lengths that are counted are those of the nodes
pub counted_lengths : (s : ℕ) (t ls : List ℕ) → LengthsCounted (λ k. node_bytes s k t) ls → ls ≡ node_lengths s (length ls) t
unfolding node_lengths
counted_lengths s t ls c = map_range_is 0 ls (λ (k : ℕ). length (node_bytes s k t)) (length ls) refl c.counted

-- ---- bytes

-- no text leaves no bytes
pub stands_none : (s : ℕ) (t : List ℕ) (n : ℕ) (starts bytes : List ℕ) → Stands (λ k. node_bytes s k (take 0 t)) n starts bytes
stands_none s t n starts bytes = record { stands = λ k i h l. absurd (omega (arith, ap length (node_bytes-nil s k))) }

-- bytes that are the same in each node stand alike
pub stands_same : (f g : ℕ → List ℕ) (n : ℕ) (starts bytes : List ℕ) → ((k : ℕ) → f k ≡ g k) → Stands f n starts bytes → Stands g n starts bytes
stands_same f g n starts bytes e s = record {
  stands = λ k i h l. s.stands k i h (omega (arith, ap length (e k))) ∙ ap (λ (xs : List ℕ). get_or xs i 0) (e k);
}

module _ (ns starts : List ℕ) (begin : NodeStarts ns starts) where
  -- the start of a node is not before the end of one with a smaller number
  start_after : (j k : ℕ) → j < k → k ≤ length ns → get_or starts j 0 + get_or ns j 0 ≤ get_or starts k 0
  start_after j k h l =
      omega (arith, begin.sums j (omega arith), begin.sums k l, total_take_suc ns j (omega arith), total_take_most ns (suc j) k (omega arith))

  -- and the end of a node is not past the end of all
  start_inside : (j : ℕ) → j < length ns → get_or starts j 0 + get_or ns j 0 ≤ total ns
  start_inside j h = omega (arith, begin.sums j (omega arith), total_take_suc ns j h, total_take_whole ns (suc j))

  module _ (f : ℕ → List ℕ) (j b : ℕ) (inside : j < length ns) (room : (k : ℕ) → k < length ns → length (with f j b k) ≤ get_or ns k 0) (bytes : List ℕ) (whole : total ns ≡ length bytes) where
    -- there is room for one byte more
    pub room_here : length (f j) < get_or ns j 0
    room_here = omega (arith, room j inside, ap length (with_here f j b j refl), length-append (f j) (b ∷ []))

    -- which lies in the bytes
    pub place_inside : get_or starts j 0 + length (f j) < length bytes
    place_inside = omega (arith, room_here, start_inside j inside, whole)

    -- written there, it stands behind those that its node has so far, and all other nodes stay
    pub stands_more : Stands f (length ns) starts bytes → Stands (with f j b) (length ns) starts (set bytes (get_or starts j 0 + length (f j)) b)
    stands_more s = record { stands = λ k i h l. go k i h l (same_or_not j k) (below_or_not i (length (f k))) }
      where
        at : ℕ
        at = get_or starts j 0 + length (f j)

        stays : (k i : ℕ) → k < length ns → i < length (f k) → (get_or starts k 0 + i ≡ at → ⊥) → get_or (set bytes at b) (get_or starts k 0 + i) 0 ≡ get_or (f k) i 0
        stays k i h l n = get_or-set_other bytes at (get_or starts k 0 + i) b 0 n ∙ s.stands k i h l

        apart : (k i : ℕ) → k < length ns → i < length (f k) → length (f k) ≤ get_or ns k 0 → (j < k) ⊎ (k < j) → get_or starts k 0 + i ≡ at → ⊥
        apart k i h l m (inl g) q = omega (arith, start_after j k g (omega arith), room_here)
        apart k i h l m (inr g) q = omega (arith, start_after k j g (omega arith))

        side : (k : ℕ) → (j ≡ k → ⊥) → (j < k) ⊎ (k ≤ j) → (j < k) ⊎ (k < j)
        side k n (inl g) = inl g
        side k n (inr g) = inr (omega arith)

        go : (k i : ℕ) → k < length ns → i < length (with f j b k) → (j ≡ k) ⊎ (j ≡ k → ⊥) → (i < length (f k)) ⊎ (length (f k) ≤ i)
            → get_or (set bytes at b) (get_or starts k 0 + i) 0 ≡ get_or (with f j b k) i 0
        go k i h l (inl q) (inl g) =
            stays k i h g (λ e. omega (arith, ap (λ (m : ℕ). get_or starts m 0 + length (f m)) q))
            ∙ sym (ap (λ (xs : List ℕ). get_or xs i 0) (with_here f j b k q) ∙ get_or-append (f k) (b ∷ []) 0 i g)
        go k i h l (inl q) (inr g) =
            let e : i ≡ length (f k) = omega (arith, ap length (with_here f j b k q), length-append (f k) (b ∷ [])) in
            let m : get_or starts k 0 + i ≡ at = ap (λ (m : ℕ). get_or starts k 0 + m) e ∙ ap (λ (m : ℕ). get_or starts m 0 + length (f m)) (sym q) in
            ap (λ (m : ℕ). get_or (set bytes at b) m 0) m ∙ get_or-set_same bytes at b 0 place_inside
            ∙ sym (ap (λ (xs : List ℕ). get_or xs i 0) (with_here f j b k q) ∙ ap (λ (m : ℕ). get_or (f k ++ (b ∷ [])) m 0) e ∙ get_or-append_seam (f k) b [] 0)
        go k i h l (inr n) g =
            let e : with f j b k ≡ f k = with_other f j b k n in
            let m : i < length (f k) = omega (arith, ap length e) in
            stays k i h m (apart k i h m (omega (arith, room k h, ap length e)) (side k n (below_or_not j k))) ∙ ap (λ (xs : List ℕ). get_or xs i 0) (sym e)

-- bytes in which each node stands are the nodes, laid end to end
pub stands_whole : (s n : ℕ) (t starts bytes : List ℕ) → NodeStarts (node_lengths s n t) starts → total (node_lengths s n t) ≡ length bytes
    → Stands (λ k. node_bytes s k t) n starts bytes → bytes ≡ flatten (first_nodes s n t)
unfolding first_nodes
stands_whole s n t starts bytes begin whole st =
    sym (flatten_segments ns bytes whole)
    ∙ ap flatten (map_range_is [] (segments ns bytes) (λ (k : ℕ). node_bytes s k t) n (count_segments ns bytes ∙ lengths_number s n t) same)
  where
    ns : List ℕ
    ns = node_lengths s n t

    same : (k : ℕ) → k < n → get_or (segments ns bytes) k [] ≡ node_bytes s k t
    same k h =
        let e : length (get_or (segments ns bytes) k []) ≡ get_or ns k 0 = segment_length ns bytes k (omega arith) in
        let m : get_or ns k 0 ≡ length (node_bytes s k t) = lengths_at s n t k h in
        ext_get_or 0 (get_or (segments ns bytes) k []) (node_bytes s k t) (e ∙ m) (λ i l.
        segment_element ns bytes k i (omega arith)
        ∙ ap (λ (x : ℕ). get_or bytes (x + i) 0) (sym (begin.sums k (omega (arith, lengths_number s n t))))
        ∙ st.stands k i h (omega arith))

-- ---- byte i of word p

module _ (s : ℕ) (t : List ℕ) (p i : ℕ) (more : i < length (word s t p)) (node : ℕ) (here : node ≡ node_at s t p i) where
  -- it goes to its node
  held_next : (k : ℕ) → held s t p (i + 1) k ≡ with (held s t p i) node (get_or (word s t p) i 0) k
  held_next k = held_more s t p i more k ∙ ap (λ (j : ℕ). with (held s t p i) j (get_or (word s t p) i 0) k) (sym here)

  -- the byte after it goes to the child
  pub node_next : (b : ℕ) → b ≡ get_or (word s t p) i 0 → child s node b ≡ node_at s t p (i + 1)
  node_next b q = ap₂ (child s) here q ∙ sym (after_more s 0 (word s t p) i more)

  -- it is counted in its node
  pub counted_next : (ls : List ℕ) → node < length ls → LengthsCounted (held s t p i) ls → LengthsCounted (held s t p (i + 1)) (set ls node (get_or ls node 0 + 1))
  counted_next ls h c = counted_same _ _ _ (λ k. sym (held_next k)) (counted_more (held s t p i) ls node (get_or (word s t p) i 0) h c)

  module _ (n : ℕ) (fits : InNodes s n t) (inText : p < length t) where
    -- which is one of the n
    pub next_inside : node < n
    next_inside = rw here (node_inside s t p fits inText i more)

    -- and has room for it
    room_next : length (held s t p i node) < length (node_bytes s node t)
    room_next =
        omega (
          arith,
          held_most s t p fits.closing inText fits.codes (i + 1) node,
          ap length (held_next node ∙ with_here (held s t p i) node (get_or (word s t p) i 0) node refl),
          length-append (held s t p i node) (get_or (word s t p) i 0 ∷ []),
        )

    -- so that the length of the node so far is below the most bytes
    pub next_most : (ls : List ℕ) → length ls ≡ n → LengthsCounted (held s t p i) ls → get_or ls node 0 < max_bytes
    next_most ls e c = omega (arith, c.counted node (omega (arith, next_inside)), room_next, length_most s n t fits node next_inside)

    module _ (starts ls bytes : List ℕ) (begin : NodeStarts (node_lengths s n t) starts) (whole : total (node_lengths s n t) ≡ length bytes) (number : length ls ≡ n) (c : LengthsCounted (held s t p i) ls) where
      -- the length of its node so far
      length-next : get_or ls node 0 ≡ length (held s t p i node)
      length-next = c.counted node (omega (arith, next_inside))

      -- the node has a length
      node-listed : node < length (node_lengths s n t)
      node-listed = omega (arith, next_inside, lengths_number s n t)

      -- no node has more than at the end
      room_each : (k : ℕ) → k < length (node_lengths s n t) → length (with (held s t p i) node (get_or (word s t p) i 0) k) ≤ get_or (node_lengths s n t) k 0
      room_each k h =
          omega (
            arith,
            ap length (held_next k),
            held_most s t p fits.closing inText fits.codes (i + 1) k,
            lengths_at s n t k (omega (arith, lengths_number s n t)),
          )

      -- the place behind those that its node has so far lies in the bytes
      pub next_place : get_or starts node 0 + get_or ls node 0 < length bytes
      next_place =
          omega (
            arith,
            length-next,
            place_inside (node_lengths s n t) starts begin (held s t p i) node (get_or (word s t p) i 0) node-listed room_each bytes whole,
          )

      -- and written there, it stands in its node
      pub stands_next : (b : ℕ) → b ≡ get_or (word s t p) i 0 → Stands (held s t p i) n starts bytes → Stands (held s t p (i + 1)) n starts (set bytes (get_or starts node 0 + get_or ls node 0) b)
      stands_next b q st =
          rw (length-next, q)
          (stands_same _ _ n starts _ (λ k. sym (held_next k))
          (rw (lengths_number s n t) at
          (stands_more (node_lengths s n t) starts begin (held s t p i) node (get_or (word s t p) i 0) node-listed room_each bytes whole
          (rw (lengths_number s n t) st))))
