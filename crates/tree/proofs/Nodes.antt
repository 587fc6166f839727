-- Laws of what reaches a node: of two texts, of the root and of a child, and what all of it names. Assumes nothing.
use Prim.Native.Nat.{ℕ, ◌<◌}
use mathlib.Core.Path.{◌≡◌, sym, ap, ◌∙◌, subst}
use mathlib.Core.List.{List, [], ◌∷◌, ◌++◌, map, tail, map-append}
use native.Mathlib.Omega.{arith}
use lib.ListN.{length, take, get_or, length-map}
use Rattle.base.specs.Lists.{All, count_of, nth}
use Rattle.base.proofs.Lists.{all_map, get_d_map}
use Rattle.base.proofs.Counts.{Found, nth_found}
use Rattle.dense.specs.Code.{Closing, continuing, max_vocabulary, code, Word, closing, continued}
use Rattle.dense.proofs.Codewords.{code_word}
use Rattle.tree.specs.Nodes.{child, path, first_byte, through, reaching, reach, node_bytes}
use Rattle.tree.specs.Walks.{rank_from}
use Rattle.tree.proofs.Numbers.{node_ind, rank_continued, rank_from_code}
use Rattle.tree.proofs.Through.{all_through, length_through, through_at, reaching_path, reaching_append, reaching_nil, reaching_own}
use Rattle.tree.proofs.Paths.{path_root, path_child}

-- ---- two texts, and no text

pub reach_append : (s k : ℕ) (t u : List ℕ) → reach s k (t ++ u) ≡ reach s k t ++ reach s k u
unfolding reach
reach_append s k t u = ap (reaching (path s k)) (map-append (code s) t u) ∙ reaching_append (path s k) (map (code s) t) (map (code s) u)

pub node_bytes-append : (s k : ℕ) (t u : List ℕ) → node_bytes s k (t ++ u) ≡ node_bytes s k t ++ node_bytes s k u
unfolding node_bytes
node_bytes-append s k t u = ap (map first_byte) (reach_append s k t u) ∙ map-append first_byte (reach s k t) (reach s k u)

pub node_bytes-nil : (s k : ℕ) → node_bytes s k [] ≡ []
unfolding node_bytes reach
node_bytes-nil s k = ap (map first_byte) (reaching_nil (path s k))

-- ---- lengths and bytes

pub length_node_bytes : (s k : ℕ) (t : List ℕ) → length (node_bytes s k t) ≡ length (reach s k t)
unfolding node_bytes
length_node_bytes s k t = length-map (reach s k t) first_byte

-- the byte at a position is the first of what reaches the node there
pub byte_at : (s k i : ℕ) (t : List ℕ) → i < length (reach s k t) → get_or (node_bytes s k t) i 0 ≡ first_byte (get_or (reach s k t) i [])
unfolding node_bytes
byte_at s k i t h = get_d_map first_byte (reach s k t) i 0 [] h

-- ---- the root and children

-- every codeword reaches the root
pub reach_root : (s : ℕ) (t : List ℕ) → reach s 0 t ≡ map (code s) t
unfolding reach
reach_root s t = rw (path_root s)

pub length_root : (s : ℕ) (t : List ℕ) → length (node_bytes s 0 t) ≡ length t
length_root s t = length_node_bytes s 0 t ∙ ap length (reach_root s t) ∙ length-map t (code s)

-- what reaches the child by e is what comes through e of what reaches the parent
pub reach_child : (s k e : ℕ) (t : List ℕ) → e < continuing s → reach s (child s k e) t ≡ through e (reach s k t)
unfolding reach
reach_child s k e t h = rw (path_child s k e h) (reaching_path (path s k) (e ∷ []) (map (code s) t))

-- as many codewords reach the child by e as the parent has bytes e
pub child_length_lem : (s k e : ℕ) (t : List ℕ) → e < continuing s → length (node_bytes s (child s k e) t) ≡ count_of e (node_bytes s k t)
unfolding node_bytes
child_length_lem s k e t h = length-map (reach s (child s k e) t) first_byte ∙ ap length (reach_child s k e t h) ∙ length_through e (reach s k t)

-- where a codeword goes on: after the byte e at position i of node k, in the child by e, at the position that counts the e before
pub child_position_lem : (s k e i : ℕ) (t : List ℕ) → e < continuing s → i < length (reach s k t) → first_byte (get_or (reach s k t) i []) ≡ e
    → get_or (reach s (child s k e) t) (count_of e (take i (node_bytes s k t))) [] ≡ tail (get_or (reach s k t) i [])
unfolding node_bytes
child_position_lem s k e i t h l q = rw (reach_child s k e t h) (through_at e (reach s k t) i l q)

-- and what goes on there with j others before it comes from the e with j others before it
pub child_nth : (s k e j : ℕ) (t : List ℕ) → e < continuing s → j < count_of e (node_bytes s k t)
    → get_or (reach s (child s k e) t) j [] ≡ tail (get_or (reach s k t) (nth e j (node_bytes s k t)) [])
child_nth s k e j t h l =
    let f : Found e j (node_bytes s k t) = nth_found e j (node_bytes s k t) l in
    let g : nth e j (node_bytes s k t) < length (reach s k t) = omega (arith, length_node_bytes s k t, f.inside) in
    ap (λ (i : ℕ). get_or (reach s (child s k e) t) i []) (sym f.before)
    ∙ child_position_lem s k e (nth e j (node_bytes s k t)) t h g (sym (byte_at s k (nth e j (node_bytes s k t)) t g) ∙ f.stands)

-- a codeword that begins with the path to node k reaches it with what comes after the path
pub reach_path : (s k i : ℕ) (r : List ℕ) → code s i ≡ path s k ++ r → reach s k (i ∷ []) ≡ r ∷ []
unfolding reach
reach_path s k i r q = rw q (reaching_own (path s k) r)

-- and has there its next byte alone
pub own : (s k i b : ℕ) (r : List ℕ) → code s i ≡ path s k ++ (b ∷ r) → node_bytes s k (i ∷ []) ≡ b ∷ []
unfolding node_bytes
own s k i b r q = ap (map first_byte) (reach_path s k i (b ∷ r) q)

-- ---- what is known of all that reaches a node

-- a codeword that starts in node k is well formed and names a rank with R
pub record Named (s : ℕ) (R : ℕ → Type 0) (k : ℕ) (w : List ℕ) : Type 0 where
  pub word : Word s w
  pub rank : R (rank_from s k w)

module _ (s : ℕ) (within : Closing s) (R : ℕ → Type 0) (t : List ℕ) where
  -- what is left of it in the child by its first byte names the same rank
  named_tail : (k e : ℕ) → e < continuing s → (w : List ℕ) → first_byte w ≡ e → Named s R k w → Named s R (child s k e) (tail w)
  named_tail k e h w q n = go w q n.word n.rank
    where
      go : (w : List ℕ) → first_byte w ≡ e → Word s w → R (rank_from s k w) → Named s R (child s k e) (tail w)
      go w q (closing b g l) r = absurd (omega arith)
      go w q (continued b {bs} g u) r = record { word = u; rank = subst (λ (x : ℕ). R (rank_from s (child s k x) bs)) q (subst R (rank_continued s k b bs u) r) }

  -- all that reaches a node names there a rank of the text, if the text has codewords
  pub named_reach : All (λ (i : ℕ). (i < max_vocabulary s) × R i) t → (k : ℕ) → All (Named s R k) (reach s k t)
  named_reach a = node_ind s within (λ (k : ℕ). All (Named s R k) (reach s k t)) (rw (reach_root s t) codes) down
    where
      codes : All (Named s R 0) (map (code s) t)
      codes = all_map _ _ (code s)
          (λ i h. record { word = code_word s within i h.0; rank = subst R (sym (rank_from_code s within i h.0)) h.1 }) t a

      down : (k e : ℕ) → e < continuing s → All (Named s R k) (reach s k t) → All (Named s R (child s k e)) (reach s (child s k e) t)
      down k e h a = rw (reach_child s k e t h) (all_through (Named s R k) _ e (named_tail k e h) (reach s k t) a)
