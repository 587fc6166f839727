-- Reading nodes: the walk and the text that it reads, the ways down that count and find words, and what can be tested node by node.
use Rattle.std.specs.Prelude.{ℕ, zero, suc, ◌≤◌, ◌<◌, ◌≡◌, Bool, true, cond, ◌&&◌, ltb, eqb, length, take, get_or}
use mathlib.Core.List.{List, [], ◌∷◌, map, get_last_d}
use Rattle.base.specs.Lists.{All, Below, all_pass, range_from, count_of, nth}
use Rattle.dense.specs.Code.{continuing, closes, rank_of}
use Rattle.tree.specs.Nodes.{child, node_count, rank_in}

-- node k of a list of nodes; empty past the last
abbrev pub node : List (List ℕ) → ℕ → List ℕ
node ns k = get_or ns k []

-- the byte at position i of node k
abbrev pub byte : List (List ℕ) → ℕ → ℕ → ℕ
byte ns k i = get_or (node ns k) i 0

-- ---- the text

-- the bytes met from position i of node k on, down at most so many levels: the byte there and, unless it closes the word, those met in the
-- child by that byte, from the position on that counts how often the byte stands in node k below i
abbrev pub walk : ℕ → List (List ℕ) → ℕ → ℕ → ℕ → List ℕ
walk s ns zero k i = []
walk s ns (suc levels) k i =
    byte ns k i ∷ cond (closes s (byte ns k i)) [] (walk s ns levels (child s k (byte ns k i)) (count_of (byte ns k i) (take i (node ns k))))

-- the text of nodes: each byte of the root begins a codeword, of at most three bytes
unfoldable pub text_of : ℕ → List (List ℕ) → List ℕ
text_of s ns = map (λ i. rank_of s (walk s ns 3 0 i)) (range_from 0 (length (node ns 0)))

-- ---- ways down

-- the node in which a codeword that starts in node k ends
abbrev pub end_node : ℕ → ℕ → List ℕ → ℕ
end_node s k [] = k
end_node s k (b ∷ []) = k
end_node s k (b ∷ e ∷ rest) = end_node s (child s k b) (e ∷ rest)

-- the last byte of a codeword
abbrev pub end_byte : List ℕ → ℕ
end_byte w = get_last_d w 0

-- the rank that a codeword names if it starts in node k, by the node in which it ends
abbrev pub rank_from : ℕ → ℕ → List ℕ → ℕ
rank_from s k w = rank_in s (end_node s k w) (end_byte w)

-- the rank read from position i of node k on, down at most so many levels
abbrev pub word_at : ℕ → List (List ℕ) → ℕ → ℕ → ℕ → ℕ
word_at s ns levels k i = rank_from s k (walk s ns levels k i)

-- how many words that go on as w stand below position i of node k: down, counting in each node
abbrev pub count_below : ℕ → List (List ℕ) → ℕ → ℕ → List ℕ → ℕ
count_below s ns k i [] = i
count_below s ns k i (b ∷ bs) = count_below s ns (child s k b) (count_of b (take i (node ns k))) bs

-- the position in node k of the word that goes on as w and has j such words before it: down, and up again
abbrev pub nth_from : ℕ → List (List ℕ) → ℕ → ℕ → List ℕ → ℕ
nth_from s ns k j [] = j
nth_from s ns k j (b ∷ bs) = nth b (nth_from s ns (child s k b) j bs) (node ns k)

-- ---- what can be tested node by node

-- good nodes: what holds of the nodes of each text with ranks below V
pub record Good (s vocab : ℕ) (ns : List (List ℕ)) : Type 0 where
  -- there are N nodes
  pub number : length ns ≡ node_count s vocab
  -- each continuing byte stands as often as its child has bytes, which is empty past the last node
  pub counts : (k e : ℕ) → k < node_count s vocab → e < continuing s → count_of e (node ns k) ≡ length (node ns (child s k e))
  -- the elements of each node are bytes
  pub bytes : (k : ℕ) → k < node_count s vocab → Below 256 (node ns k)
  -- each closing byte names a rank below V
  pub named : (k : ℕ) → k < node_count s vocab → All (λ b. continuing s ≤ b → rank_in s k b < vocab) (node ns k)

-- whether a byte of node k is one, and names a rank below V if it closes a word
abbrev pub byte_test : ℕ → ℕ → ℕ → ℕ → Bool
byte_test s vocab k b = ltb b 256 && cond (closes s b) (ltb (rank_in s k b) vocab) true

-- whether each continuing byte of node k stands as often as its child has bytes
abbrev pub counts_test : ℕ → List (List ℕ) → ℕ → Bool
counts_test s ns k = all_pass (λ e. eqb (count_of e (node ns k)) (length (node ns (child s k e)))) (range_from 0 (continuing s))

-- whether node k passes
abbrev pub node_test : ℕ → ℕ → List (List ℕ) → ℕ → Bool
node_test s vocab ns k = counts_test s ns k && all_pass (byte_test s vocab k) (node ns k)

-- whether there are N nodes and all pass
unfoldable pub good_test : ℕ → ℕ → List (List ℕ) → Bool
good_test s vocab ns = eqb (length ns) (node_count s vocab) && all_pass (node_test s vocab ns) (range_from 0 (node_count s vocab))
