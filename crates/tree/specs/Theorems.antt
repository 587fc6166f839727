-- Statements: the numbers of the nodes agree with the code, nodes and texts give each other back, and nodes answer for their text.
use Rattle.std.specs.Prelude.{ℕ, ◌≤◌, ◌<◌, ◌≡◌, true, ◌↔◌, length, take, get_or}
use mathlib.Core.List.{List, [], ◌∷◌, ◌++◌, map, tail}
use Rattle.base.specs.Lists.{Below, total, count_of, nth}
use Rattle.dense.specs.Code.{Closing, continuing, max_vocabulary, code, rank_of, Word}
use Rattle.dense.specs.Laws.{code_length}
use Rattle.tree.specs.declared.Place.{Place}
use Rattle.tree.specs.Nodes.{child, parent, digit, node_count, max_nodes, node_of, closing_byte, path, through, reach, node_bytes, nodes, position, root_position}
use Rattle.tree.specs.Walks.{node, text_of, end_node, end_byte, rank_from, word_at, count_below, nth_from, Good, good_test}

pub record NumbersAgree (s : ℕ) : Type 0 where
  -- rank i ends in node i / s with byte c + i % s
  pub ends_in : (i : ℕ) → i < max_vocabulary s → (end_node s 0 (code s i) ≡ node_of s i) × (end_byte (code s i) ≡ closing_byte s i)
  -- its codeword is the path to that node and that byte
  pub ends : (i : ℕ) → i < max_vocabulary s → code s i ≡ path s (node_of s i) ++ (closing_byte s i ∷ [])
  -- and there it stands in the tree: of the text of that one word, the node has this byte alone
  pub stands_in : (i : ℕ) → i < max_vocabulary s → node_bytes s (node_of s i) (i ∷ []) ≡ closing_byte s i ∷ []
  -- that node is one of the N nodes of each vocabulary that has the rank
  pub is_node : (vocab i : ℕ) → i < vocab → node_of s i < node_count s vocab
  -- a vocabulary that has codewords has its nodes in the first three levels
  pub in_levels : (vocab : ℕ) → vocab ≤ max_vocabulary s → node_count s vocab ≤ max_nodes s
  -- the rank that a codeword names by node numbers is the one that it names by its digits
  pub named : (w : List ℕ) → Word s w → length w ≤ 3 → rank_from s 0 w ≡ rank_of s w
  -- every node but the root is the child of its parent by its digit
  pub is_child : (k : ℕ) → 1 ≤ k → (digit s k < continuing s) × (child s (parent s k) (digit s k) ≡ k)
  -- the child of node k by byte e has the parent k and the digit e
  pub of_child : (k e : ℕ) → e < continuing s → (parent s (child s k e) ≡ k) × (digit s (child s k e) ≡ e)
  -- the root is reached by the codeword of each word, in text order
  pub root_reached : (t : List ℕ) → reach s 0 t ≡ map (code s) t
  -- the child of node k by byte e is reached by what comes through that byte of node k
  pub child_reached : (t : List ℕ) (k e : ℕ) → e < continuing s → reach s (child s k e) t ≡ through e (reach s k t)

pub record NodesExact (s : ℕ) : Type 0 where
  -- what two texts, one after the other, have in a node is what each has there
  pub joined :
      (k : ℕ) (t u : List ℕ) →
      (reach s k (t ++ u) ≡ reach s k t ++ reach s k u) × (node_bytes s k (t ++ u) ≡ node_bytes s k t ++ node_bytes s k u)
  -- a child has as many bytes as its byte stands in node k
  pub child_length : (t : List ℕ) (k e : ℕ) → e < continuing s → length (node_bytes s (child s k e) t) ≡ count_of e (node_bytes s k t)
  -- what reaches the child by e with j others before it is the tail of what reaches node k at the e with j others before it
  pub child_position :
      (t : List ℕ) (k e j : ℕ) → e < continuing s → j < count_of e (node_bytes s k t) →
      get_or (reach s (child s k e) t) j [] ≡ tail (get_or (reach s k t) (nth e j (node_bytes s k t)) [])
  -- in the root a place is a position
  pub root : (t : List ℕ) (place : Place) → place.0 ≤ length t → position s 0 place.0 t ≡ (root_position place).0
  -- one step down: the position in the child by e counts the e below the position in node k
  pub down :
      (t : List ℕ) (k e p : ℕ) → e < continuing s →
      position s (child s k e) p t ≡ count_of e (take (position s k p t) (node_bytes s k t))
  -- rank i stands below place p as often as its closing byte stands below the position of p in its node
  pub often :
      (t : List ℕ) (i p : ℕ) → Below (max_vocabulary s) t → i < max_vocabulary s →
      count_of i (take p t) ≡ count_of (closing_byte s i) (take (position s (node_of s i) p t) (node_bytes s (node_of s i) t))

pub record ReadingExact (s vocab : ℕ) : Type 0 where
  -- the nodes of a text are read as the text
  pub read : (t : List ℕ) → Below vocab t → text_of s (nodes s vocab t) ≡ t
  -- two texts never share their nodes
  pub only_one : (t u : List ℕ) → Below vocab t → Below vocab u → nodes s vocab t ≡ nodes s vocab u → t ≡ u
  -- nodes are good exactly if some text with ranks below V has them
  pub good : (ns : List (List ℕ)) → Good s vocab ns ↔ ((t : List ℕ) × Below vocab t × (nodes s vocab t ≡ ns))
  -- it is the text that they are read as, whose ranks are below V
  pub again : (ns : List (List ℕ)) → Good s vocab ns → Below vocab (text_of s ns) × (nodes s vocab (text_of s ns) ≡ ns)
  -- the test holds exactly if the nodes are good
  pub tested : (ns : List (List ℕ)) → (good_test s vocab ns ≡ true) ↔ Good s vocab ns
  -- the nodes of a text have together as many bytes as its codewords
  pub sized : (t : List ℕ) → Below vocab t → total (map length (nodes s vocab t)) ≡ total (map (code_length s) t)

pub record WordsExact (s vocab : ℕ) (ns : List (List ℕ)) : Type 0 where
  -- the text has a word for each byte of the root
  pub size : length (text_of s ns) ≡ length (node ns 0)
  -- the word at a place is the rank read there
  pub word : (p : ℕ) → p < length (node ns 0) → get_or (text_of s ns) p 0 ≡ word_at s ns 3 0 p
  -- how often a rank stands below a place is counted on the way down its codeword
  pub often : (i p : ℕ) → i < vocab → p ≤ length (node ns 0) → count_of i (take p (text_of s ns)) ≡ count_below s ns 0 p (code s i)
  -- the place of a rank with j others before it is found on the way down its codeword and up again
  pub place : (i j : ℕ) → i < vocab → j < count_of i (text_of s ns) → nth i j (text_of s ns) ≡ nth_from s ns 0 j (code s i)

-- Statement: at every number of closing values, for every vocabulary that has codewords, and over all good nodes.
pub record TreeExact : Type 0 where
  pub numbers : (s : ℕ) → Closing s → NumbersAgree s
  pub tree : (s : ℕ) → Closing s → NodesExact s
  pub reading : (s vocab : ℕ) → Closing s → vocab ≤ max_vocabulary s → ReadingExact s vocab
  pub words : (s vocab : ℕ) → Closing s → vocab ≤ max_vocabulary s → (ns : List (List ℕ)) → Good s vocab ns → WordsExact s vocab ns
