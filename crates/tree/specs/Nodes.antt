-- The nodes of the byte tree of paper 01, over the number s of closing byte values; the other c = 256 - s say that another byte follows.
use Rattle.std.specs.Prelude.{ℕ, zero, suc, ◌+◌, ◌*◌, ◌-◌, ◌/◌, ◌%◌, eqb, length, take, get_or}
use mathlib.Core.List.{List, [], ◌∷◌, ◌++◌, map, tail}
use Rattle.base.specs.Lists.{filter_by, range_from}
use Rattle.dense.specs.Code.{continuing, code}
use Rattle.tree.specs.declared.Place.{Place}
use Rattle.tree.specs.declared.Position.{Position}

-- ---- numbers

-- the child of node k by byte e
abbrev pub child : ℕ → ℕ → ℕ → ℕ
child s k e = continuing s * k + 1 + e

-- the node of which a node other than the root is a child
abbrev pub parent : ℕ → ℕ → ℕ
parent s k = (k - 1) / continuing s

-- the byte by which it is a child
abbrev pub digit : ℕ → ℕ → ℕ
digit s k = (k - 1) % continuing s

-- N, the number of nodes: V / s, rounded up
abbrev pub node_count : ℕ → ℕ → ℕ
node_count s vocab = (vocab + (s - 1)) / s

-- the most nodes of a vocabulary, all those of the first three levels: 16,513 for s = 128
abbrev pub max_nodes : ℕ → ℕ
max_nodes s = 1 + continuing s + continuing s * continuing s

-- the node in which rank i ends
abbrev pub node_of : ℕ → ℕ → ℕ
node_of s i = i / s

-- the byte with which it ends there
abbrev pub closing_byte : ℕ → ℕ → ℕ
closing_byte s i = continuing s + i % s

-- the rank that ends in node k with the closing byte b
abbrev pub rank_in : ℕ → ℕ → ℕ → ℕ
rank_in s k b = s * k + (b - continuing s)

-- ---- paths

-- the last bytes of the path to node k, at most so many: those to its parent, and then its digit
abbrev pub path_within : ℕ → ℕ → ℕ → List ℕ
path_within s zero k = []
path_within s (suc most) zero = []
path_within s (suc most) (suc k) = path_within s most (parent s (suc k)) ++ (digit s (suc k) ∷ [])

-- the bytes that lead from the root to node k: at most k, as each parent has a smaller number
unfoldable pub path : ℕ → ℕ → List ℕ
path s k = path_within s k k

-- ---- what reaches a node

-- the first byte of what is left of a codeword; 256, which is no byte, where nothing is left
abbrev pub first_byte : List ℕ → ℕ
first_byte w = get_or w 0 256

-- of some codewords, those that come through byte e, each without that byte
abbrev pub through : ℕ → List (List ℕ) → List (List ℕ)
through e ws = map tail (filter_by (λ w. eqb (first_byte w) e) ws)

-- of some codewords, what is left of those that come through the bytes of a path, one after another
abbrev pub reaching : List ℕ → List (List ℕ) → List (List ℕ)
reaching [] ws = ws
reaching (e ∷ p) ws = reaching p (through e ws)

-- what is left, in text order, of the codewords of a text that reach node k
unfoldable pub reach : ℕ → ℕ → List ℕ → List (List ℕ)
reach s k t = reaching (path s k) (map (code s) t)

-- the bytes of node k: of each codeword that reaches it the next byte, in text order
unfoldable pub node_bytes : ℕ → ℕ → List ℕ → List ℕ
node_bytes s k t = map first_byte (reach s k t)

-- the nodes of a text, in order of node number
unfoldable pub nodes : ℕ → ℕ → List ℕ → List (List ℕ)
nodes s vocab t = map (λ k. node_bytes s k t) (range_from 0 (node_count s vocab))

-- ---- places and positions

-- the position in node k of place p: how many bytes the words below p have there
unfoldable pub position : ℕ → ℕ → ℕ → List ℕ → ℕ
position s k p t = length (node_bytes s k (take p t))

-- the root has a byte for each word, so a place is a position there
abbrev pub root_position : Place → Position
root_position place = record { 0 = place.0 }

-- and the place of a position in the root
abbrev pub root_place : Position → Place
root_place at = record { 0 = at.0 }
