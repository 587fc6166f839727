-- The lines that the printing program of paper 01 prints ("The printing program and its sample").
use Rattle.std.specs.Prelude.{ℕ, suc, List, [], ◌∷◌, ◌++◌}
use Rattle.formatting.specs.Characters.{characters, labelled, bytes_text}

-- the byte that closes every line: 0A
abbrev pub line_end : List ℕ
line_end = characters "\n"

-- the line of a refusal
unfoldable pub refusal_line : ℕ → List ℕ
refusal_line number = labelled (characters "refused ") number ++ line_end

-- the line of the numbers: words n, nodes N, bytes L
unfoldable pub counts_line : ℕ → ℕ → ℕ → List ℕ
counts_line n nodes bytes =
    labelled (characters "words ") n ++ labelled (characters " nodes ") nodes ++ labelled (characters " bytes ") bytes ++ line_end

-- the line of node k: its number and its bytes, a blank before each; an empty node's line ends at its colon
unfoldable pub node_line : ℕ → List ℕ → List ℕ
node_line k bytes = labelled (characters "node ") k ++ characters ":" ++ bytes_text bytes ++ line_end

-- the lines of nodes that are numbered from k on
abbrev pub node_lines : ℕ → List (List ℕ) → List ℕ
node_lines k [] = []
node_lines k (bytes ∷ rest) = node_line k bytes ++ node_lines (suc k) rest
