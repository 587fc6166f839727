-- Statement: what is printed for the sample of paper 01, and at the edges.
use Rattle.std.specs.Prelude.{◌≡◌, [], ◌∷◌}
use Rattle.formatting.specs.Characters.{characters}
use Rattle.node_listing.specs.Listing.{listing}

pub record ListingSamples : Type 0 where
  pub sample :
      listing (0x80 ∷ 0x00 ∷ 0x80 ∷ 0x80 ∷ 0x00 ∷ 0x81 ∷ 0x00 ∷ 0x80 ∷ [])
      ≡ characters "words 5 nodes 2 bytes 8\nnode 0: 80 00 80 00 00\nnode 1: 80 81 80\n"
  -- no word
  pub empty : listing [] ≡ characters "words 0 nodes 1 bytes 0\nnode 0:\n"
  -- rank 255 is in node 1, the first of two bytes; no word ends in the root
  pub two_bytes : listing (0x00 ∷ 0xFF ∷ []) ≡ characters "words 1 nodes 2 bytes 2\nnode 0: 00\nnode 1: FF\n"
  -- rank 256 is in node 2; node 1 is empty
  pub empty_node : listing (0x01 ∷ 0x80 ∷ []) ≡ characters "words 1 nodes 3 bytes 2\nnode 0: 01\nnode 1:\nnode 2: 80\n"
  -- a stream that ends inside a codeword
  pub broken : listing (0x80 ∷ 0x00 ∷ []) ≡ characters "refused 15\n"
  -- rank 16512, the first of three bytes
  pub three_bytes : listing (0x00 ∷ 0x00 ∷ 0x80 ∷ []) ≡ characters "refused 1\n"
