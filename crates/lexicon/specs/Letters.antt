-- The letter table over ISO 8859-1, and the rules of a table.
use Rattle.std.specs.Prelude.{ℕ, ◌+◌, ◌≡◌, Bool, true, cond, not, ◌&&◌, ◌||◌, List, map, eqb, length, get_or}
use Rattle.base.specs.Lists.{all_pass, range_from}
use Rattle.base.specs.Texts.{outside}

-- whether a byte is from low to high
unfoldable pub within : ℕ → ℕ → ℕ → Bool
within low high x = not (outside low high x)

-- the entry of a byte: digits, small letters, DF and the small letters above it keep their value, capitals gain 20, the rest are 0
unfoldable pub letter_of : ℕ → ℕ
letter_of x =
    cond (within 0x30 0x39 x || within 0x61 0x7A x) x
    (cond (within 0x41 0x5A x) (x + 0x20)
    (cond (within 0xC0 0xDE x && not (eqb x 0xD7)) (x + 0x20)
    (cond (within 0xDF 0xFF x && not (eqb x 0xF7)) x
    0)))

-- the letter table
unfoldable pub letters : List ℕ
letters = map letter_of (range_from 0 256)

-- what a table folds a byte to; 0 for a separator
abbrev pub letter_in : List ℕ → ℕ → ℕ
letter_in table x = get_or table x 0

-- whether a table keeps a byte: the byte's entry is the byte itself
abbrev pub keeps : List ℕ → ℕ → Bool
keeps table x = eqb (letter_in table x) x

-- the byte that closes a word of a list
abbrev pub line_feed : ℕ
line_feed = 0x0A

-- whether an entry is 0 or a byte that the table keeps
unfoldable pub is_entry : List ℕ → ℕ → Bool
is_entry table x = eqb x 0 || keeps table x

-- whether each entry of a table is so
unfoldable pub keeps_entries : List ℕ → Bool
keeps_entries table = all_pass (is_entry table) table

-- whether some entry of a table is not 0
unfoldable pub has_letter : List ℕ → Bool
has_letter table = not (all_pass (λ x. eqb x 0) table)

-- the rules of a table: it has 256 entries; each is 0 or a byte that the table keeps; entry 0A is 0, so that the byte that closes the words of a
-- list is a separator; some entry is not 0
unfoldable pub is_table : List ℕ → Bool
is_table table = eqb (length table) 256 && keeps_entries table && eqb (letter_in table line_feed) 0 && has_letter table

-- Statement: the letter table keeps the rules.
abbrev pub LettersRule : Type 0
LettersRule = is_table letters ≡ true
