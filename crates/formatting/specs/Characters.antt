-- What programs print: fixed words, numbers in decimal, and bytes in hexadecimal, as lists of character codes.
use Rattle.std.specs.Prelude.{ℕ, zero, suc, ◌+◌, ◌/◌, ◌%◌, cond, ltb}
use Prim.Native.Char.{code}
use Prim.Native.String.{String}
use Prim.Native.String as text
use mathlib.Core.List.{List, [], ◌∷◌, ◌++◌, map, flatten}

-- the codes of the characters of fixed words
abbrev pub characters : String → List ℕ
characters text.[] = []
characters (text.◌∷◌ c cs) = code c ∷ characters cs

-- the character of a digit below 16: 0 to 9 from 30 on, A to F from 41 on, both in hexadecimal
abbrev pub digit_of : ℕ → ℕ
digit_of n = cond (ltb n 10) (48 + n) (55 + n)

-- the decimal digits of n, the last and at most so many before it: those of n / 10, where n has more than one, and then its last
abbrev pub decimal_within : ℕ → ℕ → List ℕ
decimal_within zero n = digit_of (n % 10) ∷ []
decimal_within (suc most) n = cond (ltb n 10) (digit_of n ∷ []) (decimal_within most (n / 10) ++ (digit_of (n % 10) ∷ []))

-- the decimal digits of n, with no zero in front: at most n before the last
unfoldable pub decimal : ℕ → List ℕ
decimal n = decimal_within n n

-- fixed words, and then a number in decimal
unfoldable pub labelled : List ℕ → ℕ → List ℕ
labelled label n = label ++ decimal n

-- a blank, and the two hexadecimal digits of a byte
abbrev pub byte_text : ℕ → List ℕ
byte_text b = 32 ∷ digit_of (b / 16) ∷ digit_of (b % 16) ∷ []

-- each byte so, one after another
unfoldable pub bytes_text : List ℕ → List ℕ
bytes_text bytes = flatten (map byte_text bytes)
