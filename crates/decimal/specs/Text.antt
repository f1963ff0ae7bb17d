-- Numbers as text, and where they stand in a buffer.
-- Assumes nothing.
use Rattle.std.specs.Prelude.{ℕ, zero, suc, ◌+◌, ◌*◌, ◌/◌, ◌%◌, cond, List, [], ◌∷◌, ◌++◌, ltb, leb, ℤ, pos, negsuc, length}
use Rattle.std.proofs.lemmas.List.Edits.{sets}

-- the decimal digits of a number, at most so many of them; 48 is the digit 0
unfoldable pub decimal : ℕ → ℕ → List ℕ
decimal zero value = []
decimal (suc most) value = cond (ltb value 10) ((48 + value) ∷ []) (decimal most (value / 10) ++ ((48 + value % 10) ∷ []))

-- a signed number of 64 bits has at most 19 digits; a minus (45) stands before a number below 0
unfoldable pub text : ℤ → List ℕ
text (pos value) = decimal 19 value
text (negsuc value) = 45 ∷ decimal 19 (value + 1)

-- what stands behind a number of a line: a space (32), or the newline (10) behind the last
abbrev pub behind : List ℤ → ℕ
behind [] = 10
behind (x ∷ xs) = 32

-- a line of numbers
unfoldable pub line_of : List ℤ → List ℕ
line_of [] = []
line_of (x ∷ xs) = text x ++ (behind xs ∷ line_of xs)

-- what writing leaves: the buffer, and the place where the text ends
pub record Put : Type 0 where
  pub bytes : List ℕ
  pub end : ℕ

abbrev pub put : List ℕ → ℕ → Put
put out end = record { bytes = out; end = end }

-- a text that stands at a place of a buffer
abbrev pub put_text : List ℕ → ℕ → List ℕ → Put
put_text out at text = put (sets out at text) (at + length text)

-- a line stands at a place of a buffer that has room for 21 bytes a number there; any other buffer is left
unfoldable pub put_of : List ℕ → ℕ → List ℤ → Put
put_of out at xs = cond (leb (at + 21 * length xs) (length out)) (put_text out at (line_of xs)) (put out at)
