-- What the definitions of the text compute to. Assumes nothing.
use Rattle.std.proofs.Common.{Some, None}
use mathlib.Core.Path.{◌≡◌, refl}
use mathlib.Core.List.{List, [], ◌∷◌}
use Prim.Native.Nat.{ℕ}
use Prim.Native.String.{String, [] as none, ◌∷◌ as ◌then◌}
use Prim.Native.Char.{code}
use Rattle.field.specs.Count.{field}
use Rattle.records.specs.Records.{stepped, worded, digit_of, digit_at, digits, valued, number_at, decimal_at, hex_at, past, values, line_end}

-- the characters of a text as bytes
abbrev pub ascii : String → List ℕ
ascii none = []
ascii (c then s) = code c ∷ ascii s

-- a line of decimal numbers: the place after its word, its numbers, and its end
pub word_read : worded (ascii "case 0\ncounts 9 40 123 0\n") (Some 7) (ascii "counts") ≡ Some 13
unfolding stepped worded
word_read = refl

pub wholes-are : values (decimal_at (ascii "counts 9 40 123 0\n")) (Some 6) 4 ≡ 9 ∷ 40 ∷ 123 ∷ 0 ∷ []
unfolding stepped digit_of digit_at digits valued number_at past values field
wholes-are = refl

pub line-ends : line_end (ascii "counts 9 40 123 0\n") (decimal_at (ascii "counts 9 40 123 0\n")) (Some 6) 4 ≡ Some 18
unfolding stepped digit_of digit_at digits valued number_at past
line-ends = refl

-- each hex digit
pub hex-read : hex_at (ascii " fedcba9876543210\n") (Some 0) ≡ record { value = 0xfedcba9876543210; next = Some 17 }
unfolding stepped digit_of digit_at digits valued number_at
hex-read = refl

-- 15 hex digits, a capital, and no digit at all
pub hex-short : (hex_at (ascii " 3ff000000000000\n") (Some 0)).next ≡ None
unfolding stepped digit_of digit_at digits valued number_at
hex-short = refl

pub hex-capital : (hex_at (ascii " 3FF0000000000000\n") (Some 0)).next ≡ None
unfolding stepped digit_of digit_at digits valued number_at
hex-capital = refl

pub decimal-none : decimal_at (ascii " \n") (Some 0) ≡ record { value = 0; next = None }
unfolding stepped digit_of digit_at digits valued number_at
decimal-none = refl

-- 20 decimal digits are no number that a line may hold: neither a space nor a newline stands after the nineteenth
pub decimal-long : line_end (ascii " 12345678901234567890\n") (decimal_at (ascii " 12345678901234567890\n")) (Some 0) 1 ≡ None
unfolding stepped digit_of digit_at digits valued number_at past
decimal-long = refl

-- a line with a letter in its third number: of what is read after the loss each number is 0
pub wholes-letter : values (decimal_at (ascii "counts 9 40 x 7\n")) (Some 6) 4 ≡ 9 ∷ 40 ∷ 0 ∷ 0 ∷ []
unfolding stepped digit_of digit_at digits valued number_at past values field
wholes-letter = refl

-- a number of too few digits has the value of those
pub hex-few : hex_at (ascii " 3ff\n") (Some 0) ≡ record { value = 0x3ff; next = None }
unfolding stepped digit_of digit_at digits valued number_at
hex-few = refl

-- where a text is lost it stays so: after a byte, and after a number, which is 0
pub lost-byte : (l : List ℕ) (b : ℕ) → stepped l None b ≡ None
unfolding stepped
lost-byte l b = refl

pub lost-number : (base least most : ℕ) (l : List ℕ) → number_at base least most l None ≡ record { value = 0; next = None }
unfolding stepped number_at
lost-number base least most l = refl
