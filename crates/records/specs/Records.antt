-- The text of recorded cases, a list of bytes, and what it reads as. (oracle/replay.rs describes the format: lines of a word and numbers, each number
-- after one space. A double is the 16 lower-case hex digits of its bits; every other number is decimal.) Where a text is not what it must be, its place is
-- lost: None, and stays so.
use Rattle.std.specs.Prelude.{◌≡◌, List, [], ◌∷◌, map, Bool, true, false, cond, ◌&&◌, ℕ, zero, suc, ◌+◌, ◌-◌, ◌*◌, leb, ltb, eqb, length, get_or, drop, Float, Option, Some, None}
use Rattle.std.specs.Option.{option_and_then, option_map_or}
use Rattle.std.specs.List.{slice_get}
use Rattle.std.specs.Float.{binary64}
use Rattle.std.specs.Float.Ieee.{of_bits, to_bits}
use Rattle.field.specs.Count.{field}
use Rattle.records.specs.declared.text.Text.{Text}

-- a number, and the place after it
pub record Number : Type 0 where
  pub value : ℕ
  pub next : Option ℕ

-- the place after a list, and whether its numbers are those that they were compared with
pub record Found : Type 0 where
  pub next : Option ℕ
  pub same : Bool

-- the text, with another place that is read next
abbrev pub moved : (t : Text) (p : Option ℕ) → Text
moved t p = record { input = t.input; at = p }

-- what a call on a text promises that reads this number, or compares this list
pub record Took (before after : Text) (k : Number) (x : ℕ) : Type 0 where
  pub value : x ≡ k.value
  pub next : after ≡ moved before k.next

pub record Met (before after : Text) (f : Found) (same : Bool) : Type 0 where
  pub value : same ≡ f.same
  pub next : after ≡ moved before f.next

-- the place after one byte, which must be the wanted one
unfoldable pub stepped : (input : List ℕ) (at : Option ℕ) (wanted : ℕ) → Option ℕ
stepped input None wanted = None
stepped input (Some p) wanted = cond (ltb p (length input) && eqb (get_or input p 0) wanted) (Some (p + 1)) None

-- the place after a word, byte by byte
unfoldable pub worded : (input : List ℕ) (at : Option ℕ) (word : List ℕ) → Option ℕ
worded input at [] = at
worded input at (b ∷ word) = worded input (stepped input at b) word

-- the value of a lower-case hex digit: of the bytes 0 .. 9, and of a .. f
unfoldable pub digit_of : ℕ → Option ℕ
digit_of b = cond (leb 48 b && leb b 57) (Some (b - 48)) (cond (leb 97 b && leb b 102) (Some (10 + (b - 97))) None)

-- a digit of a base: below it
abbrev pub below_base : (base d : ℕ) → Option ℕ
below_base base d = cond (ltb d base) (Some d) None

-- the value of the digit of a base at a place
unfoldable pub digit_at : (base : ℕ) (text : List ℕ) (i : ℕ) → Option ℕ
digit_at base text i = option_and_then (below_base base) (option_and_then digit_of (slice_get text i))

-- the digits of a base at the front of a text, k of them at most
unfoldable pub digits : (base k : ℕ) (text : List ℕ) → List ℕ
digits base zero text = []
digits base (suc k) text = option_map_or (λ d. d ∷ digits base k (drop 1 text)) (digit_at base text 0) []

-- the number that the value v and the digits after it make, the most significant first
unfoldable pub valued : (base v : ℕ) (ds : List ℕ) → ℕ
valued base v [] = v
valued base v (d ∷ ds) = valued base (base * v + d) ds

-- these digits from a place on, as a number and the place after it; there must be `least` of them
abbrev pub numbered : (base least start : ℕ) (ds : List ℕ) → Number
numbered base least start ds = record { value = valued base 0 ds; next = cond (ltb (length ds) least) None (Some (start + length ds)) }

-- a space, then a number of `least` to `most` digits; 0 where no space stands
unfoldable pub number_at : (base least most : ℕ) (input : List ℕ) (at : Option ℕ) → Number
number_at base least most input at =
    option_map_or (λ p. numbered base least p (digits base most (drop p input))) (stepped input at 32) (record { value = 0; next = None })

-- a space and a decimal number, of 19 digits at most
abbrev pub decimal_at : (input : List ℕ) (at : Option ℕ) → Number
decimal_at = number_at 10 1 19

-- a space and 16 hex digits
abbrev pub hex_at : (input : List ℕ) (at : Option ℕ) → Number
hex_at = number_at 16 16 16

-- the place after n numbers in a row, each read where the one before it ends
unfoldable pub past : (read : Option ℕ → Number) (at : Option ℕ) (n : ℕ) → Option ℕ
past read at zero = at
past read at (suc n) = (read (past read at n)).next

-- the values of these numbers
unfoldable pub values : (read : Option ℕ → Number) (at : Option ℕ) (n : ℕ) → List ℕ
values read at n = field n (λ i. (read (past read at i)).value)

-- the place after n numbers and a newline
abbrev pub line_end : (input : List ℕ) (read : Option ℕ → Number) (at : Option ℕ) (n : ℕ) → Option ℕ
line_end input read at n = stepped input (past read at n) 10

-- What reading a line promises. It is a word and as many numbers as the list has; the list holds those afterwards, and the text goes on after the line.
pub record LineRead {A : Type 0} (t u : Text) (read : Option ℕ → Number) (start : Option ℕ) (numbers : ℕ → List A) (before after : List A) : Type 0 where
  pub stored : after ≡ numbers (length before)
  pub next : u ≡ moved t (line_end t.input.now read start (length before))

-- a line of decimal numbers
abbrev pub WholesRead : (t u : Text) (word before after : List ℕ) → Type 0
WholesRead t u word before after =
    LineRead t u (decimal_at t.input.now) (worded t.input.now t.at word) (values (decimal_at t.input.now) (worded t.input.now t.at word)) before after

-- a line of doubles
abbrev pub RealsRead : (t u : Text) (word : List ℕ) (before after : List Float) → Type 0
RealsRead t u word before after =
    LineRead t u (hex_at t.input.now) (worded t.input.now t.at word) (λ n. map (of_bits binary64) (values (hex_at t.input.now) (worded t.input.now t.at word) n)) before after

-- whether two lists hold the same numbers
unfoldable pub alike : (xs ys : List ℕ) → Bool
alike [] [] = true
alike [] (y ∷ ys) = false
alike (x ∷ xs) [] = false
alike (x ∷ xs) (y ∷ ys) = eqb x y && alike xs ys

-- as many numbers as a list has, to the line's end: the place after them, and whether they are those of the list
abbrev pub compared : (input : List ℕ) (read : Option ℕ → Number) (at : Option ℕ) (numbers : List ℕ) → Found
compared input read at numbers =
    record { next = line_end input read at (length numbers); same = alike (values read at (length numbers)) numbers }

-- the rest of a line of decimal numbers, compared with some
abbrev pub wholes_compared : (input : List ℕ) (at : Option ℕ) (numbers : List ℕ) → Found
wholes_compared input at numbers = compared input (decimal_at input) at numbers

-- a line of doubles, compared bit for bit with some
abbrev pub reals_compared : (input : List ℕ) (at : Option ℕ) (word : List ℕ) (numbers : List Float) → Found
reals_compared input at word numbers = compared input (hex_at input) (worded input at word) (map (to_bits binary64) numbers)
