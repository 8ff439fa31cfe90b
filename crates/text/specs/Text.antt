-- What the solve program prints, as lists of bytes. (Document 01, 'Network image (added) and the solve program'; document 02, R-2 and R-11.)
use Rattle.std.specs.Prelude.{None, Option, Some, List, [], ◌∷◌, ◌++◌, Bool, true, false, cond, ℕ, zero, suc, ◌+◌, ◌/◌, ◌%◌, ltb, Float}
use Prim.Native.String.{String, [] as none, ◌∷◌ as ◌then◌}
use Prim.Native.Char.{code}
use Rattle.std.specs.Float.{binary64}
use Rattle.std.specs.Float.Ieee.{to_bits}
use Rattle.field.specs.declared.Vec3.{Vec3}
use Rattle.network.specs.declared.Refusal.{Refusal}
use Rattle.network.specs.Refusals.{camera, number, place}

-- the characters of a text as bytes
unfoldable pub ascii : String → List ℕ
ascii none = []
ascii (c then s) = code c ∷ ascii s

-- a digit below 16 as a byte: 0 .. 9, then a .. f ('lower-case hex digits')
unfoldable pub digit : ℕ → ℕ
digit d = cond (ltb d 10) (48 + d) (87 + d)

-- the last k hex digits of x, the most significant first
unfoldable pub hex : ℕ → ℕ → List ℕ
hex zero x = []
hex (suc k) x = hex k (x / 16) ++ (digit (x % 16) ∷ [])

-- The decimal digits of x, with no zero in front. b says whether x is one digit; the fuel k is x or more.
unfoldable pub digits : ℕ → (b : Bool) → ℕ → List ℕ
digits zero b x = digit x ∷ []
digits (suc k) true x = digit x ∷ []
digits (suc k) false x = digits k (ltb (x / 10) 10) (x / 10) ++ (digit (x % 10) ∷ [])

-- 'Other numbers are decimal': the digits of x
unfoldable pub decimal : ℕ → List ℕ
decimal x = digits x (ltb x 10) x

-- 'the bits of x, y, z as 16 lower-case hex digits'. 'A NaN prints as 7ff8000000000000': those are the bits that `to_bits` has for every NaN.
unfoldable pub bits : Float → List ℕ
bits x = hex 16 (to_bits binary64 x)

-- a label and a number
unfoldable pub named : List ℕ → ℕ → List ℕ
named label x = label ++ decimal x

-- 'lines end with a newline'
abbrev pub newline : List ℕ
newline = 10 ∷ []

-- a space and a double's bits
unfoldable pub spaced : Float → List ℕ
spaced x = 32 ∷ bits x

-- 'the bits of x, y, z', each after a space
unfoldable pub coordinates : Vec3 → List ℕ
coordinates v = spaced v.x ++ spaced v.y ++ spaced v.z

-- 'each camera, then each point, with its number and the bits of x, y, z': the byte c or p, the number, the bits
unfoldable pub vector_line : ℕ → ℕ → Vec3 → List ℕ
vector_line tag i v = named (tag ∷ 32 ∷ []) i ++ coordinates v ++ newline

-- the lines of the vectors f, numbered from i on
unfoldable pub numbered : ℕ → ℕ → List Vec3 → List ℕ
numbered tag i [] = []
numbered tag i (v ∷ f) = vector_line tag i v ++ numbered tag (suc i) f

-- one line for each vector, in order
unfoldable pub vector_lines : ℕ → List Vec3 → List ℕ
vector_lines tag f = numbered tag 0 f

-- 'counts': the line `cameras 1 points 1 bearings 1 directions 0`
unfoldable pub counts_line : (n m b e : ℕ) → List ℕ
counts_line n m b e =
    named (ascii "cameras ") n ++ named (ascii " points ") m ++ named (ascii " bearings ") b ++ named (ascii " directions ") e ++ newline

-- 'number of parts': the line `parts 1`
unfoldable pub parts_line : ℕ → List ℕ
parts_line parts = named (ascii "parts ") parts ++ newline

-- 'the report': the line `anchor 0 route 2 rounds 0`
unfoldable pub report_line : (anchor route rounds : ℕ) → List ℕ
report_line anchor route rounds = named (ascii "anchor ") anchor ++ named (ascii " route ") route ++ named (ascii " rounds ") rounds ++ newline

-- 'prints `few K` after the report line' (document 02, R-11): the line `few 1`
unfoldable pub few_line : ℕ → List ℕ
few_line few = named (ascii "few ") few ++ newline

-- what a solve that is not refused prints: 'counts; number of parts; the report', `few K`, 'each camera, then each point'
unfoldable pub placed_text : (n m b e parts anchor route rounds few : ℕ) → (cameras points : List Vec3) → List ℕ
placed_text n m b e parts anchor route rounds few cameras points =
    counts_line n m b e ++ parts_line parts ++ report_line anchor route rounds ++ few_line few ++
    vector_lines (code "c") cameras ++ vector_lines (code "p") points

-- the end of the line of 11 to 13: 'ends in ` camera C`' (document 02, R-2)
unfoldable pub camera_text : Option ℕ → List ℕ
camera_text (Some c) = named (ascii " camera ") c
camera_text None = []

-- 'A refusal prints only `refused N place P`.'
unfoldable pub refused_text : Refusal → List ℕ
refused_text r = named (ascii "refused ") (number r) ++ named (ascii " place ") (place r) ++ camera_text (camera r) ++ newline
