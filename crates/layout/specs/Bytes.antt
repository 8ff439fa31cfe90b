-- Numbers and doubles as bytes (document 01, 'Network image': 'Little-endian').
use Rattle.std.specs.Prelude.{ℕ, zero, suc, ◌+◌, ◌*◌, ◌/◌, ◌%◌, ◌<◌, List, [], ◌∷◌, ◌++◌, get_or, T, Float}
use Rattle.std.specs.Float.{nan, binary64}
use Rattle.std.specs.Float.Ieee.{of_bits, to_bits, fits}

-- the k lowest bytes of a number, the lowest first
unfoldable pub bytes_of : ℕ → ℕ → List ℕ
bytes_of zero x = []
bytes_of (suc k) x = x % 256 ∷ bytes_of k (x / 256)

-- the number whose k bytes stand from place p on, the lowest first
unfoldable pub number_at : ℕ → List ℕ → ℕ → ℕ
number_at zero l p = 0
number_at (suc k) l p = get_or l p 0 + 256 * number_at k l (suc p)

-- the u16, or the u32, at place p
abbrev pub u16_at : List ℕ → ℕ → ℕ
u16_at l p = number_at 2 l p

abbrev pub u32_at : List ℕ → ℕ → ℕ
u32_at l p = number_at 4 l p

-- a double is its 64 bits (IEEE 754, 3.4)
abbrev pub double_bytes : Float → List ℕ
double_bytes x = bytes_of 8 (to_bits binary64 x)

abbrev pub double_at : List ℕ → ℕ → Float
double_at l p = of_bits binary64 (number_at 8 l p)

-- every element is a byte, as in every slice of u8
abbrev pub AreBytes : List ℕ → Type 0
AreBytes l = (k : ℕ) → get_or l k 0 < 256

-- every element is a double, as in every slice of f64
abbrev pub AreDoubles : List Float → Type 0
AreDoubles l = (k : ℕ) → T (fits binary64 (get_or l k nan))

-- g 0, g 1, .. g (n - 1), one after another
unfoldable pub run : ℕ → (ℕ → List ℕ) → List ℕ
run zero g = []
run (suc n) g = run n g ++ g n

-- k numbers of a list, from number a on, four bytes each
abbrev pub wholes : List ℕ → ℕ → ℕ → List ℕ
wholes l a k = run k (λ i. bytes_of 4 (get_or l (a + i) 0))

-- k doubles of a list, from number a on
abbrev pub doubles : List Float → ℕ → ℕ → List ℕ
doubles l a k = run k (λ i. double_bytes (get_or l (a + i) nan))

-- the sum of a list
unfoldable pub total : List ℕ → ℕ
total [] = 0
total (x ∷ xs) = x + total xs
