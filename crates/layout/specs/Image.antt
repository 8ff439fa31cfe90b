-- The bytes of an image (document 01, 'Network image').
use Rattle.std.specs.Prelude.{ℕ, ◌+◌, ◌*◌, List, [], ◌∷◌, ◌++◌, map, length, Float}
use Rattle.network.specs.declared.Shape.{Shape}
use Rattle.network.specs.Network.{Content}
use Rattle.layout.specs.Bytes.{bytes_of, run, wholes, doubles}

-- ---- any version, any sections

-- version, section count and k pairs
abbrev pub head_size : ℕ → ℕ
head_size k = 4 + 8 * k

-- the pairs (offset, length) of sections of these lengths, the first of which starts at p, each next where the one before ended
unfoldable pub pairs : ℕ → List ℕ → List ℕ
pairs p [] = []
pairs p (n ∷ ns) = (bytes_of 4 p ++ bytes_of 4 n) ++ pairs (p + n) ns

-- version, section count and pairs of sections of these lengths
abbrev pub head : ℕ → List ℕ → List ℕ
head version ns = bytes_of 2 version ++ (bytes_of 2 (length ns) ++ pairs (head_size (length ns)) ns)

-- the sections, one after another
unfoldable pub joined : List (List ℕ) → List ℕ
joined [] = []
joined (l ∷ ls) = l ++ joined ls

-- version, section count, pairs, sections
unfoldable pub assembled : ℕ → List (List ℕ) → List ℕ
assembled version ls = head version (map length ls) ++ joined ls

-- ---- version 1

-- counts: n, m, B, E
unfoldable pub count_bytes : Shape → List ℕ
count_bytes s =
    bytes_of 4 s.cameras ++ (bytes_of 4 s.points ++ (bytes_of 4 s.bearings ++ bytes_of 4 s.directions))

-- row r: camera and point, or source and target; then ray, weight, scale
unfoldable pub row_bytes : List ℕ → List Float → List Float → List Float → ℕ → List ℕ
row_bytes ends rays weights scales r =
    wholes ends (2 * r) 2 ++ (doubles rays (3 * r) 3 ++ (doubles weights r 1 ++ doubles scales r 1))

abbrev pub row_of : Content → ℕ → List ℕ
row_of c r = row_bytes c.ends c.rays c.weights c.scales r

-- counts, bearings, directions, points
abbrev pub sections : Content → List (List ℕ)
sections c =
    count_bytes c.shape
    ∷ run c.shape.bearings (row_of c)
    ∷ run c.shape.directions (λ i. row_of c (c.shape.bearings + i))
    ∷ doubles c.positions 0 (3 * c.shape.points)
    ∷ []

-- how long each section is
abbrev pub sizes : Shape → List ℕ
sizes s = 16 ∷ 48 * s.bearings ∷ 48 * s.directions ∷ 24 * s.points ∷ []

unfoldable pub image : Content → List ℕ
image c = assembled 1 (sections c)
