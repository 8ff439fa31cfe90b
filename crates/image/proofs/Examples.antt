-- Document 01's whole case, by computation: its image, byte by byte, and the pairs (36,16) (52,48) (100,0) (100,24) in it. Assumes nothing.
use Prim.Native.Nat.{ℕ}
use mathlib.Core.Path.{◌≡◌, refl}
use mathlib.Core.List.{List, [], ◌∷◌}
use lib.ListN.{length}
use lib.Ieee.{binary64, of_bits, to_bits}
use Rattle.network.specs.Network.{Content, content, shape}
use Rattle.layout.specs.Bytes.{bytes_of, number_at, run}
use Rattle.layout.specs.Image.{count_bytes, row_bytes, pairs, joined, assembled, image}
use Rattle.image.specs.Reading.{offset_at, length_at}

-- 1 camera, 1 point, 1 bearing: camera 0, point 0, ray (0,0,1), weight 1, scale 0.5, old point (5,5,5)
abbrev pub whole : Content
whole =
    let zero = of_bits binary64 0 in
    let one = of_bits binary64 0x3ff0_0000_0000_0000 in
    let half = of_bits binary64 0x3fe0_0000_0000_0000 in
    let five = of_bits binary64 0x4014_0000_0000_0000 in
    content (shape 1 1 1 0) (0 ∷ 0 ∷ []) (zero ∷ zero ∷ one ∷ []) (one ∷ []) (half ∷ []) (five ∷ five ∷ five ∷ [])

-- version and section count, the pairs, the counts, the two ends, then a double to a line
unfoldable pub bytes : List ℕ
bytes =
    1 ∷ 0 ∷ 4 ∷ 0
    ∷ 36 ∷ 0 ∷ 0 ∷ 0 ∷ 16 ∷ 0 ∷ 0 ∷ 0
    ∷ 52 ∷ 0 ∷ 0 ∷ 0 ∷ 48 ∷ 0 ∷ 0 ∷ 0
    ∷ 100 ∷ 0 ∷ 0 ∷ 0 ∷ 0 ∷ 0 ∷ 0 ∷ 0
    ∷ 100 ∷ 0 ∷ 0 ∷ 0 ∷ 24 ∷ 0 ∷ 0 ∷ 0
    ∷ 1 ∷ 0 ∷ 0 ∷ 0 ∷ 1 ∷ 0 ∷ 0 ∷ 0 ∷ 1 ∷ 0 ∷ 0 ∷ 0 ∷ 0 ∷ 0 ∷ 0 ∷ 0
    ∷ 0 ∷ 0 ∷ 0 ∷ 0 ∷ 0 ∷ 0 ∷ 0 ∷ 0
    ∷ 0 ∷ 0 ∷ 0 ∷ 0 ∷ 0 ∷ 0 ∷ 0 ∷ 0
    ∷ 0 ∷ 0 ∷ 0 ∷ 0 ∷ 0 ∷ 0 ∷ 0 ∷ 0
    ∷ 0 ∷ 0 ∷ 0 ∷ 0 ∷ 0 ∷ 0 ∷ 240 ∷ 63
    ∷ 0 ∷ 0 ∷ 0 ∷ 0 ∷ 0 ∷ 0 ∷ 240 ∷ 63
    ∷ 0 ∷ 0 ∷ 0 ∷ 0 ∷ 0 ∷ 0 ∷ 224 ∷ 63
    ∷ 0 ∷ 0 ∷ 0 ∷ 0 ∷ 0 ∷ 0 ∷ 20 ∷ 64
    ∷ 0 ∷ 0 ∷ 0 ∷ 0 ∷ 0 ∷ 0 ∷ 20 ∷ 64
    ∷ 0 ∷ 0 ∷ 0 ∷ 0 ∷ 0 ∷ 0 ∷ 20 ∷ 64
    ∷ []

pub whole-size : length (image whole) ≡ 124
unfolding image assembled joined pairs run row_bytes count_bytes bytes_of
whole-size = refl

pub whole-pairs :
    (offset_at (image whole) 0 ≡ 36) × (length_at (image whole) 0 ≡ 16) × (offset_at (image whole) 1 ≡ 52) × (length_at (image whole) 1 ≡ 48)
    × (offset_at (image whole) 2 ≡ 100) × (length_at (image whole) 2 ≡ 0) × (offset_at (image whole) 3 ≡ 100) × (length_at (image whole) 3 ≡ 24)
unfolding image assembled joined pairs run row_bytes count_bytes bytes_of number_at
whole-pairs = (refl, refl, refl, refl, refl, refl, refl, refl)

pub whole-bytes : image whole ≡ bytes
unfolding image assembled joined pairs run row_bytes count_bytes bytes_of bytes of_bits to_bits
whole-bytes = refl
