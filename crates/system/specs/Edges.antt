-- Networks of document 01's 'Values at the edges', and numbers that they lead to.
use Rattle.std.specs.Prelude.{[], ◌∷◌, Float}
use Rattle.std.specs.Float.{binary64}
use Rattle.std.specs.Float.Ieee.{of_bits}
use Rattle.field.specs.Vec.{null}
use Rattle.network.specs.Network.{Network, network, shape}
use Rattle.system.specs.System.{tiny, one}

-- 5, and -1e-12
abbrev pub five : Float
five = of_bits binary64 0x4014000000000000

abbrev pub minus_tiny : Float
minus_tiny = of_bits binary64 0xbd719799812dea11

-- 0.5
abbrev pub half : Float
half = of_bits binary64 0x3fe0000000000000

-- 1e300 and 1e10; 1e200 and 1e201
abbrev pub huge : Float
huge = of_bits binary64 0x7e37e43c8800759c

abbrev pub large : Float
large = of_bits binary64 0x4202a05f20000000

abbrev pub heavy : Float
heavy = of_bits binary64 0x6974e718d7d7625a

abbrev pub heavier : Float
heavier = of_bits binary64 0x69aa20df0dcd3af1

-- n=1, m=1, B=1, E=0: camera 0 sees point 0 along (0,0,1), old point (5,5,5), with this weight and scale
unfoldable pub single : Float → Float → Network
single w s = network (shape 1 1 1 0) (0 ∷ 0 ∷ []) (null ∷ null ∷ one ∷ []) (w ∷ []) (s ∷ []) (five ∷ five ∷ five ∷ []) (0 ∷ 1 ∷ []) (0 ∷ [])

-- 'Weight 1e-12, scale 1'
abbrev pub faint : Network
faint = single tiny one

-- n=2, one direction (1,0,0) from camera 0 to camera 1, with this weight and scale
unfoldable pub directed : Float → Float → Network
directed w s = network (shape 2 0 0 1) (0 ∷ 1 ∷ []) (one ∷ null ∷ null ∷ []) (w ∷ []) (s ∷ []) [] (0 ∷ []) []

-- 'n=2, one direction, weight 1e300, scale 1e10'
abbrev pub pair : Network
pair = directed huge large

-- 'n=3, cameras 1 and 2 see point 0 with weight 1e200, camera 0 sees point 1 with 1e201, scales 1'
unfoldable pub triple : Network
triple =
    network (shape 3 2 3 0) (1 ∷ 0 ∷ 2 ∷ 0 ∷ 0 ∷ 1 ∷ [])
    (null ∷ null ∷ one ∷ null ∷ null ∷ one ∷ null ∷ null ∷ one ∷ [])
    (heavy ∷ heavy ∷ heavier ∷ [])
    (one ∷ one ∷ one ∷ [])
    (null ∷ null ∷ null ∷ null ∷ null ∷ null ∷ [])
    (0 ∷ 2 ∷ 3 ∷ [])
    (0 ∷ 1 ∷ 2 ∷ [])
