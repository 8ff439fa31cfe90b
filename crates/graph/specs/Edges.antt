-- A graph of document 01's 'Values at the edges'.
use Rattle.std.specs.Prelude.{[], ◌∷◌, Float}
use Rattle.std.specs.Float.{binary64}
use Rattle.std.specs.Float.Ieee.{of_bits}
use Rattle.field.specs.Vec.{null}
use Rattle.network.specs.Network.{Graph, shape, graph}

-- the weight 1
abbrev one : Float
one = of_bits binary64 0x3FF0_0000_0000_0000

-- 'n=3, direction 0-1 weight 1, 1-2 weight 0'
abbrev pub two_parts : Graph
two_parts = graph (shape 3 0 0 2) (0 ∷ 1 ∷ 1 ∷ 2 ∷ []) (one ∷ null ∷ [])
