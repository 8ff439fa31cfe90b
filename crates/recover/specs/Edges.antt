-- Document 01, 'Values at the edges': its row on scales.
use Rattle.std.specs.Prelude.{Ok}
use Rattle.std.specs.Prelude.{ℕ, [], ◌∷◌, false, ◌≡◌, Float}
use Rattle.std.specs.Float.{binary64}
use Rattle.std.specs.Float.Ieee.{of_bits}
use Rattle.field.specs.Vec.{null}
use Rattle.system.specs.System.{one, two}
use Rattle.system.specs.Edges.{directed, half}
use Rattle.recover.specs.declared.Scale.{Scale}
use Rattle.recover.specs.declared.Scale.TheVariants.{Kept, Renewed}
use Rattle.recover.specs.Recover.{least, scale_answer, scale_number}
use Rattle.recover.specs.Calls.{PlacedNetwork, placed, cameras_of, ScalesFilled}

-- the double with these bits
abbrev bits : ℕ → Float
bits b = of_bits binary64 b

-- 'Scales, cameras (0,0,0) and target, direction (1,0,0), weight 1': target (x,0,0), old scale 1. The trial cameras, all zero, are not marked.
abbrev pub baseline_case : Float → PlacedNetwork
baseline_case x = placed (directed one one) 0 (null ∷ null ∷ null ∷ x ∷ null ∷ null ∷ []) (null ∷ null ∷ null ∷ null ∷ null ∷ null ∷ []) false 1

-- the direction's answer is a, and a call that is lent no marks and one number is refused nothing and leaves that answer's number there
abbrev pub GivesScale : Float → Scale → Type 0
GivesScale x a =
    let i = baseline_case x in
    (scale_answer i.net (cameras_of i) 0 ≡ a) × ((y : Float) → ScalesFilled i (Ok tt) [] [] (y ∷ []) (scale_number one a ∷ []))

-- 'target x = 2 gives 0.5; -2 gives 1e-5; 2^-20 keeps; 2^-19 gives 524288'
pub record ScaleEdges : Type 0 where
  pub ahead : GivesScale two (Renewed half)
  pub behind : GivesScale (bits 0xc000000000000000) (Renewed least)
  pub near : GivesScale (bits 0x3eb0000000000000) Kept
  pub apart : GivesScale (bits 0x3ec0000000000000) (Renewed (bits 0x4120000000000000))
