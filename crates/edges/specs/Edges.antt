-- Document 01's 'Values at the edges', and R-6's lists: one table, a field for each row, of facts about the definitions.
-- The claim that all of them hold is `edges` of proofs/Claim.
use Rattle.network.specs.declared.Cause.TheVariants.{Diagonal, Dimension, Factor, Pivot}
use Rattle.std.specs.Prelude.{Ok}
use Rattle.std.specs.Prelude.{◌≡◌, true, false, List, [], ◌∷◌, ℕ, pos, negsuc, Float}
use Rattle.std.specs.Float.{fin, binary64}
use Rattle.std.specs.Float.Ieee.{to_bits}
use Rattle.field.specs.Vec.{null, origin}
use Rattle.sqrt.specs.Root.{root}
use Rattle.network.specs.Lists.{lists_hold}
use Rattle.graph.specs.Outcome.{ConnectivityCall, ListingCall}
use Rattle.graph.specs.Edges.{two_parts}
use Rattle.system.specs.System.{tiny, one, two, mean_offset, terms, term_at}
use Rattle.system.specs.Edges.{single, faint, pair, triple, five, half, minus_tiny}
use Rattle.recover.specs.Edges.{ScaleEdges}
use Rattle.iterative.specs.Problem.{most_rounds}
use Rattle.placement.specs.Routes.{submission, placement, failing_at}
use Rattle.placement.specs.Solved.{answer_of, cameras_after, points_after}

-- Camera 0 sees point 0 with this weight and scale, on the solve program's route 3 with limit 48; there is one mark, the work buffer has T = 29
-- numbers, the outputs have 3 each. The solve is accepted: anchor 0, route 2, no round, one camera with a count under 2 (R-11); it leaves camera 0
-- at zero, and the point at (x, y, z).
pub record Solves (w s x y z : Float) : Type 0 where
  pub answer : answer_of (single w s) (placement (submission (single w s) 1 3 48 29 3 3)) ≡
      Ok (record { anchor = 0; route = 2; rounds = 0; few = 1 })
  pub camera : (old : List Float) → cameras_after (placement (submission (single w s) 1 3 48 29 3 3)) old ≡ null ∷ null ∷ null ∷ []
  pub point : (old : List Float) → points_after (single w s) (placement (submission (single w s) 1 3 48 29 3 3)) old ≡ x ∷ y ∷ z ∷ []

pub record Edges : Type 0 where
  -- ● The case above (n=1, m=1, B=1, E=0, ray (0,0,1), weight 1, scale 0.5, old point (5,5,5)): point (0,0,2).
  pub whole-case : Solves one half null null two
  -- ● With weight 0: point stays (5,5,5).
  pub weightless : Solves null half five five five
  -- ● Weight 1e-12, scale 1: mean offset zero, yet assembled; right side z is -1e-12, point (0,0,1).
  pub faint-mean : mean_offset faint 0 ≡ origin
  pub faint-right : (term_at (terms faint) 0).right.z ≡ minus_tiny
  pub faint-case : Solves tiny one null null one
  -- ● n=2, one direction, weight 1e300, scale 1e10: route 2 gives 9 at camera 1, route 1 with limit 1 gives 15 at row 0.
  pub diagonal-overflows : placement (submission pair 0 2 1 49 6 0) ≡ failing_at Diagonal 1
  pub pivot-overflows : placement (submission pair 0 1 1 53 6 0) ≡ failing_at Pivot 0
  -- ● n=3, cameras 1 and 2 see point 0 with weight 1e200, camera 0 sees point 1 with 1e201, scales 1, limit 2: route 1 gives 16 at row 1.
  pub entry-overflows : placement (submission triple 3 1 2 93 9 6) ≡ failing_at Factor 1
  -- ● Scales: target x = 2 gives 0.5; -2 gives 1e-5; 2^-20 keeps; 2^-19 gives 524288.
  pub scales : ScaleEdges
  -- ● n=3, direction 0-1 weight 1, 1-2 weight 0: not connected, labels 0 0 2. Whatever the three node numbers and the three labels were before:
  -- the calls refuse nothing, answer so, count two parts, and leave the node numbers zero. (They can answer nothing else: graph's proofs/Unique.)
  pub not-connected : (a b c : ℕ) → ConnectivityCall two_parts (Ok false) (a ∷ b ∷ c ∷ []) (0 ∷ 0 ∷ 0 ∷ [])
  pub labels : (a b c x y z : ℕ) → ListingCall two_parts (Ok 2) (a ∷ b ∷ c ∷ []) (0 ∷ 0 ∷ 0 ∷ []) (x ∷ y ∷ z ∷ []) (0 ∷ 0 ∷ 2 ∷ [])
  -- ● Root of 2^-1074 is 2^-537; of 2 has bits 3FF6A09E667F3BCD.
  pub root-of-least : root binary64 (fin false 1 (negsuc 1073)) ≡ fin false 1 (negsuc 536)
  pub root-of-two : to_bits binary64 (root binary64 (fin false 1 (pos 1))) ≡ 0x3FF6_A09E_667F_3BCD
  -- Most rounds: n=1 and 9 give 64, 10 gives 72, 501 and 502 give 4000.
  pub most-rounds : (most_rounds 1 ≡ 64) × (most_rounds 9 ≡ 64) × (most_rounds 10 ≡ 72) × (most_rounds 501 ≡ 4000) × (most_rounds 502 ≡ 4000)
  -- n=3, route 1: limit 1 gives 14 (at n - 1), limit 2 goes on (`entry-overflows`).
  pub over-limit : placement (submission triple 3 1 1 83 9 6) ≡ failing_at Dimension 2
  -- R-6: cameras 1 and 2 see point 0, camera 0 sees point 1 (rows 0, 1 and 2). 6 admits either order under point 0, and refuses a row that is
  -- repeated (so that another is missing) or under another point.
  pub lists-ascending : lists_hold 2 3 triple.ends (0 ∷ 2 ∷ 3 ∷ []) (0 ∷ 1 ∷ 2 ∷ []) ≡ true
  pub lists-descending : lists_hold 2 3 triple.ends (0 ∷ 2 ∷ 3 ∷ []) (1 ∷ 0 ∷ 2 ∷ []) ≡ true
  pub row-repeated : lists_hold 2 3 triple.ends (0 ∷ 2 ∷ 3 ∷ []) (1 ∷ 1 ∷ 2 ∷ []) ≡ false
  pub row-elsewhere : lists_hold 2 3 triple.ends (0 ∷ 2 ∷ 3 ∷ []) (2 ∷ 0 ∷ 1 ∷ []) ≡ false
