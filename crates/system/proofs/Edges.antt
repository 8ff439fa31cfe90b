-- 'Weight 1e-12, scale 1: mean offset zero, yet assembled; right side z is -1e-12.' By computing; assumes nothing.
use mathlib.Core.Path.{◌≡◌, refl}
use Rattle.field.specs.Vec.{origin}
use Rattle.system.specs.System.{mean_offset, terms, term_at}
use Rattle.system.specs.Edges.{single, faint, minus_tiny}
use Rattle.system.proofs.Computing.{assembly}

pub faint-mean : mean_offset faint 0 ≡ origin
unfolding assembly single
faint-mean = refl

pub faint-right : (term_at (terms faint) 0).right.z ≡ minus_tiny
unfolding assembly single
faint-right = refl
