-- What the tests of dots and scales have shown, and what the points' functions read of the work buffer.
use Rattle.std.specs.Prelude.{ℕ, ◌*◌, ◌≡◌, List, length, Float}
use Rattle.std.specs.Prelude.{Ok, Result}
use Rattle.std.specs.Result.{result_and}
use Rattle.network.specs.declared.Refusal.{Refusal}
use Rattle.field.specs.declared.Vec3.{Vec3}
use Rattle.network.specs.Network.{Network}
use Rattle.network.specs.inner.Sound.{NetworkSound}
use Rattle.system.specs.System.{RowNumbers, pull_in}
use Rattle.system.specs.inner.Formed.{positions_in, weights_in}
use Rattle.recover.specs.Recover.{sighting}
use Rattle.recover.specs.Calls.{PlacedNetwork, placed_verdict, chosen}

-- a network and its placed cameras
pub record Sites : Type 0 where
  pub net : Network
  pub cameras : List Float

abbrev pub sites : Network → List Float → Sites
sites net cs = record { net = net; cameras = cs }

-- nothing was refused: the network is sound, and n cameras are placed
pub record SitesSound (i : Sites) : Type 0 where
  pub sound : NetworkSound i.net
  pub cameras : length i.cameras ≡ 3 * i.net.shape.cameras

-- what a call of dots or scales goes on with: the network and its marked cameras, unless it is refused
unfoldable pub entered : PlacedNetwork → Result Sites Refusal
entered i = result_and (placed_verdict i) (Ok (sites i.net (chosen i)))

-- a row's sighting, by the cameras and the effective weights that the work buffer l holds
abbrev pub sighting_in : RowNumbers → List Float → ℕ → Vec3
sighting_in R l =
    let s = R.links.shape in
    sighting (weights_in s l).row (pull_in R.rays R.weights R.scales) R.links.ends (positions_in s l)
