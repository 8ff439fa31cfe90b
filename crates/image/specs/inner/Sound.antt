-- What the reader's tests have shown where they refuse nothing, and what the functions that store leave.
use Rattle.std.specs.Prelude.{None, Ok, Option, Some, cond}
use Rattle.std.specs.Prelude.{ℕ, ◌+◌, ◌*◌, ◌≤◌, ◌<◌, ◌≡◌, Bool, true, false, List, length, get_or, Float}
use Rattle.std.specs.Float.Ieee.Scale.{finite}
use Rattle.network.specs.declared.Shape.{Shape}
use Rattle.network.specs.Network.{Content, rows}
use Rattle.network.specs.Refusals.{verdict, count_tests, bad_row, end_tests, domain_tests}
use Rattle.network.specs.inner.Sound.{ShapeSound, ContentLengths}
use Rattle.layout.specs.Bytes.{double_at}
use Rattle.layout.specs.Image.{sizes, image}
use Rattle.image.specs.Reading.{length_at, shape_at, spread, ends_from, rays_from, weights_from, scales_from, points_from}
use Rattle.image.specs.Tests.{bad_head, bad_pair, content_fits, content_sections}
use Rattle.image.specs.Calls.{Lists}

-- 7, on bytes: of r rows from p on, row i is outside the domain
abbrev pub bad_row_from : ℕ → ℕ → List ℕ → ℕ → Bool
bad_row_from p r l = bad_row (weights_from p r l) (scales_from p r l) (rays_from p r l)

-- the double at p, where it is finite
abbrev pub finite_at : List ℕ → ℕ → Option Float
finite_at l p = cond (finite (double_at l p)) (Some (double_at l p)) None

-- 20 to 22
pub record ImageSound (l : List ℕ) : Type 0 where
  pub head : bad_head 1 4 l ≡ false
  pub pairs : bad_pair 4 l ≡ None
  pub lengths : (i : ℕ) → i < 4 → length_at l i ≡ get_or (sizes (shape_at 36 l)) i 0
  pub size : length l ≡ 52 + 48 * rows (shape_at 36 l) + 24 * (shape_at 36 l).points

-- what the tests read of an image: its bytes, where its rows start, and its counts
pub record ImageRows : Type 0 where
  pub bytes : List ℕ
  pub at : ℕ
  pub shape : Shape

abbrev pub image_rows : List ℕ → ℕ → Shape → ImageRows
image_rows bytes at shape = record { bytes = bytes; at = at; shape = shape }

-- n doubles, `group` of them to a row of `stride` bytes, are there and finite
pub record Readable (start stride group n : ℕ) (l : List ℕ) : Type 0 where
  pub there : (k : ℕ) → k < n → spread start stride 8 group k + 8 ≤ length l
  pub number : (k : ℕ) → k < n → finite (double_at l (spread start stride 8 group k)) ≡ true

-- 7: the rows from p on and the points behind them
pub record ContentReadable (p : ℕ) (s : Shape) (l : List ℕ) : Type 0 where
  pub there : p + 48 * rows s + 24 * s.points ≤ length l
  pub rays : Readable (p + 8) 48 3 (3 * rows s) l
  pub weights : Readable (p + 32) 48 1 (rows s) l
  pub scales : Readable (p + 40) 48 1 (rows s) l
  pub positions : Readable (p + 48 * rows s) 24 3 (3 * s.points) l

-- the five lists that the reader fills
pub record ContentFilled (p : ℕ) (s : Shape) (l : List ℕ) (es : List ℕ) (rs ws ss ps : List Float) : Type 0 where
  pub ends : es ≡ ends_from p (rows s) l
  pub rays : rs ≡ rays_from p (rows s) l
  pub weights : ws ≡ weights_from p (rows s) l
  pub scales : ss ≡ scales_from p (rows s) l
  pub positions : ps ≡ points_from (p + 48 * rows s) s.points l

-- all of the reader's tests
pub record ReadSound (l : List ℕ) (lent : Lists) : Type 0 where
  pub image : ImageSound l
  pub shape : ShapeSound (shape_at 36 l)
  pub lengths : ContentLengths (shape_at 36 l) lent.ends lent.rays lent.weights lent.scales lent.positions
  pub readable : ContentReadable 52 (shape_at 36 l) l

-- all of the writer's, with n bytes to write to
pub record WriteSound (c : Content) (n : ℕ) : Type 0 where
  pub counts : verdict (count_tests c.shape) ≡ Ok tt
  pub shape : ShapeSound c.shape
  pub fit : content_fits c ≡ true
  pub ends : verdict (end_tests c.shape c.ends) ≡ Ok tt
  pub domain : verdict (domain_tests (content_sections c)) ≡ Ok tt
  pub room : length (image c) ≤ n
