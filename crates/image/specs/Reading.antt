-- What stands in an image (document 01, 'Network image').
use Rattle.std.specs.Prelude.{ℕ, zero, suc, ◌+◌, ◌*◌, ◌/◌, ◌%◌, List, Float}
use Rattle.field.specs.Count.{field}
use Rattle.network.specs.Network.{Content, content, shape, rows}
use Rattle.network.specs.declared.Shape.{Shape}
use Rattle.layout.specs.Bytes.{u32_at, double_at}
use Rattle.layout.specs.Image.{head_size}

-- offset and length of pair i
abbrev pub offset_at : List ℕ → ℕ → ℕ
offset_at l i = u32_at l (4 + 8 * i)

abbrev pub length_at : List ℕ → ℕ → ℕ
length_at l i = u32_at l (8 + 8 * i)

-- of k sections, where section i must start: where the pairs or the section before ended (exact numbers: nothing wraps)
unfoldable pub start_of : ℕ → List ℕ → ℕ → ℕ
start_of k l zero = head_size k
start_of k l (suc i) = offset_at l i + length_at l i

-- the counts, from place p on
abbrev pub shape_at : ℕ → List ℕ → Shape
shape_at p l = shape (u32_at l p) (u32_at l (p + 4)) (u32_at l (p + 8)) (u32_at l (p + 12))

-- the place of number k of those that lie `group` to a row, each `width` bytes, in rows of `stride` bytes, the first at `start`
abbrev pub spread : ℕ → ℕ → ℕ → ℕ → ℕ → ℕ
spread start stride width group k = start + stride * (k / group) + width * (k % group)

-- n numbers that lie so
unfoldable pub wholes_from : ℕ → ℕ → ℕ → ℕ → List ℕ → List ℕ
wholes_from start stride group n l = field n (λ k. u32_at l (spread start stride 4 group k))

unfoldable pub doubles_from : ℕ → ℕ → ℕ → ℕ → List ℕ → List Float
doubles_from start stride group n l = field n (λ k. double_at l (spread start stride 8 group k))

-- ends, rays, weights and scales of r rows that start at p
abbrev pub ends_from : ℕ → ℕ → List ℕ → List ℕ
ends_from p r l = wholes_from p 48 2 (2 * r) l

abbrev pub rays_from : ℕ → ℕ → List ℕ → List Float
rays_from p r l = doubles_from (p + 8) 48 3 (3 * r) l

abbrev pub weights_from : ℕ → ℕ → List ℕ → List Float
weights_from p r l = doubles_from (p + 32) 48 1 r l

abbrev pub scales_from : ℕ → ℕ → List ℕ → List Float
scales_from p r l = doubles_from (p + 40) 48 1 r l

-- m points that start at p
abbrev pub points_from : ℕ → ℕ → List ℕ → List Float
points_from p m l = doubles_from p 24 3 (3 * m) l

-- the network of shape s whose rows start at p and whose points follow them
unfoldable pub content_from : ℕ → Shape → List ℕ → Content
content_from p s l =
    let r = rows s in
    content s (ends_from p r l) (rays_from p r l) (weights_from p r l) (scales_from p r l) (points_from (p + 48 * r) s.points l)

-- what an image of k sections holds: its counts are the first section, the rows follow them
abbrev pub content_in : ℕ → List ℕ → Content
content_in k l = content_from (head_size k + 16) (shape_at (head_size k) l) l

-- version 1
abbrev pub content_of : List ℕ → Content
content_of l = content_in 4 l
