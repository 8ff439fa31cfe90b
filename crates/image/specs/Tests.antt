-- What reader and writer refuse (document 01, 'Refused calls' 20 to 23, with 1 to 5 and 7).
use Rattle.network.specs.declared.Cause.TheVariants as cause
use Rattle.std.specs.Prelude.{None, Option, Some}
use Rattle.std.specs.Prelude.{ℕ, ◌-◌, List, [], ◌∷◌, ◌++◌, Bool, cond, not, ◌||◌, length, get_or, eqb, ltb}
use Rattle.std.specs.Option.{option_or}
use Rattle.field.specs.Count.{lowest}
use Rattle.network.specs.Refusals.{Verdict}
use Rattle.network.specs.Refusals.{test, test_at, Section, count_tests, content_fits as fits, length_tests, end_tests, row_sections, domain_tests}
use Rattle.layout.specs.Bytes.{u16_at}
use Rattle.network.specs.Network.{Content}
use Rattle.layout.specs.Image.{head_size, sizes, image}
use Rattle.image.specs.Reading.{offset_at, length_at, start_of, shape_at, content_of}

-- ---- 20 to 22: any version with its number of sections

-- 20: shorter than the head, or another version or section count
unfoldable pub bad_head : ℕ → ℕ → List ℕ → Bool
bad_head version k l = ltb (length l) (head_size k) || (not (eqb (u16_at l 0) version) || not (eqb (u16_at l 2) k))

-- pair i's offset is not where the one before ended
unfoldable pub bad_offset : ℕ → List ℕ → ℕ → Bool
bad_offset k l i = not (eqb (offset_at l i) (start_of k l i))

-- 21: the first such pair, else the last pair where it does not end the image
unfoldable pub bad_pair : ℕ → List ℕ → Option ℕ
bad_pair k l = option_or (lowest (bad_offset k l) k) (cond (eqb (start_of k l k) (length l)) None (Some (k - 1)))

-- section i's length differs from what it must be
unfoldable pub bad_length : List ℕ → List ℕ → ℕ → Bool
bad_length sizes l i = not (eqb (length_at l i) (get_or sizes i 0))

-- version 1: 20 (under 36 bytes, version not 1 or section count not 4), 21, 22
unfoldable pub image_tests : List ℕ → List Verdict
image_tests l =
    test cause.Head (bad_head 1 4 l)
    ∷ test_at cause.Pairs (bad_pair 4 l)
    ∷ test_at cause.Section (lowest (bad_length (sizes (shape_at 36 l)) l) 4)
    ∷ []

-- ---- 1 to 5 and 7, of a content

-- every list has the length that the counts say
abbrev pub content_fits : Content → Bool
content_fits c = fits c.shape c.ends c.rays c.weights c.scales c.positions

-- 7 counts rows and points through
abbrev pub content_sections : Content → List Section
content_sections c = row_sections c.shape c.rays c.weights c.scales c.positions

-- 4, 5 and 7
unfoldable pub row_tests : Content → List Verdict
row_tests c = end_tests c.shape c.ends ++ domain_tests (content_sections c)

-- ---- 23: of so many bytes, fewer than are needed; the place is how many are needed

unfoldable pub shorter : ℕ → ℕ → Option ℕ
shorter room needed = cond (ltb room needed) (Some needed) None

unfoldable pub room_tests : ℕ → ℕ → List Verdict
room_tests room needed = test_at cause.Room (shorter room needed) ∷ []

-- ---- the calls: each is its stages, one after another

-- the counts: 20 to 22, then 1 and 2
unfoldable pub counts_tests : List ℕ → List Verdict
counts_tests l = image_tests l ++ count_tests (shape_at 36 l)

-- the reader: 20 to 22, then 1 to 5 and 7. `fit` says that the lists which are lent to it have the lengths that the counts say.
unfoldable pub read_tests : List ℕ → Bool → List Verdict
read_tests l fit = image_tests l ++ (count_tests (shape_at 36 l) ++ (length_tests fit ++ row_tests (content_of l)))

-- the writer, with so many bytes to write to: 1 to 5 and 7, then 23
unfoldable pub write_tests : Content → ℕ → List Verdict
write_tests c room =
    count_tests c.shape
    ++ (length_tests (content_fits c)
    ++ (end_tests c.shape c.ends
    ++ (domain_tests (content_sections c)
    ++ room_tests room (length (image c)))))
