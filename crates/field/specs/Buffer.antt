-- How values that are each a fixed number of doubles lie one after another in a list of doubles: the lent buffers.
-- (Document 01, 'Size and domain': 'Work buffer needed', and the triples and numbers that the outputs are filled with.)
use Rattle.std.specs.Prelude.{ℕ, suc, ◌+◌, ◌*◌, ◌/◌, List, [], ◌∷◌, ◌++◌, length, get_or, set, take, drop, Float}
use Rattle.std.specs.Float.{nan}
use Rattle.field.specs.declared.Vec3.{Vec3}
use Rattle.field.specs.Count.{field}

-- the n elements of l from place p on
abbrev pub part {ℓ} : {A : Type ℓ} → List A → ℕ → ℕ → List A
part l p n = take n (drop p l)

-- l with the elements of xs from place p on
unfoldable pub write {ℓ} : {A : Type ℓ} → List A → ℕ → List A → List A
write l p [] = l
write l p (x ∷ xs) = set (write l (suc p) xs) p x

-- a value as a fixed number of doubles
pub record Cell (A : Type 0) : Type 1 where
  pub width : ℕ
  pub numbers : A → List Float
  pub value : List Float → A

-- the value whose numbers stand from place p on
unfoldable pub get : {A : Type 0} → Cell A → List Float → ℕ → A
get K l p = K.value (part l p K.width)

-- the list with the numbers of a from place p on
unfoldable pub put : {A : Type 0} → Cell A → List Float → ℕ → A → List Float
put K l p a = write l p (K.numbers a)

-- the numbers of a list of values, one after another
unfoldable pub flat : {A : Type 0} → Cell A → List A → List Float
flat K [] = []
flat K (a ∷ f) = K.numbers a ++ flat K f

-- the n values whose numbers stand from place p on
unfoldable pub load : {A : Type 0} → Cell A → List Float → ℕ → ℕ → List A
load K l p n = field n (λ i. get K l (p + K.width * i))

-- the list with the numbers of the values f from place p on
unfoldable pub store : {A : Type 0} → Cell A → List Float → ℕ → List A → List Float
store K l p f = write l p (flat K f)

-- a double
abbrev pub number : Cell Float
number = record { width = 1; numbers = λ a. a ∷ []; value = λ l. get_or l 0 nan }

-- a vector: x, y, z
abbrev pub vector : Cell Vec3
vector = record { width = 3; numbers = λ v. v.x ∷ v.y ∷ v.z ∷ []; value = λ l. record { x = get_or l 0 nan; y = get_or l 1 nan; z = get_or l 2 nan } }

-- the vectors whose numbers a list holds: three for each, and a rest of one or two numbers is none
unfoldable pub vectors_in : List Float → List Vec3
vectors_in l = load vector l 0 (length l / 3)
