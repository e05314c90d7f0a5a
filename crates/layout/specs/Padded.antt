-- Fields one after the other and then zeros, in a sector of 512 bytes, and what it is to decode one.
--     padded                 fields, and zeros up to 512
--     four_bytes, number4    a number in four bytes, the highest first, and back
--     tag_is                 a sector begins with four letters
--     Decodes                a decoder's answer: what was encoded comes back, and only what was encoded is right
use Rattle.std.specs.Prelude.{◌≡◌, ℕ, ◌+◌, ◌-◌, ◌*◌, ◌/◌, ◌%◌, Bool, ◌&&◌, List, [], ◌∷◌, ◌++◌, length, replicate, Some, Option, ◌==◌, slice_index}

unfoldable pub padded : List ℕ → List ℕ
padded fields = fields ++ replicate (512 - length fields) 0

abbrev pub four_bytes : ℕ → List ℕ
four_bytes n = (n / 16777216 % 256) ∷ (n / 65536 % 256) ∷ (n / 256 % 256) ∷ (n % 256) ∷ []

abbrev pub number4 : ℕ → ℕ → ℕ → ℕ → ℕ
number4 a b c d = a * 16777216 + b * 65536 + c * 256 + d

abbrev pub tag_is : ℕ → ℕ → ℕ → ℕ → List ℕ → Bool
tag_is a b c d sector = slice_index sector 0 == a && (slice_index sector 1 == b && (slice_index sector 2 == c && slice_index sector 3 == d))

-- Fits says which values have a sector, and encode which one.
pub record Decodes {X : Type 0} (Fits : X → Type 0) (encode : X → List ℕ) (sector : List ℕ) (r : Option X) : Type 0 where
  pub round : (x : X) → Fits x → sector ≡ encode x → r ≡ Some x
  pub exact : (x : X) → r ≡ Some x → Fits x × (sector ≡ encode x)
