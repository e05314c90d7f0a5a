-- The names of files as text and as stored bytes, and the keys made of names and versions.
--     letter                a character of a name: A to Z, 0 to 9 or the hyphen
--     letters               letters only
--     zeros                 zeros only
--     letters_then_zeros    letters, and then zeros only
--     GoodName              the text of a name: 1 to 20 letters
--     filled                a text filled up with zeros to 20 bytes
--     is_name               the 20 stored bytes of a name: a letter, then letters, and then zeros only
--     HasText               the bytes are some good text, filled up
--     text_of               the text in the stored bytes of a name: those before the first zero
--     two_bytes             a number in two bytes, the higher first
--     version_of            the number in the last two bytes of a key
--     is_key                the 22 bytes of a key: a name, and a version from 1 to 9,999
--     is_byte_key           a key whose last byte is below 256, as that of every stored key is
--     key_text              a key as it is printed: the text of its name, a full stop, and its version
use Rattle.std.specs.Prelude.{◌≡◌, ℕ, ◌+◌, ◌-◌, ◌*◌, ◌/◌, ◌%◌, ◌≤◌, Bool, true, not, ◌&&◌, ◌||◌, List, [], ◌∷◌, ◌++◌, length, take, drop, replicate, codes, decimal, ◌==◌, nat_le, nat_lt, slice_index}
use Rattle.std.specs.List.{list_all, prefix_len, take_while}
use Rattle.names.specs.Versions.{highest}

abbrev pub letter : ℕ → Bool
letter b = (nat_le 65 b && nat_le b 90) || (nat_le 48 b && nat_le b 57) || b == 45

abbrev pub letters : List ℕ → Bool
letters text = list_all letter text

abbrev pub zeros : List ℕ → Bool
zeros bytes = list_all (λ b. b == 0) bytes

unfoldable pub letters_then_zeros : List ℕ → Bool
letters_then_zeros bytes = zeros (drop (prefix_len letter bytes) bytes)

abbrev pub GoodName : List ℕ → Type 0
GoodName text = (1 ≤ length text) × (length text ≤ 20) × (letters text ≡ true)

abbrev pub filled : List ℕ → List ℕ
filled text = text ++ replicate (20 - length text) 0

abbrev pub is_name : List ℕ → Bool
is_name bytes = length bytes == 20 && letter (slice_index bytes 0) && letters_then_zeros bytes

abbrev pub HasText : List ℕ → Type 0
HasText bytes = (text : List ℕ) × GoodName text × (bytes ≡ filled text)

abbrev pub text_of : List ℕ → List ℕ
text_of bytes = take_while (λ b. not (b == 0)) bytes

abbrev pub two_bytes : ℕ → List ℕ
two_bytes n = n / 256 % 256 ∷ n % 256 ∷ []

abbrev pub version_of : List ℕ → ℕ
version_of key = slice_index key 20 * 256 + slice_index key 21

abbrev pub is_key : List ℕ → Bool
is_key key = length key == 22 && is_name (take 20 key) && nat_le 1 (version_of key) && nat_le (version_of key) highest

abbrev pub is_byte_key : List ℕ → Bool
is_byte_key key = is_key key && nat_lt (slice_index key 21) 256

abbrev pub key_text : List ℕ → List ℕ
key_text key = text_of (take 20 key) ++ codes "." ++ decimal (version_of key)
