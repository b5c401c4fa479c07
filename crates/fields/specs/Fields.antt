-- 'Fields of a one-byte tag, a two-byte length (high byte first) and content; four-byte numbers high byte first too.'
--
-- two_bytes v            : the number v in two bytes
-- four_bytes v           : the number v in four bytes
-- opening tag m         : what a field with the tag and m bytes of content opens with
-- opening_length         : how many bytes that is
-- field_of tag content   : the field
use Rattle.std.specs.Prelude.{List, [], ◌∷◌, ◌++◌, ℕ, ◌/◌, ◌%◌, length}

unfoldable pub two_bytes : ℕ → List ℕ
two_bytes v = v / 256 % 256 ∷ v % 256 ∷ []

unfoldable pub four_bytes : ℕ → List ℕ
four_bytes v = v / 16777216 % 256 ∷ v / 65536 % 256 ∷ v / 256 % 256 ∷ v % 256 ∷ []

unfoldable pub opening : ℕ → ℕ → List ℕ
opening tag m = tag ∷ two_bytes m

abbrev pub opening_length : ℕ
opening_length = 3

unfoldable pub field_of : ℕ → List ℕ → List ℕ
field_of tag content = opening tag (length content) ++ content
