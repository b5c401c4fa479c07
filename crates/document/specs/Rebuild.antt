-- The rebuild of one lost node f.
--
-- position_of q qs                 : where the place q stands in the list qs, from 0; past its end if it does not
-- given_at qs src first stride b q : byte b of the strip given for the place q: strip i of src, which starts at
--                                   first + i·stride, is given for place i of qs
-- rebuilt_over p f w x             : the column of f rebuilt from x over the walk w, where x b q is byte b at the place
--                                   q
-- rebuilt_of p f src first stride  : the column of f rebuilt from the strips of src, given in plan order
-- first_strip p                    : where the first strip of a bundle starts
-- rebuild_tests p f r b y          : the refusals of a rebuild past those of a profile, in their order
-- rebuild_with p f r b y           : rebuilding from the bundle b into y with the profile p: the answer, and what y
--                                   holds then
-- rebuild_of p f r b y             : the same for any numbers p
--
-- Nothing in this file has to be believed. position_of, given_at, rebuilt_over and first_strip only compute, the column by
-- the algebra's rebuilt_at: demand 3 (demands/specs/Rebuild.antt) says that it is the one which every encoded array with
-- the bundle's strips has. What the tests come to is said line by line there too.
use Rattle.std.specs.Prelude.{not, cond, List, [], ◌∷◌, ℕ, suc, ◌+◌, ◌*◌, eqb, ltb, length, get_or, Ok, Err}
use Rattle.algebra.specs.Rebuild.{rebuilt_at}
use Rattle.document.specs.declared.Numbers.{Numbers}
use Rattle.document.specs.declared.Profile.{Profile}
use Rattle.document.specs.declared.Node.{Node}
use Rattle.document.specs.declared.Place.{Place}
use Rattle.document.specs.declared.Recording.{Recording}
use Rattle.document.specs.declared.Refusal.TheVariants.{OutOfRange, BufferLength}
use Rattle.document.specs.Refusals.{Test, tried, Answer}
use Rattle.document.specs.Profile.{on_accepted}
use Rattle.document.specs.Places.{place, same_place}
use Rattle.document.specs.ByteField.{bytes, Byte, byte}
use Rattle.document.specs.Encoding.{factor_at, column_of}
use Rattle.document.specs.Plan.{Walk, walk_of, chosen_over, planned}
use Rattle.document.specs.Message.{strip_field_length, strip_offset, head_length}
use Rattle.document.specs.Bundle.{lost_content_length, bundle_tests}

unfoldable pub position_of : Place → List Place → ℕ
position_of q [] = 0
position_of q (r ∷ rs) = cond (same_place q r) 0 (suc (position_of q rs))

unfoldable pub given_at : List Place → List ℕ → ℕ → ℕ → ℕ → Place → Byte
given_at qs src first stride b q = byte (get_or src (first + position_of q qs * stride + b) 0)

-- The column of the lost node by the algebra's formula, from what x has at the planned places.
unfoldable pub rebuilt_over : Profile → Node → Walk → (ℕ → Place → Byte) → List ℕ
rebuilt_over p f w x =
    column_of p
    (λ b q. rebuilt_at bytes p.a p.k byte (factor_at p) f.0
    (λ m. get_or (chosen_over p.k w) m 0) (λ i j. x b (place j i)) q.row.0)
    f.0

unfoldable pub rebuilt_of : Profile → Node → List ℕ → ℕ → ℕ → List ℕ
rebuilt_of p f src first stride = rebuilt_over p f (walk_of p f) (given_at (planned p f) src first stride)

-- The refusals of a rebuild past those of a profile: 4, then 5 for a column not of AS bytes, then those of the bundle,
-- 6 to 9.
unfoldable pub rebuild_tests : Profile → Node → Recording → List ℕ → List ℕ → List Test
rebuild_tests p f r b y =
    record { refusal = OutOfRange; holds = not (ltb f.0 p.n) }
    ∷ record { refusal = BufferLength; holds = not (eqb (length y) (p.a * p.s)) }
    ∷ bundle_tests p f r b

-- The strips of a bundle lie past its head, each past the place and the recording of its field.
abbrev pub first_strip : Profile → ℕ
first_strip p = head_length p lost_content_length + strip_offset

-- 'The rebuilt column is the AS bytes that a rebuild not refused leaves in the buffer lent for writing.'
unfoldable pub rebuild_with : Profile → Node → Recording → List ℕ → List ℕ → Answer × List ℕ
rebuild_with p f r b y =
    tried (rebuild_tests p f r b y) (λ refusal. (Err refusal, y))
    (Ok 0, rebuilt_of p f b (first_strip p) (strip_field_length p.s))

unfoldable pub rebuild_of : Numbers → ℕ → Recording → List ℕ → List ℕ → Answer × List ℕ
rebuild_of p f r b y = on_accepted p (λ refusal. (Err refusal, y)) (λ p. rebuild_with p (record { 0 = f }) r b y)
